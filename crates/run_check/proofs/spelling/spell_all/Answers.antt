use Rattle.std.proofs.Common.{ap, subst}
use Rattle.std.specs.Prelude.{MatchOption}
use Rattle.run_check.specs.declared.spelling.Spelling.{Spelling}
use Rattle.run_check.specs.Lists.{IsSpeltList, SpellsNothing}
use Rattle.run_check.proofs.SpellWalk.{one_found_more}
use Rattle.run_check.proofs.spelling.spell_all.Goals as goal

pub loop-worker-preserved : goal.loop-worker-preserved
loop-worker-preserved c =
    let plan = c.args.workload.now in
    let items = c.args.items.now in
    let worker = c.loop-worker.worker in
    let parts = c.in_ok-add_list.ensures.parts in
    one_found_more plan items worker c.loop-worker.found c.add_list.new.found c.in-Some.list c.loop-worker.invariant
    (subst (λ found. MatchOption found (SpellsNothing plan items worker) (IsSpeltList plan items worker)) c.in-Some.is c.in_ok-list.ensures)
    (ap (λ (f : Spelling). f.lines) parts) (ap (λ (f : Spelling). f.all) parts) c.in_ok-add_list.ensures.shared (ap (λ (f : Spelling). f.entries) parts)
