use Rattle.std.proofs.Common.{◌≡◌, true, cond, drop, sym, subst}
use Rattle.workload.specs.Plan.{has_dormant}
use Rattle.run_record.specs.Objects.{starts_number}
use Rattle.run_cuts.specs.Cuts.{returns_cut, then_cut}
use Rattle.run_cuts.specs.StartsCuts.{done_cut, end_cut}
use Rattle.list_checks.specs.SpellFound.{IsFound}
use Rattle.list_checks.proofs.SpellParts.{then_found}
use Rattle.list_checks.proofs.spell.starts.spell_closing.Goals as goal

pub returns-then-has_dormant : goal.returns-then-has_dormant
returns-then-has_dormant c =
    let plan = c.args.workload.now in
    let list = c.args.items.now in
    let has : has_dormant plan ≡ true = cc in
    let done = c.in_ok-done.done in
    let ends = subst (λ number. IsFound list done.end (end_cut number (drop done.end list)) c.spell_end.result) c.starts_number.ensures c.spell_end.ensures in
    subst (λ any. IsFound list c.args.from ((cond any (then_cut (done_cut plan c.args.worker) (λ done. end_cut (starts_number plan))) (returns_cut tt)) (drop c.args.from list)) c.spell_end.result) (sym has)
    (then_found list c.args.from (done_cut plan c.args.worker (drop c.args.from list)) (λ done. end_cut (starts_number plan)) done c.spell_end.result c.in_ok-done.ensures ends)
