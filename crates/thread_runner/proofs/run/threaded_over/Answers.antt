use Rattle.std.proofs.Common.{◌≡◌, ◌++◌, List, length, take, drop, sym, ◌∙◌, subst, arith}
use Rattle.std.proofs.lemmas.List.{take-append-le, take_all}
use Rattle.sync_model.specs.declared.caller.Caller.{Caller}
use Rattle.sync_model.specs.Shared.{AreAllCallers}
use Rattle.thread_runner.specs.Dealing.{SameNotes}
use Rattle.thread_runner.specs.EndsPlans.{HaveMadeNone, HaveSpare}
use Rattle.thread_runner.proofs.SameCallers.{all_stay, none_still, spare_still}
use Rattle.thread_runner.proofs.run.threaded_over.Goals as goal

pub run_on-requires-clause-callers : goal.run_on-requires-clause-callers
run_on-requires-clause-callers g c κs within =
    let mark = g.S.Mark.Note in
    let home = g.S.Shared.home_of c.args.shared.now in
    let old = c.args.callers.items in
    let new = c.make_objects_by.new.callers in
    let workers = c.args.workload.now.workers in
    let same : SameNotes mark.at mark.own old new = subst (λ (l : List (Caller g.row.S-Mark.Denot)). SameNotes mark.at mark.own l new) c.deref_mut.ensures.value c.make_objects_by.ensures.callers in
    let long : c.args.callers.len ≡ length new = omega (arith, c.args.callers.ok.0, same.count) in
    let list : take c.args.callers.len (new ++ drop (length new) old) ≡ new = take-append-le c.args.callers.len new (drop (length new) old) (omega (arith, long)) ∙ take_all c.args.callers.len new (omega (arith, long)) in
    subst (λ (l : List (Caller g.row.S-Mark.Denot)). AreAllCallers mark.at mark.own home l workers) (sym list) (all_stay mark.at mark.own old new same home workers c.requires.callers)

pub run_on-requires-clause-unused : goal.run_on-requires-clause-unused
run_on-requires-clause-unused g c κs within =
    let mark = g.S.Mark.Note in
    let old = c.args.callers.items in
    let new = c.make_objects_by.new.callers in
    let same : SameNotes mark.at mark.own old new = subst (λ (l : List (Caller g.row.S-Mark.Denot)). SameNotes mark.at mark.own l new) c.deref_mut.ensures.value c.make_objects_by.ensures.callers in
    let long : c.args.callers.len ≡ length new = omega (arith, c.args.callers.ok.0, same.count) in
    let list : take c.args.callers.len (new ++ drop (length new) old) ≡ new = take-append-le c.args.callers.len new (drop (length new) old) (omega (arith, long)) ∙ take_all c.args.callers.len new (omega (arith, long)) in
    subst (λ (l : List (Caller g.row.S-Mark.Denot)). HaveMadeNone mark.own l) (sym list) (none_still mark.at mark.own old new same c.requires.unused)

pub run_on-requires-clause-spare : goal.run_on-requires-clause-spare
run_on-requires-clause-spare g c κs within =
    let mark = g.S.Mark.Note in
    let old = c.args.callers.items in
    let new = c.make_objects_by.new.callers in
    let same : SameNotes mark.at mark.own old new = subst (λ (l : List (Caller g.row.S-Mark.Denot)). SameNotes mark.at mark.own l new) c.deref_mut.ensures.value c.make_objects_by.ensures.callers in
    let long : c.args.callers.len ≡ length new = omega (arith, c.args.callers.ok.0, same.count) in
    let list : take c.args.callers.len (new ++ drop (length new) old) ≡ new = take-append-le c.args.callers.len new (drop (length new) old) (omega (arith, long)) ∙ take_all c.args.callers.len new (omega (arith, long)) in
    subst (λ (l : List (Caller g.row.S-Mark.Denot)). HaveSpare mark.own c.args.workload.now l) (sym list) (spare_still mark.at mark.own old new same c.args.workload.now c.requires.spare)
