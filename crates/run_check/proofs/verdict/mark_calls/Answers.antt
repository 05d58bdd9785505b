use Rattle.run_record.specs.Objects as plans
use Rattle.run_check.proofs.PlacedCalls.{marked_on, none_at_all}
use Rattle.run_check.proofs.verdict.mark_calls.Goals as goal

pub marked-requires-clause-on : goal.marked-requires-clause-on
marked-requires-clause-on c = rw c.in_ok-objects.ensures c.requires.on

pub lawful_history_of-requires-clause-on : goal.lawful_history_of-requires-clause-on
lawful_history_of-requires-clause-on c =
    let is = rw c.in_ok-objects.ensures at (rw c.in-Some.is at c.in_ok-marked.ensures) in
    rw c.in_ok-objects-2.ensures (rw c.deref.ensures.value (marked_on (plans.contents_of c.args.workload.now) c.args.shared.items c.in-Some.marked.items is c.requires.on))

pub returns-in_default-2 : goal.returns-in_default-2
returns-in_default-2 c =
    let is = rw c.in_ok-objects.ensures at (rw c.in-Some.is at c.in_ok-marked.ensures) in
    none_at_all (plans.contents_of c.args.workload.now) c.args.shared.items c.in-Some.marked.items is
    (rw c.deref.ensures.value at (rw c.in_ok-objects-2.ensures at (rw c.in_default-2.is at c.in_ok-history.ensures)))
