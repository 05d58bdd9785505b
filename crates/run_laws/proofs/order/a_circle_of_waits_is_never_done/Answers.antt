use Rattle.std.proofs.Common.{refl}
use Rattle.script_calls.specs.declared.outcome.Outcome.TheVariants.{Done}
use Rattle.run_laws.specs.ExamplesCircle.{plan}
use Rattle.run_laws.proofs.CircleOfWaits.{never_done}
use Rattle.run_laws.proofs.DoneLines.{Plainly}
use Rattle.run_laws.proofs.order.a_circle_of_waits_is_never_done.Goals as goal

pub returns : goal.returns
returns c r left order explains =
    let plainly : Plainly plan = λ w line of.
    ((c.where_nobody_waits_to_be_started_lists_are_of_calls.ensures.lines plan w line refl).0 of, (c.where_nobody_waits_to_be_started_lists_are_of_calls.ensures.done plan w line refl of).0) in
    never_done c.what_a_wait_group_call_has_done.ensures c.what_was_waited_for_happened_before.ensures.done r left order explains plainly
    ((c.scripts_without_tests_are_spelt_call_by_call.ensures plan r (Done left) explains.lines refl).0 explains.are).scripts
