use Rattle.step_runner.proofs.CallBounds.{CallLaws, few_from_start, plain_from_start, woken_from_start}
use Rattle.step_runner.proofs.FormLemmas.{TurnStands}
use Rattle.step_runner.proofs.ScriptRuns.{GoesFurther}
use Rattle.step_runner.proofs.laws.a_call_takes_few_turns.Goals as goal

abbrev laws : goal.After-runs_go_on → CallLaws
laws c = record {
  most = c.few_turns_are_left.ensures.most;
  own = c.few_turns_are_left.ensures.own;
  others = c.few_turns_are_left.ensures.others;
  told_before = c.few_turns_are_left.ensures.told_before;
  told_by = c.few_turns_are_left.ensures.told_by_unlocks;
  untold = c.few_turns_are_left_of_a_call.ensures.untold;
}

abbrev stands : goal.After-runs_go_on → TurnStands
stands c = record {
  begins = c.workers_stand_in_their_calls.ensures.begins;
  forms = c.workers_wait_where_their_calls_do.ensures.forms;
  own = c.workers_wait_where_their_calls_do.ensures.own;
  others = c.workers_wait_where_their_calls_do.ensures.others;
}

abbrev further : goal.After-runs_go_on → GoesFurther
further c = record { left = c.runs_go_on.ensures.left; made = c.runs_go_on.ensures.made; few = c.runs_go_on.ensures.few }

pub returns-clause-few : goal.returns-clause-few
returns-clause-few c plan items worker number valid =
    few_from_start plan worker number (laws c) (further c) c.events_use_something_up.ensures.still (c.validity.ensures.goes_on plan) (c.validity.ensures.begins plan valid) items

pub returns-clause-plain : goal.returns-clause-plain
returns-clause-plain c plan items worker number call valid =
    plain_from_start plan worker number (laws c) (further c) c.events_use_something_up.ensures.still (c.validity.ensures.goes_on plan) (c.validity.ensures.begins plan valid) items call

pub returns-clause-woken : goal.returns-clause-woken
returns-clause-woken c plan items worker number valid =
    woken_from_start plan worker number (laws c) (stands c) c.events_use_something_up.ensures.still (c.validity.ensures.goes_on plan) (c.validity.ensures.begins plan valid) items
