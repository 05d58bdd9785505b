use Rattle.step_runner.specs.State.{start}
use Rattle.step_runner.specs.Turns.{after_items, has_ended}
use Rattle.step_runner.proofs.SpeltOutcome.{SpeltLaws, run_falls, outcome_lined}
use Rattle.step_runner.proofs.laws.the_items_of_each_call_spell_it.Goals as goal

abbrev laws : goal.After-runs_do_not_hang_on_names → SpeltLaws
laws c = record {
  spells = record {
    own = λ plan worker before moment begun call objects ready plain keys out within. c.turns_spell_what_was_left.ensures.own plan worker before moment begun call objects ready plain keys out within;
    others = λ plan worker other before moment begun later own call objects ready_own ready apart. c.turns_spell_what_was_left.ensures.others plan worker other before moment begun later own call objects ready_own ready apart;
    idle = λ workers worker other moment begun call objects ready apart idle. c.turns_spell_what_was_left.ensures.idle workers worker other moment begun call objects ready apart idle;
    begins = c.calls_are_entered_whole.ensures.begins;
    enters = λ plan worker before call objects ready kinds idle out. c.calls_begin_whole.ensures.enters plan worker before call objects ready kinds idle out;
    goes_on = λ plan worker before begun call objects ready plain. c.calls_begin_whole.ensures.goes_on plan worker before begun call objects ready plain;
    runs = record {
      told = c.a_run_is_told_by_its_replies.ensures.told;
      along = c.runs_go_on.ensures.along;
      names = record { left = c.runs_do_not_hang_on_names.ensures.left; made = c.runs_do_not_hang_on_names.ensures.made };
    };
    by_itself = c.items_are_of_their_workers.ensures.own;
    by_no_other = λ worker other moment begun call objects apart. c.items_are_of_their_workers.ensures.others worker other moment begun call objects apart;
  };
  stands = record {
    begins = c.workers_stand_in_their_calls.ensures.begins;
    forms = c.workers_wait_where_their_calls_do.ensures.forms;
    own = c.workers_wait_where_their_calls_do.ensures.own;
    others = c.workers_wait_where_their_calls_do.ensures.others;
  };
  uses = record { uses = c.something_is_used_up.ensures.uses; few = c.something_is_used_up.ensures.few };
  keys = record { begins = c.maps_keep_to_the_keys_of_calls.ensures.begins; goes_on = c.keys_are_kept.ensures };
}

pub returns-clause-always : goal.returns-clause-always
returns-clause-always c plan items worker valid plain = run_falls (laws c) plan (has_ended plan (after_items plan items (start plan))) plain (c.validity.ensures.goes_on plan) (c.validity.ensures.begins plan valid) items worker

pub returns-clause-outcomes : goal.returns-clause-outcomes
returns-clause-outcomes c plan outcome valid plain comes = outcome_lined (laws c) plan plain (c.validity.ensures.goes_on plan) (c.validity.ensures.begins plan valid) (λ list. c.validity.ensures.always plan list valid) outcome comes
