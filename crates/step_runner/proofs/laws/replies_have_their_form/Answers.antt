use Rattle.step_runner.proofs.FormLemmas.{TurnStands, items_stand, run_forms}
use Rattle.step_runner.proofs.laws.replies_have_their_form.Goals as goal

abbrev stands : goal.After-runs_do_not_hang_on_names → TurnStands
stands c = record {
  begins = c.workers_stand_in_their_calls.ensures.begins;
  forms = c.workers_wait_where_their_calls_do.ensures.forms;
  own = c.workers_wait_where_their_calls_do.ensures.own;
  others = c.workers_wait_where_their_calls_do.ensures.others;
}

pub returns-clause-always : goal.returns-clause-always
returns-clause-always c plan items valid = (items_stand (stands c) plan (c.validity.ensures.goes_on plan) (c.validity.ensures.begins plan valid) items).forms

pub returns-clause-left : goal.returns-clause-left
returns-clause-left c plan valid = run_forms (stands c) c.replies_have_their_form.ensures.renamed (record { left = c.runs_do_not_hang_on_names.ensures.left; made = c.runs_do_not_hang_on_names.ensures.made }) plan (c.validity.ensures.goes_on plan) (c.validity.ensures.begins plan valid)
