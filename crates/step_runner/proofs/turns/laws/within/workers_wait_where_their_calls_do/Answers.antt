use Rattle.step_runner.specs.Stands.{IsOutBut}
use Rattle.step_runner.proofs.WithinKeeps.{within_out, within_form}
use Rattle.step_runner.proofs.WithinLemmas.{keeps}
use Rattle.step_runner.proofs.turns.laws.within.workers_wait_where_their_calls_do.Goals as goal

pub returns-clause-own : goal.returns-clause-own
returns-clause-own c workers worker moment begun call objects ready out =
    within_out c.workers_stand_in_their_calls.ensures.own c.turns_keep_kinds_and_machines.ensures.ready c.turns_keep_kinds_and_machines.ensures.kinds workers worker moment begun call objects ready out

pub returns-clause-others : goal.returns-clause-others
returns-clause-others c workers worker other moment begun call but objects ready apart =
    keeps c.turns_keep_kinds_and_machines.ensures.ready workers other moment (IsOutBut but worker) (λ call objects r. c.workers_stand_in_their_calls.ensures.others workers worker other moment call but objects r apart) call begun objects ready

pub returns-clause-forms : goal.returns-clause-forms
returns-clause-forms c workers worker moment begun call objects ready out = within_form c.workers_stand_in_their_calls.ensures.forms workers worker moment begun call objects ready out
