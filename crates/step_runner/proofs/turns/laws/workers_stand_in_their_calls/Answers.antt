use Rattle.std.specs.Ordering.{nat_cmp}
use Rattle.std.specs.Cmp.Lexicographic.{slice_cmp}
use Rattle.step_runner.proofs.OthersStand.{Stands}
use Rattle.step_runner.proofs.ObjectsStand.{at_own, at_other, new_out}
use Rattle.step_runner.proofs.turns.laws.workers_stand_in_their_calls.Goals as goal

abbrev stands : goal.After-replies_have_their_form → Stands
stands c = record {
  mutexes = c.machines_tell_where_callers_stand.ensures.mutexes;
  rw_mutexes = c.machines_tell_where_callers_stand.ensures.rw_mutexes;
  forms = record {
    map = λ call m. c.replies_have_their_form.ensures.map (slice_cmp nat_cmp) call m;
    atomic = c.replies_have_their_form.ensures.atomic;
  };
}

pub returns-clause-begins : goal.returns-clause-begins
returns-clause-begins c worker workers room keys kind = new_out worker workers room keys kind

pub returns-clause-own : goal.returns-clause-own
returns-clause-own c workers worker moment call objects ready out = (at_own (stands c) workers worker call moment objects ready out).1

pub returns-clause-others : goal.returns-clause-others
returns-clause-others c workers worker other moment call but objects ready apart out = at_other (stands c) workers worker other call moment but objects ready apart out

pub returns-clause-forms : goal.returns-clause-forms
returns-clause-forms c workers worker moment call objects ready out = (at_own (stands c) workers worker call moment objects ready out).0
