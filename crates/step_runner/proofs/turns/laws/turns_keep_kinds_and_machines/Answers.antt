use Rattle.step_runner.specs.TurnAtObjects.{turn_at}
use Rattle.step_runner.proofs.MachineLaws.{Laws}
use Rattle.step_runner.proofs.NewObjects.{new_kind, new_machine}
use Rattle.step_runner.proofs.ObjectKeeps.{turn_keep, ready_kept}
use Rattle.step_runner.proofs.turns.laws.turns_keep_kinds_and_machines.Goals as goal

abbrev laws : goal.After-keeps_its_parts → Laws
laws c = record {
  mutexes = record { goes_on = c.validity.ensures.goes_on; same_callers = c.validity.ensures.same_callers };
  rw_mutexes = record { goes_on = c.validity-2.ensures.goes_on; same_callers = c.validity-2.ensures.same_callers };
  conds = c.answers_its_callers.ensures.callers;
  groups = c.knows_where_it_stands.ensures.callers;
  adding = c.knows_where_it_stands-2.ensures.callers;
  giving = c.knows_where_it_stands-3.ensures.callers;
  semas = c.knows_where_it_stands-4.ensures.callers;
  flights = c.knows_where_it_stands-5.ensures.callers;
  pools = c.keeps_its_parts.ensures;
}

pub returns-clause-begins : goal.returns-clause-begins
returns-clause-begins c workers room keys kind = (
  new_kind workers room keys kind,
  new_machine (record { mutexes = c.validity.ensures.begins; rw_mutexes = c.validity-2.ensures.begins; groups = c.knows_where_it_stands.ensures.callers }) workers room keys kind,
)

pub returns-clause-kinds : goal.returns-clause-kinds
returns-clause-kinds c workers worker moment call objects ready = (turn_keep (laws c) workers worker call moment objects ready).kinds

pub returns-clause-machines : goal.returns-clause-machines
returns-clause-machines c workers worker moment call objects ready = (turn_keep (laws c) workers worker call moment objects ready).machines

pub returns-clause-ready : goal.returns-clause-ready
returns-clause-ready c workers worker moment other call own objects ready is =
    ready_kept workers other own objects (turn_at call worker moment objects).0 (turn_keep (laws c) workers worker call moment objects ready) is
