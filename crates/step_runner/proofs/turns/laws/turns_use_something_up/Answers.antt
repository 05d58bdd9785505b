use Rattle.step_runner.proofs.MachineLaws.{Uses}
use Rattle.step_runner.proofs.ObjectUses.{turn_use}
use Rattle.step_runner.proofs.turns.laws.turns_use_something_up.Goals as goal

abbrev uses : goal.After-events_are_used_up-3 → Uses
uses c = record {
  mutexes = record { answered = c.machines_tell_where_callers_stand.ensures.mutexes.answered; used = c.events_are_used_up.ensures };
  rw_mutexes = record { answered = c.machines_tell_where_callers_stand.ensures.rw_mutexes.answered; used = c.events_are_used_up-2.ensures };
  conds = c.events_are_used_up-3.ensures;
  groups = c.machines_tell_where_callers_stand.ensures.groups;
  adding = c.machines_tell_where_callers_stand.ensures.adding.uses;
  giving = c.machines_tell_where_callers_stand.ensures.giving.uses;
  semas = c.machines_tell_where_callers_stand.ensures.semas;
  flights = c.machines_tell_where_callers_stand.ensures.flights;
}

pub returns : goal.returns
returns c workers worker moment call objects ready = turn_use (uses c) workers worker call moment objects ready
