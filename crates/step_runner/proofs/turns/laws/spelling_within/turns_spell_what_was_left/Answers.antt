use Rattle.std.proofs.Common.{arith}
use Rattle.workload.specs.Draft.{distinct_count}
use Rattle.step_runner.specs.TurnWithin.{wait_on}
use Rattle.step_runner.proofs.Refuted.{no}
use Rattle.step_runner.proofs.SpeltWithin.{OtherLaws, own_spelt, others_kept, idle_kept}
use Rattle.step_runner.proofs.WaitSpelt.{TurnLaws}
use Rattle.step_runner.proofs.turns.laws.spelling_within.turns_spell_what_was_left.Goals as goal

abbrev laws : goal.After-turns_spell_their_calls → TurnLaws
laws c = record {
  mutexes = c.machines_tell_where_callers_stand.ensures.mutexes;
  ready = c.turns_keep_kinds_and_machines.ensures.ready;
  kinds = c.turns_keep_kinds_and_machines.ensures.kinds;
  keys = λ names worker moment place objects keys. (c.maps_keep_to_the_keys_of_calls.ensures.goes_on names (distinct_count names) worker moment (wait_on place) objects (λ name is. no is) (omega arith) keys).0;
  out = c.workers_stand_in_their_calls.ensures.own;
  own = c.turns_spell_their_calls.ensures.own;
}

abbrev other_laws : goal.After-turns_spell_their_calls → OtherLaws
other_laws c = record {
  ready = c.turns_keep_kinds_and_machines.ensures.ready;
  kinds = c.turns_keep_kinds_and_machines.ensures.kinds;
  others = c.turns_spell_their_calls.ensures.others;
  idle = c.turns_spell_their_calls.ensures.idle;
}

pub returns-clause-own : goal.returns-clause-own
returns-clause-own c plan worker before moment begun call objects ready plain keys out within = own_spelt (laws c) plan worker before moment begun call.object objects call.operation ready plain keys out within

pub returns-clause-others : goal.returns-clause-others
returns-clause-others c plan worker other before moment begun later own call objects ready by apart = others_kept (other_laws c) plan worker other before moment apart own begun later call.object objects ready call.operation by

pub returns-clause-idle : goal.returns-clause-idle
returns-clause-idle c workers worker other moment begun call objects by apart idle = idle_kept (other_laws c) workers worker other moment begun call.object call.operation objects apart by idle
