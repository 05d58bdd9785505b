use Rattle.step_runner.specs.TurnAtObjects.{turn_at}
use Rattle.step_runner.proofs.SpellingLaws.{Laws}
use Rattle.step_runner.proofs.OthersAt.{all_same, all_idle, call_kept}
use Rattle.step_runner.proofs.OwnAt.{own_at}
use Rattle.step_runner.proofs.turns.laws.spelling.turns_spell_their_calls.Goals as goal

abbrev laws : goal.After-keys_are_numbered_by_first_appearance → Laws
laws c = record {
  machines = c.machines_tell_where_callers_stand.ensures;
  pools = λ p x n e primary victims. c.keeps_its_parts.ensures p x n e primary victims;
  keys = c.keys_are_numbered_by_first_appearance.ensures.named;
}

pub returns-clause-own : goal.returns-clause-own
returns-clause-own c plan worker before moment call objects ready plain keys out within =
    own_at (laws c) (λ workers x now call objects ready. c.turns_keep_kinds_and_machines.ensures.kinds workers x now call objects ready) plan worker before moment call objects ready plain keys out within

pub returns-clause-others : goal.returns-clause-others
returns-clause-others c plan worker other before moment own call objects ready_own ready apart =
    call_kept plan worker before own objects (turn_at call other moment objects).0 ready_own (all_same (laws c) plan.workers worker other moment call objects ready apart) (c.turns_keep_kinds_and_machines.ensures.kinds plan.workers other moment call objects ready)

pub returns-clause-idle : goal.returns-clause-idle
returns-clause-idle c workers worker other moment call objects ready apart idle =
    all_idle worker objects (turn_at call other moment objects).0 (all_same (laws c) workers worker other moment call objects ready apart) idle
