use Rattle.step_runner.specs.State.{start}
use Rattle.step_runner.specs.Turns.{after_items}
use Rattle.step_runner.proofs.ClosingTurns.{is_last_done, closes_once}
use Rattle.step_runner.proofs.laws.a_done_behind_a_script_is_one_turn.Goals as goal

pub returns-clause-whole : goal.returns-clause-whole
returns-clause-whole c plan items worker call valid next none = is_last_done plan worker (after_items plan items (start plan)) call (c.validity.ensures.always plan items valid) next none

pub returns-clause-once : goal.returns-clause-once
returns-clause-once c plan items worker valid = closes_once plan worker (c.validity.ensures.goes_on plan) items (c.validity.ensures.begins plan valid)
