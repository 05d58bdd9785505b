use Rattle.step_runner.specs.State.{start}
use Rattle.step_runner.specs.Turns.{after_items}
use Rattle.step_runner.proofs.PlacedRun.{call_answered}
use Rattle.step_runner.proofs.laws.placed_calls_are_answered_by_their_items.Goals as goal

pub returns : goal.returns
returns c plan items worker call valid next one = call_answered c.a_placed_call_is_one_item.ensures plan worker call (after_items plan items (start plan)) (c.validity.ensures.always plan items valid) next one
