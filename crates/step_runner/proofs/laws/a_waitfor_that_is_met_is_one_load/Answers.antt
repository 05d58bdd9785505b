use Rattle.step_runner.specs.State.{start}
use Rattle.step_runner.specs.Turns.{after_items}
use Rattle.step_runner.proofs.PlacedRun.{call_met}
use Rattle.step_runner.proofs.laws.a_waitfor_that_is_met_is_one_load.Goals as goal

pub returns : goal.returns
returns c plan items worker atomic tries call value found valid next is none at same =
    call_met plan worker atomic tries call value found (after_items plan items (start plan)) (c.validity.ensures.always plan items valid) next is none at same
