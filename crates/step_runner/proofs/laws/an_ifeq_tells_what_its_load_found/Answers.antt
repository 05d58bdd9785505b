use Rattle.step_runner.specs.State.{start}
use Rattle.step_runner.specs.Turns.{after_items}
use Rattle.step_runner.proofs.PlacedRun.{call_tested}
use Rattle.step_runner.proofs.laws.an_ifeq_tells_what_its_load_found.Goals as goal

pub returns : goal.returns
returns c plan items worker call value passes valid next is = call_tested c.an_ifeq_is_one_load.ensures plan worker call value passes (after_items plan items (start plan)) (c.validity.ensures.always plan items valid) next is
