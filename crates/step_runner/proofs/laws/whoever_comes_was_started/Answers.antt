use Rattle.step_runner.specs.State.{start}
use Rattle.step_runner.proofs.DormantLemmas.{waits_first, was_started}
use Rattle.step_runner.proofs.laws.whoever_comes_was_started.Goals as goal

pub returns : goal.returns
returns c plan items worker valid below waits comes =
    was_started plan worker (c.validity.ensures.goes_on plan) items (start plan) (c.validity.ensures.begins plan valid) (waits_first plan worker below valid waits) comes
