use Rattle.step_runner.proofs.RoundLemmas.{enough}
use Rattle.step_runner.proofs.RunLemmas.{uses_up}
use Rattle.step_runner.proofs.laws.runs_come_to_rest.Goals as goal

pub returns : goal.returns
returns c plan state rounds =
    enough plan (c.validity.ensures.goes_on plan)
    (uses_up plan (c.events_use_something_up.ensures.still plan) (c.events_use_something_up.ensures.made plan) (c.events_use_something_up.ensures.misused plan)) rounds state
