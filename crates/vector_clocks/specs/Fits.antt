-- What a trace has to be for its clocks to be told.
use Rattle.std.specs.Prelude.{ℕ, ◌^◌, ◌<◌, ◌≤◌, List, All, length}
use Rattle.vector_clocks.specs.declared.step.Step.{Step}

-- each of the channels is below this number
abbrev pub AreBelow : ℕ → List ℕ → Type 0
AreBelow end channels = All (λ c. c < end) channels

-- the step is of one of so many workers, and each of its channels is one of so many
pub record StepFits (workers channels : ℕ) (step : Step) : Type 0 where
  pub worker : step.worker < workers
  pub takes : AreBelow channels step.takes.items
  pub gives : AreBelow channels step.gives.items
  pub sets : AreBelow channels step.sets.items

-- the trace is one of at most 32 workers and of so many channels, and has fewer than 2^32 steps
pub record Fits (trace : List Step) (workers channels : ℕ) : Type 0 where
  pub short : length trace < 2 ^ 32
  pub few : workers ≤ 32
  pub each : All (StepFits workers channels) trace
