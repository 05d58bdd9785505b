-- What a step takes in from an earlier one, for the laws: by the elements of the steps' lists.
use Rattle.std.specs.Prelude.{◌≡◌, ◌⊎◌, ℕ, ◌<◌, List, Contains, Some, slice_get}
use Rattle.vector_clocks.specs.declared.step.Step.{Step}

-- what step i hands on through the channel is what step j takes in: no step between them sets the channel
pub record IsHanded (trace : List Step) (channel i j : ℕ) : Type 0 where
  pub giver : Step
  pub taker : Step
  pub at_giver : slice_get trace i ≡ Some giver
  pub at_taker : slice_get trace j ≡ Some taker
  pub earlier : i < j
  pub gives : Contains giver.gives.items channel ⊎ Contains giver.sets.items channel
  pub takes : Contains taker.takes.items channel
  pub kept : (k : ℕ) (x : Step) → i < k → k < j → slice_get trace k ≡ Some x → Contains x.sets.items channel → ⊥

-- steps i and j are of one worker, and i is the earlier one
pub record IsOwn (trace : List Step) (i j : ℕ) : Type 0 where
  pub first : Step
  pub second : Step
  pub at_first : slice_get trace i ≡ Some first
  pub at_second : slice_get trace j ≡ Some second
  pub earlier : i < j
  pub worker : first.worker ≡ second.worker
