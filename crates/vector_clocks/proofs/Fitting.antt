-- What fits, step by step.
use Rattle.std.proofs.Common.{◌≡◌, ℕ, List, Some, slice_get, subst}
use Rattle.std.specs.Prelude.{All}
use Rattle.std.proofs.lemmas.Option.{slice_get_within, get_or_from_slice_get}
use Rattle.vector_clocks.specs.declared.step.Step.{Step}
use Rattle.vector_clocks.specs.Fits.{StepFits, Fits}

pub all_at : {A : Type 0} (P : A → Type 0) (xs : List A) (i : ℕ) (x : A) → All P xs → slice_get xs i ≡ Some x → P x
all_at P xs i x all at = subst P (get_or_from_slice_get xs i x x at) (all i x (slice_get_within xs i x at))

pub fits_at : (trace : List Step) (workers channels i : ℕ) (x : Step) → Fits trace workers channels → slice_get trace i ≡ Some x → StepFits workers channels x
fits_at trace workers channels i x fits at = all_at (StepFits workers channels) trace i x fits.each at
