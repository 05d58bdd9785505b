-- The races of a trace while they are listed.
use Rattle.std.specs.Prelude.{◌≡◌, ◌⊎◌, ℕ, ◌<◌, List, All, AllPairs, Contains, Some, slice_get}
use Rattle.vector_clocks.specs.declared.race.Race.{Race}
use Rattle.vector_clocks.specs.declared.step.Access.{Access}
use Rattle.vector_clocks.specs.declared.step.Step.{Step}
use Rattle.vector_clocks.specs.Races.{IsRace, Precedes, race}

-- among these are the accesses of the first n steps, in order
pub record HoldAccesses (trace : List Step) (n : ℕ) (numbers : List ℕ) : Type 0 where
  pub below : All (λ i. i < n) numbers
  pub rising : AllPairs (λ i j. i < j) numbers
  pub all : (i : ℕ) (x : Step) (a : Access) → i < n → slice_get trace i ≡ Some x → x.access ≡ Some a → Contains numbers i

-- step j is one of the first n, or it is step n and step i is one of these
abbrev pub IsReached : ℕ → List ℕ → ℕ → ℕ → Type 0
IsReached n numbers i j = (j < n) ⊎ ((j ≡ n) × Contains numbers i)

-- these are all races up to there
pub record AreRacesUpTo (trace : List Step) (n : ℕ) (numbers : List ℕ) (races : List Race) : Type 0 where
  pub sound : All (λ (r : Race). IsRace trace r.earlier r.later × IsReached n numbers r.earlier r.later) races
  pub complete : (i j : ℕ) → IsRace trace i j → IsReached n numbers i j → Contains races (race i j)
  pub sorted : AllPairs Precedes races
