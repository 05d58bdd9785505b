-- Which steps of a trace race, after the Go memory model: two accesses of one variable, one of them a write, of which neither happens before the other.
use Rattle.std.specs.Prelude.{◌≡◌, ◌≢◌, ◌⊎◌, ℕ, ◌<◌, true, ◌||◌, List, All, AllPairs, Contains, Some, slice_get}
use Rattle.vector_clocks.specs.declared.race.Race.{Race}
use Rattle.vector_clocks.specs.declared.step.Access.{Access}
use Rattle.vector_clocks.specs.declared.step.Step.{Step}
use Rattle.vector_clocks.specs.Before.{Before}

-- the two steps are of two workers and access one variable, one of them or both by a write
pub record Conflicts (x y : Step) : Type 0 where
  pub first : Access
  pub second : Access
  pub of_first : x.access ≡ Some first
  pub of_second : y.access ≡ Some second
  pub workers : x.worker ≢ y.worker
  pub variable : first.variable ≡ second.variable
  pub written : (first.writes || second.writes) ≡ true

-- steps i and j race, of which i is the earlier one
pub record IsRace (trace : List Step) (i j : ℕ) : Type 0 where
  pub first : Step
  pub second : Step
  pub at_first : slice_get trace i ≡ Some first
  pub at_second : slice_get trace j ≡ Some second
  pub earlier : i < j
  pub conflict : Conflicts first second
  pub unordered : Before trace i j → ⊥

abbrev pub race : ℕ → ℕ → Race
race i j = record { earlier = i; later = j }

-- of two races, the first one stands in front: by their later steps, and where these are one by their earlier steps
abbrev pub Precedes : Race → Race → Type 0
Precedes a b = (a.later < b.later) ⊎ ((a.later ≡ b.later) × (a.earlier < b.earlier))

-- these are all races of the trace, each once and in order
pub record AreRaces (trace : List Step) (races : List Race) : Type 0 where
  pub sound : All (λ (r : Race). IsRace trace r.earlier r.later) races
  pub complete : (i j : ℕ) → IsRace trace i j → Contains races (race i j)
  pub sorted : AllPairs Precedes races
