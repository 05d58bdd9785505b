-- Which steps of a trace are before which: the happens-before of the Go memory model, where channels stand for what synchronizes.
use Rattle.std.specs.Prelude.{◌≡◌, ◌⊎◌, ℕ, ◌<◌, Bool, true, false, ◌==◌, ◌||◌, List, [], ◌∷◌, Some, slice_get, take, count_by}
use Rattle.std.specs.List.{list_any}
use Rattle.vector_clocks.specs.declared.step.Step.{Step}

-- whether the channel is one of these
abbrev pub is_among : List ℕ → ℕ → Bool
is_among channels c = list_any (λ d. d == c) channels

-- whether a step takes in from the channel
abbrev pub takes : Step → ℕ → Bool
takes x c = is_among x.takes.items c

-- whether it sets it
abbrev pub sets : Step → ℕ → Bool
sets x c = is_among x.sets.items c

-- whether it hands on through the channel: by giving into it, or by setting it
abbrev pub hands_on : Step → ℕ → Bool
hands_on x c = is_among x.gives.items c || sets x c

-- what step i handed on through a channel is still there when step j comes
pub record Stands (trace : List Step) (c i j : ℕ) : Type 0 where
  pub giver : Step
  pub at : slice_get trace i ≡ Some giver
  pub earlier : i < j
  pub gives : hands_on giver c ≡ true
  pub kept : (k : ℕ) (x : Step) → i < k → k < j → slice_get trace k ≡ Some x → sets x c ≡ false

-- the two are of one worker, or the later one takes in from a channel through which the earlier one handed on
abbrev pub Meets : List Step → ℕ → ℕ → Step → Step → Type 0
Meets trace i j x y = (x.worker ≡ y.worker) ⊎ ((c : ℕ) × (takes y c ≡ true) × Stands trace c i j)

-- an edge leads from step i to step j: j is the later one, and they meet
pub record Edge (trace : List Step) (i j : ℕ) : Type 0 where
  pub first : Step
  pub second : Step
  pub at_first : slice_get trace i ≡ Some first
  pub at_second : slice_get trace j ≡ Some second
  pub earlier : i < j
  pub meets : Meets trace i j first second

-- edges lead from step i to step j, by these steps in between, of which the last one stands first
abbrev pub Leads : List Step → ℕ → List ℕ → ℕ → Type 0
Leads trace i [] j = Edge trace i j
Leads trace i (k ∷ path) j = Leads trace i path k × Edge trace k j

-- step i is before step j: the least transitive relation that holds all edges
abbrev pub Before : List Step → ℕ → ℕ → Type 0
Before trace i j = (path : List ℕ) × Leads trace i path j

-- how many of the first n steps are of this worker
abbrev pub made_before : List Step → ℕ → ℕ → ℕ
made_before trace n worker = count_by (λ x. x.worker == worker) (take n trace)
