-- Which turns of a trace happen before which others: the least transitive relation that holds each worker's own order, and the edges of Channels.antt.
use Rattle.std.specs.Prelude.{◌≡◌, ◌⊎◌, ℕ, ◌<◌, true, false, List, [], ◌∷◌, Some, slice_get, take}
use Rattle.workload.specs.Plan.{Plan}
use Rattle.step_runner.specs.declared.trace.TraceItem.{TraceItem}
use Rattle.step_runner.specs.declared.turns.item.Item.{Item}
use Rattle.step_runner.specs.Traces.{items_told}
use Rattle.race_clocks.specs.Channels.{Channel, hands_on, takes_in, sets}

-- what was done before turn i
abbrev pub done_before : List TraceItem → ℕ → List Item
done_before trace i = items_told (take i trace)

-- what turn i handed on through a channel is still there when turn j comes
pub record Stands (plan : Plan) (trace : List TraceItem) (channel : Channel) (i j : ℕ) : Type 0 where
  pub giver : TraceItem
  pub at : slice_get trace i ≡ Some giver
  pub earlier : i < j
  pub gives : hands_on plan (done_before trace i) giver channel ≡ true
  pub kept : (k : ℕ) (x : TraceItem) → i < k → k < j → slice_get trace k ≡ Some x → sets plan (done_before trace k) x channel ≡ false

-- the two turns are of one worker, or the later one takes in what the earlier one handed on
abbrev pub Meets : Plan → List TraceItem → ℕ → ℕ → TraceItem → TraceItem → Type 0
Meets plan trace i j x y = (x.worker ≡ y.worker) ⊎ ((channel : Channel) × (takes_in plan (done_before trace j) y channel ≡ true) × Stands plan trace channel i j)

-- an edge leads from turn i to turn j: j is the later one, and they meet
pub record Edge (plan : Plan) (trace : List TraceItem) (i j : ℕ) : Type 0 where
  pub first : TraceItem
  pub second : TraceItem
  pub at_first : slice_get trace i ≡ Some first
  pub at_second : slice_get trace j ≡ Some second
  pub earlier : i < j
  pub meets : Meets plan trace i j first second

-- edges lead from turn i to turn j, by these turns in between, of which the last one stands first
abbrev pub Leads : Plan → List TraceItem → ℕ → List ℕ → ℕ → Type 0
Leads plan trace i [] j = Edge plan trace i j
Leads plan trace i (k ∷ path) j = Leads plan trace i path k × Edge plan trace k j

-- turn i happens before turn j
abbrev pub Before : Plan → List TraceItem → ℕ → ℕ → Type 0
Before plan trace i j = (path : List ℕ) × Leads plan trace i path j
