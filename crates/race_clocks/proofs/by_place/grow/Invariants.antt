use Rattle.std.proofs.Common.{◌≡◌, ℕ, ◌+◌, ◌-◌, length}
use Rattle.race_clocks.specs.Places.{at}
use Rattle.race_clocks.proofs.by_place.grow.Given as goal

abbrev pub invariant-loop-values : goal.invariant-loop-values
invariant-loop-values g l = (other : ℕ) → at l.values.items other ≡ at l.initial.values.items other

abbrev pub decreases-loop-values : goal.decreases-loop-values
decreases-loop-values g l = l.place + 1 - length l.values.items
