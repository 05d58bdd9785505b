use Rattle.std.proofs.Common.{◌≡◌, ◌++◌, drop}
use Rattle.shared_checks.specs.Placing.{placed_from}
use Rattle.shared_checks.proofs.placed.push_placed.Given as goal

abbrev pub invariant-loop-index : goal.invariant-loop-index
invariant-loop-index l = l.placed.items ++ placed_from l.caller l.index (drop l.index l.items) ≡ l.initial.placed.items ++ placed_from l.caller 0 l.items
