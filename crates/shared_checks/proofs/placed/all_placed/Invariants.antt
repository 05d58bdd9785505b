use Rattle.std.proofs.Common.{◌≡◌, ◌++◌, drop}
use Rattle.shared_checks.specs.Placing.{all_from}
use Rattle.shared_checks.proofs.placed.all_placed.Given as goal

abbrev pub invariant-loop-caller : goal.invariant-loop-caller
invariant-loop-caller l = l.placed.items ++ all_from l.caller (drop l.caller l.lists) ≡ all_from 0 l.lists
