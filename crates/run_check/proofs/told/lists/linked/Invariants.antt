use Rattle.std.proofs.Common.{◌≡◌, take}
use Rattle.run_check.proofs.told.lists.linked.Given as goal

abbrev pub invariant-loop-count : goal.invariant-loop-count
invariant-loop-count l = l.linked ≡ take l.count-index l.front
