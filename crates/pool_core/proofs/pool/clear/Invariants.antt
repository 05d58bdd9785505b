-- The parts before the index are empty, and the others are as they were.
use Rattle.std.proofs.Common.{◌≡◌, ◌++◌, map, take, drop}
use Rattle.pool_core.specs.PoolParts.{emptied}
use Rattle.pool_core.proofs.pool.clear.Given as goal

abbrev pub invariant-loop-part : goal.invariant-loop-part
invariant-loop-part l = l.parts ≡ map emptied (take l.part-index l.initial.parts) ++ drop l.part-index l.initial.parts
