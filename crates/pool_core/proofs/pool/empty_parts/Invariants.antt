-- As many parts as the loop has counted, all of them empty.
use Rattle.std.proofs.Common.{◌≡◌, replicate}
use Rattle.pool_core.specs.PoolParts.{empty}
use Rattle.pool_core.proofs.pool.empty_parts.Given as goal

abbrev pub invariant-loop-part : goal.invariant-loop-part
invariant-loop-part l = l.parts.items ≡ replicate l._part (empty l.room)
