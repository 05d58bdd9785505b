use Rattle.std.proofs.Common.{ℕ, arith}
use Rattle.std.proofs.lemmas.Grind.{common_steps}
use Rattle.std.proofs.lemmas.List.Edits.{map_over_more}
use Rattle.pool_core.specs.PoolParts.{emptied}
use Rattle.pool_core.proofs.pool.clear.Goals as goal

pub loop-part-preserved : goal.loop-part-preserved
loop-part-preserved c = grind (arith, common_steps, map_over_more (emptied {X = ℕ}))
