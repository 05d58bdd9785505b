use Rattle.go_pool.proofs.FirstHalts.{ToldSo}
use Rattle.go_pool.proofs.pool.Pool.first_halts.Given as goal

abbrev pub invariant-loop-part : goal.invariant-loop-part
invariant-loop-part g l = record { told : ToldSo l.self.parts.items l.fn.columns l.part l.first l.columns }
