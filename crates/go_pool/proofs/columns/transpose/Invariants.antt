use Rattle.go_pool.specs.Tables.{KeepsRows}
use Rattle.go_pool.proofs.TableSteps.{Turned}
use Rattle.go_pool.proofs.columns.transpose.Given as goal

abbrev pub invariant-loop-row : goal.invariant-loop-row
invariant-loop-row g l = record {
  rows : KeepsRows l.fn.passes l.passes;
  turned : Turned l.row l.fn.passes l.passes;
}
