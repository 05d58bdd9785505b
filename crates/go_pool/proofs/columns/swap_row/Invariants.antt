use Rattle.std.proofs.Common.{◌≡◌, ℕ, cond}
use Rattle.go_pool.specs.Parts.{cell}
use Rattle.go_pool.specs.Tables.{KeepsRows, crosses}
use Rattle.go_pool.proofs.columns.swap_row.Given as goal

abbrev pub invariant-loop-column : goal.invariant-loop-column
invariant-loop-column g l = record {
  rows : KeepsRows l.fn.passes l.passes;
  cells : (i j : ℕ) → cell l.passes i j ≡ cond (crosses l.fn.row l.column i j) (cell l.fn.passes j i) (cell l.fn.passes i j);
}
