use Rattle.std.proofs.Common.{◌≡◌, ℕ, cond, sym, ap, ◌∙◌, arith}
use Rattle.std.proofs.lemmas.Bool.Decides.{nat_tests}
use Rattle.go_pool.specs.Parts.{cell}
use Rattle.go_pool.specs.Tables.{crosses}
use Rattle.go_pool.proofs.TableSteps.{cond_false, same_rows, rows_then, square_kept, row_on}
use Rattle.go_pool.proofs.columns.swap_row.Goals as goal

pub loop-column-init : goal.loop-column-init
loop-column-init g c = record { rows = same_rows c.args.passes.now; cells = λ i j. sym (cond_false (crosses c.args.row 0 i j) (cell c.args.passes.now j i) (cell c.args.passes.now i j) (grind (arith, nat_tests))) }

pub swap_corner-requires-clause-square : goal.swap_corner-requires-clause-square
swap_corner-requires-clause-square g c = square_kept c.args.passes.now c.loop-column.passes c.requires.square c.loop-column.invariant.rows

pub loop-column-preserved : goal.loop-column-preserved
loop-column-preserved g c =
    let ps = c.args.passes.now in
    let mid = c.loop-column.passes in
    let now = c.swap_corner.new.passes in
    record {
      rows = rows_then ps mid now c.loop-column.invariant.rows c.swap_corner.ensures.0;
      cells = λ i j. row_on ps mid now c.args.row c.loop-column.column i j c.loop-column-test.true (c.loop-column.invariant.cells i j) (c.loop-column.invariant.cells j i) (c.swap_corner.ensures.1 i j);
    }

pub returns-clause-cells : goal.returns-clause-cells
returns-clause-cells g c =
    let end : c.loop-column.column ≡ c.args.row = (let past = c.loop-column-test.false in let most = c.loop-column.auto.column-end in omega arith) in
    λ i j. c.loop-column.invariant.cells i j ∙ ap (λ (k : ℕ). cond (crosses c.args.row k i j) (cell c.args.passes.now j i) (cell c.args.passes.now i j)) end
