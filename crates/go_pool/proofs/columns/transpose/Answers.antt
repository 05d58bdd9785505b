use Rattle.std.proofs.Common.{◌≡◌, ℕ, length, subst, arith}
use Rattle.go_pool.proofs.TableSteps.{Turned, same_rows, rows_then, square_kept, none_turned, turned_on, all_turned}
use Rattle.go_pool.proofs.columns.transpose.Goals as goal

pub loop-row-init : goal.loop-row-init
loop-row-init g c = record { rows = same_rows c.args.passes.now; turned = none_turned c.args.passes.now }

pub swap_row-requires-clause-square : goal.swap_row-requires-clause-square
swap_row-requires-clause-square g c = square_kept c.args.passes.now c.loop-row.passes c.requires.square c.loop-row.invariant.rows

pub swap_row-requires-clause-row : goal.swap_row-requires-clause-row
swap_row-requires-clause-row g c = let below = c.loop-row-test.true in let count = c.loop-row.invariant.rows.count in omega arith

pub loop-row-preserved : goal.loop-row-preserved
loop-row-preserved g c =
    let ps = c.args.passes.now in
    let mid = c.loop-row.passes in
    let now = c.swap_row.new.passes in
    record {
      rows = rows_then ps mid now c.loop-row.invariant.rows c.swap_row.ensures.rows;
      turned = turned_on ps mid now c.loop-row.row c.loop-row.invariant.turned c.swap_row.ensures.cells;
    }

pub returns-clause-cells : goal.returns-clause-cells
returns-clause-cells g c =
    let end : c.loop-row.row ≡ length c.args.passes.now = (let past = c.loop-row-test.false in let most = c.loop-row.auto.row-end in omega arith) in
    all_turned c.args.passes.now c.loop-row.passes c.requires.square (subst (λ (k : ℕ). Turned k c.args.passes.now c.loop-row.passes) end c.loop-row.invariant.turned)
