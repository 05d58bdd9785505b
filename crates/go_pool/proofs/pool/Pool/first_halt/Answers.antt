use Rattle.go_pool.proofs.FirstHalts.{square_all, are_columns, same_passes, whole, seen, all_back, whole_seen}
use Rattle.go_pool.proofs.TableSteps.{square_kept}
use Rattle.go_pool.proofs.pool.Pool.first_halt.Goals as goal

pub first_halts-halted-requires : goal.first_halts-halted-requires
first_halts-halted-requires g c = record { columns = are_columns c.args.self.now c.args.passes.now c.transpose.new.passes c.requires c.transpose.ensures.rows c.transpose.ensures.cells }

pub transpose-requires-2 : goal.transpose-requires-2
transpose-requires-2 g c = record { square = square_kept c.transpose.new.passes c.first_halts-halted.new.columns (square_kept c.args.passes.now c.transpose.new.passes (square_all c.args.self.now c.args.passes.now c.requires) c.transpose.ensures.rows) c.first_halts-halted.ensures.columns.1 }

pub returns-clause-passes : goal.returns-clause-passes
returns-clause-passes g c =
    let j = c.first_halts-halted.ensures.journal in
    let pool = c.args.self.now in (
      all_back pool c.args.passes.now c.transpose.new.passes c.first_halts-halted.new.columns c.transpose-2.new.passes j.0 c.requires c.transpose.ensures.rows c.transpose.ensures.cells c.first_halts-halted.ensures.columns.0 c.first_halts-halted.ensures.columns.1 j.2 c.transpose-2.ensures.rows c.transpose-2.ensures.cells,
      same_passes pool c.args.passes.now c.transpose.new.passes c.first_halts-halted.new.columns c.transpose-2.new.passes j.0 c.requires c.transpose.ensures.rows c.transpose.ensures.cells c.first_halts-halted.ensures.columns.0 c.first_halts-halted.ensures.columns.1 j.2 c.transpose-2.ensures.rows c.transpose-2.ensures.cells,
    )

pub returns-clause-one_journal : goal.returns-clause-one_journal
returns-clause-one_journal g c =
    let j = c.first_halts-halted.ensures.journal in
    let pool = c.args.self.now in (
      j.0,
      j.1,
      whole pool c.args.passes.now c.transpose.new.passes c.first_halts-halted.new.columns c.transpose-2.new.passes j.0 c.requires c.transpose.ensures.rows c.transpose.ensures.cells c.first_halts-halted.ensures.columns.0 c.first_halts-halted.ensures.columns.1 j.2 c.transpose-2.ensures.rows c.transpose-2.ensures.cells,
      seen pool c.args.passes.now c.transpose.new.passes c.first_halts-halted.new.columns c.transpose-2.new.passes j.0 c.requires c.transpose.ensures.rows c.transpose.ensures.cells c.first_halts-halted.ensures.columns.0 c.first_halts-halted.ensures.columns.1 j.2 c.transpose-2.ensures.rows c.transpose-2.ensures.cells,
    )

pub returns-clause-history : goal.returns-clause-history
returns-clause-history g c =
    let one = returns-clause-one_journal g c in
    (one.0, one.1, one.2, whole_seen c.args.self.now one.0 c.transpose-2.new.passes one.3)

pub returns-clause-seen : goal.returns-clause-seen
returns-clause-seen g c = let one = returns-clause-one_journal g c in (one.0, one.3)
