use Rattle.std.proofs.Common.{◌≡◌, ◌<◌, Some, length, refl, ◌∙◌, subst, arith, rules}
use Rattle.std.specs.List.{slice_get, slice_index_or}
use Rattle.protocols.specs.PoolStages.{pool_stands}
use Rattle.call_loop.specs.Between.{AreAllBetween}
use Rattle.go_pool.proofs.FirstHalts.{none_told, told_on}
use Rattle.go_pool.proofs.Seats.{read_at}
use Rattle.go_pool.proofs.TableSteps.{same_rows}
use Rattle.go_pool.proofs.pool.Pool.first_halts.Goals as goal

pub loop-part-init : goal.loop-part-init
loop-part-init g c = record { told = none_told c.args.self.now.parts.items c.args.columns.now _ c.requires.columns (same_rows c.args.columns.now) }

pub first_of-halted-requires : goal.first_of-halted-requires
first_of-halted-requires g c =
    let pool = c.args.self.now in
    let part = c.loop-part.part in
    let within : part < length pool.parts.items = search rules in
    let so = c.loop-part.invariant.told in
    let row = slice_index_or c.loop-part.columns part c.index-columns-part.result in
    let at_o = read_at pool.parts.items (length pool.parts.items) part c.index.result.now refl within c.index.ensures in
    let at_row = read_at c.loop-part.columns (length pool.parts.items) part c.index-columns-part.result so.are.count within c.index-columns-part.is in
    subst (λ row. AreAllBetween tt pool_stands c.index.result.now row.parts.items) c.index-columns-part.is (so.are.each part c.index.result.now c.index-columns-part.result at_o at_row)

pub loop-part-preserved : goal.loop-part-preserved
loop-part-preserved g c =
    let pool = c.args.self.now in
    let part = c.loop-part.part in
    let within : part < length pool.parts.items = search rules in
    let so = c.loop-part.invariant.told in
    let at_o = read_at pool.parts.items (length pool.parts.items) part c.index.result.now refl within c.index.ensures in
    let at_row = read_at c.loop-part.columns (length pool.parts.items) part c.index-columns-part.result so.are.count within c.index-columns-part.is in
    let t = c.first_of-halted.ensures.told in
    record { told = told_on pool.parts.items c.args.columns.now c.loop-part.columns part c.index.result.now (slice_index_or c.loop-part.columns part c.index-columns-part.result) _ c.loop-part.first c.first_of-halted.result c.of_part_0-first.result t.0 so at_o (subst (λ row. slice_get c.loop-part.columns part ≡ Some row) c.index-columns-part.is at_row) refl refl c.first_of-halted.ensures.between t.2 t.1 c.of_part_0-first.ensures }

pub returns-clause-columns : goal.returns-clause-columns
returns-clause-columns g c = (c.loop-part.invariant.told.are, c.loop-part.invariant.told.rows)

pub returns-clause-journal : goal.returns-clause-journal
returns-clause-journal g c =
    let so = c.loop-part.invariant.told in
    let pool = c.args.self.now in
    let end : c.loop-part.part ≡ length pool.parts.items = search rules in
    let some = pool.few in
    let count = pool.are.count in
    (so.journal, so.first_is (omega arith), (so.count ∙ (end ∙ count), so.told))
