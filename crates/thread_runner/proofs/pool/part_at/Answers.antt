use Rattle.std.proofs.Common.{length, refl, arith}
use Rattle.std.proofs.lemmas.Option.{slice_get_read, slice_get_within}
use Rattle.run_record.specs.PoolKind.{pool_part}
use Rattle.thread_runner.proofs.Slots.{in_slot, seats_kept}
use Rattle.thread_runner.proofs.pool.part_at.Goals as goal

pub returns-clause-seats : goal.returns-clause-seats
returns-clause-seats g c =
    let objects = c.args.objects.now in
    let number = c.args.number in
    let here = slice_get_read objects (length objects) number c.index-objects-number.result refl (slice_get_within objects number c.requires.kind.0 c.requires.kind.1) c.index-objects-number.is in
    seats_kept g.N.Note.at c.args.worker.now.at.home.now c.args.worker.now.workers c.args.worker.now.number objects c.args.passes.now number c.index-objects-number.result c.part_of_pool.new.pass here c.part_of_pool.ensures.seat c.requires.seats

pub returns-clause-works : goal.returns-clause-works
returns-clause-works g c =
    in_slot c.args.passes.now c.args.number c.index-passes-number.result c.part_of_pool.new.pass (omega (arith, slice_get_within c.args.objects.now c.args.number c.requires.kind.0 c.requires.kind.1, c.requires.seats.count)) (pool_part c.args.number c.args.stage) g.N.Note.own g.N.Note.front c.args.note.now c.part_of_pool.new.note c.part_of_pool.result (c.part_of_pool.ensures.works c.args.number)
