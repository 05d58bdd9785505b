use Rattle.std.proofs.Common.{◌+◌, length, refl, arith}
use Rattle.std.proofs.lemmas.Option.{IfSome_then, slice_get_read, slice_get_within}
use Rattle.run_record.specs.Calls.{call_on}
use Rattle.thread_runner.proofs.Slots.{in_slot, seats_kept}
use Rattle.thread_runner.proofs.by_number.object_at.Goals as goal

pub returns-clause-seats : goal.returns-clause-seats
returns-clause-seats g c =
    let objects = c.args.objects.now in
    let number = c.args.place + 1 in
    let here = slice_get_read objects (length objects) number c.index-objects-number.result refl (slice_get_within objects number c.requires.kind.0 c.requires.kind.1) c.index-objects-number.is in
    seats_kept g.S.Mark.Note.at c.args.worker.now.at.home.now c.args.worker.now.workers c.args.worker.now.number objects c.args.passes.now number c.index-objects-number.result c.call_any.new.pass here c.call_any.ensures.seat c.requires.seats

pub returns-clause-works : goal.returns-clause-works
returns-clause-works g c = IfSome_then c.call_any.result c.call_any.ensures.works (λ answer works before.
    let number = c.args.place + 1 in
    in_slot c.args.passes.now number c.index-passes-number.result c.call_any.new.pass (omega (arith, slice_get_within c.args.objects.now number c.requires.kind.0 c.requires.kind.1, c.requires.seats.count)) (call_on c.args.catalog.now.workload.now c.args.worker.now.number before c.args.place c.args.kind c.args.operation.now) g.S.Mark.Note.own g.S.Mark.Note.front c.args.caller.now.note c.call_any.new.caller.note answer (works before c.args.place))
