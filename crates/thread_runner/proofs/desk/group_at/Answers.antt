use Rattle.std.proofs.Common.{length, refl, arith}
use Rattle.std.proofs.lemmas.Option.{slice_get_read, slice_get_within}
use Rattle.run_record.specs.WaitGroupKind.{wait_group_part}
use Rattle.thread_runner.proofs.Slots.{in_slot, seats_kept}
use Rattle.thread_runner.proofs.desk.group_at.Goals as goal

pub returns-clause-works : goal.returns-clause-works
returns-clause-works g c =
    in_slot c.args.passes.now c.args.number c.index-passes-number.result c.part_of_group.new.pass (omega (arith, slice_get_within c.args.objects.now c.args.number c.requires.kind.0 c.requires.kind.1, c.requires.seats.count)) (wait_group_part c.args.number c.args.stage) g.N.Note.own g.N.Note.front c.args.note.now c.part_of_group.new.note c.part_of_group.result (c.part_of_group.ensures.works c.args.number)

pub returns-clause-seats : goal.returns-clause-seats
returns-clause-seats g c =
    let all = c.args.objects.now in
    let within = slice_get_within all c.args.number c.requires.kind.0 c.requires.kind.1 in
    let here = slice_get_read all (length all) c.args.number c.index-objects-number.result refl within c.index-objects-number.is in
    seats_kept g.N.Note.at c.args.worker.now.at.home.now c.args.worker.now.workers c.args.worker.now.number all c.args.passes.now c.args.number c.index-objects-number.result c.part_of_group.new.pass here c.part_of_group.ensures.seat c.requires.seats
