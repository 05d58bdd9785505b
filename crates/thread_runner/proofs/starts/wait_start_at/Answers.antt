use Rattle.std.proofs.Common.{◌-◌, length, subst}
use Rattle.std.specs.Prelude.{slice_set}
use Rattle.run_record.specs.StartsKind.{wait_start_part}
use Rattle.thread_objects.specs.Passes.{owns_of}
use Rattle.thread_objects.specs.Working.{Works, desk_with}
use Rattle.thread_runner.proofs.LastObject.{is_starts, number_is, pass_within, seat_here, seats_behind}
use Rattle.thread_runner.proofs.Slots.{in_slot}
use Rattle.thread_runner.proofs.starts.wait_start_at.Goals as goal

pub wait_start-requires-clause-kind : goal.wait_start-requires-clause-kind
wait_start-requires-clause-kind g c =
    let plan = c.args.site.now.catalog.workload.now in
    let objects = c.args.site.now.objects.now in
    let last = c.starts_is_the_last_object.ensures c.args.worker.now.at.home.now plan objects c.requires.declared c.requires.dormant in
    is_starts plan objects last c.index-site-number.result

pub wait_start-requires-clause-seat : goal.wait_start-requires-clause-seat
wait_start-requires-clause-seat g c =
    let plan = c.args.site.now.catalog.workload.now in
    let objects = c.args.site.now.objects.now in
    let worker = c.args.worker.now in
    let last = c.starts_is_the_last_object.ensures worker.at.home.now plan objects c.requires.declared c.requires.dormant in
    seat_here plan objects last g.S.Mark.Note.at worker.at.home.now worker.workers worker.number c.args.passes.now c.requires.seats c.index-site-number.result c.index-passes-number.result

pub returns-clause-seats : goal.returns-clause-seats
returns-clause-seats g c =
    let plan = c.args.site.now.catalog.workload.now in
    let objects = c.args.site.now.objects.now in
    let worker = c.args.worker.now in
    let last = c.starts_is_the_last_object.ensures worker.at.home.now plan objects c.requires.declared c.requires.dormant in
    seats_behind plan objects last g.S.Mark.Note.at worker.at.home.now worker.workers worker.number c.args.passes.now c.requires.seats c.index-site-number.result c.wait_start.new.pass c.wait_start.ensures.seat

pub returns-clause-works : goal.returns-clause-works
returns-clause-works g c =
    let mark = g.S.Mark.Note in
    let plan = c.args.site.now.catalog.workload.now in
    let objects = c.args.site.now.objects.now in
    let worker = c.args.worker.now in
    let number = length objects - 1 in
    let last = c.starts_is_the_last_object.ensures worker.at.home.now plan objects c.requires.declared c.requires.dormant in
    let within = pass_within plan objects last mark.at worker.at.home.now worker.workers worker.number c.args.passes.now c.requires.seats c.index-site-number.result in
    let works = in_slot c.args.passes.now number c.index-passes-number.result c.wait_start.new.pass within (wait_start_part number) mark.own mark.front c.args.note.now c.wait_start.new.note c.wait_start.result (c.wait_start.ensures.works number) in
    subst (λ k. Works (wait_start_part k) (desk_with mark.own mark.front (owns_of c.args.passes.now) c.args.note.now) c.wait_start.result (desk_with mark.own mark.front (owns_of (slice_set c.args.passes.now number c.wait_start.new.pass)) c.wait_start.new.note)) (number_is plan objects last) works
