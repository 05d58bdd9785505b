use Rattle.thread_objects.specs.Stop.{no_event, no_reply}
use Rattle.thread_objects.proofs.StopColumns.{halts_more, seat_from, seat_to}
use Rattle.thread_objects.proofs.halting.halt_any.Goals as goal

pub returns-in-Stop-pass-clause-seat : goal.returns-in-Stop-pass-clause-seat
returns-in-Stop-pass-clause-seat g c =
    let home = c.args.worker.now.at.home.now in
    let workers = c.args.worker.now.workers in
    let worker = c.args.worker.now.number in
    let object = c.in-Stop.object in
    let was = seat_from g.N.Note.at home workers worker object c.args.object.now c.args.pass.now c.in-Stop-pass.pass c.in-Stop.is c.in-Stop-pass.is c.requires.seat in
    seat_to g.N.Note.at home workers worker object c.args.object.now c.halt_one.new.pass c.in-Stop.is (c.halt_one.ensures.seat, halts_more _ _ _ _ _ was.1 (c.halt_one.ensures.halted no_event no_reply))
