use Rattle.std.proofs.Common.{◌≡◌, ◌+◌, refl, sym, ap, subst, ◌∙◌, arith}
use Rattle.sync_outside.specs.Bytes.{Appends, AppendsFront}
use Rattle.script_calls.specs.Runs.{passed_over}
use Rattle.run_report.specs.Writes.{WroteUpTo}
use Rattle.run_report.specs.ReportText.{calls_text, completed_in}
use Rattle.run_report.proofs.Lines.{calls_next, calls_one_line, completes}
use Rattle.run_report.proofs.WriteCounts.{write_cut, write_on}
use Rattle.run_report.proofs.Writing.{goes_on, goes_cut, on_err}
use Rattle.run_report.proofs.report.write_calls.Goals as goal

pub returns-in_err-write-clause-err : goal.returns-in_err-write-clause-err
returns-in_err-write-clause-err g c =
    let plan = c.args.workload.now in
    let script = c.script-script.result.now in
    let reply = c.reply-item.result in
    let place = c.loop-reply.place in
    let next = completes script c.args.replies.now place c.loop-reply.reply-index _ reply c.a_run_goes_along_by_places.ensures.over (sym c.in-Some.ensures.lookup.0) c.in-Some.ensures.lookup.1 c.loop-reply-test.true c.reply-item.is in
    let here = calls_next plan c.args.worker place c.loop-reply.reply-index script _ _ reply _ next refl in
    let line = c.deref.ensures.value ∙ c.set_completed_line.ensures.line in
    let all = ap (λ s. calls_text plan c.args.worker 0 s c.args.replies.now) c.script-script.ensures.script in
    on_err c.from_residual.result (subst (AppendsFront _ _) all (goes_cut _ _ _ _ _ _ _ here c.loop-reply.invariant.goes (subst (AppendsFront _ _) line c.in_err-write.ensures.err)))

pub returns-in_err-write-clause-cut : goal.returns-in_err-write-clause-cut
returns-in_err-write-clause-cut g c =
    let script = c.script-script.result.now in
    let reply = c.reply-item.result in
    let place = c.loop-reply.place in
    let next = completes script c.args.replies.now place c.loop-reply.reply-index _ reply c.a_run_goes_along_by_places.ensures.over (sym c.in-Some.ensures.lookup.0) c.in-Some.ensures.lookup.1 c.loop-reply-test.true c.reply-item.is in
    let here = calls_one_line place c.loop-reply.reply-index script _ _ reply _ next refl in
    let all = ap (λ s. completed_in s c.args.replies.now) c.script-script.ensures.script in
    on_err c.from_residual.result (subst (WroteUpTo _ _) all (write_cut _ _ _ _ _ _ here c.loop-reply.invariant.writes c.in_err-write.ensures.writes))

pub loop-reply-preserved : goal.loop-reply-preserved
loop-reply-preserved g c =
    let plan = c.args.workload.now in
    let script = c.script-script.result.now in
    let call = c.in-Some.call.now in
    let reply = c.reply-item.result in
    let place = c.loop-reply.place in
    let next = completes script c.args.replies.now place c.loop-reply.reply-index call reply c.a_run_goes_along_by_places.ensures.over (sym c.in-Some.ensures.lookup.0) c.in-Some.ensures.lookup.1 c.loop-reply-test.true c.reply-item.is in
    let after : place + (1 + c.passed_over.result) ≡ place + 1 + passed_over call reply = omega (arith, c.passed_over.ensures.passes) in
    let here = calls_next plan c.args.worker place c.loop-reply.reply-index script _ call reply _ next after in
    let line = c.deref.ensures.value ∙ c.set_completed_line.ensures.line in
    let lines = calls_one_line place c.loop-reply.reply-index script _ call reply _ next after in
    record {
      goes = goes_on _ _ _ _ _ _ _ here c.loop-reply.invariant.goes (subst (Appends _ _) line c.in_ok-write.ensures.ok);
      writes = write_on _ _ _ _ _ _ lines c.loop-reply.invariant.writes c.in_ok-write.ensures.writes;
      faults = omega (arith, c.loop-reply.invariant.faults, c.in_ok-write.ensures.faults);
      room = omega (arith, c.loop-reply.invariant.room, c.set_completed_line.ensures.room);
    }
