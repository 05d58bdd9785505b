use Rattle.std.proofs.Common.{◌≡◌, ◌+◌, ◌++◌, refl, sym, ap, ◌∙◌, arith}
use Rattle.script_calls.specs.Runs.{passed_over}
use Rattle.run_report.specs.ReportText.{calls_text}
use Rattle.run_check.proofs.ReportRest.{calls_next, goes_on, goes_wrong}
use Rattle.run_check.proofs.report.behind_calls.Goals as goal

pub returns-in_default-behind-clause-rest : goal.returns-in_default-behind-clause-rest
returns-in_default-behind-clause-rest c left is =
    let plan = c.args.workload.now in
    let script = c.script-script.result.now in
    let reply = c.reply-item.result in
    let call = c.in-Some.call.now in
    let place = c.loop-reply.place in
    let here = calls_next plan c.args.worker place c.loop-reply.reply-index script c.args.replies.now call reply (place + 1 + passed_over call reply) c.a_run_goes_along_by_places.ensures.over (sym c.in-Some.ensures.lookup.0) c.in-Some.ensures.lookup.1 c.loop-reply-test.true c.reply-item.is refl in
    let line = c.deref.ensures.value ∙ c.set_completed_line.ensures.line in
    goes_wrong c.args.bytes.now _ _ _ _ _ here (λ later cut. c.in_default-behind.ensures later (cut ∙ ap (λ t. t ++ later) (sym line))) c.loop-reply.invariant.goes left
    (is ∙ ap (λ s. calls_text plan c.args.worker 0 s c.args.replies.now ++ left) (sym c.script-script.ensures.script))

pub loop-reply-preserved : goal.loop-reply-preserved
loop-reply-preserved c =
    let plan = c.args.workload.now in
    let script = c.script-script.result.now in
    let reply = c.reply-item.result in
    let call = c.in-Some.call.now in
    let place = c.loop-reply.place in
    let after : place + (1 + c.passed_over.result) ≡ place + 1 + passed_over call reply = omega (arith, c.passed_over.ensures.passes) in
    let here = calls_next plan c.args.worker place c.loop-reply.reply-index script c.args.replies.now call reply _ c.a_run_goes_along_by_places.ensures.over (sym c.in-Some.ensures.lookup.0) c.in-Some.ensures.lookup.1 c.loop-reply-test.true c.reply-item.is after in
    let line = c.deref.ensures.value ∙ c.set_completed_line.ensures.line in
    record {
      goes = goes_on c.args.bytes.now _ _ _ _ _ c.in-Some-behind.left.now here (c.in-Some-behind.ensures ∙ ap (λ t. t ++ c.in-Some-behind.left.now) line) c.loop-reply.invariant.goes;
      room = omega (arith, c.loop-reply.invariant.room, c.set_completed_line.ensures.room);
    }
