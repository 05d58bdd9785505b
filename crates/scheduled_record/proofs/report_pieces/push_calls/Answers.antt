use Rattle.std.proofs.Common.{◌+◌, true, false, drop, sym, ap, refl, subst, ◌∙◌}
use Rattle.script_calls.specs.Runs.{passed_over}
use Rattle.workload_text.specs.ReportLines.{completed_line}
use Rattle.run_report.specs.ReportText.{calls_text}
use Rattle.scheduled_record.specs.Pushed.{Gains}
use Rattle.scheduled_record.proofs.Gaining.{goes_wrong}
use Rattle.scheduled_record.proofs.ReportLines.{calls_next}
use Rattle.scheduled_record.proofs.report_pieces.push_calls.Goals as goal

pub returns-then-not-branch-clause-gains : goal.returns-then-not-branch-clause-gains
returns-then-not-branch-clause-gains c =
    let plan = c.args.workload.now in
    let worker = c.args.worker in
    let script = c.script-script.result.now in
    let replies = c.args.replies.now in
    let reply = c.reply-item.result in
    let call = c.in-Some.call.now in
    let place = c.loop-reply.place in
    let after = place + 1 + passed_over call reply in
    let here = calls_next plan worker place c.loop-reply.reply-index script replies call reply after c.a_run_goes_along_by_places.ensures.over (sym c.in-Some.ensures.lookup.0) c.in-Some.ensures.lookup.1 c.loop-reply-test.true c.reply-item.is refl in
    let line = c.deref.ensures.value ∙ c.set_completed_line.ensures.line in
    let gains = subst (λ piece. Gains c.loop-reply.text.items c.push_piece.new.text.items piece true c.in_ok-push_piece.field-0) line c.in_ok-push_piece.ensures in
    let all = ap (λ s. calls_text plan worker 0 s replies) c.script-script.ensures.script in
    subst (λ whole. Gains c.args.text.now.items c.push_piece.new.text.items whole true false) all
    (goes_wrong _ _ _ _ _ (completed_line plan worker place call reply) (calls_text plan worker after (drop after script) (drop (c.loop-reply.reply-index + 1) replies)) c.push_piece.new.text.items true true true true c.in_ok-push_piece.field-0 c.if-not-branch.true here refl gains c.loop-reply.invariant.goes)
