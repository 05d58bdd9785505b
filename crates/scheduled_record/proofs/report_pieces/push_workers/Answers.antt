use Rattle.std.proofs.Common.{◌<◌, ◌+◌, [], true, length, get_or, drop, sym, ap, arith, refl, subst}
use Rattle.std.proofs.Math.ListN.{drop_of_length-le}
use Rattle.run_report.specs.ReportText.{calls_text, workers_text}
use Rattle.scheduled_record.specs.Pushed.{Gains}
use Rattle.scheduled_record.proofs.Gaining.{goes_end, goes_wrong}
use Rattle.scheduled_record.proofs.ReportLines.{not_below, scripts_are, workers_next, workers_none}
use Rattle.scheduled_record.proofs.report_pieces.push_workers.Goals as goal

pub returns-then-not-branch-clause-gains : goal.returns-then-not-branch-clause-gains
returns-then-not-branch-clause-gains c =
    let plan = c.args.workload.now in
    let replies = c.args.replies.now in
    let i = c.loop-worker.worker in
    let below : i < length plan.scripts = omega (arith, c.loop-worker-test.true, c.workers-worker-end.ensures.workers, scripts_are plan c.workers-worker-end.ensures.valid) in
    let here = workers_next plan i replies c.in-Some.completed.now below (sym c.in-Some.ensures.lookup.0) c.in-Some.ensures.lookup.1 in
    let text = ap (calls_text plan i 0 (get_or plan.scripts i [])) c.as_slice.ensures in
    let gains = subst (λ piece. Gains c.loop-worker.text.items c.push_calls.new.text.items piece true c.in_ok-push_calls.field-0) text c.in_ok-push_calls.ensures.gains in
    goes_wrong _ _ _ _ _ (calls_text plan i 0 (get_or plan.scripts i []) c.in-Some.completed.now) (workers_text plan (i + 1) (drop (i + 1) plan.scripts) (drop (i + 1) replies)) c.push_calls.new.text.items true true true true c.in_ok-push_calls.field-0 c.if-not-branch.true here refl gains c.loop-worker.invariant.goes

pub returns-in_default-clause-gains : goal.returns-in_default-clause-gains
returns-in_default-clause-gains c =
    let plan = c.args.workload.now in
    let replies = c.args.replies.now in
    let i = c.loop-worker.worker in
    let past = not_below i (length replies) (sym c.in_default.ensures.lookup.0) in
    goes_end _ _ _ _ true true (workers_none plan i (drop i plan.scripts) (drop i replies) (drop_of_length-le replies past)) refl c.loop-worker.invariant.goes
