use Rattle.std.proofs.Common.{ℕ, ◌<◌, ◌≤◌, [], ◌++◌, length, get_or, drop, sym, ap, ◌∙◌, arith}
use Rattle.std.proofs.lemmas.Bool.{lt-ltb}
use Rattle.std.proofs.Math.ListN.{drop_of_length-le}
use Rattle.run_report.specs.ReportText.{calls_text}
use Rattle.run_check.proofs.ReportRest.{goes_end, goes_on, goes_wrong, scripts_are, workers_next, workers_none}
use Rattle.run_check.proofs.report.behind_workers.Goals as goal

pub returns-in_default-clause-rest : goal.returns-in_default-clause-rest
returns-in_default-clause-rest c left is =
    let plan = c.args.workload.now in
    let replies = c.args.replies.now in
    let worker = c.loop-completed.worker in
    let count = c.loop-completed.invariant.count in
    let inside : worker < length replies = omega (arith, count, c.loop-completed-test.true) in
    let below : worker < length plan.scripts = omega (arith, inside, c.requires.workers, scripts_are plan c.workers-workers.ensures.valid) in
    let item = c.completed-item.is ∙ ap (λ (n : ℕ). get_or replies n c.completed-item.result) (sym count) in
    let here = workers_next plan worker replies c.completed-item.result below (lt-ltb worker (length replies) inside) item in
    let text = ap (calls_text plan worker 0 (get_or plan.scripts worker [])) c.as_slice.ensures in
    goes_wrong c.args.bytes.now _ _ _ _ _ here (λ later cut. c.in_default.ensures.rest later (cut ∙ ap (λ t. t ++ later) (sym text))) c.loop-completed.invariant.goes left is

pub loop-completed-preserved : goal.loop-completed-preserved
loop-completed-preserved c =
    let plan = c.args.workload.now in
    let replies = c.args.replies.now in
    let worker = c.loop-completed.worker in
    let count = c.loop-completed.invariant.count in
    let inside : worker < length replies = omega (arith, count, c.loop-completed-test.true) in
    let below : worker < length plan.scripts = omega (arith, inside, c.requires.workers, scripts_are plan c.workers-workers.ensures.valid) in
    let item = c.completed-item.is ∙ ap (λ (n : ℕ). get_or replies n c.completed-item.result) (sym count) in
    let here = workers_next plan worker replies c.completed-item.result below (lt-ltb worker (length replies) inside) item in
    let text = ap (calls_text plan worker 0 (get_or plan.scripts worker [])) c.as_slice.ensures in
    record {
      count = omega (arith, count);
      goes = goes_on c.args.bytes.now _ _ _ _ _ c.in-Some.left.now here (c.in-Some.ensures.rest ∙ ap (λ t. t ++ c.in-Some.left.now) text) c.loop-completed.invariant.goes;
      room = c.in-Some.ensures.room;
    }

pub returns-clause-rest : goal.returns-clause-rest
returns-clause-rest c =
    let plan = c.args.workload.now in
    let replies = c.args.replies.now in
    let worker = c.loop-completed.worker in
    let past : length replies ≤ worker = omega (arith, c.loop-completed.invariant.count, c.loop-completed-test.false) in
    goes_end c.args.bytes.now _ _ _ (workers_none plan worker (drop worker plan.scripts) (drop worker replies) (drop_of_length-le replies past)) c.loop-completed.invariant.goes
