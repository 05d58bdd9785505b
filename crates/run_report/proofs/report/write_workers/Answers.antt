use Rattle.std.proofs.Common.{◌<◌, [], length, get_or, drop, sym, ap, ◌∙◌, subst, arith}
use Rattle.std.proofs.lemmas.Bool.{ltb-true}
use Rattle.std.proofs.Math.ListN.{drop_of_length-le}
use Rattle.sync_outside.specs.Bytes.{Appends, AppendsFront}
use Rattle.std.specs.List.{list_all}
use Rattle.workload.specs.declared.limits.TheConstants.{MAX_KEYS}
use Rattle.script_calls.specs.Outcome.{has_pairs_to}
use Rattle.run_report.specs.ReportText.{calls_text, completed_in}
use Rattle.run_report.specs.Writes.{Wrote, WroteUpTo}
use Rattle.run_report.proofs.Lines.{all_at, not_below, scripts_are, workers_more_lines, workers_next, workers_no_lines, workers_none}
use Rattle.run_report.proofs.WriteCounts.{writes_cut, writes_end, writes_on}
use Rattle.run_report.proofs.Writing.{goes_on, goes_cut, goes_end, on_err}
use Rattle.run_report.proofs.report.write_workers.Goals as goal

pub write_calls-requires-clause-pairs : goal.write_calls-requires-clause-pairs
write_calls-requires-clause-pairs g c =
    let replies = c.args.replies.now in
    let i = c.loop-worker.worker in
    let completed = c.in-Some.completed.now in
    ap (list_all (has_pairs_to MAX_KEYS)) c.as_slice.ensures
    ∙ all_at (list_all (has_pairs_to MAX_KEYS)) replies i completed c.requires.pairs (ltb-true i (length replies) (sym c.in-Some.ensures.lookup.0)) c.in-Some.ensures.lookup.1

pub returns-in_default-clause-ok : goal.returns-in_default-clause-ok
returns-in_default-clause-ok g c =
    let plan = c.args.workload.now in
    let replies = c.args.replies.now in
    let i = c.loop-worker.worker in
    goes_end _ _ _ _ (workers_none plan i (drop i plan.scripts) (drop i replies) (drop_of_length-le replies (not_below i (length replies) (sym c.in_default.ensures.lookup.0)))) c.loop-worker.invariant.goes

pub returns-in_default-clause-writes : goal.returns-in_default-clause-writes
returns-in_default-clause-writes g c =
    let plan = c.args.workload.now in
    let replies = c.args.replies.now in
    let i = c.loop-worker.worker in
    writes_end _ _ _ _ (workers_no_lines (drop i plan.scripts) (drop i replies) (drop_of_length-le replies (not_below i (length replies) (sym c.in_default.ensures.lookup.0)))) c.loop-worker.invariant.writes

pub returns-in_err-write_calls-clause-err : goal.returns-in_err-write_calls-clause-err
returns-in_err-write_calls-clause-err g c =
    let plan = c.args.workload.now in
    let i = c.loop-worker.worker in
    let below : i < length plan.scripts = omega (arith, c.loop-worker-test.true, c.workers-worker-end.ensures.workers, scripts_are plan c.workers-worker-end.ensures.valid) in
    let here = workers_next plan i _ _ below (sym c.in-Some.ensures.lookup.0) c.in-Some.ensures.lookup.1 in
    let text = ap (calls_text plan i 0 (get_or plan.scripts i [])) c.as_slice.ensures in
    on_err c.from_residual.result (goes_cut _ _ _ _ _ _ _ here c.loop-worker.invariant.goes (subst (AppendsFront _ _) text c.in_err-write_calls.ensures.err))

pub returns-in_err-write_calls-clause-cut : goal.returns-in_err-write_calls-clause-cut
returns-in_err-write_calls-clause-cut g c =
    let plan = c.args.workload.now in
    let i = c.loop-worker.worker in
    let below : i < length plan.scripts = omega (arith, c.loop-worker-test.true, c.workers-worker-end.ensures.workers, scripts_are plan c.workers-worker-end.ensures.valid) in
    let lines = workers_more_lines i plan.scripts _ _ below (sym c.in-Some.ensures.lookup.0) c.in-Some.ensures.lookup.1 in
    let count = ap (completed_in (get_or plan.scripts i [])) c.as_slice.ensures in
    on_err c.from_residual.result (writes_cut _ _ _ _ _ _ _ lines c.loop-worker.invariant.writes (subst (WroteUpTo _ _) count c.in_err-write_calls.ensures.cut))

pub loop-worker-preserved : goal.loop-worker-preserved
loop-worker-preserved g c =
    let plan = c.args.workload.now in
    let i = c.loop-worker.worker in
    let below : i < length plan.scripts = omega (arith, c.loop-worker-test.true, c.workers-worker-end.ensures.workers, scripts_are plan c.workers-worker-end.ensures.valid) in
    let here = workers_next plan i _ _ below (sym c.in-Some.ensures.lookup.0) c.in-Some.ensures.lookup.1 in
    let text = ap (calls_text plan i 0 (get_or plan.scripts i [])) c.as_slice.ensures in
    let lines = workers_more_lines i plan.scripts _ _ below (sym c.in-Some.ensures.lookup.0) c.in-Some.ensures.lookup.1 in
    let count = ap (completed_in (get_or plan.scripts i [])) c.as_slice.ensures in
    record {
      goes = goes_on _ _ _ _ _ _ _ here c.loop-worker.invariant.goes (subst (Appends _ _) text c.in_ok-write_calls.ensures.ok);
      writes = writes_on _ _ _ _ _ _ _ lines c.loop-worker.invariant.writes (subst (Wrote _ _) count c.in_ok-write_calls.ensures.writes);
      faults = omega (arith, c.loop-worker.invariant.faults, c.in_ok-write_calls.ensures.faults);
      room = c.in_ok-write_calls.ensures.room;
    }
