use Rattle.std.proofs.Common.{length, ap, subst}
use Rattle.std.proofs.lemmas.Result.{on_err_weaker, on_ok_weaker}
use Rattle.sync_outside.specs.Bytes.{Appends, AppendsFront}
use Rattle.run_report.specs.ReportText.{completed_in_all, workers_text, ends_text}
use Rattle.run_report.specs.Writes.{Wrote, WroteUpTo}
use Rattle.run_report.proofs.WriteCounts.{writes_after, writes_both}
use Rattle.run_report.proofs.Writing.{front_after}
use Rattle.run_report.proofs.report.report.Goals as goal

pub returns-in_ok-write_workers-in-Done-clause-err : goal.returns-in_ok-write_workers-in-Done-clause-err
returns-in_ok-write_workers-in-Done-clause-err g c =
    let plan = c.args.workload.now in
    let calls = subst (Appends _ _) (ap (workers_text plan 0 plan.scripts) c.as_slice.ensures) c.in_ok-write_workers-in-Done.ensures.ok in
    let ends = ap (ends_text plan) c.as_slice-in-Done.ensures in
    rw c.in-Done.is (on_err_weaker c.write_ends.result (λ cut. front_after _ _ _ _ _ calls (subst (AppendsFront _ _) ends cut)) c.write_ends.ensures.err)

pub returns-in_ok-write_workers-in-Done-clause-writes : goal.returns-in_ok-write_workers-in-Done-clause-writes
returns-in_ok-write_workers-in-Done-clause-writes g c =
    let plan = c.args.workload.now in
    let calls = subst (Wrote _ _) (ap (completed_in_all plan.scripts) c.as_slice.ensures) c.in_ok-write_workers-in-Done.ensures.writes in
    let ends = ap length c.as_slice-in-Done.ensures in
    rw c.in-Done.is (on_ok_weaker c.write_ends.result (λ wrote. writes_both _ _ _ _ _ calls (subst (Wrote _ _) ends wrote)) c.write_ends.ensures.writes)

pub returns-in_ok-write_workers-in-Done-clause-cut : goal.returns-in_ok-write_workers-in-Done-clause-cut
returns-in_ok-write_workers-in-Done-clause-cut g c =
    let plan = c.args.workload.now in
    let calls = subst (Wrote _ _) (ap (completed_in_all plan.scripts) c.as_slice.ensures) c.in_ok-write_workers-in-Done.ensures.writes in
    let ends = ap length c.as_slice-in-Done.ensures in
    rw c.in-Done.is (on_err_weaker c.write_ends.result (λ cut. writes_after _ _ _ _ _ calls (subst (WroteUpTo _ _) ends cut)) c.write_ends.ensures.cut)
