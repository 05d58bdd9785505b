use Rattle.std.proofs.Common.{◌≤◌, drop}
use Rattle.std.specs.Vec.{vec_capacity}
use Rattle.workload_text.specs.declared.line.TheConstants.{LINE_ROOM}
use Rattle.run_report.specs.ReportText.{workers_text, completed_in_all}
use Rattle.run_report.proofs.WriteCounts.{Writing}
use Rattle.run_report.proofs.Writing.{Goes}
use Rattle.run_report.proofs.report.write_workers.Given as goal

abbrev pub invariant-loop-worker : goal.invariant-loop-worker
invariant-loop-worker g l = record {
  goes : Goes (g.O.Sink.contents l.initial.out) (g.O.Sink.contents l.out)
      (workers_text l.workload 0 l.workload.scripts l.replies)
      (workers_text l.workload l.worker (drop l.worker l.workload.scripts) (drop l.worker l.replies));
  writes : Writing (g.O.Sink.writes l.initial.out) (g.O.Sink.writes l.out) (completed_in_all l.workload.scripts l.replies) (completed_in_all (drop l.worker l.workload.scripts) (drop l.worker l.replies));
  faults : g.O.Sink.faults l.initial.out ≤ g.O.Sink.faults l.out;
  room : LINE_ROOM ≤ vec_capacity l.line;
}
