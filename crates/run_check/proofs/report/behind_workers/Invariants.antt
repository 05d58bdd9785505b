use Rattle.std.proofs.Common.{◌≡◌, ◌≤◌, drop}
use Rattle.std.specs.Vec.{vec_capacity}
use Rattle.workload_text.specs.declared.line.TheConstants.{LINE_ROOM}
use Rattle.run_report.specs.ReportText.{workers_text}
use Rattle.run_check.proofs.ReportRest.{Goes}
use Rattle.run_check.proofs.report.behind_workers.Given as goal

abbrev pub invariant-loop-completed : goal.invariant-loop-completed
invariant-loop-completed l = record {
  count : l.worker ≡ l.completed-index;
  goes : Goes l.bytes (workers_text l.workload 0 l.workload.scripts l.replies) l.rest (workers_text l.workload l.worker (drop l.worker l.workload.scripts) (drop l.worker l.replies));
  room : LINE_ROOM ≤ vec_capacity l.line;
}
