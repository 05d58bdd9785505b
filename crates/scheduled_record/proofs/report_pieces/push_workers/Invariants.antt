use Rattle.std.proofs.Common.{◌≤◌, true, drop, vec_capacity}
use Rattle.workload_text.specs.declared.line.TheConstants.{LINE_ROOM}
use Rattle.run_report.specs.ReportText.{workers_text}
use Rattle.scheduled_record.proofs.Gaining.{Going}
use Rattle.scheduled_record.proofs.report_pieces.push_workers.Given as goal

abbrev pub invariant-loop-worker : goal.invariant-loop-worker
invariant-loop-worker l = record {
  goes : Going l.initial.text.items l.text.items
      (workers_text l.workload 0 l.workload.scripts l.replies) (workers_text l.workload l.worker (drop l.worker l.workload.scripts) (drop l.worker l.replies)) true true;
  room : LINE_ROOM ≤ vec_capacity l.line;
}
