use Rattle.std.proofs.Common.{◌≤◌, true, drop, vec_capacity}
use Rattle.workload_text.specs.declared.line.TheConstants.{LINE_ROOM}
use Rattle.run_report.specs.ReportText.{ends_text}
use Rattle.scheduled_record.proofs.Gaining.{Going}
use Rattle.scheduled_record.proofs.report_pieces.push_ends.Given as goal

abbrev pub invariant-loop-end : goal.invariant-loop-end
invariant-loop-end l = record {
  goes : Going l.initial.text.items l.text.items (ends_text l.workload l.ends) (ends_text l.workload (drop l.end-index l.ends)) true true;
  room : LINE_ROOM ≤ vec_capacity l.line;
}
