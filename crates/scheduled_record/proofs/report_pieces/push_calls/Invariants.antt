use Rattle.std.proofs.Common.{◌≤◌, true, drop, vec_capacity}
use Rattle.workload_text.specs.declared.line.TheConstants.{LINE_ROOM}
use Rattle.run_report.specs.ReportText.{calls_text}
use Rattle.scheduled_record.proofs.Gaining.{Going}
use Rattle.scheduled_record.proofs.report_pieces.push_calls.Given as goal

abbrev pub invariant-loop-reply : goal.invariant-loop-reply
invariant-loop-reply l = record {
  goes : Going l.initial.text.items l.text.items
      (calls_text l.workload l.worker 0 l.script l.replies) (calls_text l.workload l.worker l.place (drop l.place l.script) (drop l.reply-index l.replies)) true true;
  room : LINE_ROOM ≤ vec_capacity l.line;
}
