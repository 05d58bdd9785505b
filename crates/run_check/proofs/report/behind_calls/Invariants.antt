use Rattle.std.proofs.Common.{◌≤◌, drop}
use Rattle.std.specs.Vec.{vec_capacity}
use Rattle.workload_text.specs.declared.line.TheConstants.{LINE_ROOM}
use Rattle.run_report.specs.ReportText.{calls_text}
use Rattle.run_check.proofs.ReportRest.{Goes}
use Rattle.run_check.proofs.report.behind_calls.Given as goal

abbrev pub invariant-loop-reply : goal.invariant-loop-reply
invariant-loop-reply l = record {
  goes : Goes l.bytes (calls_text l.workload l.worker 0 l.script l.replies) l.rest (calls_text l.workload l.worker l.place (drop l.place l.script) (drop l.reply-index l.replies));
  room : LINE_ROOM ≤ vec_capacity l.line;
}
