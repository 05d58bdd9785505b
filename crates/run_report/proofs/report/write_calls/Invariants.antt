use Rattle.std.proofs.Common.{◌≤◌, drop}
use Rattle.std.specs.Vec.{vec_capacity}
use Rattle.workload_text.specs.declared.line.TheConstants.{LINE_ROOM}
use Rattle.run_report.specs.ReportText.{calls_text, completed_in}
use Rattle.run_report.proofs.WriteCounts.{Writing}
use Rattle.run_report.proofs.Writing.{Goes}
use Rattle.run_report.proofs.report.write_calls.Given as goal

abbrev pub invariant-loop-reply : goal.invariant-loop-reply
invariant-loop-reply g l = record {
  goes : Goes (g.O.Sink.contents l.initial.out) (g.O.Sink.contents l.out)
      (calls_text l.workload l.worker 0 l.script l.replies)
      (calls_text l.workload l.worker l.place (drop l.place l.script) (drop l.reply-index l.replies));
  writes : Writing (g.O.Sink.writes l.initial.out) (g.O.Sink.writes l.out) (completed_in l.script l.replies) (completed_in (drop l.place l.script) (drop l.reply-index l.replies));
  faults : g.O.Sink.faults l.initial.out ≤ g.O.Sink.faults l.out;
  room : LINE_ROOM ≤ vec_capacity l.line;
}
