use Rattle.std.proofs.Common.{◌≤◌, length, drop}
use Rattle.std.specs.Vec.{vec_capacity}
use Rattle.workload_text.specs.declared.line.TheConstants.{LINE_ROOM}
use Rattle.run_report.specs.ReportText.{ends_text}
use Rattle.run_report.proofs.WriteCounts.{Writing}
use Rattle.run_report.proofs.Writing.{Goes}
use Rattle.run_report.proofs.report.write_ends.Given as goal

abbrev pub invariant-loop-end : goal.invariant-loop-end
invariant-loop-end g l = record {
  goes : Goes (g.O.Sink.contents l.initial.out) (g.O.Sink.contents l.out)
      (ends_text l.workload l.ends)
      (ends_text l.workload (drop l.end-index l.ends));
  writes : Writing (g.O.Sink.writes l.initial.out) (g.O.Sink.writes l.out) (length l.ends) (length (drop l.end-index l.ends));
  faults : g.O.Sink.faults l.initial.out ≤ g.O.Sink.faults l.out;
  room : LINE_ROOM ≤ vec_capacity l.line;
}
