use Rattle.std.proofs.Common.{◌≤◌, length, drop}
use Rattle.std.specs.Vec.{vec_capacity}
use Rattle.run_report.specs.declared.numbers.TheConstants.{NUMBER_ROOM}
use Rattle.run_report.specs.NumberLines.{number_lines}
use Rattle.run_report.proofs.WriteCounts.{Writing}
use Rattle.run_report.proofs.Writing.{Goes}
use Rattle.run_report.proofs.numbers.write_number_lines.Given as goal

abbrev pub invariant-loop-word : goal.invariant-loop-word
invariant-loop-word g l = record {
  goes : Goes (g.O.Sink.contents l.initial.out) (g.O.Sink.contents l.out) (number_lines l.entries) (number_lines (drop l.word-index l.entries));
  writes : Writing (g.O.Sink.writes l.initial.out) (g.O.Sink.writes l.out) (length l.entries) (length (drop l.word-index l.entries));
  faults : g.O.Sink.faults l.initial.out ≤ g.O.Sink.faults l.out;
  room : NUMBER_ROOM ≤ vec_capacity l.line;
}
