use Rattle.std.proofs.Common.{◌≤◌, take}
use Rattle.std.specs.List.{flat_map}
use Rattle.std.specs.Vec.{vec_capacity}
use Rattle.sync_outside.specs.Bytes.{Appends}
use Rattle.workload_text.specs.declared.line.TheConstants.{LINE_ROOM}
use Rattle.run_report.specs.Writes.{Wrote}
use Rattle.race_clocks.specs.RaceText.{race_line}
use Rattle.race_clocks.proofs.report.report.write_race_lines.Given as goal

abbrev pub invariant-loop-race : goal.invariant-loop-race
invariant-loop-race g l = record {
  wrote : Appends (g.O.Sink.contents l.initial.out) (g.O.Sink.contents l.out) (flat_map (race_line l.workload) (take l.race-index l.races));
  writes : Wrote (g.O.Sink.writes l.initial.out) (g.O.Sink.writes l.out) l.race-index;
  faults : g.O.Sink.faults l.initial.out ≤ g.O.Sink.faults l.out;
  room : LINE_ROOM ≤ vec_capacity l.line;
}
