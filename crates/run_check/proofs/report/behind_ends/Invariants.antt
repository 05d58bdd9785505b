use Rattle.std.proofs.Common.{◌≤◌, drop}
use Rattle.std.specs.Vec.{vec_capacity}
use Rattle.workload_text.specs.declared.line.TheConstants.{LINE_ROOM}
use Rattle.run_report.specs.ReportText.{ends_text}
use Rattle.run_check.proofs.ReportRest.{Goes}
use Rattle.run_check.proofs.report.behind_ends.Given as goal

abbrev pub invariant-loop-end : goal.invariant-loop-end
invariant-loop-end l = record {
  goes : Goes l.bytes (ends_text l.workload l.ends) l.rest (ends_text l.workload (drop l.end-index l.ends));
  room : LINE_ROOM ≤ vec_capacity l.line;
}
