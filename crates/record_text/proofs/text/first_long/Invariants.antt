use Rattle.std.proofs.Common.{◌≡◌, ◌+◌, ◌≤◌, true, ℕ, length}
use Rattle.std.specs.List.{list_all}
use Rattle.workload.specs.Lines.{lines_of}
use Rattle.record_text.specs.Refused.{FirstLong}
use Rattle.record_text.specs.Told.{is_short_line}
use Rattle.record_text.proofs.text.first_long.Given as goal

abbrev pub invariant-loop-rest : goal.invariant-loop-rest
invariant-loop-rest l = record {
  within : l.next + length l.rest ≤ l.first + length l.report;
  long : (at : ℕ) → FirstLong (lines_of l.rest) l.next at → FirstLong (lines_of l.report) l.first at;
  short : list_all is_short_line (lines_of l.rest) ≡ true → list_all is_short_line (lines_of l.report) ≡ true;
}

abbrev pub decreases-loop-rest : goal.decreases-loop-rest
decreases-loop-rest l = length l.rest
