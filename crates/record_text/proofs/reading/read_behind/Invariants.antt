use Rattle.std.proofs.Common.{◌+◌, ◌≤◌, length}
use Rattle.workload.specs.Lines.{lines_of}
use Rattle.record_text.proofs.BehindLemmas.{Goes}
use Rattle.record_text.proofs.reading.read_behind.Given as goal

abbrev pub invariant-loop-rest : goal.invariant-loop-rest
invariant-loop-rest l = record {
  goes : Goes l.workload (lines_of l.text) l.first l.items (lines_of l.rest) l.next;
  within : l.next + length l.rest ≤ l.first + length l.text;
  some : 2 ≤ l.next;
}

abbrev pub decreases-loop-rest : goal.decreases-loop-rest
decreases-loop-rest l = length l.rest
