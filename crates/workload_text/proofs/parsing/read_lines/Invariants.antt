use Rattle.std.proofs.Common.{◌+◌, ◌≤◌, length}
use Rattle.workload.specs.Lines.{lines_of}
use Rattle.workload_text.proofs.ReadLemmas.{Goes}
use Rattle.workload_text.proofs.parsing.read_lines.Given as goal

abbrev pub invariant-loop-rest : goal.invariant-loop-rest
invariant-loop-rest l = Goes l.dialect (lines_of l.bytes) l.draft (lines_of l.rest) l.next × (l.next + length l.rest ≤ length l.bytes + 1) × (1 ≤ l.next)

abbrev pub decreases-loop-rest : goal.decreases-loop-rest
decreases-loop-rest l = length l.rest
