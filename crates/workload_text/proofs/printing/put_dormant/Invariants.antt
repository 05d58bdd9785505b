use Rattle.std.proofs.Common.{◌≡◌, ◌++◌, drop}
use Rattle.workload.specs.Canonical.{dormant_lines, lines_text}
use Rattle.workload_text.proofs.printing.put_dormant.Given as goal

abbrev pub invariant-loop-worker : goal.invariant-loop-worker
invariant-loop-worker l =
    l.text.items ++ lines_text (dormant_lines l.worker (drop l.worker l.workload.dormant)) ≡ l.initial.text.items ++ lines_text (dormant_lines 0 l.workload.dormant)
