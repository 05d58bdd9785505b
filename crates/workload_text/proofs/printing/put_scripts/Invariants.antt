use Rattle.std.proofs.Common.{◌≡◌, ◌++◌, drop}
use Rattle.workload.specs.Canonical.{script_lines, lines_text}
use Rattle.workload_text.proofs.printing.put_scripts.Given as goal

abbrev pub invariant-loop-worker : goal.invariant-loop-worker
invariant-loop-worker l =
    l.text.items ++ lines_text (script_lines l.workload.objects l.worker (drop l.worker l.workload.scripts)) ≡ l.initial.text.items ++ lines_text (script_lines l.workload.objects 0 l.workload.scripts)
