use Rattle.std.proofs.Common.{◌≡◌, ◌++◌, map, length}
use Rattle.workload.specs.declared.line.Line.TheVariants as lines
use Rattle.workload.specs.Canonical.{eights, lines_text}
use Rattle.workload_text.proofs.printing.put_schedule.Given as goal

abbrev pub invariant-loop-rest : goal.invariant-loop-rest
invariant-loop-rest l =
    l.text.items ++ lines_text (map (λ turns. lines.Schedule turns) (eights 7 l.rest)) ≡ l.initial.text.items ++ lines_text (map (λ turns. lines.Schedule turns) (eights 7 l.schedule))

abbrev pub decreases-loop-rest : goal.decreases-loop-rest
decreases-loop-rest l = length l.rest
