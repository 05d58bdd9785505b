use Rattle.std.proofs.Common.{◌≡◌, ◌++◌, drop, map}
use Rattle.workload.specs.Canonical.{object_line, lines_text}
use Rattle.workload_text.proofs.printing.put_objects.Given as goal

abbrev pub invariant-loop-object : goal.invariant-loop-object
invariant-loop-object l =
    l.text.items ++ lines_text (map (object_line l.objects) (drop l.object-index l.objects)) ≡ l.initial.text.items ++ lines_text (map (object_line l.objects) l.objects)
