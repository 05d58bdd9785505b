use Rattle.std.proofs.Common.{◌≡◌, ◌++◌, drop, map}
use Rattle.workload.specs.Canonical.{call_line, lines_text}
use Rattle.workload_text.proofs.printing.put_calls.Given as goal

abbrev pub invariant-loop-call : goal.invariant-loop-call
invariant-loop-call l =
    l.text.items ++ lines_text (map (call_line l.objects) (drop l.call-index l.calls)) ≡ l.initial.text.items ++ lines_text (map (call_line l.objects) l.calls)
