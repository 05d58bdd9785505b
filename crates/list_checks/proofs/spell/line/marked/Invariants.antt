use Rattle.std.proofs.Common.{◌≡◌}
use Rattle.list_checks.specs.CallMarks.{up_to}
use Rattle.list_checks.proofs.spell.line.marked.Given as goal

abbrev pub invariant-loop : goal.invariant-loop
invariant-loop l = l.marks ≡ record l.fn.calls { items = up_to l.fn.calls.items l.counter l.call }
