use Rattle.std.proofs.Common.{◌≡◌, replicate}
use Rattle.object_checks.proofs.journals.merging.no_heads.Given as goal

abbrev pub invariant-loop : goal.invariant-loop
invariant-loop l = l.heads.items ≡ replicate l.counter 0
