use Rattle.std.proofs.Common.{◌≡◌, [], replicate}
use Rattle.object_checks.proofs.journals.rows.empty_rows.Given as goal

abbrev pub invariant-loop : goal.invariant-loop
invariant-loop l = l.rows ≡ replicate l.counter []
