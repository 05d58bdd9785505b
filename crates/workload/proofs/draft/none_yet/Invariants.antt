use Rattle.std.proofs.Common.{◌≡◌, false, replicate}
use Rattle.workload.proofs.draft.none_yet.Given as goal

abbrev pub invariant-loop : goal.invariant-loop
invariant-loop l = l.none.items ≡ replicate l.counter false
