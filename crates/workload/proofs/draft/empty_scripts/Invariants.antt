use Rattle.std.proofs.Common.{◌≡◌, [], replicate}
use Rattle.workload.proofs.draft.empty_scripts.Given as goal

abbrev pub invariant-loop : goal.invariant-loop
invariant-loop l = l.scripts ≡ replicate l.counter []
