use Rattle.std.proofs.Common.{◌≡◌, ◌*◌, ◌^◌, ◌≤◌, take}
use Rattle.std.specs.Prelude.{sum_by}
use Rattle.made_workload.specs.Runs.{value_in}
use Rattle.made_workload.proofs.sums.values_in.Given as goal

abbrev pub invariant-loop-end : goal.invariant-loop-end
invariant-loop-end l = (l.sum ≡ sum_by value_in (take l.end-index l.ends)) × (l.sum ≤ l.end-index * 2 ^ 64)
