use Rattle.std.proofs.Common.{◌≡◌, ◌*◌, ◌^◌, ◌≤◌, take}
use Rattle.std.specs.Prelude.{sum_by}
use Rattle.made_workload.specs.Runs.{number_in}
use Rattle.made_workload.proofs.sums.total_in.Given as goal

abbrev pub invariant-loop-end : goal.invariant-loop-end
invariant-loop-end l = (l.total ≡ sum_by number_in (take l.end-index l.ends)) × (l.total ≤ l.end-index * 2 ^ 64)
