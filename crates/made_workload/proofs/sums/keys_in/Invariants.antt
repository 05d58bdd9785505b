use Rattle.std.proofs.Common.{◌≡◌, ◌*◌, ◌^◌, ◌≤◌, take}
use Rattle.std.specs.Prelude.{count_by}
use Rattle.made_workload.specs.Runs.{is_key}
use Rattle.made_workload.proofs.sums.keys_in.Given as goal

abbrev pub invariant-loop-end : goal.invariant-loop-end
invariant-loop-end l = (l.keys ≡ count_by is_key (take l.end-index l.ends)) × (l.keys ≤ l.end-index * 2 ^ 64)
