use Rattle.std.proofs.Common.{◌≡◌, ◌*◌, ◌^◌, ◌≤◌, take, length}
use Rattle.std.specs.Prelude.{sum_by}
use Rattle.made_workload.proofs.sums.reply_count.Given as goal

abbrev pub invariant-loop-completed : goal.invariant-loop-completed
invariant-loop-completed l = (l.count ≡ sum_by length (take l.completed-index l.replies)) × (l.count ≤ l.completed-index * 2 ^ 64)
