use Rattle.std.proofs.Common.{◌≡◌, ◌≤◌, take}
use Rattle.thread_runner.specs.Sites.{cost_of_calls}
use Rattle.thread_runner.proofs.counts.script_cost.Given as goal

abbrev pub invariant-loop-call : goal.invariant-loop-call
invariant-loop-call l = record {
  cost : l.cost ≡ cost_of_calls (take l.call-index l.script);
  small : l.cost ≤ l.call-index;
}
