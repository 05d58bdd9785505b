-- What is found from here on is what is found from the start.
use Rattle.std.proofs.Common.{◌≡◌, drop}
use Rattle.script_calls.specs.Starts.{group_in}
use Rattle.workload.proofs.groups.group_in.Given as goal

abbrev pub invariant-loop-call : goal.invariant-loop-call
invariant-loop-call l = group_in l.worker (drop l.call-index l.script) ≡ group_in l.worker l.script
