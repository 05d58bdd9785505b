-- What is found from here on is what is found from the start.
use Rattle.std.proofs.Common.{◌≡◌, drop}
use Rattle.script_calls.specs.Starts.{group_of}
use Rattle.workload.proofs.groups.group_of.Given as goal

abbrev pub invariant-loop-script : goal.invariant-loop-script
invariant-loop-script l = group_of l.worker (drop l.script-index l.scripts) ≡ group_of l.worker l.scripts
