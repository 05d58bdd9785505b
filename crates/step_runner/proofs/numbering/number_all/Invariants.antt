use Rattle.std.proofs.Common.{◌≡◌, map}
use Rattle.script_calls.specs.Outcome.{with_keys_renamed}
use Rattle.workload.specs.Keys.{key_number}
use Rattle.step_runner.proofs.numbering.number_all.Given as goal

abbrev pub invariant-loop-replies : goal.invariant-loop-replies
invariant-loop-replies l = l.all ≡ map (map (with_keys_renamed (key_number l.keys))) l.yielded
