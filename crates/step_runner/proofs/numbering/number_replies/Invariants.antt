use Rattle.std.proofs.Common.{◌≡◌, map}
use Rattle.script_calls.specs.Outcome.{with_keys_renamed}
use Rattle.workload.specs.Keys.{key_number}
use Rattle.step_runner.proofs.numbering.number_replies.Given as goal

abbrev pub invariant-loop-reply : goal.invariant-loop-reply
invariant-loop-reply l = l.numbered ≡ map (with_keys_renamed (key_number l.keys)) l.yielded
