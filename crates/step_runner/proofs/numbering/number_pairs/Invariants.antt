use Rattle.std.proofs.Common.{◌≡◌, map}
use Rattle.workload.specs.Keys.{key_number}
use Rattle.step_runner.proofs.numbering.number_pairs.Given as goal

abbrev pub invariant-loop-key : goal.invariant-loop-key
invariant-loop-key l = l.numbered ≡ map (λ pair. (key_number l.keys pair.0, pair.1)) l.yielded
