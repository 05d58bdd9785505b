use Rattle.std.proofs.Common.{◌≡◌, ◌++◌, drop}
use Rattle.step_runner.proofs.copying.copied_pairs.Given as goal

abbrev pub invariant-loop-key : goal.invariant-loop-key
invariant-loop-key l = l.copied ++ drop l.key-index l.pairs ≡ l.pairs
