use Rattle.std.proofs.Common.{◌≡◌, length}
use Rattle.race_clocks.specs.Stepping.{AreSteps}
use Rattle.race_clocks.proofs.steps.steps_of.Given as goal

abbrev pub invariant-loop-turn : goal.invariant-loop-turn
invariant-loop-turn l = record {
  count : length l.steps.items ≡ l.turn-index;
  are : AreSteps l.workload l.trace l.steps.items l.seen l.numbers;
}
