use Rattle.std.proofs.Common.{◌≡◌, ◌-◌, ◌*◌, ◌++◌}
use Rattle.rand_core.specs.Steps.{first_words}
use Rattle.rand_pcg.specs.Lcg.{advance}
use Rattle.rand_pcg.specs.Pcg.{multiplier_64, pcg32}
use Rattle.made_workload.specs.Written.{rounds_text}
use Rattle.made_workload.proofs.generating.put_rounds.Given as goal

abbrev pub invariant-loop-round : goal.invariant-loop-round
invariant-loop-round l = record {
  text : l.text.items ++ rounds_text l.worker (first_words pcg32 (2 * (500 - l._round)) l.generator) ≡ l.initial.text.items ++ rounds_text l.worker (first_words pcg32 1000 l.initial.generator);
  generator : advance 64 multiplier_64 (2 * (500 - l._round)) l.generator ≡ advance 64 multiplier_64 1000 l.initial.generator;
}
