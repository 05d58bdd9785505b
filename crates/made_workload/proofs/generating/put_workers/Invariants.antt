use Rattle.std.proofs.Common.{◌≡◌, ◌-◌, ◌*◌, ◌++◌}
use Rattle.rand_pcg.specs.Lcg.{advance}
use Rattle.rand_pcg.specs.Pcg.{multiplier_64}
use Rattle.made_workload.specs.Generated.{generator_of}
use Rattle.made_workload.specs.Written.{workers_text}
use Rattle.made_workload.proofs.generating.put_workers.Given as goal

abbrev pub invariant-loop-worker : goal.invariant-loop-worker
invariant-loop-worker l = record {
  text : l.text.items ++ workers_text l.seed l.worker (8 - l.worker) ≡ l.initial.text.items ++ workers_text l.seed 0 8;
  generator : l.generator ≡ advance 64 multiplier_64 (1000 * l.worker) (generator_of l.seed);
}
