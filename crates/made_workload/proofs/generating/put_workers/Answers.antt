use Rattle.std.proofs.Common.{refl, sym, ◌∙◌}
use Rattle.made_workload.specs.Generated.{generator_of}
use Rattle.made_workload.proofs.Draws.{behind_none}
use Rattle.made_workload.proofs.Workers.{worker_more, behind_worker, workers_done}
use Rattle.made_workload.proofs.generating.put_workers.Goals as goal

pub loop-worker-init : goal.loop-worker-init
loop-worker-init c = record { text = refl; generator = c.new-generator.ensures ∙ sym (behind_none (generator_of c.args.seed)) }

pub loop-worker-preserved : goal.loop-worker-preserved
loop-worker-preserved c =
    let there = c.loop-worker-test.true in
    let draws = c.loop-worker.invariant.generator in
    record {
      text = worker_more c.args.seed c.loop-worker.worker _ _ _ c.loop-worker.generator there draws c.in_ok-put_worker.ensures.text c.loop-worker.invariant.text;
      generator = behind_worker c.args.seed c.loop-worker.worker c.loop-worker.generator _ draws c.in_ok-put_worker.ensures.generator;
    }

pub returns : goal.returns
returns c = workers_done c.args.seed c.loop-worker.worker _ _ c.loop-worker-test.false c.loop-worker.invariant.text
