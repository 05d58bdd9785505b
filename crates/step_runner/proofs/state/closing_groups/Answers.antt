use Rattle.std.proofs.Common.{◌++◌, ◌∷◌, [], sym, ◌∙◌, arith}
use Rattle.std.proofs.lemmas.List.FromFn.{map-range_with_len_more}
use Rattle.step_runner.specs.Places.{closing_group}
use Rattle.step_runner.proofs.state.closing_groups.Goals as goal

pub loop-worker-preserved : goal.loop-worker-preserved
loop-worker-preserved c =
    c.in_ok-push.ensures.items ∙ (λ i. c.loop-worker.invariant i ++ c.closing_group.ensures i ∷ [])
    ∙ sym (map-range_with_len_more (closing_group c.args.workload.now) 0 c.loop-worker.worker c.loop-worker.worker (omega arith))
