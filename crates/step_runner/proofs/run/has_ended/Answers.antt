use Rattle.std.proofs.Common.{sym, ◌∙◌, arith}
use Rattle.step_runner.proofs.RoundLemmas.{ended_where, not_ended}
use Rattle.step_runner.proofs.run.has_ended.Goals as goal

pub returns-then-has_next : goal.returns-then-has_next
returns-then-has_next c = sym (not_ended c.args.workload.now c.args.state.now.state c.loop-worker.worker c.requires.of (sym c.has_next.ensures ∙ c.if-has_next.true))

pub returns : goal.returns
returns c = sym (ended_where c.args.workload.now c.args.state.now.state (λ k below. c.loop-worker.invariant k (omega (arith, c.workers-worker-end.ensures.workers))))
