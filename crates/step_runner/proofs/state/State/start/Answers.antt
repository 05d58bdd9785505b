use Rattle.step_runner.proofs.PlaceLemmas.{start_kept}
use Rattle.step_runner.proofs.state.State.start.Goals as goal

pub returns-clause-of : goal.returns-clause-of
returns-clause-of c =
    rw (c.in_ok-objects.ensures, c.in_ok-replies.ensures, c.in_ok-begun.ensures, c.in_ok-stands.ensures, c.in_ok-places.ensures, c.in_ok-groups.ensures, c.workers-workers.ensures.workers)
    (start_kept c.args.workload.now (c.validity.ensures.begins c.args.workload.now c.workers-workers.ensures.valid))
