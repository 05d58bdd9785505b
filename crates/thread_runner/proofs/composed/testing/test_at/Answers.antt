use Rattle.thread_runner.proofs.Working.{reads}
use Rattle.thread_runner.proofs.composed.testing.test_at.Goals as goal

pub returns-clause-works : goal.returns-clause-works
returns-clause-works g c = λ owns. reads _ _ _ _ _ _ c.met.ensures (c.atomic_at.ensures.works owns)
