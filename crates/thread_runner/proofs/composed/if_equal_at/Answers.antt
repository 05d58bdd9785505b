use Rattle.thread_runner.proofs.Working.{reads}
use Rattle.thread_runner.proofs.composed.if_equal_at.Goals as goal

pub returns-clause-works : goal.returns-clause-works
returns-clause-works g c = λ owns. reads _ _ _ _ _ _ c.compared.ensures (c.test_at.ensures.works owns)
