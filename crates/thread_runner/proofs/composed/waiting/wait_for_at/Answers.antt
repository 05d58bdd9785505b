use Rattle.thread_runner.proofs.Working.{reads}
use Rattle.thread_runner.proofs.composed.waiting.wait_for_at.Goals as goal

pub returns-clause-works : goal.returns-clause-works
returns-clause-works g c = reads _ _ _ _ _ _ c.compared.ensures c.wait_until.ensures.works
