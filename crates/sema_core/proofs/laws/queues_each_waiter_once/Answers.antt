use Rattle.sema_core.proofs.Steps.{always-queued}
use Rattle.sema_core.proofs.laws.queues_each_waiter_once.Goals as goal

pub returns : goal.returns
returns c = always-queued
