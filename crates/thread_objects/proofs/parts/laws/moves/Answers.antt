use Rattle.thread_objects.proofs.Moving.{stays, joined, shared_append}
use Rattle.thread_objects.proofs.parts.laws.moves.Goals as goal

pub returns-clause-none : goal.returns-clause-none
returns-clause-none c = stays

pub returns-clause-joined : goal.returns-clause-joined
returns-clause-joined c = joined

pub returns-clause-shared : goal.returns-clause-shared
returns-clause-shared c = shared_append
