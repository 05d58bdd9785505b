use Rattle.sync_types.proofs.AtomicLemmas.{is_of-after}
use Rattle.sync_types.proofs.laws.atomics.calls_keep_the_type.Goals as goal

pub returns-clause-after : goal.returns-clause-after
returns-clause-after c = is_of-after
