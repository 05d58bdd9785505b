use Rattle.sync_types.proofs.AtomicLemmas.{or_zero}
use Rattle.sync_types.proofs.laws.atomics.an_and_with_0_clears.Goals as goal

pub returns-clause-or : goal.returns-clause-or
returns-clause-or c = or_zero
