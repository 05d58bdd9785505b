use Rattle.vector_clocks.proofs.HandedLemmas.{own_before, handed_before}
use Rattle.vector_clocks.proofs.laws.steps_are_ordered.Goals as goal

pub returns-clause-own : goal.returns-clause-own
returns-clause-own c = own_before

pub returns-clause-handed : goal.returns-clause-handed
returns-clause-handed c = handed_before
