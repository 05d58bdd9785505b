use Rattle.protocols.proofs.RwExpected.{rw_expected}
use Rattle.protocols.proofs.rw_mutex.RwCoreProtocol.laws.Goals as goal

pub returns-clause-expected : goal.returns-clause-expected
returns-clause-expected c = rw_expected c.standing.ensures.answered c.standing.ensures.out c.still.ensures.unmade c.validity.ensures.callers
