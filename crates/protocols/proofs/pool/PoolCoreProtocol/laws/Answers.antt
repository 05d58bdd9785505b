use Rattle.protocols.proofs.Expected.{pool_expected}
use Rattle.protocols.proofs.pool.PoolCoreProtocol.laws.Goals as goal

pub returns-clause-expected : goal.returns-clause-expected
returns-clause-expected c callers caller now start log stage begins follows below may =
    pool_expected c.answers_its_callers.ensures callers caller now start log stage begins below may
