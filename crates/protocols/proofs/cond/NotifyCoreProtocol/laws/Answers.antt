use Rattle.protocols.proofs.Expected.{cond_expected}
use Rattle.protocols.proofs.cond.NotifyCoreProtocol.laws.Goals as goal

pub returns-clause-expected : goal.returns-clause-expected
returns-clause-expected c callers caller now start log stage begins follows below may =
    cond_expected c.answers_its_callers.ensures.answers c.answers_its_callers.ensures.callers callers caller now start log stage begins below
