use Rattle.pool_core.specs.PartMachine.{part_next}
use Rattle.sync_model.specs.Log.{after}
use Rattle.protocols.proofs.Expected.{part_expected}
use Rattle.protocols.proofs.pool_part.PartCoreProtocol.laws.Goals as goal

pub returns-clause-expected : goal.returns-clause-expected
returns-clause-expected c callers caller now start log stage begins follows below may =
    part_expected c.a_part_answers.ensures (after part_next start log) caller now stage
