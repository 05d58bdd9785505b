use Rattle.run_record.proofs.WriterWaits.{leaves, waits, stills}
use Rattle.run_record.proofs.laws.writers.a_granted_writer_leaves.Goals as goal

pub returns-clause-leaves : goal.returns-clause-leaves
returns-clause-leaves c = leaves

pub returns-clause-waits : goal.returns-clause-waits
returns-clause-waits c = waits

pub returns-clause-stills : goal.returns-clause-stills
returns-clause-stills c = stills
