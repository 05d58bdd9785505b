use Rattle.run_record.proofs.WriterWaits.{behind, inner}
use Rattle.run_record.proofs.laws.writers.a_writer_goes_on_where_it_waits.Goals as goal

pub returns-clause-behind : goal.returns-clause-behind
returns-clause-behind c = behind

pub returns-clause-inner : goal.returns-clause-inner
returns-clause-inner c = inner
