use Rattle.run_record.proofs.WriteLocks.{ends_at_first}
use Rattle.run_record.proofs.laws.writers.a_writers_lock_ends_once.Goals as goal

pub returns : goal.returns
returns c = ends_at_first
