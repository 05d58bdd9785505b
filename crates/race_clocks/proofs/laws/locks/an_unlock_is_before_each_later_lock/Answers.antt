use Rattle.race_clocks.proofs.Ordered.{mutex_row}
use Rattle.race_clocks.proofs.laws.locks.an_unlock_is_before_each_later_lock.Goals as goal

pub returns : goal.returns
returns c plan trace i j o w v d e earlier one two unlock locks = mutex_row plan trace i j o w v d e earlier one two unlock locks
