use Rattle.race_clocks.proofs.Ordered.{writer_row}
use Rattle.race_clocks.proofs.laws.locks.a_writers_unlock_is_before_each_later_lock_and_rlock.Goals as goal

pub returns : goal.returns
returns c plan trace i j o w v d e earlier one two unlock locks = writer_row plan trace i j o w v d e earlier one two unlock locks
