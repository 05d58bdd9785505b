use Rattle.race_clocks.proofs.Readers.{no_edge, not_before}
use Rattle.race_clocks.proofs.laws.locks.a_readers_unlock_is_not_before_a_later_rlock.Goals as goal

pub returns-clause-edge : goal.returns-clause-edge
returns-clause-edge c = no_edge

pub returns-clause-two : goal.returns-clause-two
returns-clause-two c = not_before
