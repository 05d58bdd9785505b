use Rattle.race_clocks.proofs.ReadersAlone.{own_alone, readers_race}
use Rattle.race_clocks.proofs.laws.locks.readers_are_not_ordered.Goals as goal

pub returns-clause-own : goal.returns-clause-own
returns-clause-own c = own_alone

pub returns-clause-race : goal.returns-clause-race
returns-clause-race c = readers_race
