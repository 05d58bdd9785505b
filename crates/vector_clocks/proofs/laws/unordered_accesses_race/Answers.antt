use Rattle.vector_clocks.proofs.RaceLaws.{unordered, told_once}
use Rattle.vector_clocks.proofs.laws.unordered_accesses_race.Goals as goal

pub returns-clause-race : goal.returns-clause-race
returns-clause-race c = unordered

pub returns-clause-once : goal.returns-clause-once
returns-clause-once c = told_once
