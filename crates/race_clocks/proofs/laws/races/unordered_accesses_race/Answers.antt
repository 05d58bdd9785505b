use Rattle.race_clocks.proofs.RaceLaws.{unordered, told_once}
use Rattle.race_clocks.proofs.laws.races.unordered_accesses_race.Goals as goal

pub returns-clause-race : goal.returns-clause-race
returns-clause-race c plan trace i j x y a b at_x at_y of_x of_y variable writes earlier apart = unordered plan trace i j x y a b at_x at_y of_x of_y variable writes earlier apart

pub returns-clause-once : goal.returns-clause-once
returns-clause-once c = told_once
