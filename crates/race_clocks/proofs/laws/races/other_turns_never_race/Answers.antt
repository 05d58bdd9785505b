use Rattle.race_clocks.proofs.RaceLaws.{ordered, of_one_worker, first_without, second_without, reads, variables}
use Rattle.race_clocks.proofs.laws.races.other_turns_never_race.Goals as goal

pub returns-clause-ordered : goal.returns-clause-ordered
returns-clause-ordered c = ordered

pub returns-clause-own : goal.returns-clause-own
returns-clause-own c = of_one_worker

pub returns-clause-first : goal.returns-clause-first
returns-clause-first c = first_without

pub returns-clause-second : goal.returns-clause-second
returns-clause-second c = second_without

pub returns-clause-reads : goal.returns-clause-reads
returns-clause-reads c = reads

pub returns-clause-variables : goal.returns-clause-variables
returns-clause-variables c = variables
