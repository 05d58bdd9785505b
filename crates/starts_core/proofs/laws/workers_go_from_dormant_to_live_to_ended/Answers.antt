use Rattle.starts_core.proofs.Standing.{moves, keeps_ended, made_live, made_ended, starts_nobody}
use Rattle.starts_core.proofs.laws.workers_go_from_dormant_to_live_to_ended.Goals as goal

pub returns-clause-moves : goal.returns-clause-moves
returns-clause-moves c = moves

pub returns-clause-ended : goal.returns-clause-ended
returns-clause-ended c = keeps_ended

pub returns-clause-started : goal.returns-clause-started
returns-clause-started c = made_live

pub returns-clause-done : goal.returns-clause-done
returns-clause-done c = made_ended

pub returns-clause-nobody : goal.returns-clause-nobody
returns-clause-nobody c = starts_nobody
