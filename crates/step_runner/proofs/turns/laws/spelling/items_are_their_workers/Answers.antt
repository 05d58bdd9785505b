use Rattle.step_runner.proofs.Callers.{by_itself, by_no_other}
use Rattle.step_runner.proofs.turns.laws.spelling.items_are_their_workers.Goals as goal

pub returns-clause-own : goal.returns-clause-own
returns-clause-own c worker moment call objects = by_itself call worker moment objects

pub returns-clause-others : goal.returns-clause-others
returns-clause-others c worker other moment call objects apart = by_no_other call worker other moment objects apart
