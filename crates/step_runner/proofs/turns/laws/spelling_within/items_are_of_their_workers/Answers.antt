use Rattle.step_runner.proofs.SpeltWithin.{own_items, no_others}
use Rattle.step_runner.proofs.turns.laws.spelling_within.items_are_of_their_workers.Goals as goal

pub returns-clause-own : goal.returns-clause-own
returns-clause-own c worker moment begun call objects = own_items c.items_are_their_workers.ensures.own worker moment begun call.object call.operation objects

pub returns-clause-others : goal.returns-clause-others
returns-clause-others c worker other moment begun call objects apart = no_others c.items_are_their_workers.ensures.others worker other moment begun call.object call.operation objects apart
