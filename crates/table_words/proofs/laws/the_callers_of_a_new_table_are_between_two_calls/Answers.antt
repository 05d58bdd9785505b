use Rattle.std.proofs.Common.{refl}
use Rattle.table_words.proofs.AtRest.{at_rest}
use Rattle.table_words.proofs.Opening.{opens}
use Rattle.table_words.proofs.laws.the_callers_of_a_new_table_are_between_two_calls.Goals as goal

pub returns-clause-rule : goal.returns-clause-rule
returns-clause-rule c = λ k words begin blank. opens k begin words blank c.history_laws.ensures

pub returns-clause-seat : goal.returns-clause-seat
returns-clause-seat c = λ k words. (refl, refl)

pub returns-clause-callers : goal.returns-clause-callers
returns-clause-callers c = at_rest
