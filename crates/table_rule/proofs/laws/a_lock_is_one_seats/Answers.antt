use Rattle.table_rule.proofs.Holders.{holds_inside, holds_word, inside_counted, one_holder, named_holds}
use Rattle.table_rule.proofs.laws.a_lock_is_one_seats.Goals as goal

pub returns-clause-inside : goal.returns-clause-inside
returns-clause-inside c = holds_inside

pub returns-clause-word : goal.returns-clause-word
returns-clause-word c = holds_word

pub returns-clause-counted : goal.returns-clause-counted
returns-clause-counted c = inside_counted

pub returns-clause-one : goal.returns-clause-one
returns-clause-one c = one_holder

pub returns-clause-named : goal.returns-clause-named
returns-clause-named c = named_holds
