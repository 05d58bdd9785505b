use Rattle.table_rule.proofs.Holders.{one_closer, closed_word, closed_alone}
use Rattle.table_rule.proofs.laws.a_closed_gate_is_one_seats.Goals as goal

pub returns-clause-one : goal.returns-clause-one
returns-clause-one c = one_closer

pub returns-clause-word : goal.returns-clause-word
returns-clause-word c = closed_word

pub returns-clause-nobody : goal.returns-clause-nobody
returns-clause-nobody c = closed_alone
