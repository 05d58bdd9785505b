use Rattle.record_clauses.specs.declared.clause.Clause.TheVariants.{Report}
use Rattle.record_clauses.proofs.Explaining.{explained, all_hold}
use Rattle.record_clauses.proofs.laws.the_clauses_say_that_the_record_explains_the_outcome.Goals as goal

pub returns-clause-explains : goal.returns-clause-explains
returns-clause-explains c claim account all = (explained claim account c.the_law_is_its_parts.ensures all, all Report)

pub returns-clause-holds : goal.returns-clause-holds
returns-clause-holds c claim account explains clause same calls numbers report =
    all_hold claim account c.the_law_is_its_parts.ensures c.each_journal_keeps_the_edge_law.ensures c.halts_stand_behind_all_else.ensures explains same calls numbers report clause
