use Rattle.shared_table.specs.Tables.{first_of}
use Rattle.go_atomic.proofs.AtTheEnd.{found}
use Rattle.go_atomic.proofs.laws.a_load_answers_what_all_that_was_seen_leaves.Goals as goal

pub returns-clause-load : goal.returns-clause-load
returns-clause-load c table atomic number old new makes = found (first_of table) atomic number _ _ makes.1 makes.3 (c.histories_go_on.ensures.all (first_of table))

pub returns-clause-begins : goal.returns-clause-begins
returns-clause-begins c table atomic call reply old new makes = makes.1.begins

pub returns-clause-entries : goal.returns-clause-entries
returns-clause-entries c table atomic n call reply old new entry makes at = c.what_was_seen_is_of_the_tables_callers.ensures.entries table new makes.2 n entry at
