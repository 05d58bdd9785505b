use Rattle.go_map.proofs.laws.what_a_call_has_seen_is_of_the_tables_callers.Goals as goal

pub returns-clause-begins : goal.returns-clause-begins
returns-clause-begins c table map call reply old new makes = makes.1.begins

pub returns-clause-entries : goal.returns-clause-entries
returns-clause-entries c table map n call reply old new entry makes at = c.what_was_seen_is_of_the_tables_callers.ensures.entries table new makes.2 n entry at
