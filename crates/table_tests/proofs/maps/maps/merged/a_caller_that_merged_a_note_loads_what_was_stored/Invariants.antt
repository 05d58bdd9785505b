use Rattle.table_tests.proofs.maps.maps.merged.a_caller_that_merged_a_note_loads_what_was_stored.Given as goal

abbrev pub ghosts-store_then_load : goal.ghosts-store_then_load
ghosts-store_then_load g a = record { name = a.blank.name; parts = a.blank.parts }
