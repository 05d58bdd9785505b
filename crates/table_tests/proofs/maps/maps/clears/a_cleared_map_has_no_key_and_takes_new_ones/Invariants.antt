use Rattle.table_tests.proofs.maps.maps.clears.a_cleared_map_has_no_key_and_takes_new_ones.Given as goal

abbrev pub ghosts-store_and_clear : goal.ghosts-store_and_clear
ghosts-store_and_clear g a = record { name = a.blank.name; parts = a.blank.parts }
