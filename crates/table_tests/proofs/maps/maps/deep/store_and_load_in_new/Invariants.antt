use Rattle.table_tests.proofs.maps.maps.deep.store_and_load_in_new.Given as goal

abbrev pub ghosts-store_and_load : goal.ghosts-store_and_load
ghosts-store_and_load g a = record { name = a.blank.name; parts = a.blank.parts }
