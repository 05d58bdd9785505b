use Rattle.table_tests.proofs.maps.maps.started.a_started_worker_finds_what_its_starter_stored.Given as goal

abbrev pub ghosts-beside : goal.ghosts-beside
ghosts-beside g a = record { name = a.blank.name; parts = a.blank.parts }
