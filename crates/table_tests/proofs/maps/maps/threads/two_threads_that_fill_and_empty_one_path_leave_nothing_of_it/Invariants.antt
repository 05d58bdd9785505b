use Rattle.table_tests.proofs.maps.maps.threads.two_threads_that_fill_and_empty_one_path_leave_nothing_of_it.Given as goal

abbrev pub ghosts-load_and_store : goal.ghosts-load_and_store
ghosts-load_and_store g a = record { name = a.blank.name; parts = a.blank.parts }
