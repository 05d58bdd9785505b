use Rattle.table_tests.proofs.maps.maps.ranges.a_walk_goes_on_in_what_was_cut_off.Given as goal

abbrev pub ghosts-walk_over_a_cut : goal.ghosts-walk_over_a_cut
ghosts-walk_over_a_cut g a = record { name = a.blank.name; parts = a.blank.parts }
