use Rattle.shared_table.proofs.tests.a_lookup_that_began_before_a_clear_finds_what_was_there.Given as goal

abbrev pub ghosts-look_over_a_clear : goal.ghosts-look_over_a_clear
ghosts-look_over_a_clear g a = record { name = a.blank.name; parts = a.blank.parts }
