use Rattle.shared_table.proofs.tests.a_lookup_waits_for_no_gate.Given as goal

abbrev pub ghosts-look_beside_a_closed_gate : goal.ghosts-look_beside_a_closed_gate
ghosts-look_beside_a_closed_gate g a = record { name = a.blank.name; parts = a.blank.parts }
