use Rattle.shared_table.proofs.note.picked.Given as goal

abbrev pub ghost-at : goal.ghost-at
ghost-at g a = g.time
