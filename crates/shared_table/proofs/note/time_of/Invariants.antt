use Rattle.shared_table.proofs.note.time_of.Given as goal

abbrev pub ghost-picked : goal.ghost-picked
ghost-picked a = a._seat.now.me.0.time
