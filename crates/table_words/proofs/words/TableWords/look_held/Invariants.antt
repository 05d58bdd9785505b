use Rattle.table_words.proofs.words.TableWords.look_held.Given as goal

abbrev pub ghosts-look_held_as : goal.ghosts-look_held_as
ghosts-look_held_as a = record { call = a._call; map = a.map }
