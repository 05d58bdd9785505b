use Rattle.table_words.proofs.words.TableWords.look.Given as goal

abbrev pub ghosts-look_as : goal.ghosts-look_as
ghosts-look_as g a = record { call = a._call; map = a.map }
