use Rattle.table_words.proofs.words.TableWords.look_inside.Given as goal

abbrev pub ghosts-look_inside_as : goal.ghosts-look_inside_as
ghosts-look_inside_as a = record { map = a.map; key = 0 }
