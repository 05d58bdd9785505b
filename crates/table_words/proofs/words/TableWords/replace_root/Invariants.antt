use Rattle.table_words.proofs.words.TableWords.replace_root.Given as goal

abbrev pub ghosts-replace_root_as : goal.ghosts-replace_root_as
ghosts-replace_root_as a = record { map = a.map; key = 0 }
