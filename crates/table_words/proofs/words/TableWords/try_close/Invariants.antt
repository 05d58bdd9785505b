use Rattle.table_words.proofs.words.TableWords.try_close.Given as goal

abbrev pub ghosts-close_as-W-Way : goal.ghosts-close_as-W-Way
ghosts-close_as-W-Way g a = record { map = a.map; key = 0 }

abbrev pub ghosts-close_as-W-Timed : goal.ghosts-close_as-W-Timed
ghosts-close_as-W-Timed g a = record { time = a._time.time }
