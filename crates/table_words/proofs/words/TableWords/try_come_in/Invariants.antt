use Rattle.table_words.proofs.words.TableWords.try_come_in.Given as goal

abbrev pub ghosts-come_in_as-W-Way : goal.ghosts-come_in_as-W-Way
ghosts-come_in_as-W-Way g a = record { map = a.map; key = 0 }

abbrev pub ghosts-come_in_as-W-Timed : goal.ghosts-come_in_as-W-Timed
ghosts-come_in_as-W-Timed g a = record { time = a._time.time }
