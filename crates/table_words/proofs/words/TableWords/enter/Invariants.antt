use Rattle.table_words.proofs.words.TableWords.enter.Given as goal

abbrev pub ghosts-enter_told-W-Way : goal.ghosts-enter_told-W-Way
ghosts-enter_told-W-Way g a = record { map = a.map; key = a.key }

abbrev pub ghosts-enter_told-W-Timed : goal.ghosts-enter_told-W-Timed
ghosts-enter_told-W-Timed g a = record { time = a._time.time }
