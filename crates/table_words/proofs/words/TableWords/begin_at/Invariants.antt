use Rattle.table_words.proofs.words.TableWords.begin_at.Given as goal

abbrev pub ghosts-begin_at_as-W-Way : goal.ghosts-begin_at_as-W-Way
ghosts-begin_at_as-W-Way a = record { map = a.map; key = 0 }

abbrev pub ghosts-begin_at_as-W-Timed : goal.ghosts-begin_at_as-W-Timed
ghosts-begin_at_as-W-Timed a = record { time = a._time.time }
