use Rattle.table_words.proofs.words.TableWords.enter_uncounted.Given as goal

abbrev pub ghosts-enter_as-W-Way : goal.ghosts-enter_as-W-Way
ghosts-enter_as-W-Way a = record { map = a.map; key = a._key }

abbrev pub ghosts-enter_as-W-Timed : goal.ghosts-enter_as-W-Timed
ghosts-enter_as-W-Timed a = record { time = a.seat.now.me.0.time }
