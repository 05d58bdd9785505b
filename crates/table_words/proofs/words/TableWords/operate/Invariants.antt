use Rattle.table_words.proofs.words.TableWords.operate.Given as goal

abbrev pub ghosts-operate_as-O-Operation : goal.ghosts-operate_as-O-Operation
ghosts-operate_as-O-Operation a = record { atomic = a.atomic; call = a._call }

abbrev pub ghosts-operate_as-O-Timed : goal.ghosts-operate_as-O-Timed
ghosts-operate_as-O-Timed a = record { time = a._time.time }
