use Rattle.table_words.proofs.words.TableWords.mount.Given as goal

abbrev pub ghosts-mount_as : goal.ghosts-mount_as
ghosts-mount_as a = record { time = a._time.time }
