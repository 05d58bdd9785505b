use Rattle.table_words.proofs.words.TableWords.publish.Given as goal

abbrev pub ghosts-publish_as : goal.ghosts-publish_as
ghosts-publish_as a = record { call = a._call; map = a._map }
