use Rattle.synced_map.proofs.map.SyncedMapCaller.get.Given as goal

abbrev pub ghosts-load : goal.ghosts-load
ghosts-load g a = record { name = a.blank.name; parts = a.blank.parts }
