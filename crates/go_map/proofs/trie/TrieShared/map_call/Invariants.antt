use Rattle.go_map.proofs.trie.TrieShared.map_call.Given as goal

abbrev pub ghosts-load : goal.ghosts-load
ghosts-load g a = record { name = a.blank.name; parts = a.blank.parts }
