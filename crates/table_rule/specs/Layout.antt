-- The words of a shared table, by what it is made of.
use Rattle.std.specs.Prelude.{ℕ, ◌+◌, ◌*◌, ◌<◌, ◌≤◌, ◌^◌, sum, length}
use Rattle.trie_nodes.specs.Layout as layout
use Rattle.table_rule.specs.declared.begin.Begin.{Begin}

module _ (k : Begin) where
  -- the root word of a map, and the word of its gate
  abbrev pub root_word : ℕ → ℕ
  root_word m = layout.root_word (length k.kinds) m

  abbrev pub gate_word : ℕ → ℕ
  gate_word m = layout.gate_word (length k.kinds) m

  -- the first word behind the dummy, the atomics, and the maps' roots and gates
  abbrev pub heads : ℕ
  heads = layout.heads (length k.kinds) k.maps

  -- the place of the node that is a map's first root
  abbrev pub first_root : ℕ → ℕ
  first_root m = layout.first_root (length k.kinds) k.maps m

  -- where the callers' rooms begin
  abbrev pub first_room : ℕ
  first_room = layout.first_room (length k.kinds) k.maps

  abbrev pub callers_of : ℕ
  callers_of = length k.spares

  -- how many words there are
  abbrev pub size_of : ℕ
  size_of = first_room + layout.unit_words * sum k.spares

  -- what a table may be made of
  pub record IsBegin : Type 0 where
    pub seed : k.seed < 2 ^ 32
    pub some : 0 < callers_of
    pub callers : callers_of ≤ 64
    pub objects : length k.kinds + k.maps ≤ 1000
    pub units : sum k.spares ≤ 1000000
