-- What contracts see of a place.
use Rattle.std.specs.Prelude.{ℕ, List, take}
use Rattle.trie_nodes.specs.declared.place.Place.{Place}

-- the nodes from the root down
abbrev pub nodes_of : Place → List ℕ
nodes_of p = take p.depth p.nodes

-- in each the slot where the walk stands, or by which it went down
abbrev pub slots_of : Place → List ℕ
slots_of p = take p.depth p.slots
