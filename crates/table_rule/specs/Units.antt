-- What a call that writes adds to a map: one unit of its caller's room has the call's entry, and behind it the nodes of a chain, where there is one.
use Rattle.std.specs.Prelude.{ℕ, zero, suc, ◌+◌, ◌-◌, ◌*◌, ◌/◌, ◌%◌, ◌==◌, ◌&&◌, Bool, cond, nat_lt, nat_le, List, length, Some, None, bytes_eq}
use Rattle.trie_nodes.specs.declared.plan.Expansion.{Expansion}
use Rattle.trie_nodes.specs.declared.slot.Slot.TheVariants.{Node}
use Rattle.trie_nodes.specs.Paths.{nibble, route}
use Rattle.trie_nodes.specs.Plans.{one_slot, place_before, last_slots}
use Rattle.trie_nodes.specs.Slots.{word_of_slot}
use Rattle.table_rule.specs.Shape.{Shape}

-- the place of number i of a unit's nodes
abbrev pub link_at : ℕ → ℕ → ℕ
link_at unit i = unit + 2 + 18 * i

-- the shape with an entry and so many nodes more, which stand in one unit: the nodes of levels d + 1 and on, of a key's path in map m
module _ (sh : Shape) (seed m d key unit nodes : ℕ) where
  -- a word of the entry, and one of the nodes
  abbrev pub in_entry : ℕ → Bool
  in_entry i = nat_le unit i && nat_lt i (unit + 2)

  abbrev pub in_links : ℕ → Bool
  in_links i = nat_le (unit + 2) i && nat_lt i (unit + 2 + 18 * nodes)

  -- which of the nodes a word is part of
  abbrev pub link_of : ℕ → ℕ
  link_of i = (i - (unit + 2)) / 18

  -- a place where one of the nodes begins
  abbrev pub is_link : ℕ → Bool
  is_link i = in_links i && (link_at unit (link_of i) == i)

  -- the path of one of the nodes
  abbrev pub is_link_path : List ℕ → Bool
  is_link_path path = nat_lt d (length path) && (nat_le (length path) (d + nodes) && bytes_eq path (route seed (length path) key))

  abbrev pub with_unit : Shape
  with_unit = record {
    node_at = λ n path. cond ((n == m) && is_link_path path) (Some (link_at unit (length path - suc d))) (sh.node_at n path);
    kind_of = λ p. cond (p == unit) 2 (cond (is_link p) 1 (sh.kind_of p));
    part_of = λ i. cond (in_entry i) unit (cond (in_links i) (link_at unit (link_of i)) (sh.part_of i));
    map_of = λ p. cond (in_links p) m (sh.map_of p);
    path_of = λ p. cond (in_links p) (route seed (suc d + link_of p) key) (sh.path_of p);
    cut_of = λ p. cond (in_links p) None (sh.cut_of p);
    held_by = λ p. cond (in_links p) 0 (sh.held_by p);
    area_of = sh.area_of;
    closed_by = sh.closed_by;
    inside = sh.inside;
  }

-- what a unit's words hold where it has a chain as planned, beside an entry of the call's key: the key, the value, and the nodes, each with its lock, its parent and its slots
module _ (seed key value level above held unit : ℕ) (plan : Expansion) where
  abbrev pub link_slots : ℕ → ℕ → ℕ
  link_slots n slot = cond (suc n == plan.nodes) (last_slots plan held unit slot) (one_slot (nibble key seed (level + n)) (word_of_slot (Node (link_at unit (suc n)))) slot)

  abbrev pub link_word : ℕ → ℕ → ℕ
  link_word n zero = 0
  link_word n (suc zero) = place_before above (link_at unit) n
  link_word n (suc (suc slot)) = link_slots n slot

  abbrev pub unit_word : ℕ → ℕ
  unit_word zero = key
  unit_word (suc zero) = value
  unit_word (suc (suc i)) = link_word (i / 18) (i % 18)
