-- What a slot's word says.
use Rattle.std.specs.Prelude.{ℕ, ◌+◌, ◌*◌, ◌/◌, ◌%◌, ◌==◌, cond}
use Rattle.trie_nodes.specs.declared.slot.Slot.{Slot}
use Rattle.trie_nodes.specs.declared.slot.Slot.TheVariants.{Empty, Node, Entry}

-- 0 is an empty slot, twice a place a node there, and one more an entry there; place 0 is never a node's or an entry's
abbrev pub word_of_slot : Slot → ℕ
word_of_slot Empty = 0
word_of_slot (Node place) = 2 * place
word_of_slot (Entry place) = 2 * place + 1

-- the slot whose word it is
abbrev pub slot_in : ℕ → Slot
slot_in word = cond (word == 0) Empty (cond (word % 2 == 0) (Node (word / 2)) (Entry (word / 2)))

-- the place that a slot holds; 0 where it is empty
abbrev pub place_of_slot : Slot → ℕ
place_of_slot Empty = 0
place_of_slot (Node place) = place
place_of_slot (Entry place) = place
