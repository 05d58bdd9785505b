-- Rows of words with one map and no atomics, at seed 0: its root stands at place 1, and nothing else is before it. They show that what is said of the plans can be met.
use Rattle.std.specs.Prelude.{ℕ, List, [], ◌∷◌, ◌++◌, replicate}
use Rattle.trie_nodes.specs.declared.plan.Expansion.{Expansion}
use Rattle.trie_nodes.specs.declared.plan.Pruning.{Pruning}

-- key 0 with value 1, whose entry stands at place 19 and in slot 0 of the root
abbrev pub one_key : List ℕ
one_key = 0 ∷ 0 ∷ 0 ∷ 39 ∷ (replicate 15 0 ++ 0 ∷ 1 ∷ [])

-- and key 16 with value 2, whose entry stands at place 39; slot 0 of the root has a node, at place 21, with key 0 in slot 0 and key 16 in slot 1
abbrev pub two_keys : List ℕ
two_keys = 0 ∷ 0 ∷ 0 ∷ 42 ∷ (replicate 15 0 ++ 0 ∷ 1 ∷ 0 ∷ 1 ∷ 39 ∷ 79 ∷ (replicate 14 0 ++ 16 ∷ 2 ∷ []))

abbrev pub expansion_to_two : Expansion
expansion_to_two = record { nodes = 1; held_slot = 0; key_slot = 1 }

-- both keys are deleted
abbrev pub empty_node : List ℕ
empty_node = 0 ∷ 1 ∷ replicate 16 0

abbrev pub no_keys : List ℕ
no_keys = 0 ∷ 0 ∷ 0 ∷ 42 ∷ (replicate 15 0 ++ 0 ∷ 1 ∷ empty_node)

-- and the node is cut off
abbrev pub no_nodes : List ℕ
no_nodes = replicate 19 0 ++ 0 ∷ 1 ∷ empty_node

abbrev pub pruning_to_none : Pruning
pruning_to_none = record { parent = 1; slot = 0 }
