use Rattle.std.proofs.Common.{◌≡◌, ◌-◌, ◌++◌, vec_capacity}
use Rattle.trie_nodes.specs.Walks.{pairs_in_slots, pairs_within}
use Rattle.table_words.specs.EndContents.{words_of}
use Rattle.table_words.proofs.ended.TableEnds.+push_below.Given as goal

abbrev pub decreases-push_below : goal.decreases-push_below
decreases-push_below l = l.levels

abbrev pub invariant-loop-slot : goal.invariant-loop-slot
invariant-loop-slot l = record {
  are : l.pairs.items ≡ l.initial.pairs.items ++ pairs_in_slots (words_of l.self) (pairs_within (words_of l.self) (l.levels - 1)) l.node l.slot;
  room : vec_capacity l.pairs ≡ vec_capacity l.initial.pairs;
}
