use Rattle.std.proofs.Common.{◌≡◌, ◌-◌, length}
use Rattle.trie_nodes.specs.Walks.{pairs_in_slots, pairs_within}
use Rattle.table_words.specs.EndContents.{words_of}
use Rattle.table_words.proofs.ended.TableEnds.+count_below.Given as goal

abbrev pub decreases-count_below : goal.decreases-count_below
decreases-count_below l = l.levels

abbrev pub invariant-loop-slot : goal.invariant-loop-slot
invariant-loop-slot l = l.count ≡ length (pairs_in_slots (words_of l.self) (pairs_within (words_of l.self) (l.levels - 1)) l.node l.slot)
