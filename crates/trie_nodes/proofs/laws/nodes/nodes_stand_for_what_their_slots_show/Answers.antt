use Rattle.std.specs.Prelude.{IsTrue}
use Rattle.trie_nodes.proofs.NodeLemmas.{stands_for-held}
use Rattle.trie_nodes.proofs.laws.nodes.nodes_stand_for_what_their_slots_show.Goals as goal

pub returns : goal.returns
returns c words seed key held is_node = stands_for-held words seed key held (λ level node. IsTrue (is_node level node))
