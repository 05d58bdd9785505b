use Rattle.trie_nodes.proofs.NodeLemmas.{stands_for-empty}
use Rattle.trie_nodes.proofs.laws.nodes.an_empty_node_stands_for_nothing.Goals as goal

pub returns : goal.returns
returns c = stands_for-empty
