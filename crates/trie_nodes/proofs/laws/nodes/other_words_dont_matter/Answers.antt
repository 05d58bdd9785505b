use Rattle.trie_nodes.proofs.NodeLemmas.{stands_for-same}
use Rattle.trie_nodes.proofs.laws.nodes.other_words_dont_matter.Goals as goal

pub returns : goal.returns
returns c = stands_for-same
