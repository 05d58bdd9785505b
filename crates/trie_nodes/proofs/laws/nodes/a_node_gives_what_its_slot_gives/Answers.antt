use Rattle.trie_nodes.proofs.NodeLemmas.{stands_for-slot, stands_for-deep}
use Rattle.trie_nodes.proofs.laws.nodes.a_node_gives_what_its_slot_gives.Goals as goal

pub returns-clause-slot : goal.returns-clause-slot
returns-clause-slot c = stands_for-slot

pub returns-clause-levels : goal.returns-clause-levels
returns-clause-levels c = stands_for-deep
