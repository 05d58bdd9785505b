use Rattle.trie_nodes.proofs.NodeLemmas.{stands_for-other_slot}
use Rattle.trie_nodes.proofs.laws.nodes.a_slot_concerns_its_own_keys.Goals as goal

pub returns : goal.returns
returns c old new seed level node slot key level_lt slot_lt changes = stands_for-other_slot old new level node slot level_lt slot_lt changes seed key
