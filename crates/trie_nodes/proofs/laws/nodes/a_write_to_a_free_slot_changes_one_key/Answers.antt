use Rattle.trie_nodes.proofs.WriteLemmas.{stored, deleted}
use Rattle.trie_nodes.proofs.laws.nodes.a_write_to_a_free_slot_changes_one_key.Goals as goal

pub returns-clause-stores : goal.returns-clause-stores
returns-clause-stores c old new seed level node key value entry other lt changes free = stored old new seed level node key lt changes free entry value other

pub returns-clause-deletes : goal.returns-clause-deletes
returns-clause-deletes c old new seed level node key other lt changes free = deleted old new seed level node key lt changes free other
