use Rattle.trie_nodes.proofs.PathLemmas.{each_slot_has_key}
use Rattle.trie_nodes.proofs.laws.paths.each_slot_has_a_key.Goals as goal

pub returns : goal.returns
returns c = each_slot_has_key
