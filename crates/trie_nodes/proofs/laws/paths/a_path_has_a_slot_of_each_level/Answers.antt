use Rattle.trie_nodes.proofs.PathLemmas.{nibble-lt, length-route}
use Rattle.trie_nodes.proofs.laws.paths.a_path_has_a_slot_of_each_level.Goals as goal

pub returns-clause-slot : goal.returns-clause-slot
returns-clause-slot c = nibble-lt

pub returns-clause-length : goal.returns-clause-length
returns-clause-length c = length-route
