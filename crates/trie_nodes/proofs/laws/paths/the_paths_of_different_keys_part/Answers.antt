use Rattle.trie_nodes.proofs.PathLemmas.{different_part, route-one_to_one}
use Rattle.trie_nodes.proofs.laws.paths.the_paths_of_different_keys_part.Goals as goal

pub returns-clause-part : goal.returns-clause-part
returns-clause-part c = different_part

pub returns-clause-one_to_one : goal.returns-clause-one_to_one
returns-clause-one_to_one c = route-one_to_one
