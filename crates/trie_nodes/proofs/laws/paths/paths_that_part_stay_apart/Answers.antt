use Rattle.trie_nodes.proofs.PathLemmas.{route-above, nibble-same}
use Rattle.trie_nodes.proofs.laws.paths.paths_that_part_stay_apart.Goals as goal

pub returns-clause-route : goal.returns-clause-route
returns-clause-route c = route-above

pub returns-clause-nibble : goal.returns-clause-nibble
returns-clause-nibble c = nibble-same
