use Rattle.trie_nodes.proofs.WalkLemmas.{finds_all}
use Rattle.trie_nodes.proofs.laws.walks.a_walk_finds_each_key_once.Goals as goal

pub returns : goal.returns
returns c words seed root held node_at seed_fits there in_order = finds_all words seed held node_at seed_fits in_order root there
