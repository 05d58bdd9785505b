use Rattle.std.specs.Prelude.{IsTrue}
use Rattle.trie_nodes.proofs.ChainShows.{chain-shows}
use Rattle.trie_nodes.proofs.laws.chains.each_node_of_a_chain_shows_what_the_map_has.Goals as goal

pub returns : goal.returns
returns c words seed level above held key value held_entry key_entry plan place is_below is chain is_held is_key is_value below =
    chain-shows words seed level above held key value held_entry key_entry plan place is chain is_held is_key is_value (λ level node. IsTrue (is_below level node)) below
