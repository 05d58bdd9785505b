use Rattle.std.proofs.Common.{◌-◌, sym, subst}
use Rattle.trie_nodes.specs.Plans.{IsChain, IsChainAt, last_slots}
use Rattle.trie_nodes.proofs.ChainLemmas.{one_more}
use Rattle.trie_nodes.proofs.ChainShows.{chain-by_places}
use Rattle.trie_nodes.proofs.laws.chains.a_chain_has_its_nodes_at_places.Goals as goal

pub returns : goal.returns
returns c words seed level above key held_entry key_entry plan place chain =
    let some = one_more plan.nodes chain.some in
    subst (λ n. IsChain words seed key (last_slots plan held_entry key_entry) n level above (place 0)) (sym some)
    (chain-by_places words seed key (last_slots plan held_entry key_entry) (plan.nodes - 1) level above place
    (subst (λ n. IsChainAt words seed key (last_slots plan held_entry key_entry) n level above place) some chain))
