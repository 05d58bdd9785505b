use Rattle.std.proofs.Common.{◌-◌}
use Rattle.trie_nodes.proofs.ChainLemmas.{one_more, chain-held, chain-key, chain-other}
use Rattle.trie_nodes.proofs.laws.chains.a_chain_leads_to_both_entries.Goals as goal

pub returns-clause-held : goal.returns-clause-held
returns-clause-held c words seed level above first held key held_entry key_entry plan is chain is_held is_key =
    chain-held words seed level above first held key held_entry key_entry (plan.nodes - 1) plan is (one_more plan.nodes is.some) chain is_held is_key

pub returns-clause-key : goal.returns-clause-key
returns-clause-key c words seed level above first held key held_entry key_entry plan is chain is_held is_key =
    chain-key words seed level above first held key held_entry key_entry (plan.nodes - 1) plan is (one_more plan.nodes is.some) chain is_held is_key

pub returns-clause-others : goal.returns-clause-others
returns-clause-others c words seed level above first held key held_entry key_entry other plan is chain is_held is_key not_held not_key =
    chain-other words seed level above first held key held_entry key_entry (plan.nodes - 1) plan is (one_more plan.nodes is.some) chain is_held is_key other not_held not_key
