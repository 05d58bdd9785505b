use Rattle.std.proofs.Common.{slice_index, refl}
use Rattle.trie_nodes.proofs.PlanLemmas.{pruning-keeps}
use Rattle.trie_nodes.proofs.prune.pruning.Goals as goal

pub returns-clause-keeps : goal.returns-clause-keeps
returns-clause-keeps c old new place other prunes =
    pruning-keeps old new c.args.seed c.args.level place c.args.node.now record { parent = slice_index c.args.node.now 1; slot = c.nibble.result }
    c.requires.below_a_root c.requires.level c.nibble.ensures.slot (c.if-not-is_empty.ensures.empty.0 refl) prunes other
