use Rattle.std.proofs.Common.{refl}
use Rattle.trie_nodes.specs.Paths.{nibble}
use Rattle.trie_nodes.specs.Nodes.{value_within, stands_for}
use Rattle.trie_nodes.proofs.ExampleLemmas.{prunes-example}
use Rattle.trie_nodes.proofs.laws.examples.an_empty_node_goes_by_a_pruning.Goals as goal

pub returns-clause-prunes : goal.returns-clause-prunes
returns-clause-prunes c = prunes-example

pub returns-clause-first : goal.returns-clause-first
unfolding nibble value_within stands_for
returns-clause-first c = refl

pub returns-clause-second : goal.returns-clause-second
unfolding nibble value_within stands_for
returns-clause-second c = refl
