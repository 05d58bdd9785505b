use Rattle.std.proofs.Common.{refl}
use Rattle.trie_nodes.specs.Paths.{nibble}
use Rattle.trie_nodes.specs.Nodes.{value_within, stands_for}
use Rattle.trie_nodes.proofs.ExampleLemmas.{expands-example}
use Rattle.trie_nodes.proofs.laws.examples.a_second_key_comes_by_an_expansion.Goals as goal

pub returns-clause-expands : goal.returns-clause-expands
returns-clause-expands c = expands-example

pub returns-clause-before : goal.returns-clause-before
unfolding nibble value_within stands_for
returns-clause-before c = refl

pub returns-clause-not_yet : goal.returns-clause-not_yet
unfolding nibble value_within stands_for
returns-clause-not_yet c = refl

pub returns-clause-still : goal.returns-clause-still
unfolding nibble value_within stands_for
returns-clause-still c = refl

pub returns-clause-then : goal.returns-clause-then
unfolding nibble value_within stands_for
returns-clause-then c = refl
