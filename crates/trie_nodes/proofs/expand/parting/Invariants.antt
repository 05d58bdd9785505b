use Rattle.std.proofs.Common.{◌≡◌}
use Rattle.trie_nodes.specs.Paths.{route}
use Rattle.trie_nodes.proofs.expand.parting.Given as goal

abbrev pub invariant-loop-last : goal.invariant-loop-last
invariant-loop-last l = route l.seed l.last l.held ≡ route l.seed l.last l.key
