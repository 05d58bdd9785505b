use Rattle.std.proofs.Common.{◌≡◌}
use Rattle.trie_nodes.specs.Paths.{route}
use Rattle.trie_nodes.proofs.path.go_together.Given as goal

abbrev pub invariant-loop-above : goal.invariant-loop-above
invariant-loop-above l = route l.seed l.above l.key ≡ route l.seed l.above l.other
