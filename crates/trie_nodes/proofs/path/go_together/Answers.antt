use Rattle.std.proofs.Common.{sym, ◌∙◌}
use Rattle.trie_nodes.proofs.PathLemmas.{nibble-same}
use Rattle.trie_nodes.proofs.path.go_together.Goals as goal

pub returns-then-nibble : goal.returns-then-nibble
returns-then-nibble c = (
  λ never. absurd cc,
  λ same. absurd (c.if-nibble.true
      (c.nibble.ensures.is ∙ nibble-same c.args.seed c.loop-above.above c.args.level c.args.key c.args.other c.loop-above-test.true same ∙ sym c.nibble-in-loop-above.ensures.is)),
)
