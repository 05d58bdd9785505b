use Rattle.shared_checks.proofs.KnownLemmas.{KnownTo}
use Rattle.shared_checks.proofs.known.known_of.Given as goal

abbrev pub invariant-loop-items : goal.invariant-loop-items
invariant-loop-items l = KnownTo l.lists l.front l.items-index l.most l.counts
