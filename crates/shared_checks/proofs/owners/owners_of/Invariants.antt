use Rattle.shared_checks.proofs.OwnerLemmas.{OwnersTo}
use Rattle.shared_checks.proofs.owners.owners_of.Given as goal

abbrev pub invariant-loop-one : goal.invariant-loop-one
invariant-loop-one l = OwnersTo l.lists l.placed l.one-index l.owners.items
