use Rattle.shared_checks.proofs.HistoryLemmas.{EntriesTo}
use Rattle.shared_checks.proofs.history.entries_of.Given as goal

abbrev pub invariant-loop-one : goal.invariant-loop-one
invariant-loop-one l = EntriesTo l.lists l.owners l.one-index l.history.items
