use Rattle.std.proofs.Common.{ℕ, ◌<◌, [], get_or}
use Rattle.object_checks.specs.JournalItems.{HaveFronts}
use Rattle.object_checks.proofs.journals.edge.fronts_fit.Given as goal

abbrev pub invariant-loop-journal : goal.invariant-loop-journal
invariant-loop-journal l = (object : ℕ) → object < l.journal-index → HaveFronts (get_or l.journals object [])
