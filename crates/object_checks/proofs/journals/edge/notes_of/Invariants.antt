use Rattle.object_checks.proofs.NoteLemmas.{NotesTo}
use Rattle.object_checks.proofs.journals.edge.notes_of.Given as goal

abbrev pub invariant-loop-row : goal.invariant-loop-row
invariant-loop-row l = NotesTo l.journal l.row-index l.notes.items
