use Rattle.object_checks.proofs.EdgeLemmas.{EdgesTo}
use Rattle.object_checks.proofs.journals.edge.keep_all_edges.Given as goal

abbrev pub invariant-loop-journal : goal.invariant-loop-journal
invariant-loop-journal l = EdgesTo l.journals l.journal-index
