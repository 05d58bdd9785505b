use Rattle.shared_checks.proofs.Released.{IsMost, Kept}
use Rattle.shared_checks.proofs.edges.keeps_edges.Given as goal

abbrev pub invariant-loop-note : goal.invariant-loop-note
invariant-loop-note l = record {
  most : IsMost l.notes l.note-index l.released.of;
  kept : Kept l.notes l.note-index;
}
