use Rattle.std.proofs.Common.{◌≤◌, drop}
use Rattle.std.specs.List.{flat_map}
use Rattle.run_report.proofs.Writing.{Goes}
use Rattle.run_report.proofs.pieces.write_pieces.Given as goal

abbrev pub invariant-loop-piece : goal.invariant-loop-piece
invariant-loop-piece g l = record {
  goes : Goes (g.O.Sink.contents l.initial.out) (g.O.Sink.contents l.out)
      (flat_map (λ piece. piece.now) l.pieces)
      (flat_map (λ piece. piece.now) (drop l.piece-index l.pieces));
  faults : g.O.Sink.faults l.initial.out ≤ g.O.Sink.faults l.out;
}
