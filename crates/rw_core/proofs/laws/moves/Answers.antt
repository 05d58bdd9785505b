use Rattle.rw_core.proofs.Moves.{InnerMoves, moves_own, moves_others}
use Rattle.rw_core.proofs.laws.moves.Goals as goal

abbrev inner : goal.After-moves → InnerMoves
inner c = record {
  moved = λ i x by e valid. c.moves.ensures.moved i x by e valid;
  told = λ i x by e valid told. c.moves.ensures.told i x by e valid told;
  unmoved = λ i x by e valid apart told. c.moves.ensures.unmoved i x by e valid apart told;
}

pub returns-clause-own : goal.returns-clause-own
returns-clause-own c state caller event valid = moves_own (inner c) state caller event valid

pub returns-clause-others : goal.returns-clause-others
returns-clause-others c state caller by event valid apart = moves_others (inner c) state caller by event valid apart
