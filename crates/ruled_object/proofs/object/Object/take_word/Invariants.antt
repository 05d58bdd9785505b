use Rattle.std.proofs.Common.{◌≡◌}
use Rattle.ruled_object.specs.Steps.{IsSameSeat}
use Rattle.ruled_object.proofs.object.Object.take_word.Given as goal

abbrev pub invariant-loop : goal.invariant-loop
invariant-loop g l = record {
  can : (goal.iterator-loop g).can_next l.iterator';
  ends : (goal.iterator-loop g).is_finite l.iterator';
  same : IsSameSeat l.initial.seat l.seat;
  unmoved : l.seat.me ≡ l.initial.seat.me;
}
