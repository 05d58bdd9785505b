-- The first callers' passes lie in the room.
use Rattle.std.proofs.Common.{◌≡◌, ◌≤◌, length}
use Rattle.std.specs.Prelude.{vec_capacity}
use Rattle.shared_plain.specs.Settling.{passes_in}
use Rattle.shared_plain.proofs.ends.passes_of.Given as goal

abbrev pub invariant-loop-caller : goal.invariant-loop-caller
invariant-loop-caller l = record {
  are : l.passes.items ≡ passes_in l.yielded;
  room : length l.fn.callers.items ≤ vec_capacity l.passes;
}
