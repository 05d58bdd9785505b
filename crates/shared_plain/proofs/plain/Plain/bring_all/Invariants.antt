-- The first callers have brought their passes.
use Rattle.std.proofs.Common.{◌≡◌, ℕ, ◌≤◌, take, slice_get}
use Rattle.ruled_object.specs.Assembled.{Brought}
use Rattle.shared_plain.specs.Settling.{passes_in, AreSameMarks}
use Rattle.shared_plain.proofs.plain.Plain.bring_all.Given as goal

abbrev pub invariant-loop-caller : goal.invariant-loop-caller
invariant-loop-caller l = record {
  brought : Brought l.self.object (passes_in (take l.caller-index l.initial.callers)) l.all;
  same : AreSameMarks l.initial.callers l.callers;
  rest : (i : ℕ) → l.caller-index ≤ i → slice_get l.callers i ≡ slice_get l.initial.callers i;
}
