use Rattle.std.proofs.Common.{◌≡◌, ℕ, ◌≤◌, slice_get}
use Rattle.table_words.specs.Seats.{IsSeatOf}
use Rattle.shared_table.specs.Settling.{AreSameCallers, Gathered}
use Rattle.shared_table.proofs.table.SharedTable.bring_all.Given as goal

abbrev pub invariant-loop-caller : goal.invariant-loop-caller
invariant-loop-caller l = record {
  table : IsSeatOf l.self.words l.all;
  gathered : Gathered l.self l.initial.callers l.caller-index l.all.me;
  same : AreSameCallers l.initial.callers l.callers;
  rest : (i : ℕ) → l.caller-index ≤ i → slice_get l.callers i ≡ slice_get l.initial.callers i;
}
