use Rattle.std.proofs.Common.{◌≡◌, ℕ, ◌<◌, ◌≤◌, [], Some, slice_get}
use Rattle.sync_model.specs.declared.caller.Caller.{Caller}
use Rattle.table_words.specs.Seats.{IsSeatOf}
use Rattle.shared_table.specs.declared.note.SharedNote.{SharedNote}
use Rattle.shared_table.specs.Settling.{AreSameCallers, IsBack, after_first}
use Rattle.shared_table.proofs.table.SharedTable.hand_all_back.Given as goal

abbrev pub invariant-loop-caller : goal.invariant-loop-caller
invariant-loop-caller l = record {
  table : IsSeatOf l.self.words l.all;
  left : l.all.me ≡ (after_first l.initial.all.me.0 l.caller-index, []);
  same : AreSameCallers l.initial.callers l.callers;
  back : (i : ℕ) (caller : Caller SharedNote) → i < l.caller-index → slice_get l.callers i ≡ Some caller → IsBack l.self l.initial.all.me.0 i caller.note;
  rest : (i : ℕ) → l.caller-index ≤ i → slice_get l.callers i ≡ slice_get l.initial.callers i;
}
