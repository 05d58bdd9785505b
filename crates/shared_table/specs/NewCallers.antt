-- The callers of a new table.
use Rattle.std.specs.Prelude.{◌≡◌, ℕ, List, [], Some, slice_get, slice_index}
use Rattle.sync_model.specs.declared.caller.Caller.{Caller}
use Rattle.sync_model.specs.Shared.{AreAllCallers}
use Rattle.shared_table.specs.declared.note.SharedNote.{SharedNote}
use Rattle.shared_table.specs.declared.table.SharedTable.{SharedTable}
use Rattle.shared_table.specs.Notes.{counts_by, own_by, seen_by, IsNoteOf}
use Rattle.shared_table.specs.Tables.{caller_count}

-- all callers, in order of number, each with its own spare units. None has made a call, and none has seen or knows one
pub record AreNewCallers (table : SharedTable) (spare : List ℕ) (callers : List (Caller SharedNote)) : Type 0 where
  pub all : AreAllCallers IsNoteOf own_by table callers (caller_count table)
  pub own : (i : ℕ) (caller : Caller SharedNote) → slice_get callers i ≡ Some caller → own_by caller.note ≡ Some (record { number = i; items = []; times = []; spare = slice_index spare i })
  pub seen : (i : ℕ) (caller : Caller SharedNote) → slice_get callers i ≡ Some caller → seen_by caller.note ≡ []
  pub knows : (i c : ℕ) (caller : Caller SharedNote) → slice_get callers i ≡ Some caller → slice_index (counts_by caller.note) c ≡ 0
