-- The callers of a new table are dealt out, one after the other.
use Rattle.std.specs.Prelude.{◌≡◌, ℕ, List, [], drop, Some, slice_index}
use Rattle.sync_model.specs.declared.caller.Caller.{Caller}
use Rattle.table_rule.specs.declared.begin.Begin.{Begin}
use Rattle.shared_table.specs.declared.note.SharedNote.{SharedNote}
use Rattle.shared_table.specs.declared.table.SharedTable.{SharedTable}
use Rattle.table_rule.specs.declared.view.View.{View}
use Rattle.shared_table.specs.Notes.{counts_by, own_by, seen_by, IsNoteOf}
use Rattle.table_rule.specs.Views.{new_owns, first_view}

-- the first seat, when it has let the first n callers go: the next one's room begins here
abbrev pub left_view : Begin → ℕ → ℕ → View
left_view k n next = record (first_view k) { number = n; owns = new_owns next (drop n k.spares) }

-- caller i of a new table
pub record IsNewCaller (table : SharedTable) (spares : List ℕ) (i : ℕ) (caller : Caller SharedNote) : Type 0 where
  pub is : IsNoteOf table caller.note
  pub own : own_by caller.note ≡ Some (record { number = i; items = []; times = []; spare = slice_index spares i })
  pub seen : seen_by caller.note ≡ []
  pub knows : (c : ℕ) → slice_index (counts_by caller.note) c ≡ 0
