-- What is told of a seat's view is told of its caller's note, which has taken the view's number.
use Rattle.std.proofs.Common.{◌≡◌, ℕ, sym, subst}
use Rattle.sync_model.specs.declared.item.SharedCall.{SharedCall}
use Rattle.sync_model.specs.declared.item.SharedReply.{SharedReply}
use Rattle.sync_model.specs.Shared.{Called, state_of}
use Rattle.table_rule.specs.declared.view.View.{View}
use Rattle.table_rule.specs.Operations.{IsAtEnd}
use Rattle.table_rule.specs.Shape.{start_of}
use Rattle.table_rule.specs.Views.{at_time, view_state}
use Rattle.shared_table.specs.declared.note.SharedNote.{SharedNote}
use Rattle.shared_table.specs.declared.table.SharedTable.{SharedTable}
use Rattle.shared_table.specs.Notes.{front_by, own_by, seen_by, IsNoteOf}
use Rattle.shared_table.specs.Tables.{first_of}

-- a call of a note's seat, which was told the note's number
pub called_by : (table : SharedTable) (old : SharedNote) (after : View) (before time : ℕ) (call : SharedCall) (reply : SharedReply) (cost : ℕ) → IsNoteOf table old → before ≡ old.stamp.time → time ≡ after.time
    → Called (start_of old.seat.me.0.begin) call reply cost (view_state (at_time old.seat.me.0 before)) (view_state after)
    → Called (first_of table) call reply cost (state_of own_by front_by seen_by old) (record (view_state after) { time = time })
called_by table old after before time call reply cost is told same called =
    subst (λ t. Called (first_of table) call reply cost (state_of own_by front_by seen_by old) (record (view_state after) { time = t })) (sym same)
    (subst (λ t. Called (first_of table) call reply cost (view_state (at_time old.seat.me.0 t)) (view_state after)) told
    (subst (λ k. Called (start_of k) call reply cost (view_state (at_time old.seat.me.0 before)) (view_state after)) is.begin called))

pub at_end_by : (after : View) (time : ℕ) → time ≡ after.time → IsAtEnd (view_state after) → IsAtEnd (record (view_state after) { time = time })
at_end_by after time same e = subst (λ t. IsAtEnd (record (view_state after) { time = t })) (sym same) e
