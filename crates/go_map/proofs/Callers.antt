-- A call leaves a caller a caller.
use Rattle.std.proofs.Common.{Option, IsSome, refl, sym, subst}
use Rattle.sync_model.specs.declared.item.SharedCall.{SharedCall}
use Rattle.sync_model.specs.declared.item.SharedReply.{SharedReply}
use Rattle.sync_model.specs.Note.{SameHome}
use Rattle.sync_model.specs.Shared.{Called, IsCallerAt, state_of}
use Rattle.shared_table.specs.declared.note.SharedNote.{SharedNote}
use Rattle.shared_table.specs.declared.table.SharedTable.{SharedTable}
use Rattle.shared_table.specs.Notes.{front_by, own_by, seen_by, IsNoteOf}
use Rattle.shared_table.specs.Tables.{first_of}

pub stays : (table : SharedTable) (call : SharedCall) (reply : SharedReply) (cost : _) (old new : SharedNote) → IsNoteOf table old → SameHome IsNoteOf old new → Called (first_of table) call reply cost (state_of own_by front_by seen_by old) (state_of own_by front_by seen_by new)
    → IsCallerAt IsNoteOf own_by table (record { note = new })
stays table call reply cost old new is same called = (same table is, subst (λ (o : Option _). IsSome o) (sym called.own_new) refl)
