-- A caller with a walk is still so after a step of it, and after another call.
use Rattle.std.proofs.Common.{◌≡◌, ◌≢◌, ℕ, sym, ◌∙◌, subst}
use Rattle.std.proofs.lemmas.Option.{same_Some}
use Rattle.sync_model.specs.declared.caller.Caller.{Caller}
use Rattle.sync_model.specs.declared.item.SharedCall.TheVariants as calls
use Rattle.sync_types.specs.declared.map_object.MapCall.{MapCall}
use Rattle.sync_types.specs.declared.map_object.MapReply.{MapReply}
use Rattle.sync_model.specs.Note.{Holding}
use Rattle.sync_model.specs.Shared.{IsCallerAt}
use Rattle.shared_table.specs.declared.note.SharedNote.{SharedNote}
use Rattle.shared_table.specs.declared.table.SharedTable.{SharedTable}
use Rattle.shared_table.specs.CursorStays as still
use Rattle.shared_table.specs.Notes.{own_by, IsNoteOf}
use Rattle.shared_table.specs.Ranging.{IsCursor}
use Rattle.go_map.specs.declared.cursor.Cursor.{Cursor}
use Rattle.go_map.specs.Maps.{MakesCall}
use Rattle.go_map.specs.Ranges.{StandsFor}
use Rattle.table_tests.specs.Walking.{IsWalking}

-- a caller with a walk, by a map of the table
pub walking : (table other : SharedTable) (number : ℕ) (cursor : Cursor) (begin : ℕ) (caller : Caller SharedNote) → other ≡ table → number ≡ 0 → IsCallerAt IsNoteOf own_by other caller → StandsFor other cursor number begin caller.note → IsWalking table cursor caller
walking table other number cursor begin caller same first is stands = subst (λ (x : SharedTable × ℕ). IsCallerAt IsNoteOf own_by x.0 caller × ((b : ℕ) × StandsFor x.0 cursor x.1 b caller.note)) (λ i. (same i, first i)) (is, (begin, stands))

-- the walk by a map of the table
pub stands_at : (table other : SharedTable) (number : ℕ) (cursor : Cursor) (begin : ℕ) (note : SharedNote) → other ≡ table → number ≡ 0 → StandsFor table cursor 0 begin note → StandsFor other cursor number begin note
stands_at table other number cursor begin note same first stands = subst (λ (x : SharedTable × ℕ). StandsFor x.0 cursor x.1 begin note) (λ i. (sym same i, sym first i)) stands

-- another call of its caller leaves a walk where it stands
pub walks_on : (table other : SharedTable) (cursor : Cursor) (m : ℕ) (call : MapCall ℕ) (reply : MapReply) (old new : SharedNote) → other ≡ table → IsWalking table cursor (record { note = old }) → IsCallerAt IsNoteOf own_by other (record { note = new }) → MakesCall other m call reply old new → IsWalking table cursor (record { note = new })
walks_on table other cursor m call reply old new same walking is makes =
    let called = makes.1 in
    let begin = walking.1.0 in
    let differs : called.item.call ≢ calls.Next begin = λ e. differ begin (sym called.is_call ∙ e) in
    let after = still.stays table.words cursor.walk 0 begin called.was.items called.item differs (walking.1.1 called.was called.own_old) in
    let more = subst (IsCursor table.words cursor.walk 0 begin) (sym called.items) after in
    (subst (λ t. IsCallerAt IsNoteOf own_by t (record { note = new })) same is, (begin, λ holding own. subst (λ (h : Holding). IsCursor table.words cursor.walk 0 begin h.items) (same_Some called.becomes holding (sym called.own_new ∙ own)) more))
  where
    differ : (b : ℕ) → calls.Map m call ≡ calls.Next b → ⊥
    differ b e = absurd (cc)
