-- The Range law of a walk, by what its caller has seen.
use Rattle.std.proofs.Common.{◌≡◌, ℕ, length, Some, slice_get, sym, ap, ◌∙◌, subst}
use Rattle.std.specs.Option.{ForSome}
use Rattle.sync_model.specs.declared.item.SharedCall.TheVariants as calls
use Rattle.sync_model.specs.Note.{Holding}
use Rattle.sync_model.specs.Shared.{items_of}
use Rattle.shared_table.specs.declared.cursor.TableCursor.{TableCursor}
use Rattle.shared_table.specs.declared.note.SharedNote.{SharedNote}
use Rattle.shared_table.specs.declared.table.SharedTable.{SharedTable}
use Rattle.shared_table.specs.Notes.{own_by, IsLawfulFor}
use Rattle.shared_table.specs.Ranging.{IsCursor}
use Rattle.go_map.specs.Ranges.{calls_by, KeepsRangeLaw}

-- the walk that a call began
pub begun_by : (table : SharedTable) (cursor : TableCursor) (m : ℕ) (old new : SharedNote) (was : Holding) → own_by old ≡ Some was → ForSome (own_by new) (λ becomes. IsCursor table.words cursor m (length was.items) becomes.items) → ForSome (own_by new) (λ becomes. IsCursor table.words cursor m (calls_by old) becomes.items)
begun_by table cursor m old new was own stands = subst (λ n. ForSome (own_by new) (λ becomes. IsCursor table.words cursor m n becomes.items)) (sym (ap (λ o. length (items_of o)) own)) stands

pub keeps_range : (table : SharedTable) (cursor : TableCursor) (m b : ℕ) (note : SharedNote) (holding : Holding) → own_by note ≡ Some holding → IsLawfulFor table note → ForSome (own_by note) (λ becomes. IsCursor table.words cursor m b becomes.items) → KeepsRangeLaw table m b note
keeps_range table cursor m b note holding own lawful stands =
    let is = stands holding own in
    let at = ap (slice_get holding.items) (sym is.is_begin) ∙ is.of.at in
    let call = is.of.call ∙ ap (λ (n : ℕ). calls.Begin n) is.is_map in record {
      lawful = lawful;
      holding = holding;
      own = own;
      begin = is.of.begin;
      at = at;
      call = call;
      range = lawful.lawful.ranges holding.number b m is.of.begin (ap (λ l. slice_get l b) (lawful.mine holding own) ∙ at) call;
    }
