-- Tables of two callers, for the tests.
use Rattle.std.specs.Prelude.{◌≡◌, [], ◌∷◌}
use Rattle.sync_types.specs.declared.atomic_object.AtomicKind.TheVariants as kinds
use Rattle.sync_model.specs.declared.caller.Caller.{Caller}
use Rattle.sync_model.specs.Shared.{IsCallerAt}
use Rattle.shared_table.specs.declared.note.SharedNote.{SharedNote}
use Rattle.shared_table.specs.declared.table.SharedTable.{SharedTable}
use Rattle.shared_table.specs.Notes.{own_by, IsNoteOf}
use Rattle.shared_table.specs.Tables.{kinds_of}

-- a table with an atomic of each type, and two of its callers
pub record ArePair (table : SharedTable) (first second : Caller SharedNote) : Type 0 where
  pub types : kinds_of table ≡ kinds.Int32 ∷ kinds.Int64 ∷ kinds.Uint32 ∷ kinds.Uint64 ∷ kinds.Bool ∷ []
  pub is_first : IsCallerAt IsNoteOf own_by table first
  pub is_second : IsCallerAt IsNoteOf own_by table second
