-- All callers of a new table are its callers.
use Rattle.std.proofs.Common.{◌≡◌, ℕ, List, Option, Some, IsSome, All, refl, sym, subst}
use Rattle.std.proofs.lemmas.Option.{slice_get-get_or}
use Rattle.sync_model.specs.declared.caller.Caller.{Caller}
use Rattle.sync_model.specs.Shared.{IsCallerAt}
use Rattle.shared_table.specs.declared.note.SharedNote.{SharedNote}
use Rattle.shared_table.specs.declared.table.SharedTable.{SharedTable}
use Rattle.shared_table.specs.NewCallers.{AreNewCallers}
use Rattle.shared_table.specs.Notes.{own_by, IsNoteOf}

pub all_callers : (table : SharedTable) (spare : List ℕ) (callers : List (Caller SharedNote)) → AreNewCallers table spare callers → All (IsCallerAt IsNoteOf own_by table) callers
all_callers table spare callers new k d below =
    let each = new.all.each k _ (slice_get-get_or callers k d below) in
    (each.0, subst (λ (o : Option _). IsSome o) (sym each.1.1) refl)
