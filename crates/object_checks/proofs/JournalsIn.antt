-- The journal of an object in rows.
use Rattle.std.proofs.Common.{◌≡◌, ℕ, zero, suc, List, [], ◌∷◌, get_or, refl}
use Rattle.object_checks.specs.declared.journals.row.Row.{Row}
use Rattle.object_checks.specs.JournalItems.{entries_in_row, journals_in}
use Rattle.object_checks.specs.JournalParts.{journal_at}

pub mapped : (rows : List (List Row)) (i : ℕ) → journal_at (journals_in rows) i ≡ entries_in_row (get_or rows i [])
mapped [] i = refl
mapped (row ∷ rows) zero = refl
mapped (row ∷ rows) (suc i) = mapped rows i
