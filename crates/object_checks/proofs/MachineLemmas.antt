-- The journals of a workload's objects, object by object.
use Rattle.std.proofs.Common.{◌≡◌, ◌⊎◌, inl, inr, ℕ, zero, suc, ◌+◌, ◌<◌, ◌≤◌, List, [], ◌∷◌, length, map, get_or, Some, slice_get, refl, sym, ap, ◌∙◌, subst, arith}
use Rattle.std.proofs.Math.Nat.{eq-or-lt_of_le}
use Rattle.std.proofs.lemmas.List.{length-map, get_or_default}
use Rattle.std.proofs.lemmas.Option.{none-some, same_Some, slice_get_within}
use Rattle.sync_types.specs.declared.misuse.Misuse.{Misuse}
use Rattle.sync_model.specs.declared.journal.Deed.TheVariants.{Halt}
use Rattle.workload.specs.declared.object.ObjectLine.{ObjectLine}
use Rattle.run_record.specs.Journals.{IsStops}
use Rattle.run_record.specs.Record.{ObjectEntry, object_number}
use Rattle.object_checks.specs.declared.journals.row.Row.{Row}
use Rattle.object_checks.specs.JournalItems.{entry_in, entries_in_row, journals_in}
use Rattle.object_checks.specs.JournalParts.{journal_at, IsMachineJournal, DeclaredFollow}
use Rattle.object_checks.proofs.JournalsIn.{mapped}

inside_has : {A : Type 0} (xs : List A) (k : ℕ) → k < length xs → (x : A) × (slice_get xs k ≡ Some x)
inside_has [] k inside = absurd (omega (arith, inside))
inside_has (x ∷ xs) zero inside = (x, refl)
inside_has (x ∷ xs) (suc k) inside = inside_has xs k (omega (arith, inside))

-- ---- halts
module _ (rows : List Row) where
  abbrev pub HaltsTo : ℕ → Type 0
  HaltsTo n = (i : ℕ) (row : Row) → i < n → slice_get rows i ≡ Some row → (misuse : Misuse) × (row.item.now.deed ≡ Halt misuse)

  pub halts_more : (n : ℕ) (row : Row) → slice_get rows n ≡ Some row → (misuse : Misuse) → row.item.now.deed ≡ Halt misuse → HaltsTo n → HaltsTo (n + 1)
  halts_more n row at misuse is halts i other below there = by (eq-or-lt_of_le {n = i} {m = n} (omega (arith, below))) where
    by : (i ≡ n) ⊎ (i < n) → (m : Misuse) × (other.item.now.deed ≡ Halt m)
    by (inl same) = (misuse, ap (λ (r : Row). r.item.now.deed) (same_Some other row (sym there ∙ ap (slice_get rows) same ∙ at)) ∙ is)
    by (inr before) = halts i other before there

  entry_at : (i : ℕ) (row : Row) (d : ObjectEntry) → slice_get rows i ≡ Some row → get_or (entries_in_row rows) i d ≡ entry_in row
  entry_at i row d at = at_place rows i at where
    at_place : (xs : List Row) (k : ℕ) → slice_get xs k ≡ Some row → get_or (map entry_in xs) k d ≡ entry_in row
    at_place [] k there = absurd (none-some row there)
    at_place (x ∷ xs) zero there = ap entry_in (same_Some x row there)
    at_place (x ∷ xs) (suc k) there = at_place xs k there

  pub halts_all : (n : ℕ) → length rows ≤ n → HaltsTo n → IsStops (entries_in_row rows)
  halts_all n all halts i d below = by (inside_has rows i inside) where
    inside : i < length rows
    inside = let count = length-map rows entry_in in omega (arith, below, count)

    by : (x : Row) × (slice_get rows i ≡ Some x) → (misuse : Misuse) × ((get_or (entries_in_row rows) i d).deed ≡ Halt misuse)
    by (x, at) = let h = halts i x (omega (arith, inside, all)) at in (h.0, ap (λ (e : ObjectEntry). e.deed) (entry_at i x d at) ∙ h.1)

  pub no_halt : (i : ℕ) (row : Row) → slice_get rows i ≡ Some row → ((misuse : Misuse) → row.item.now.deed ≡ Halt misuse → ⊥) → IsStops (entries_in_row rows) → ⊥
  no_halt i row at not_halt stops =
      let inside = slice_get_within rows i row at in
      let count = length-map rows entry_in in
      let h = stops i (entry_in row) (omega (arith, inside, count)) in
      not_halt h.0 (ap (λ (e : ObjectEntry). e.deed) (sym (entry_at i row (entry_in row) at)) ∙ h.1)

-- ---- declared objects
module _ (workers : ℕ) (objects : List ObjectLine) (rows : List (List Row)) where
  abbrev pub DeclaredTo : ℕ → Type 0
  DeclaredTo n = (place : ℕ) (object : ObjectLine) → place < n → slice_get objects place ≡ Some object → IsMachineJournal workers object.kind (journal_at (journals_in rows) (object_number place))

  pub declared_more : (n : ℕ) (object : ObjectLine) → slice_get objects n ≡ Some object → IsMachineJournal workers object.kind (entries_in_row (get_or rows (n + 1) [])) → DeclaredTo n → DeclaredTo (n + 1)
  declared_more n object at follows so_far place other below there = by (eq-or-lt_of_le {n = place} {m = n} (omega (arith, below))) where
    by : (place ≡ n) ⊎ (place < n) → IsMachineJournal workers other.kind (journal_at (journals_in rows) (object_number place))
    by (inl same) = subst (λ p. IsMachineJournal workers other.kind (journal_at (journals_in rows) (object_number p))) (sym same)
        (subst (IsMachineJournal workers other.kind) (sym (mapped rows (n + 1)))
        (subst (λ (o : ObjectLine). IsMachineJournal workers o.kind (entries_in_row (get_or rows (n + 1) []))) (same_Some object other (sym at ∙ ap (slice_get objects) (sym same) ∙ there)) follows))
    by (inr before) = so_far place other before there

  pub declared_all : (n : ℕ) → length objects ≤ n → DeclaredTo n → DeclaredFollow workers objects (journals_in rows)
  declared_all n all so_far place object at = let inside = slice_get_within objects place object at in so_far place object (omega (arith, inside, all)) at

  pub not_declared : (n : ℕ) (object : ObjectLine) → slice_get objects n ≡ Some object → (IsMachineJournal workers object.kind (entries_in_row (get_or rows (n + 1) [])) → ⊥) → DeclaredFollow workers objects (journals_in rows) → ⊥
  not_declared n object at not_follows follow = not_follows (subst (IsMachineJournal workers object.kind) (mapped rows (n + 1)) (follow n object at))

-- the journal that is read for an object
pub read_at : (objects : List ObjectLine) (rows : List (List Row)) → length objects < length rows → (place : ℕ) → place < length objects → (row : List Row) → row ≡ get_or rows (place + 1) row → (read : List Row) → read ≡ row → read ≡ get_or rows (place + 1) []
read_at objects rows more place inside row is read same = same ∙ is ∙ get_or_default rows (place + 1) row [] (omega (arith, more, inside))
