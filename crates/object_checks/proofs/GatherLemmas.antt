-- The tables of all workers, and the journals of all objects.
use Rattle.std.proofs.Common.{◌≡◌, ◌⊎◌, inl, inr, ℕ, ◌+◌, ◌<◌, ◌≤◌, true, false, List, [], ◌∷◌, ◌++◌, length, map, get_or, Some, slice_get, refl, sym, ap, ◌∙◌, subst, arith}
use Rattle.std.specs.Borrow.{Bor}
use Rattle.std.specs.List.{filter}
use Rattle.std.proofs.Math.Nat.{eq-or-lt_of_le}
use Rattle.std.proofs.lemmas.Bool.{eq-eqb}
use Rattle.std.proofs.lemmas.Bool.Decides.{leb_tells}
use Rattle.std.proofs.Math.Dec.{leb}
use Rattle.std.proofs.lemmas.List.{length-append, length-map, get_or_append_left, get_or_at, get_or_past}
use Rattle.std.proofs.lemmas.Option.{get_or_from_slice_get}
use Rattle.std.proofs.Math.Nat.{suc-ne-zero}
use Rattle.run_record.specs.Record.{ObjectEntry}
use Rattle.object_checks.specs.declared.journals.item.JournalItem.{JournalItem}
use Rattle.object_checks.specs.declared.journals.row.Row.{Row}
use Rattle.object_checks.specs.JournalItems.{is_on, items_of, items_on, numbered, numbered_by, IsMerged, AreJournals, entries_in_row, journals_in}
use Rattle.object_checks.specs.JournalRows.{items_in, IsWithout}
use Rattle.object_checks.proofs.JournalsIn.{mapped}
use Rattle.object_checks.proofs.RowLemmas.{stays}

no_items : (items : List JournalItem) (worker : ℕ) → map (numbered worker) items ≡ [] → items ≡ []
no_items [] worker none = refl
no_items (x ∷ items) worker none = absurd (suc-ne-zero (length (map (numbered worker) items)) (ap length none))

-- items that are each worker's own are merged alike
pub merged_alike : (some others : ℕ → List JournalItem) (journal : List ObjectEntry) → ((worker : ℕ) → some worker ≡ others worker) → IsMerged some journal → IsMerged others journal
merged_alike some others journal same merged worker = ap (map (numbered worker)) (sym (same worker)) ∙ merged worker

module _ (lists : List (List JournalItem)) (objects : ℕ) where
  -- the tables of the first n workers
  pub record AreTables (n : ℕ) (tables : List (List (List (Bor JournalItem)))) : Type 0 where
    pub count : length tables ≡ n
    pub each : (object worker : ℕ) → worker < n → items_in tables object worker ≡ items_on lists object worker
    pub no_other : (object worker : ℕ) → worker < n → objects ≤ object → items_on lists object worker ≡ []

  pub no_tables : AreTables 0 []
  no_tables = record { count = refl; each = λ object worker below. absurd (omega (arith, below)); no_other = λ object worker below. absurd (omega (arith, below)) }

  module _ (n : ℕ) (tables : List (List (List (Bor JournalItem)))) (are : AreTables n tables) (items : List JournalItem) (at : slice_get lists n ≡ Some items)
      (table : List (List (Bor JournalItem))) (count : length table ≡ objects) (sorted : (object : ℕ) → map (λ (item : Bor JournalItem). item.now) (get_or table object []) ≡ filter (is_on object) items) where
    own : (object : ℕ) → map (λ (item : Bor JournalItem). item.now) (get_or table object []) ≡ items_on lists object n
    own object = sorted object ∙ ap (filter (is_on object)) (sym (get_or_from_slice_get lists n items [] at))

    pub table_more : AreTables (n + 1) (tables ++ table ∷ [])
    table_more = record {
      count = length-append tables (table ∷ []) ∙ ap (λ k. k + 1) are.count;
      each = λ object worker below. each object worker (eq-or-lt_of_le {n = worker} {m = n} (omega (arith, below)));
      no_other = λ object worker below past. no_other object worker past (eq-or-lt_of_le {n = worker} {m = n} (omega (arith, below)));
    } where
      each : (object worker : ℕ) → (worker ≡ n) ⊎ (worker < n) → items_in (tables ++ table ∷ []) object worker ≡ items_on lists object worker
      each object worker (inl same) = subst (λ w. items_in (tables ++ table ∷ []) object w ≡ items_on lists object w) (sym same) (
          ap (λ (t : List (List (Bor JournalItem))). map (λ (item : Bor JournalItem). item.now) (get_or t object [])) (get_or_at tables table [] [] n are.count) ∙ own object)
      each object worker (inr before) =
          ap (λ (t : List (List (Bor JournalItem))). map (λ (item : Bor JournalItem). item.now) (get_or t object [])) (get_or_append_left tables (table ∷ []) [] worker (let c = are.count in omega (arith, before, c)))
          ∙ are.each object worker before

      no_other : (object worker : ℕ) → objects ≤ object → (worker ≡ n) ⊎ (worker < n) → items_on lists object worker ≡ []
      no_other object worker past (inl same) = subst (λ w. items_on lists object w ≡ []) (sym same) (sym (own object) ∙ ap (map (λ (item : Bor JournalItem). item.now)) (get_or_past table object [] (omega (arith, past, count))))
      no_other object worker past (inr before) = are.no_other object worker before past

  module _ (n : ℕ) (tables : List (List (List (Bor JournalItem)))) (are : AreTables n tables) (all : length lists ≤ n) where
    pub tables_all : (object worker : ℕ) → items_in tables object worker ≡ items_on lists object worker
    tables_all object worker = elim (leb_tells n worker) [
      | inl past ↦ (let beyond = past.1 in let c = are.count in
          ap (λ (t : List (List (Bor JournalItem))). map (λ (item : Bor JournalItem). item.now) (get_or t object [])) (get_or_past tables worker [] (omega (arith, beyond, c)))
          ∙ ap (filter (is_on object)) (sym (get_or_past lists worker [] (omega (arith, beyond, all)))))
      | inr before ↦ are.each object worker before.1
    ]

    pub tables_else : (object worker : ℕ) → objects ≤ object → items_on lists object worker ≡ []
    tables_else object worker past = elim (leb_tells n worker) [
      | inl beyond ↦ (let further = beyond.1 in ap (filter (is_on object)) (get_or_past lists worker [] (omega (arith, further, all))))
      | inr before ↦ are.no_other object worker before.1 past
    ]

  -- an item on none of the objects stands in no journal
  pub none_without : IsWithout lists objects → (journals : List (List ObjectEntry)) → AreJournals lists objects journals → ⊥
  none_without (worker, (i, item, at, past)) journals are =
      stays (is_on item.object) (items_of lists worker) i item at (eq-eqb item.object item.object refl)
      (no_items (items_on lists item.object worker) worker (are.merged item.object worker
      ∙ ap (numbered_by worker 0) (get_or_past journals item.object [] (let c = are.count in omega (arith, c, past)))))

  -- the journals of the first n objects
  pub record HaveJournals (n : ℕ) (rows : List (List Row)) : Type 0 where
    pub count : length rows ≡ n
    pub merged : (object : ℕ) → object < n → IsMerged (items_on lists object) (entries_in_row (get_or rows object []))

  pub none_yet : HaveJournals 0 []
  none_yet = record { count = refl; merged = λ object below. absurd (omega (arith, below)) }

  pub journal_more : (n : ℕ) (rows : List (List Row)) → HaveJournals n rows → (row : List Row) → IsMerged (items_on lists n) (entries_in_row row) → HaveJournals (n + 1) (rows ++ row ∷ [])
  journal_more n rows have row merged = record {
    count = length-append rows (row ∷ []) ∙ ap (λ k. k + 1) have.count;
    merged = λ object below. by object (eq-or-lt_of_le {n = object} {m = n} (omega (arith, below)));
  } where
    by : (object : ℕ) → (object ≡ n) ⊎ (object < n) → IsMerged (items_on lists object) (entries_in_row (get_or (rows ++ row ∷ []) object []))
    by object (inl same) = subst (λ o. IsMerged (items_on lists o) (entries_in_row (get_or (rows ++ row ∷ []) o []))) (sym same)
        (subst (λ (r : List Row). IsMerged (items_on lists n) (entries_in_row r)) (sym (get_or_at rows row [] [] n have.count)) merged)
    by object (inr before) = subst (λ (r : List Row). IsMerged (items_on lists object) (entries_in_row r)) (sym (get_or_append_left rows (row ∷ []) [] object (let c = have.count in omega (arith, before, c)))) (have.merged object before)

  pub journals_all : (rows : List (List Row)) → HaveJournals objects rows → ((object worker : ℕ) → objects ≤ object → items_on lists object worker ≡ []) → AreJournals lists objects (journals_in rows)
  journals_all rows have none = record {
    count = length-map rows entries_in_row ∙ have.count;
    merged = λ object. subst (IsMerged (items_on lists object)) (sym (mapped rows object)) (by object (leb_tells objects object));
  } where
    by : (object : ℕ) → ((leb objects object ≡ true) × (objects ≤ object)) ⊎ ((leb objects object ≡ false) × (object < objects)) → IsMerged (items_on lists object) (entries_in_row (get_or rows object []))
    by object (inl (yes_, past)) = subst (λ (r : List Row). IsMerged (items_on lists object) (entries_in_row r)) (sym (get_or_past rows object [] (let c = have.count in omega (arith, c, past)))) (λ worker. ap (map (numbered worker)) (none object worker past))
    by object (inr (no_, before)) = have.merged object before
