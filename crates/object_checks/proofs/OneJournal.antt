-- The items and their numbers determine the journals.
use Rattle.std.proofs.Common.{◌≡◌, ℕ, zero, suc, ◌+◌, ◌≤◌, Bool, true, false, cond, List, [], ◌∷◌, length, map, drop, get_or, Some, slice_get, refl, sym, ap, ◌∙◌, subst, arith}
use Rattle.std.specs.Prelude.{◌==◌}
use Rattle.std.specs.List.{filter}
use Rattle.std.specs.Option.{option_map}
use Rattle.std.proofs.lemmas.Option.{none-some, same_Some, slice_get-map}
use Rattle.std.proofs.lemmas.Bool.{eq-eqb}
use Rattle.std.proofs.lemmas.List.{ext_get_or}
use Rattle.std.proofs.Math.Nat.{suc-ne-zero}
use Rattle.sync_model.specs.Journal.{by}
use Rattle.run_record.specs.Record.{ObjectEntry}
use Rattle.object_checks.specs.declared.journals.item.JournalItem.{JournalItem}
use Rattle.object_checks.specs.declared.journals.row.Row.{Row}
use Rattle.object_checks.specs.JournalItems.{entry_of, entry_in, entries_in_row, journals_in, items_of, items_on, is_on, numbered, numbered_by, IsMerged, AreJournals, HaveFronts}
use Rattle.object_checks.specs.JournalParts.{journal_at}
use Rattle.object_checks.proofs.JournalsIn.{mapped}
use Rattle.object_checks.proofs.Merging.{the_first}

-- a caller's first entry
own_first : (n : ℕ) (x : ObjectEntry) (journal : List ObjectEntry) → numbered_by x.caller n (x ∷ journal) ≡ (n, x) ∷ numbered_by x.caller (n + 1) journal
own_first n x journal = ap (λ b. cond b ((n, x) ∷ numbered_by x.caller (n + 1) journal) (numbered_by x.caller (n + 1) journal)) (eq-eqb x.caller x.caller refl)

-- what each caller has determines the whole
one : (journal other : List ObjectEntry) (n : ℕ) → ((worker : ℕ) → numbered_by worker n journal ≡ numbered_by worker n other) → journal ≡ other
one [] [] n same = refl
one [] (y ∷ other) n same = absurd (suc-ne-zero (length (numbered_by y.caller (n + 1) other)) (ap length (sym (own_first n y other) ∙ sym (same y.caller))))
one (x ∷ journal) [] n same = absurd (suc-ne-zero (length (numbered_by x.caller (n + 1) journal)) (ap length (sym (own_first n x journal) ∙ same x.caller)))
one (x ∷ journal) (y ∷ other) n same =
    ap (λ z. z ∷ journal) (sym first) ∙ ap (λ l. y ∷ l) (one journal other (n + 1) (λ worker. either worker (y.caller == worker) (ap (λ (z : ObjectEntry). cond (z.caller == worker) ((n, z) ∷ numbered_by worker (n + 1) journal) (numbered_by worker (n + 1) journal)) first ∙ same worker))) where
      first : y ≡ x
      first = ap (λ (l : List ObjectEntry). get_or l 0 y) (the_first x.caller n (y ∷ other) x (numbered_by x.caller (n + 1) journal) (sym (same x.caller) ∙ own_first n x journal)).1

      either : (worker : ℕ) (b : Bool) → cond b ((n, y) ∷ numbered_by worker (n + 1) journal) (numbered_by worker (n + 1) journal) ≡ cond b ((n, y) ∷ numbered_by worker (n + 1) other) (numbered_by worker (n + 1) other)
          → numbered_by worker (n + 1) journal ≡ numbered_by worker (n + 1) other
      either worker true alike = ap (drop 1) alike
      either worker false alike = alike

pub one_journal : (items : ℕ → List JournalItem) (journal other : List ObjectEntry) → IsMerged items journal → IsMerged items other → journal ≡ other
one_journal items journal other merged also = one journal other 0 (λ worker. sym (merged worker) ∙ also worker)

pub one_list : (lists : List (List JournalItem)) (objects : ℕ) (journals others : List (List ObjectEntry)) → AreJournals lists objects journals → AreJournals lists objects others → journals ≡ others
one_list lists objects journals others are also = ext_get_or [] journals others (are.count ∙ sym also.count) (λ object inside. one_journal (items_on lists object) (journal_at journals object) (journal_at others object) (are.merged object) (also.merged object))

-- without their numbers
unnumbered : (worker : ℕ) (items : List JournalItem) → map (λ (p : ℕ × ObjectEntry). p.1) (map (numbered worker) items) ≡ map (entry_of worker) items
unnumbered worker [] = refl
unnumbered worker (x ∷ items) = ap (λ l. entry_of worker x ∷ l) (unnumbered worker items)

callers_own : (worker n : ℕ) (journal : List ObjectEntry) → map (λ (p : ℕ × ObjectEntry). p.1) (numbered_by worker n journal) ≡ by worker journal
callers_own worker n [] = refl
callers_own worker n (x ∷ journal) = either (x.caller == worker) (callers_own worker (n + 1) journal) where
  either : (b : Bool) → map (λ (p : ℕ × ObjectEntry). p.1) (numbered_by worker (n + 1) journal) ≡ by worker journal
      → map (λ (p : ℕ × ObjectEntry). p.1) (cond b ((n, x) ∷ numbered_by worker (n + 1) journal) (numbered_by worker (n + 1) journal)) ≡ cond b (x ∷ by worker journal) (by worker journal)
  either true same = ap (λ l. x ∷ l) same
  either false same = same

pub once_each : (lists : List (List JournalItem)) (objects : ℕ) (journals : List (List ObjectEntry)) → AreJournals lists objects journals → (worker object : ℕ) → map (entry_of worker) (items_on lists object worker) ≡ by worker (journal_at journals object)
once_each lists objects journals are worker object =
    sym (unnumbered worker (items_on lists object worker)) ∙ ap (map (λ (p : ℕ × ObjectEntry). p.1)) (are.merged object worker) ∙ callers_own worker 0 (journal_at journals object)

-- the numbers are places
placed : (worker n : ℕ) (journal : List ObjectEntry) (k : ℕ) (p : ℕ × ObjectEntry) → slice_get (numbered_by worker n journal) k ≡ Some p → (i : ℕ) × (slice_get journal i ≡ Some p.1) × (p.0 ≡ n + i)
placed worker n [] k p at = absurd (none-some p at)
placed worker n (x ∷ journal) k p at = either (x.caller == worker) k at (λ j at. placed worker (n + 1) journal j p at) where
  later : (i : ℕ) × (slice_get journal i ≡ Some p.1) × (p.0 ≡ n + 1 + i) → (i : ℕ) × (slice_get (x ∷ journal) i ≡ Some p.1) × (p.0 ≡ n + i)
  later (i, there, number) = (suc i, there, omega (arith, number))

  either : (b : Bool) (k : ℕ) → slice_get (cond b ((n, x) ∷ numbered_by worker (n + 1) journal) (numbered_by worker (n + 1) journal)) k ≡ Some p
      → ((j : ℕ) → slice_get (numbered_by worker (n + 1) journal) j ≡ Some p → (i : ℕ) × (slice_get journal i ≡ Some p.1) × (p.0 ≡ n + 1 + i))
      → (i : ℕ) × (slice_get (x ∷ journal) i ≡ Some p.1) × (p.0 ≡ n + i)
  either true zero at rest = let same = same_Some (n, x) p at in (0, ap (λ (q : ℕ × ObjectEntry). Some q.1) same, (let e = ap (λ (q : ℕ × ObjectEntry). q.0) same in omega (arith, e)))
  either true (suc k) at rest = later (rest k at)
  either false k at rest = later (rest k at)

pub number_is_place : (lists : List (List JournalItem)) (objects : ℕ) (journals : List (List ObjectEntry)) → AreJournals lists objects journals → (worker object k : ℕ) (item : JournalItem) → slice_get (items_on lists object worker) k ≡ Some item
    → slice_get (journal_at journals object) item.number ≡ Some (entry_of worker item)
number_is_place lists objects journals are worker object k item at =
    let there = slice_get-map (numbered worker) (items_on lists object worker) k ∙ ap (option_map (numbered worker)) at in
    let found = placed worker 0 (journal_at journals object) k (numbered worker item) (sym (ap (λ (l : List (ℕ × ObjectEntry)). slice_get l k) (are.merged object worker)) ∙ there) in
    ap (slice_get (journal_at journals object)) (let e = found.2 in omega (arith, e)) ∙ found.1

-- each entry is one of its caller's
found_by : (journal : List ObjectEntry) (n i : ℕ) (x : ObjectEntry) → slice_get journal i ≡ Some x → (k : ℕ) × (slice_get (numbered_by x.caller n journal) k ≡ Some (n + i, x))
found_by [] n i x at = absurd (none-some x at)
found_by (y ∷ journal) n zero x at = (
  0,
  subst (λ (z : ObjectEntry). slice_get (numbered_by z.caller n (y ∷ journal)) 0 ≡ Some (n + 0, z)) (same_Some y x at)
      (ap (λ l. slice_get l 0) (own_first n y journal) ∙ ap (λ m. Some (m, y)) (omega arith)),
)
found_by (y ∷ journal) n (suc i) x at = either (y.caller == x.caller) (found_by journal (n + 1) i x at) where
  either : (b : Bool) → (k : ℕ) × (slice_get (numbered_by x.caller (n + 1) journal) k ≡ Some (n + 1 + i, x))
      → (k : ℕ) × (slice_get (cond b ((n, y) ∷ numbered_by x.caller (n + 1) journal) (numbered_by x.caller (n + 1) journal)) k ≡ Some (n + suc i, x))
  either true (k, there) = (suc k, there ∙ ap (λ m. Some (m, x)) (omega arith))
  either false (k, there) = (k, there ∙ ap (λ m. Some (m, x)) (omega arith))

item_at : (worker : ℕ) (items : List JournalItem) (k : ℕ) (p : ℕ × ObjectEntry) → slice_get (map (numbered worker) items) k ≡ Some p → (item : JournalItem) × (slice_get items k ≡ Some item) × (numbered worker item ≡ p)
item_at worker [] k p at = absurd (none-some p at)
item_at worker (x ∷ items) zero p at = (x, refl, same_Some (numbered worker x) p at)
item_at worker (x ∷ items) (suc k) p at = item_at worker items k p at

of_all : {A : Type 0} (test : A → Bool) (xs : List A) (k : ℕ) (x : A) → slice_get (filter test xs) k ≡ Some x → (i : ℕ) × (slice_get xs i ≡ Some x)
of_all test [] k x at = absurd (none-some x at)
of_all {A} test (y ∷ xs) k x at = either (test y) k at (λ j there. of_all test xs j x there) where
  either : (b : Bool) (k : ℕ) → slice_get (cond b (y ∷ filter test xs) (filter test xs)) k ≡ Some x → ((j : ℕ) → slice_get (filter test xs) j ≡ Some x → (i : ℕ) × (slice_get xs i ≡ Some x)) → (i : ℕ) × (slice_get (y ∷ xs) i ≡ Some x)
  either true zero at rest = (0, at)
  either true (suc k) at rest = let found = rest k at in (suc found.0, found.1)
  either false k at rest = let found = rest k at in (suc found.0, found.1)

pub item_of_entry : (lists : List (List JournalItem)) (objects : ℕ) (journals : List (List ObjectEntry)) → AreJournals lists objects journals → (object n : ℕ) (x : ObjectEntry) → slice_get (journal_at journals object) n ≡ Some x
    → (i : ℕ) × (item : JournalItem) × (slice_get (items_of lists x.caller) i ≡ Some item) × (entry_of x.caller item ≡ x)
item_of_entry lists objects journals are object n x at =
    let k = found_by (journal_at journals object) 0 n x at in
    let item = item_at x.caller (items_on lists object x.caller) k.0 (0 + n, x) (ap (λ (l : List (ℕ × ObjectEntry)). slice_get l k.0) (are.merged object x.caller) ∙ k.1) in
    let place = of_all (is_on object) (items_of lists x.caller) k.0 item.0 item.1 in
    (place.0, item.0, place.1, ap (λ (p : ℕ × ObjectEntry). p.1) item.2)

entry_there : (rows : List Row) (i : ℕ) (row : Row) → slice_get rows i ≡ Some row → slice_get (entries_in_row rows) i ≡ Some (entry_in row)
entry_there rows i row at = slice_get-map entry_in rows i ∙ ap (option_map entry_in) at

pub fronts_fit : (lists : List (List JournalItem)) (objects : ℕ) (rows : List (List Row)) → AreJournals lists objects (journals_in rows) → ((worker i : ℕ) (item : JournalItem) → slice_get (items_of lists worker) i ≡ Some item → length item.front ≤ 64)
    → (object : ℕ) → HaveFronts (get_or rows object [])
fronts_fit lists objects rows are fit object i row at =
    let found = item_of_entry lists objects (journals_in rows) are object i (entry_in row) (ap (λ (l : List ObjectEntry). slice_get l i) (mapped rows object) ∙ entry_there (get_or rows object []) i row at) in
    subst (λ (e : ObjectEntry). length e.front ≤ 64) found.3 (fit row.caller found.0 found.1 found.2)
