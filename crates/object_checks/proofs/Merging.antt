-- The workers' items of one object, merged by their numbers.
use Rattle.std.proofs.Common.{◌≡◌, ◌≢◌, ◌⊎◌, inl, inr, ℕ, zero, suc, ◌+◌, ◌<◌, ◌≤◌, Bool, true, false, cond, List, [], ◌∷◌, ◌++◌, length, map, take, drop, set, get_or, Some, slice_get, refl, sym, ap, ◌∙◌, subst, arith, add-one}
use Rattle.std.specs.Prelude.{◌==◌}
use Rattle.std.proofs.lemmas.Bool.{eq-eqb}
use Rattle.std.proofs.lemmas.Bool.Decides.{eqb_tells, leb_tells}
use Rattle.std.proofs.lemmas.List.{length-map, length-drop, append-nil, append_assoc, append_cancel_left, map-append, take-append-drop, take_all, get_or-set_same, get_or-set_other}
use Rattle.std.proofs.lemmas.Option.{none-some, slice_get_within, get_or_from_slice_get}
use Rattle.std.proofs.Math.Nat.{suc-ne-zero}
use Rattle.std.proofs.Math.Seq.{take-suc}
use Rattle.run_record.specs.Record.{ObjectEntry}
use Rattle.object_checks.specs.declared.journals.item.JournalItem.{JournalItem}
use Rattle.object_checks.specs.declared.journals.row.Row.{Row}
use Rattle.object_checks.specs.JournalItems.{entry_of, entry_in, entries_in_row, numbered, numbered_by, IsMerged}
use Rattle.object_checks.specs.JournalRows.{IsNext, AreTaken}
use Rattle.object_checks.proofs.Replays.{from_place}

-- what is left of a list begins with what stands there
at_drop : {A : Type 0} (xs : List A) (i : ℕ) (x : A) (others : List A) → drop i xs ≡ x ∷ others → slice_get xs i ≡ Some x
at_drop xs zero x others same = ap (λ l. slice_get l 0) same
at_drop [] (suc i) x others same = ap (λ l. slice_get l 0) same
at_drop (y ∷ xs) (suc i) x others same = at_drop xs i x others same

-- a worker's entries in two parts of a journal
by_parts : (worker n : ℕ) (xs ys : List ObjectEntry) → numbered_by worker n (xs ++ ys) ≡ numbered_by worker n xs ++ numbered_by worker (n + length xs) ys
by_parts worker n [] ys = ap (λ m. numbered_by worker m ys) (omega arith)
by_parts worker n (x ∷ xs) ys =
    ap (λ l. cond (x.caller == worker) ((n, x) ∷ l) l) (by_parts worker (n + 1) xs ys ∙ ap (λ m. numbered_by worker (n + 1) xs ++ numbered_by worker m ys) (omega arith))
    ∙ either (x.caller == worker) where
      either : (b : Bool) → cond b ((n, x) ∷ (numbered_by worker (n + 1) xs ++ numbered_by worker (n + length (x ∷ xs)) ys)) (numbered_by worker (n + 1) xs ++ numbered_by worker (n + length (x ∷ xs)) ys)
          ≡ cond b ((n, x) ∷ numbered_by worker (n + 1) xs) (numbered_by worker (n + 1) xs) ++ numbered_by worker (n + length (x ∷ xs)) ys
      either true = refl
      either false = refl

from_zero : (worker : ℕ) (xs ys : List ObjectEntry) → numbered_by worker 0 (xs ++ ys) ≡ numbered_by worker 0 xs ++ numbered_by worker (length xs) ys
from_zero worker xs ys = by_parts worker 0 xs ys ∙ ap (λ m. numbered_by worker 0 xs ++ numbered_by worker m ys) (omega arith)

-- no entry has a lower number than the first
from_first : (worker n : ℕ) (xs : List ObjectEntry) (p : ℕ × ObjectEntry) (others : List (ℕ × ObjectEntry)) → numbered_by worker n xs ≡ p ∷ others → n ≤ p.0
from_first worker n [] p others same = absurd (suc-ne-zero (length others) (sym (ap length same)))
from_first worker n (x ∷ xs) p others same = either (from_first worker (n + 1) xs p others) (x.caller == worker) same where
  either : (numbered_by worker (n + 1) xs ≡ p ∷ others → n + 1 ≤ p.0) → (b : Bool) → cond b ((n, x) ∷ numbered_by worker (n + 1) xs) (numbered_by worker (n + 1) xs) ≡ p ∷ others → n ≤ p.0
  either later true same = let e : n ≡ p.0 = ap (λ (l : List (ℕ × ObjectEntry)). (get_or l 0 p).0) same in omega (arith, e)
  either later false same = let above = later same in omega (arith, above)

-- a worker's entry that has the number of the first is the first
pub the_first : (worker n : ℕ) (xs : List ObjectEntry) (y : ObjectEntry) (others : List (ℕ × ObjectEntry)) → numbered_by worker n xs ≡ (n, y) ∷ others → (rest : List ObjectEntry) × (xs ≡ y ∷ rest)
the_first worker n [] y others same = absurd (suc-ne-zero (length others) (sym (ap length same)))
the_first worker n (x ∷ xs) y others same = either (x.caller == worker) same where
  either : (b : Bool) → cond b ((n, x) ∷ numbered_by worker (n + 1) xs) (numbered_by worker (n + 1) xs) ≡ (n, y) ∷ others → (rest : List ObjectEntry) × (x ∷ xs ≡ y ∷ rest)
  either true same = (xs, ap (λ (l : List (ℕ × ObjectEntry)). (get_or l 0 (n, y)).1 ∷ xs) same)
  either false same = let later = from_first worker (n + 1) xs (n, y) others same in absurd (omega (arith, later))

module _ (items : ℕ → List JournalItem) where
  -- the journal so far, of each worker's items so many
  pub record Merges (heads : List ℕ) (journal : List ObjectEntry) : Type 0 where
    pub so_far : (worker : ℕ) → numbered_by worker 0 journal ≡ map (numbered worker) (take (get_or heads worker 0) (items worker))
    -- each journal of all the items begins with it
    pub begins : (whole : List ObjectEntry) → IsMerged items whole → (rest : List ObjectEntry) × (whole ≡ journal ++ rest)

  pub none_merged : (heads : List ℕ) → ((worker : ℕ) → get_or heads worker 0 ≡ 0) → Merges heads []
  none_merged heads zeros = record {
    so_far = λ worker. ap (λ n. map (numbered worker) (take n (items worker))) (sym (zeros worker));
    begins = λ whole merged. (whole, refl);
  }

  module _ (heads : List ℕ) (journal : List ObjectEntry) (merges : Merges heads journal) where
    -- what is left of a worker's items is what it has in the rest of a whole journal
    left : (whole rest : List ObjectEntry) → IsMerged items whole → whole ≡ journal ++ rest → (worker : ℕ)
        → numbered_by worker (length journal) rest ≡ map (numbered worker) (drop (get_or heads worker 0) (items worker))
    left whole rest merged parts worker = append_cancel_left (map (numbered worker) (take (get_or heads worker 0) (items worker))) _ _ (
        ap (λ l. l ++ numbered_by worker (length journal) rest) (sym (merges.so_far worker))
        ∙ sym (from_zero worker journal rest)
        ∙ ap (numbered_by worker 0) (sym parts)
        ∙ sym (merged worker)
        ∙ ap (map (numbered worker)) (sym (take-append-drop (get_or heads worker 0) (items worker)))
        ∙ map-append (numbered worker) (take (get_or heads worker 0) (items worker)) (drop (get_or heads worker 0) (items worker)))

    module _ (worker : ℕ) (item : JournalItem) (is : IsNext items heads (length journal) worker item) where
      abbrev entry : ObjectEntry
      entry = entry_of worker item

      opened : drop (get_or heads worker 0) (items worker) ≡ item ∷ drop (get_or heads worker 0 + 1) (items worker)
      opened = from_place (items worker) (get_or heads worker 0) item is.stands

      pub merges_on : Merges (set heads worker (get_or heads worker 0 + 1)) (journal ++ entry ∷ [])
      merges_on = record { so_far = λ other. so_far other (eqb_tells worker other); begins = begins } where
        taken : take (get_or heads worker 0 + 1) (items worker) ≡ take (get_or heads worker 0) (items worker) ++ item ∷ []
        taken = ap (λ n. take n (items worker)) (add-one (get_or heads worker 0)) ∙ take-suc (items worker) (get_or heads worker 0) item (slice_get_within (items worker) (get_or heads worker 0) item is.stands)
            ∙ ap (λ x. take (get_or heads worker 0) (items worker) ++ x ∷ []) (get_or_from_slice_get (items worker) (get_or heads worker 0) item item is.stands)

        so_far : (other : ℕ) → (((worker == other) ≡ true) × (worker ≡ other)) ⊎ (((worker == other) ≡ false) × (worker ≢ other))
            → numbered_by other 0 (journal ++ entry ∷ []) ≡ map (numbered other) (take (get_or (set heads worker (get_or heads worker 0 + 1)) other 0) (items other))
        so_far other (inl (yes_, same)) = subst (λ w. numbered_by w 0 (journal ++ entry ∷ []) ≡ map (numbered w) (take (get_or (set heads worker (get_or heads worker 0 + 1)) w 0) (items w))) same (
            from_zero worker journal (entry ∷ [])
            ∙ ap (λ b. numbered_by worker 0 journal ++ cond b ((length journal, entry) ∷ []) []) (ap (λ w. worker == w) same ∙ yes_)
            ∙ ap (λ n. numbered_by worker 0 journal ++ (n, entry) ∷ []) (sym is.number_is)
            ∙ ap (λ l. l ++ numbered worker item ∷ []) (merges.so_far worker)
            ∙ sym (map-append (numbered worker) (take (get_or heads worker 0) (items worker)) (item ∷ []))
            ∙ ap (map (numbered worker)) (sym taken)
            ∙ ap (λ n. map (numbered worker) (take n (items worker))) (sym (get_or-set_same heads worker (get_or heads worker 0 + 1) 0 is.worker_is)))
        so_far other (inr (no_, apart)) =
            from_zero other journal (entry ∷ [])
            ∙ ap (λ b. numbered_by other 0 journal ++ cond b ((length journal, entry) ∷ []) []) no_
            ∙ append-nil (numbered_by other 0 journal)
            ∙ merges.so_far other
            ∙ ap (λ n. map (numbered other) (take n (items other))) (sym (get_or-set_other heads worker other (get_or heads worker 0 + 1) 0 (λ same. apart (sym same))))

        begins : (whole : List ObjectEntry) → IsMerged items whole → (rest : List ObjectEntry) × (whole ≡ (journal ++ entry ∷ []) ++ rest)
        begins whole merged =
            let b = merges.begins whole merged in
            let f = the_first worker (length journal) b.0 entry (map (numbered worker) (drop (get_or heads worker 0 + 1) (items worker)))
            (left whole b.0 merged b.1 worker ∙ ap (map (numbered worker)) opened ∙ ap (λ n. (n, entry) ∷ map (numbered worker) (drop (get_or heads worker 0 + 1) (items worker))) is.number_is) in
            (f.0, b.1 ∙ ap (λ l. journal ++ l) f.1 ∙ sym (append_assoc journal (entry ∷ []) f.0))

    -- no worker's next item has the next number, and not all are taken
    module _ (stuck : (worker : ℕ) (item : JournalItem) → IsNext items heads (length journal) worker item → ⊥) (workers : (worker : ℕ) → length heads ≤ worker → items worker ≡ []) (not_all : AreTaken items heads → ⊥) where
      inside : (worker : ℕ) (item : JournalItem) → slice_get (items worker) (get_or heads worker 0) ≡ Some item → worker < length heads
      inside worker item there = elim (leb_tells (length heads) worker) [
        | inl past ↦ absurd (none-some item (sym (ap (λ (l : List JournalItem). slice_get l (get_or heads worker 0)) (workers worker past.1)) ∙ there))
        | inr before ↦ before.1
      ]

      pub no_merge : (whole : List ObjectEntry) → IsMerged items whole → ⊥
      no_merge whole merged = let b = merges.begins whole merged in by_rest b.0 b.1 where
        by_rest : (rest : List ObjectEntry) → whole ≡ journal ++ rest → ⊥
        by_rest [] parts = not_all (λ worker.
            let none = ap length (left whole [] merged parts worker) in
            let mapped = length-map (drop (get_or heads worker 0) (items worker)) (numbered worker) in
            let dropped = length-drop (get_or heads worker 0) (items worker) in
            omega (arith, none, mapped, dropped))
        by_rest (y ∷ rest) parts = by_left (drop (get_or heads y.caller 0) (items y.caller)) refl where
          own : numbered_by y.caller (length journal) (y ∷ rest) ≡ (length journal, y) ∷ numbered_by y.caller (length journal + 1) rest
          own = ap (λ b. cond b ((length journal, y) ∷ numbered_by y.caller (length journal + 1) rest) (numbered_by y.caller (length journal + 1) rest)) (eq-eqb y.caller y.caller refl)

          told : (length journal, y) ∷ numbered_by y.caller (length journal + 1) rest ≡ map (numbered y.caller) (drop (get_or heads y.caller 0) (items y.caller))
          told = sym own ∙ left whole (y ∷ rest) merged parts y.caller

          by_left : (d : List JournalItem) → drop (get_or heads y.caller 0) (items y.caller) ≡ d → ⊥
          by_left [] is = suc-ne-zero (length (numbered_by y.caller (length journal + 1) rest)) (ap length (told ∙ ap (map (numbered y.caller)) is))
          by_left (item ∷ others) is =
              let there : slice_get (items y.caller) (get_or heads y.caller 0) ≡ Some item = at_drop (items y.caller) (get_or heads y.caller 0) item others is in
              stuck y.caller item (record {
                worker_is = inside y.caller item there;
                stands = there;
                number_is = sym (ap (λ (l : List (ℕ × ObjectEntry)). (get_or l 0 (length journal, y)).0) (told ∙ ap (map (numbered y.caller)) is));
              })

    -- all items are taken
    pub merged_all : ((worker : ℕ) → length (items worker) ≤ get_or heads worker 0) → IsMerged items journal
    merged_all taken worker = sym (merges.so_far worker ∙ ap (map (numbered worker)) (take_all (get_or heads worker 0) (items worker) (taken worker)))

-- rows so far, and one more
module _ (items : ℕ → List JournalItem) (heads : List ℕ) (rows : List Row) (merges : Merges items heads (entries_in_row rows)) (taken : List ℕ) (same : taken ≡ heads) (number : ℕ) (count : number ≡ length rows) where
  counted : number ≡ length (entries_in_row rows)
  counted = count ∙ sym (length-map rows entry_in)

  pub next_is : (worker : ℕ) (item : JournalItem) → IsNext items taken number worker item → IsNext items heads (length (entries_in_row rows)) worker item
  next_is worker item is = subst (λ (hs : List ℕ). IsNext items hs (length (entries_in_row rows)) worker item) same (subst (λ n. IsNext items taken n worker item) counted is)

  pub row_merged : (row : Row) → IsNext items taken number row.caller row.item.now → (more : List Row) → more ≡ rows ++ row ∷ []
      → (later : List ℕ) → later ≡ set heads row.caller (get_or heads row.caller 0 + 1) → Merges items later (entries_in_row more)
  row_merged row is more added later raised =
      subst (λ (hs : List ℕ). Merges items hs (entries_in_row more)) (sym raised)
      (subst (Merges items (set heads row.caller (get_or heads row.caller 0 + 1))) (sym (ap entries_in_row added ∙ map-append entry_in rows (row ∷ [])))
      (merges_on items heads (entries_in_row rows) merges row.caller row.item.now (next_is row.caller row.item.now is)))

  pub not_merged : ((worker : ℕ) (item : JournalItem) → IsNext items taken number worker item → ⊥) → ((worker : ℕ) → length heads ≤ worker → items worker ≡ []) → (AreTaken items heads → ⊥) → (whole : List ObjectEntry) → IsMerged items whole → ⊥
  not_merged stuck workers not_all = no_merge items heads (entries_in_row rows) merges (λ worker item is. stuck worker item (back worker item is)) workers not_all where
    back : (worker : ℕ) (item : JournalItem) → IsNext items heads (length (entries_in_row rows)) worker item → IsNext items taken number worker item
    back worker item is = subst (λ (hs : List ℕ). IsNext items hs number worker item) (sym same) (subst (λ n. IsNext items heads n worker item) (sym counted) is)
