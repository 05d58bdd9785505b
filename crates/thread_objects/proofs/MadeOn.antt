-- Who made what, by the columns before and after a row was dealt.
use Rattle.std.proofs.Common.{◌≡◌, ◌⊎◌, inl, inr, ℕ, ◌<◌, ◌≤◌, Bool, true, false, ◌==◌, cond, List, [], ◌∷◌, ◌++◌, length, map, get_or, Some, slice_get, refl, sym, ap, ◌∙◌, subst, arith, length-append}
use Rattle.std.proofs.lemmas.Bool.{cases_lt, eqb-true, eq-eqb, false≢true}
use Rattle.std.proofs.lemmas.List.{length-map, length-replicate, get_or_append_left}
use Rattle.std.proofs.Math.Seq.{get_or-append_seam}
use Rattle.std.proofs.lemmas.Option.{slice_get-get_or, slice_get_past}
use Rattle.run_record.specs.Record.{ObjectEntry}
use Rattle.thread_objects.specs.declared.column.AnyColumn.{AnyColumn}
use Rattle.thread_objects.specs.declared.column.AnyColumn.TheVariants as columns
use Rattle.thread_objects.specs.declared.object.AnyObject.{AnyObject}
use Rattle.thread_objects.specs.declared.object.AnyObject.TheVariants as objects
use Rattle.thread_objects.specs.declared.pass.AnyPass.{AnyPass}
use Rattle.thread_objects.specs.declared.pass.AnyPass.TheVariants as passes
use Rattle.thread_objects.specs.ByKind.{own_of, passes_in}
use Rattle.thread_objects.specs.Columns.{IsColumnOf}
use Rattle.thread_objects.specs.Passes.{owns_of}
use Rattle.thread_objects.specs.Rows.{AreColumns, AreDealt, made_on}
use Rattle.thread_objects.proofs.ColumnLists.{got_none, there_is}

sized_map : {A B : Type 0} (f : A → B) (xs : List A) (n : ℕ) → length xs ≡ n → length (map f xs) ≡ n
sized_map f xs n is = length-map xs f ∙ is

module _ {N H : Type 0} (at : H → N → Type 0) (home : H) (workers count : ℕ) where
  count_in : (object : AnyObject N H) (column : AnyColumn N) → IsColumnOf at home workers count object column → length (passes_in column) ≡ count
  count_in objects.Shared (columns.None n) is = length-replicate n passes.None ∙ is
  count_in object (columns.None n) is = search
  count_in object column is = search (sized_map)

module _ {N : Type 0} where
  past_end : (ps : List (AnyPass N)) (n : ℕ) → length ps ≤ n → owns_of ps n ≡ []
  past_end ps n past = ap (λ (p : AnyPass N). own_of p) (got_none ps n passes.None (slice_get_past ps n past))

  one_behind : (ps : List (AnyPass N)) (p : AnyPass N) (worker : ℕ) → length ps ≡ worker → (other : ℕ) → owns_of (ps ++ p ∷ []) other ≡ cond (other == worker) (own_of p) (owns_of ps other)
  one_behind ps p worker sized other = by_test (other == worker) refl where
    by_test : (b : Bool) → (other == worker) ≡ b → owns_of (ps ++ p ∷ []) other ≡ cond b (own_of p) (owns_of ps other)
    by_test true is = subst (λ (n : ℕ). owns_of (ps ++ p ∷ []) n ≡ own_of p) (sized ∙ sym (eqb-true other worker is)) (ap (λ (q : AnyPass N). own_of q) (get_or-append_seam ps p [] passes.None))
    by_test false is = by_order (cases_lt other (length ps)) where
      apart : other ≡ worker → ⊥
      apart same = false≢true (sym is ∙ eq-eqb other worker same)

      by_order : (other < length ps) ⊎ (length ps ≤ other) → owns_of (ps ++ p ∷ []) other ≡ owns_of ps other
      by_order (inl first) = ap (λ (q : AnyPass N). own_of q) (get_or_append_left ps (p ∷ []) passes.None other first)
      by_order (inr last) = by_more (cases_lt (length ps) other) where
        by_more : (length ps < other) ⊎ (other ≤ length ps) → owns_of (ps ++ p ∷ []) other ≡ owns_of ps other
        by_more (inl beyond) = past_end (ps ++ p ∷ []) other (omega (arith, beyond, length-append ps (p ∷ []))) ∙ sym (past_end ps other last)
        by_more (inr least) = absurd (apart (omega (arith, least, last, sized)))

-- what is made on an object is made by the worker of the row, or as it was
pub made_with : {N H : Type 0} (at : H → N → Type 0) (home : H) (workers worker : ℕ) (objects : List (AnyObject N H)) (full rest : List (AnyColumn N)) (row : List (AnyPass N)) → AreColumns at home workers worker objects rest → length full ≡ length objects → length row ≡ length objects → AreDealt full rest row
    → (object other : ℕ) → made_on full object other ≡ cond (other == worker) (owns_of row object) (made_on rest object other)
made_with {N} {H} at home workers worker objects full rest row are full_sized row_sized dealt object other = by_case (cases_lt object (length objects)) where
  neither : (b : Bool) (a c : List ObjectEntry) → a ≡ [] → c ≡ [] → [] ≡ cond b a c
  neither true a c is so = sym is
  neither false a c is so = sym so

  nobody : (all : List (AnyColumn N)) → length all ≤ object → made_on all object other ≡ []
  nobody all past = ap (λ (c : AnyColumn N). owns_of (passes_in c) other) (got_none all object (columns.None 0) (slice_get_past all object past))

  some_object : object < length objects → (o : AnyObject N H) × (slice_get objects object ≡ Some o)
  some_object within = there_is objects object within

  by_case : (object < length objects) ⊎ (length objects ≤ object) → made_on full object other ≡ cond (other == worker) (owns_of row object) (made_on rest object other)
  by_case (inl within) =
      let o = some_object within in
      let column = get_or rest object (columns.None 0) in
      let sized = count_in at home workers worker o.0 column (are.each object o.0 column o.1 (slice_get-get_or rest object (columns.None 0) (omega (arith, within, are.sized)))) in
      ap (λ (ps : List (AnyPass N)). owns_of ps other) (dealt object (omega (arith, within, row_sized))) ∙ one_behind (passes_in column) (get_or row object passes.None) worker sized other
  by_case (inr past) = nobody full (omega (arith, past, full_sized)) ∙ neither (other == worker) (owns_of row object) (made_on rest object other) (past_end row object (omega (arith, past, row_sized))) (nobody rest (omega (arith, past, are.sized)))
