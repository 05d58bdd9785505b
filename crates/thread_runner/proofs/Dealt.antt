-- Rows that are dealt, and collected again.
use Rattle.std.proofs.Common.{◌≡◌, ℕ, zero, suc, ◌+◌, ◌-◌, ◌<◌, ◌≤◌, Bool, true, false, ◌==◌, cond, List, [], ◌∷◌, ◌++◌, length, get_or, map, reverse, Some, ◌⊎◌, inl, inr, slice_get, refl, sym, ap, ◌∙◌, subst, arith}
use Rattle.std.specs.Prelude.{nat_lt}
use Rattle.std.proofs.lemmas.Bool.{eqb-true, eq-eqb, false≢true, ltb-true, ltb-false}
use mathlib.Core.List.{reverse-cons}
use Rattle.std.proofs.lemmas.List.{get_or-reverse, length-reverse, length_push, get_or_push, get_or_append_left, map_push}
use Rattle.std.proofs.lemmas.Option.{none-some, same_Some, slice_get_within, get_or_from_slice_get, slice_get-get_or}
use Rattle.thread_objects.specs.declared.column.AnyColumn.{AnyColumn}
use Rattle.thread_objects.specs.declared.object.AnyObject.{AnyObject}
use Rattle.thread_objects.specs.declared.pass.AnyPass.{AnyPass}
use Rattle.thread_objects.specs.Passes.{owns_of}
use Rattle.thread_objects.specs.Rows.{made_on}
use Rattle.thread_runner.specs.Dealing.{IsRow, AreRows}

module _ {A : Type 0} where
  -- an item of a list with one more behind it is one of the list's, or that one
  pub pushed_at : (xs : List A) (x y : A) (i : ℕ) → slice_get (xs ++ x ∷ []) i ≡ Some y → (slice_get xs i ≡ Some y) ⊎ ((i ≡ length xs) × (x ≡ y))
  pushed_at [] x y zero at = inr (refl, same_Some x y at)
  pushed_at [] x y (suc i) at = absurd (none-some y at)
  pushed_at (z ∷ xs) x y zero at = inl at
  pushed_at (z ∷ xs) x y (suc i) at = later (pushed_at xs x y i at) where
    later : (slice_get xs i ≡ Some y) ⊎ ((i ≡ length xs) × (x ≡ y)) → (slice_get (z ∷ xs) (suc i) ≡ Some y) ⊎ ((suc i ≡ suc (length xs)) × (x ≡ y))
    later (inl found) = inl found
    later (inr (is, same)) = inr (ap (λ n. suc n) is, same)

module _ {A B : Type 0} (f : A → B) where
  pub mapped_reverse : (xs : List A) → map f (reverse xs) ≡ reverse (map f xs)
  mapped_reverse [] = refl
  mapped_reverse (x ∷ xs) = ap (map f) (reverse-cons x xs) ∙ map_push f (reverse xs) x ∙ ap (λ (l : List B). l ++ f x ∷ []) (mapped_reverse xs) ∙ sym (reverse-cons (f x) (map f xs))

  pub mapped_found : (xs : List A) (i : ℕ) (x : A) → slice_get xs i ≡ Some x → slice_get (map f xs) i ≡ Some (f x)
  mapped_found [] i x at = absurd (none-some x at)
  mapped_found (y ∷ xs) zero x at = ap (λ (z : A). Some (f z)) (same_Some y x at)
  mapped_found (y ∷ xs) (suc i) x at = mapped_found xs i x at

module _ {N H : Type 0} (at : H → N → Type 0) (home : H) (workers : ℕ) (objects : List (AnyObject N H)) where
  -- the rows of the last workers, the last one's first
  abbrev pub AreLast : (next : ℕ) → List (List (AnyPass N)) → Type 0
  AreLast next rows = (length rows + next ≡ workers) × ((i worker : ℕ) (row : List (AnyPass N)) → i + worker + 1 ≡ workers → slice_get rows i ≡ Some row → IsRow at home workers worker objects row)

  -- one more row, which is the next one's
  pub one_more : (next : ℕ) (rows : List (List (AnyPass N))) (row : List (AnyPass N)) → AreLast (suc next) rows → IsRow at home workers next objects row → AreLast next (rows ++ row ∷ [])
  one_more next rows row last is = (omega (arith, last.0, length_push rows row), λ i worker other place found. by_case i worker other place (pushed_at rows row other i found)) where
    by_case : (i worker : ℕ) (other : List (AnyPass N)) → i + worker + 1 ≡ workers → (slice_get rows i ≡ Some other) ⊎ ((i ≡ length rows) × (row ≡ other)) → IsRow at home workers worker objects other
    by_case i worker other place (inl found) = last.1 i worker other place found
    by_case i worker other place (inr (behind, same)) =
        let is_next : next ≡ worker = omega (arith, last.0, place, behind) in
        subst (λ (r : List (AnyPass N)). IsRow at home workers worker objects r) same (subst (λ n. IsRow at home workers n objects row) is_next is)

  -- all rows, in order
  pub in_order : (rows : List (List (AnyPass N))) → AreLast 0 rows → AreRows at home workers objects (reverse rows)
  in_order rows last = record {
    count = length-reverse rows ∙ omega (arith, last.0);
    each = λ worker row found.
        let within : worker < length (reverse rows) = slice_get_within (reverse rows) worker row found in
        let long = length-reverse rows in
        let i : ℕ = length rows - 1 - worker in
        let i_within : i < length rows = omega (arith, within, long) in
        let place : i + worker + 1 ≡ workers = omega (arith, within, long, last.0) in
        let is : row ≡ get_or rows i row = sym (get_or_from_slice_get (reverse rows) worker row row found) ∙ get_or-reverse rows worker row (omega (arith, within, long)) ∙ ap (λ n. get_or rows n row) (omega arith) in
        last.1 i worker row place (slice_get-get_or rows i row i_within ∙ ap (λ (r : List (AnyPass N)). Some r) (sym is));
  }

module _ {N : Type 0} (full rest : List (AnyColumn N)) (row : List (AnyPass N)) (worker : ℕ) (made : (object other : ℕ) → made_on full object other ≡ cond (other == worker) (owns_of row object) (made_on rest object other)) where
  -- of the worker whose row it is the row has all that it made
  pub row_has_all : (object : ℕ) → made_on full object worker ≡ owns_of row object
  row_has_all object = made object worker ∙ ap (λ (b : Bool). cond b (owns_of row object) (made_on rest object worker)) (eq-eqb worker worker refl)

  -- and of others the columns still have it
  pub others_stay : (object other : ℕ) → (other == worker) ≡ false → made_on full object other ≡ made_on rest object other
  others_stay object other is = made object other ∙ ap (λ (b : Bool). cond b (owns_of row object) (made_on rest object other)) is

module _ (a b : ℕ) where
  apart : (a ≡ b → ⊥) → (a == b) ≡ false
  apart differ = by_case (a == b) refl where
    by_case : (t : Bool) → (a == b) ≡ t → (a == b) ≡ false
    by_case true is = absurd (differ (eqb-true a b is))
    by_case false is = is

module _ {N : Type 0} (full rest : List (AnyColumn N)) (row : List (AnyPass N)) (workers worker : ℕ) (made : (object other : ℕ) → made_on full object other ≡ cond (other == worker) (owns_of row object) (made_on rest object other)) (low : worker < workers) where
  -- where nobody made anything so far, nobody did behind the row
  pub nothing_left : ((object other : ℕ) → (other < suc worker → made_on full object other ≡ []) × (workers ≤ other → made_on full object other ≡ [])) → (object other : ℕ) → (other < worker → made_on rest object other ≡ []) × (workers ≤ other → made_on rest object other ≡ [])
  nothing_left nothing object other = (
    λ below. sym (others_stay full rest row worker made object other (apart other worker (λ is. absurd (omega (arith, below, is))))) ∙ (nothing object other).0 (omega (arith, below)),
    λ beyond. sym (others_stay full rest row worker made object other (apart other worker (λ is. absurd (omega (arith, beyond, low, is))))) ∙ (nothing object other).1 beyond,
  )

less_from : (a b : ℕ) → a ≤ b → (a ≡ b → ⊥) → a < b
less_from a b most differ = by_order (nat_lt a b) refl where
  by_order : (t : Bool) → nat_lt a b ≡ t → a < b
  by_order true is = ltb-true a b is
  by_order false is = let most_too = ltb-false a b is in absurd (differ (omega (arith, most, most_too)))

-- the rows of the first workers are back, in columns that had others' before
module _ {N : Type 0} (first old new : List (AnyColumn N)) (before : List (List (AnyPass N))) (row : List (AnyPass N)) (made : (object other : ℕ) → made_on new object other ≡ cond (other == length before) (owns_of row object) (made_on old object other)) where
  pub all_back : ((object worker : ℕ) → worker < length before → made_on old object worker ≡ owns_of (get_or before worker []) object)
      → (object worker : ℕ) → worker < length (before ++ row ∷ []) → made_on new object worker ≡ owns_of (get_or (before ++ row ∷ []) worker []) object
  all_back back object worker within = by_case (worker == length before) refl where
    by_case : (t : Bool) → (worker == length before) ≡ t → made_on new object worker ≡ owns_of (get_or (before ++ row ∷ []) worker []) object
    by_case true is =
        let here = eqb-true worker (length before) is in
        ap (made_on new object) here ∙ row_has_all new old row (length before) made object ∙ ap (λ (r : List (AnyPass N)). owns_of r object) (sym (get_or_push before row [] worker (sym here)))
    by_case false is =
        let differ : worker ≡ length before → ⊥ = λ same. false≢true (sym is ∙ eq-eqb worker (length before) same) in
        let long = length_push before row in
        let below : worker < length before = less_from worker (length before) (omega (arith, within, long)) differ in
        others_stay new old row (length before) made object worker is ∙ back object worker below ∙ ap (λ (r : List (AnyPass N)). owns_of r object) (sym (get_or_append_left before (row ∷ []) [] worker below))

  pub others_as_before : ((object worker : ℕ) → length before ≤ worker → made_on old object worker ≡ made_on first object worker) → (object worker : ℕ) → length (before ++ row ∷ []) ≤ worker → made_on new object worker ≡ made_on first object worker
  others_as_before as_before object worker beyond =
      let long = length_push before row in
      others_stay new old row (length before) made object worker (apart worker (length before) (λ is. absurd (omega (arith, beyond, long, is)))) ∙ as_before object worker (omega (arith, beyond, long))
