-- Rows and columns that change places.
use Rattle.std.proofs.Common.{◌≡◌, ◌≢◌, ◌⊎◌, inl, inr, ℕ, zero, suc, ◌+◌, ◌<◌, ◌≤◌, Bool, true, false, cond, List, [], ◌∷◌, ◌++◌, length, get_or, set, Option, Some, None, refl, sym, ap, ◌∙◌, subst, arith, length-set}
use Rattle.std.specs.List.{slice_get}
use Rattle.std.specs.Option.{option_and_then}
use Rattle.std.proofs.lemmas.Bool.{cases_eq, cases_lt}
use Rattle.std.proofs.lemmas.Bool.Decides.{nat_tests}
use Rattle.std.proofs.lemmas.List.{set-append_left, set-append_right, get_or_append_left, get_or-append-add, length-append}
use Rattle.std.proofs.lemmas.Option.{slice_get_within, slice_get_past, slice_get-get_or}
use Rattle.go_pool.specs.declared.pass.PoolPass.{PoolPass}
use Rattle.go_pool.specs.Parts.{PartPass, pass_at, cell}
use Rattle.go_pool.specs.Tables.{is_corner, crosses, IsSquare, KeepsRows}

module _ {A : Type 0} where
  pub get_set : (xs : List A) (i : ℕ) (x y : A) → slice_get xs i ≡ Some x → slice_get (set xs i y) i ≡ Some y
  get_set [] i x y is = cc
  get_set (z ∷ xs) zero x y is = refl
  get_set (z ∷ xs) (suc i) x y is = get_set xs i x y is

  pub get_other : (xs : List A) (i j : ℕ) (y : A) → j ≢ i → slice_get (set xs i y) j ≡ slice_get xs j
  get_other [] i j y ne = refl
  get_other (z ∷ xs) zero zero y ne = absurd (ne refl)
  get_other (z ∷ xs) zero (suc j) y ne = refl
  get_other (z ∷ xs) (suc i) zero y ne = refl
  get_other (z ∷ xs) (suc i) (suc j) y ne = get_other xs i j y (λ same. ne (ap suc same))

  -- what stands where something was set
  pub set_found : (xs : List A) (i : ℕ) (x y : A) → slice_get (set xs i x) i ≡ Some y → y ≡ x
  set_found [] i x y is = cc
  set_found (z ∷ xs) zero x y is = cc
  set_found (z ∷ xs) (suc i) x y is = set_found xs i x y is

  pub there : (xs : List A) (i : ℕ) → i < length xs → (x : A) × (slice_get xs i ≡ Some x)
  there [] i h = absurd (omega arith)
  there (x ∷ xs) zero h = (x, refl)
  there (x ∷ xs) (suc i) h = there xs i (omega arith)

  -- two lists with one seam, in each of which one element is set
  two_sets : (low high : List A) (row column : ℕ) (a b : A) → length low ≡ row → column < row → set low column a ++ set high 0 b ≡ set (set (low ++ high) column a) row b
  two_sets low high row column a b long before =
      sym (ap (λ (l : List A). set l row b) (set-append_left low high column a (omega arith)) ∙ (set-append_right (set low column a) high (length low) row b (length-set low column a) (omega arith) ∙ ap (λ (k : ℕ). set low column a ++ set high k b) (omega arith)))

  row_is : (low : List A) (row : ℕ) → length low ≡ row → row ≡ length low + 0
  row_is low row long = omega arith

  pub seam_get : (low high : List A) (row : ℕ) (d : A) → length low ≡ row → 0 < length high → slice_get (low ++ high) row ≡ Some (get_or high 0 d)
  seam_get low high row d long some =
      let long_is = length-append low high in
      ap (slice_get (low ++ high)) (row_is low row long) ∙ (slice_get-get_or (low ++ high) (length low + 0) d (omega arith) ∙ ap Some (get_or-append-add low high 0 d))

  pub front_get : (low high : List A) (column : ℕ) (d : A) → column < length low → slice_get (low ++ high) column ≡ Some (get_or low column d)
  front_get low high column d below =
      let long_is = length-append low high in
      slice_get-get_or (low ++ high) column d (omega arith) ∙ ap Some (get_or_append_left low high d column below)

-- a choice that is known
pub cond_true : {A : Type 0} (b : Bool) (x y : A) → b ≡ true → cond b x y ≡ x
cond_true true x y is = refl
cond_true false x y is = cc

pub cond_false : {A : Type 0} (b : Bool) (x y : A) → b ≡ false → cond b x y ≡ y
cond_false true x y is = cc
cond_false false x y is = refl

module _ {N : Type 0} where
  cell_here : (ps : List (PoolPass N)) (i j : ℕ) (row : PoolPass N) → slice_get ps i ≡ Some row → cell ps i j ≡ pass_at j row
  cell_here ps i j row is = ap (option_and_then (pass_at j)) is

  -- where a row was set
  cell_set : (ps : List (PoolPass N)) (i j : ℕ) (old new : PoolPass N) → slice_get ps i ≡ Some old → cell (set ps i new) i j ≡ pass_at j new
  cell_set ps i j old new is = cell_here (set ps i new) i j new (get_set ps i old new is)

  cell_kept : (ps : List (PoolPass N)) (i j at : ℕ) (new : PoolPass N) → i ≢ at → cell (set ps at new) i j ≡ cell ps i j
  cell_kept ps i j at new apart = ap (option_and_then (pass_at j)) (get_other ps at i new apart)

  module _ (ps : List (PoolPass N)) (row column : ℕ) (a b a' b' : PoolPass N) (x y : PartPass N) (before : column < row) (at_row : slice_get ps row ≡ Some b) (at_column : slice_get ps column ≡ Some a) (in_row : pass_at column b ≡ Some x) (in_column : pass_at row a ≡ Some y)
      (new_column : a'.parts.items ≡ set a.parts.items row x) (new_row : b'.parts.items ≡ set b.parts.items column y) where
    abbrev swapped : List (PoolPass N)
    swapped = set (set ps column a') row b'

    still_row : slice_get (set ps column a') row ≡ Some b
    still_row = get_other ps column row a' (λ e. omega arith) ∙ at_row

    in_new_row : (j : ℕ) → cell swapped row j ≡ slice_get (set b.parts.items column y) j
    in_new_row j = cell_set (set ps column a') row j b b' still_row ∙ ap (λ (l : List (PartPass N)). slice_get l j) new_row

    in_new_column : (j : ℕ) → cell swapped column j ≡ slice_get (set a.parts.items row x) j
    in_new_column j = cell_kept (set ps column a') column j row b' (λ e. omega arith) ∙ (cell_set ps column j a a' at_column ∙ ap (λ (l : List (PartPass N)). slice_get l j) new_column)

    pub corner_cells : (i j : ℕ) → cell swapped i j ≡ cond (is_corner row column i j) (cell ps j i) (cell ps i j)
    corner_cells i j = elim (cases_eq i row) [
      | inl is ↦ subst (λ (k : ℕ). cell swapped k j ≡ cond (is_corner row column k j) (cell ps j k) (cell ps k j)) (sym is) (row_cells (cases_eq j column))
      | inr apart ↦ elim (cases_eq i column) [
        | inl is ↦ subst (λ (k : ℕ). cell swapped k j ≡ cond (is_corner row column k j) (cell ps j k) (cell ps k j)) (sym is) (column_cells (cases_eq j row))
        | inr other ↦ cell_kept (set ps column a') i j row b' apart ∙ (cell_kept ps i j column a' other ∙ sym (cond_false (is_corner row column i j) (cell ps j i) (cell ps i j) (grind (arith, nat_tests))))
      ]
    ] where
      row_cells : (j ≡ column) ⊎ (j ≢ column) → cell swapped row j ≡ cond (is_corner row column row j) (cell ps j row) (cell ps row j)
      row_cells (inl is) =
          in_new_row j ∙ (ap (slice_get (set b.parts.items column y)) is ∙ (get_set b.parts.items column x y in_row ∙ sym (cond_true (is_corner row column row j) (cell ps j row) (cell ps row j) (grind (arith, nat_tests)) ∙ (ap (λ (k : ℕ). cell ps k row) is ∙ (cell_here ps column row a at_column ∙ in_column)))))
      row_cells (inr apart) =
          in_new_row j ∙ (get_other b.parts.items column j y apart ∙ sym (cond_false (is_corner row column row j) (cell ps j row) (cell ps row j) (grind (arith, nat_tests)) ∙ cell_here ps row j b at_row))

      column_cells : (j ≡ row) ⊎ (j ≢ row) → cell swapped column j ≡ cond (is_corner row column column j) (cell ps j column) (cell ps column j)
      column_cells (inl is) =
          in_new_column j ∙ (ap (slice_get (set a.parts.items row x)) is ∙ (get_set a.parts.items row y x in_column ∙ sym (cond_true (is_corner row column column j) (cell ps j column) (cell ps column j) (grind (arith, nat_tests)) ∙ (ap (λ (k : ℕ). cell ps k column) is ∙ (cell_here ps row column b at_row ∙ in_row)))))
      column_cells (inr apart) =
          in_new_column j ∙ (get_other a.parts.items row j x apart ∙ sym (cond_false (is_corner row column column j) (cell ps j column) (cell ps column j) (grind (arith, nat_tests)) ∙ cell_here ps column j a at_column))

  -- rows that were set keep their number, calls and length
  pub set_rows : (ps : List (PoolPass N)) (at : ℕ) (old new : PoolPass N) → slice_get ps at ≡ Some old → new.number ≡ old.number → new.left ≡ old.left → length new.parts.items ≡ length old.parts.items → KeepsRows ps (set ps at new)
  set_rows ps at old new is number left long = record {
    count = length-set ps at new;
    each = λ i one other was now. elim (cases_eq i at) [
      | inl same ↦ kept one other
          (set_found ps at new other (ap (slice_get (set ps at new)) (sym same) ∙ now))
          (let found : Some one ≡ Some old = sym was ∙ (ap (slice_get ps) same ∙ is) in cc)
      | inr apart ↦ let found : Some other ≡ Some one = sym now ∙ (get_other ps at i new apart ∙ was) in unchanged one other (cc)
    ];
  } where
    kept : (one other : PoolPass N) → other ≡ new → one ≡ old → (other.number ≡ one.number) × (other.left ≡ one.left) × (length other.parts.items ≡ length one.parts.items)
    kept one other is_new is_old = (ap (λ (p : PoolPass N). p.number) is_new ∙ (number ∙ sym (ap (λ (p : PoolPass N). p.number) is_old)), ap (λ (p : PoolPass N). p.left) is_new ∙ (left ∙ sym (ap (λ (p : PoolPass N). p.left) is_old)), ap (λ (p : PoolPass N). length p.parts.items) is_new ∙ (long ∙ sym (ap (λ (p : PoolPass N). length p.parts.items) is_old)))

    unchanged : (one other : PoolPass N) → other ≡ one → (other.number ≡ one.number) × (other.left ≡ one.left) × (length other.parts.items ≡ length one.parts.items)
    unchanged one other same = (ap (λ (p : PoolPass N). p.number) same, ap (λ (p : PoolPass N). p.left) same, ap (λ (p : PoolPass N). length p.parts.items) same)

  pub same_rows : (ps : List (PoolPass N)) → KeepsRows ps ps
  same_rows ps = record { count = refl; each = λ i one other was now. let found : Some other ≡ Some one = sym now ∙ was in same one other (cc) } where
    same : (one other : PoolPass N) → other ≡ one → (other.number ≡ one.number) × (other.left ≡ one.left) × (length other.parts.items ≡ length one.parts.items)
    same one other is = (ap (λ (p : PoolPass N). p.number) is, ap (λ (p : PoolPass N). p.left) is, ap (λ (p : PoolPass N). length p.parts.items) is)

  pub rows_then : (ps qs rs : List (PoolPass N)) → KeepsRows ps qs → KeepsRows qs rs → KeepsRows ps rs
  rows_then ps qs rs one two = record {
    count = two.count ∙ one.count;
    each = λ i p r was now.
        let mid = there qs i (let w = slice_get_within ps i p was in let c = one.count in omega arith) in
        let x = one.each i p mid.0 was mid.1 in
        let y = two.each i mid.0 r mid.1 now in
        (y.0 ∙ x.0, y.1 ∙ x.1, y.2 ∙ x.2);
  }

  pub square_kept : (ps qs : List (PoolPass N)) → IsSquare ps → KeepsRows ps qs → IsSquare qs
  square_kept ps qs square rows i q at =
      let p = there ps i (let w = slice_get_within qs i q at in let c = rows.count in omega arith) in
      (rows.each i p.0 q p.1 at).2 ∙ (square i p.0 p.1 ∙ sym rows.count)

  pub corner_swapped : (low high ps : List (PoolPass N)) (row column : ℕ) (a b a' b' : PoolPass N) (x y : PartPass N) → ps ≡ low ++ high → length low ≡ row → column < row → slice_get ps row ≡ Some b → slice_get ps column ≡ Some a → pass_at column b ≡ Some x → pass_at row a ≡ Some y
      → a'.parts.items ≡ set a.parts.items row x → b'.parts.items ≡ set b.parts.items column y → a'.number ≡ a.number → b'.number ≡ b.number → a'.left ≡ a.left → b'.left ≡ b.left
      → KeepsRows ps (set low column a' ++ set high 0 b') × ((i j : ℕ) → cell (set low column a' ++ set high 0 b') i j ≡ cond (is_corner row column i j) (cell ps j i) (cell ps i j))
  corner_swapped low high ps row column a b a' b' x y split long before at_row at_column in_row in_column new_column new_row number_a number_b left_a left_b =
      let whole : set low column a' ++ set high 0 b' ≡ set (set ps column a') row b' = two_sets low high row column a' b' long before ∙ ap (λ (l : List (PoolPass N)). set (set l column a') row b') (sym split) in
      let still : slice_get (set ps column a') row ≡ Some b = get_other ps column row a' (λ e. omega arith) ∙ at_row in
      let first = set_rows ps column a a' at_column number_a left_a (ap length new_column ∙ length-set a.parts.items row x) in
      let second = set_rows (set ps column a') row b b' still number_b left_b (ap length new_row ∙ length-set b.parts.items column y) in (
        subst (KeepsRows ps) (sym whole) (rows_then ps (set ps column a') (set (set ps column a') row b') first second),
        λ i j. ap (λ (l : List (PoolPass N)). cell l i j) whole ∙ corner_cells ps row column a b a' b' x y before at_row at_column in_row in_column new_column new_row i j,
      )

  -- one corner more of a row
  pub row_on : (ps mid new : List (PoolPass N)) (row column i j : ℕ) → column < row → cell mid i j ≡ cond (crosses row column i j) (cell ps j i) (cell ps i j) → cell mid j i ≡ cond (crosses row column j i) (cell ps i j) (cell ps j i)
      → cell new i j ≡ cond (is_corner row column i j) (cell mid j i) (cell mid i j) → cell new i j ≡ cond (crosses row (column + 1) i j) (cell ps j i) (cell ps i j)
  row_on ps mid new row column i j before here across now = by_corner (is_corner row column i j) refl where
    by_corner : (b : Bool) → is_corner row column i j ≡ b → cell new i j ≡ cond (crosses row (column + 1) i j) (cell ps j i) (cell ps i j)
    by_corner true is =
        now ∙ (cond_true (is_corner row column i j) (cell mid j i) (cell mid i j) is ∙ (across ∙ (cond_false (crosses row column j i) (cell ps i j) (cell ps j i) (grind (arith, nat_tests)) ∙ sym (cond_true (crosses row (column + 1) i j) (cell ps j i) (cell ps i j) (grind (arith, nat_tests))))))
    by_corner false is =
        let same : crosses row (column + 1) i j ≡ crosses row column i j = grind (arith, nat_tests) in
        now ∙ (cond_false (is_corner row column i j) (cell mid j i) (cell mid i j) is ∙ (here ∙ ap (λ (b : Bool). cond b (cell ps j i) (cell ps i j)) (sym same)))

  -- one row more of the table: the first rows, as far as so many columns, are turned
  pub record Turned (count : ℕ) (ps qs : List (PoolPass N)) : Type 0 where
    pub turned : (i j : ℕ) → i < count → j < count → cell qs i j ≡ cell ps j i
    pub kept : (i j : ℕ) → (count ≤ i) ⊎ (count ≤ j) → cell qs i j ≡ cell ps i j

  pub turned_on : (ps mid new : List (PoolPass N)) (row : ℕ) → Turned row ps mid → ((i j : ℕ) → cell new i j ≡ cond (crosses row row i j) (cell mid j i) (cell mid i j)) → Turned (row + 1) ps new
  turned_on ps mid new row before now = record { turned = within; kept = past } where
    crossed : (i j : ℕ) → crosses row row i j ≡ true → cell new i j ≡ cell mid j i
    crossed i j is = now i j ∙ cond_true (crosses row row i j) (cell mid j i) (cell mid i j) is

    left : (i j : ℕ) → crosses row row i j ≡ false → cell new i j ≡ cell mid i j
    left i j is = now i j ∙ cond_false (crosses row row i j) (cell mid j i) (cell mid i j) is

    past : (i j : ℕ) → (row + 1 ≤ i) ⊎ (row + 1 ≤ j) → cell new i j ≡ cell ps i j
    past i j (inl far) = left i j (grind (arith, nat_tests)) ∙ before.kept i j (inl (omega arith))
    past i j (inr far) = left i j (grind (arith, nat_tests)) ∙ before.kept i j (inr (omega arith))

    within : (i j : ℕ) → i < row + 1 → j < row + 1 → cell new i j ≡ cell ps j i
    within i j below across = elim (cases_eq i row) [
      | inl is ↦ elim (cases_eq j row) [
        | inl both ↦ left i j (grind (arith, nat_tests)) ∙ (before.kept i j (inl (omega arith)) ∙ (ap (λ (k : ℕ). cell ps i k) (both ∙ sym is) ∙ ap (λ (k : ℕ). cell ps k i) (is ∙ sym both)))
        | inr apart ↦ crossed i j (grind (arith, nat_tests)) ∙ before.kept j i (inr (omega arith))
      ]
      | inr apart ↦ elim (cases_eq j row) [
        | inl is ↦ crossed i j (grind (arith, nat_tests)) ∙ before.kept j i (inl (omega arith))
        | inr other ↦ left i j (grind (arith, nat_tests)) ∙ before.turned i j (omega arith) (omega arith)
      ]
    ]

  pub none_turned : (ps : List (PoolPass N)) → Turned 0 ps ps
  none_turned ps = record { turned = λ i j below across. absurd (omega arith); kept = λ i j far. refl }

  -- there is no place past the rows, nor past the columns
  no_row : (ps : List (PoolPass N)) (i j : ℕ) → length ps ≤ i → cell ps i j ≡ None
  no_row ps i j far = ap (option_and_then (pass_at j)) (slice_get_past ps i far)

  no_column : (ps : List (PoolPass N)) → IsSquare ps → (i j : ℕ) → length ps ≤ j → cell ps i j ≡ None
  no_column ps square i j far = by_row (slice_get ps i) refl where
    by_row : (o : Option (PoolPass N)) → slice_get ps i ≡ o → option_and_then (pass_at j) (slice_get ps i) ≡ None
    by_row None is = ap (option_and_then (pass_at j)) is
    by_row (Some row) is = ap (option_and_then (pass_at j)) is ∙ slice_get_past row.parts.items j (let s = square i row is in omega arith)

  pub all_turned : (ps qs : List (PoolPass N)) → IsSquare ps → Turned (length ps) ps qs → (i j : ℕ) → cell qs i j ≡ cell ps j i
  all_turned ps qs square turned i j = elim (cases_lt i (length ps)) [
    | inl below ↦ elim (cases_lt j (length ps)) [
      | inl across ↦ turned.turned i j below across
      | inr far ↦ turned.kept i j (inr (omega arith)) ∙ (no_column ps square i j (omega arith) ∙ sym (no_row ps j i (omega arith)))
    ]
    | inr far ↦ turned.kept i j (inl (omega arith)) ∙ (no_row ps i j (omega arith) ∙ sym (no_column ps square j i (omega arith)))
  ]
