-- The greatest of what was released so far.
use Rattle.std.proofs.Common.{◌≡◌, ◌⊎◌, inl, inr, ℕ, zero, suc, ◌+◌, ◌<◌, ◌≤◌, Bool, true, false, List, [], ◌∷◌, map, length, replicate, Some, slice_get, slice_index, refl, sym, ap, ◌∙◌, subst, arith}
use Rattle.std.proofs.Math.Nat.{eq-or-lt_of_le}
use Rattle.std.proofs.lemmas.Bool.{false≢true}
use Rattle.std.proofs.lemmas.Option.{none-some, same_Some, slice_get_within}
use Rattle.sync_model.specs.Front.{AtLeast}
use Rattle.sync_model.specs.Journal.{KeepsEdges, is_such}
use Rattle.sync_model.specs.declared.journal.Entry.{Entry}
use Rattle.shared_checks.specs.declared.edges.Note.{Note}
use Rattle.shared_checks.specs.Counts.{Joins}
use Rattle.shared_checks.specs.Edges.{entry_of, is_freeing, is_taking}

-- the counts are just what the first n notes that release knew: they cover each, and each count is 0 or one of theirs
pub record IsMost (notes : List Note) (n : ℕ) (most : List ℕ) : Type 0 where
  pub covers : (i : ℕ) (x : Note) → i < n → slice_get notes i ≡ Some x → x.frees ≡ true → (w : ℕ) → slice_index x.front.of w ≤ slice_index most w
  pub is : (w : ℕ) → (slice_index most w ≡ 0) ⊎ ((i : ℕ) × (x : Note) × (i < n) × (slice_get notes i ≡ Some x) × (x.frees ≡ true) × (slice_index most w ≡ slice_index x.front.of w))

-- the edge law of the first n notes
abbrev pub Kept : List Note → ℕ → Type 0
Kept notes n = (i j : ℕ) (x y : Note) → i < j → j < n → slice_get notes i ≡ Some x → slice_get notes j ≡ Some y → x.frees ≡ true → y.takes ≡ true → (w : ℕ) → slice_index x.front.of w ≤ slice_index y.front.of w

module _ (notes : List Note) (n : ℕ) (x : Note) (at : slice_get notes n ≡ Some x) (front : List ℕ) (most : IsMost notes n front) where
  -- one that doesn't release changes nothing
  pub most_same : x.frees ≡ false → IsMost notes (n + 1) front
  most_same no_ = record {
    covers = λ i y within at_i frees w. by i y at_i frees w (eq-or-lt_of_le {n = i} {m = n} (omega (arith, within)));
    is = λ w. later w (most.is w);
  } where
    by : (i : ℕ) (y : Note) → slice_get notes i ≡ Some y → y.frees ≡ true → (w : ℕ) → (i ≡ n) ⊎ (i < n) → slice_index y.front.of w ≤ slice_index front w
    by i y at_i frees w (inl same) = absurd (false≢true (sym no_ ∙ ap (λ (k : Note). k.frees) (same_Some x y (sym at ∙ ap (slice_get notes) (sym same) ∙ at_i)) ∙ frees))
    by i y at_i frees w (inr below) = most.covers i y below at_i frees w

    later : (w : ℕ) → (slice_index front w ≡ 0) ⊎ ((i : ℕ) × (y : Note) × (i < n) × (slice_get notes i ≡ Some y) × (y.frees ≡ true) × (slice_index front w ≡ slice_index y.front.of w)) → (slice_index front w ≡ 0) ⊎ ((i : ℕ) × (y : Note) × (i < n + 1) × (slice_get notes i ≡ Some y) × (y.frees ≡ true) × (slice_index front w ≡ slice_index y.front.of w))
    later w (inl e) = inl e
    later w (inr (i, y, within, at_i, frees, e)) = inr (i, y, omega (arith, within), at_i, frees, e)

  -- one that does is taken in
  pub most_joined : (new : List ℕ) → x.frees ≡ true → Joins front x.front.of new → IsMost notes (n + 1) new
  most_joined new yes_ joins = record {
    covers = λ i y within at_i frees w. by i y at_i frees w (eq-or-lt_of_le {n = i} {m = n} (omega (arith, within)));
    is = λ w. later w (joins.no_more w) (most.is w);
  } where
    by : (i : ℕ) (y : Note) → slice_get notes i ≡ Some y → y.frees ≡ true → (w : ℕ) → (i ≡ n) ⊎ (i < n) → slice_index y.front.of w ≤ slice_index new w
    by i y at_i frees w (inl same) = subst (λ (k : Note). slice_index k.front.of w ≤ slice_index new w) (same_Some x y (sym at ∙ ap (slice_get notes) (sym same) ∙ at_i)) (joins.knows_second w)
    by i y at_i frees w (inr below) = let e = most.covers i y below at_i frees w in let f = joins.knows_first w in omega (arith, e, f)

    later : (w : ℕ) → (slice_index new w ≡ slice_index front w) ⊎ (slice_index new w ≡ slice_index x.front.of w) → (slice_index front w ≡ 0) ⊎ ((i : ℕ) × (y : Note) × (i < n) × (slice_get notes i ≡ Some y) × (y.frees ≡ true) × (slice_index front w ≡ slice_index y.front.of w)) → (slice_index new w ≡ 0) ⊎ ((i : ℕ) × (y : Note) × (i < n + 1) × (slice_get notes i ≡ Some y) × (y.frees ≡ true) × (slice_index new w ≡ slice_index y.front.of w))
    later w (inr e) old = inr (n, x, omega arith, at, yes_, e)
    later w (inl e) (inl f) = inl (e ∙ f)
    later w (inl e) (inr (i, y, within, at_i, frees, f)) = inr (i, y, omega (arith, within), at_i, frees, e ∙ f)

  -- the next entry may stand where it acquires nothing, or knows what the running maximum knows
  pub kept_more : Kept notes n → (x.takes ≡ true → AtLeast x.front.of front) → Kept notes (n + 1)
  kept_more kept knows = λ i j y z before within at_i at_j frees takes w. by i j y z before at_i at_j frees takes w (eq-or-lt_of_le {n = j} {m = n} (omega (arith, within))) where
    by : (i j : ℕ) (y z : Note) → i < j → slice_get notes i ≡ Some y → slice_get notes j ≡ Some z → y.frees ≡ true → z.takes ≡ true → (w : ℕ) → (j ≡ n) ⊎ (j < n) → slice_index y.front.of w ≤ slice_index z.front.of w
    by i j y z before at_i at_j frees takes w (inr below) = kept i j y z before below at_i at_j frees takes w
    by i j y z before at_i at_j frees takes w (inl same) =
        let is : x ≡ z = same_Some x z (sym at ∙ ap (slice_get notes) (sym same) ∙ at_j) in
        let e = most.covers i y (omega (arith, before, same)) at_i frees w in
        let f : slice_index front w ≤ slice_index z.front.of w = subst (λ (k : Note). slice_index front w ≤ slice_index k.front.of w) is (knows (ap (λ (k : Note). k.takes) is ∙ takes) w) in
        omega (arith, e, f)

  -- and nowhere else
  pub knows_all : Kept notes (n + 1) → x.takes ≡ true → AtLeast x.front.of front
  knows_all kept takes w = by (most.is w) where
    by : (slice_index front w ≡ 0) ⊎ ((i : ℕ) × (y : Note) × (i < n) × (slice_get notes i ≡ Some y) × (y.frees ≡ true) × (slice_index front w ≡ slice_index y.front.of w)) → slice_index front w ≤ slice_index x.front.of w
    by (inl e) = omega (arith, e)
    by (inr (i, y, within, at_i, frees, e)) = let f = kept i n y x within (omega arith) at_i at frees takes w in omega (arith, e, f)

-- nothing is known at the start
pub most_first : (notes : List Note) (front : List ℕ) → ((w : ℕ) → slice_index front w ≡ 0) → IsMost notes 0 front
most_first notes front none = record { covers = λ i x within. absurd (omega (arith, within)); is = λ w. inl (none w) }

-- the law itself

get_map : {A B : Type 0} (f : A → B) (xs : List A) (i : ℕ) (x : A) → slice_get xs i ≡ Some x → slice_get (map f xs) i ≡ Some (f x)
get_map f [] i x e = absurd (none-some x e)
get_map f (a ∷ xs) zero x e = ap Some (ap f (same_Some a x e))
get_map f (a ∷ xs) (suc i) x e = get_map f xs i x e

map_got : {A B : Type 0} (f : A → B) (xs : List A) (i : ℕ) (y : B) → slice_get (map f xs) i ≡ Some y → (x : A) × (slice_get xs i ≡ Some x) × (y ≡ f x)
map_got f [] i y e = absurd (none-some y e)
map_got f (a ∷ xs) zero y e = (a, refl, sym (same_Some (f a) y e))
map_got f (a ∷ xs) (suc i) y e = map_got f xs i y e

within : {A : Type 0} (xs : List A) (i : ℕ) (x : A) → slice_get xs i ≡ Some x → i < length xs
within xs i x e = slice_get_within xs i x e

pub law_kept : (notes : List Note) (n : ℕ) → KeepsEdges is_freeing is_taking (map entry_of notes) → Kept notes n
law_kept notes n law = λ i j x y before below at_i at_j frees takes w. law i j (entry_of x) (entry_of y) before (get_map entry_of notes i x at_i) (get_map entry_of notes j y at_j) frees takes w

pub kept_law : (notes : List Note) (n : ℕ) → length notes ≤ n → Kept notes n → KeepsEdges is_freeing is_taking (map entry_of notes)
kept_law notes n all kept = λ i j x y before at_i at_j frees takes w. by i j x y before frees takes w (map_got entry_of notes i x at_i) (map_got entry_of notes j y at_j) where
  by : (i j : ℕ) (x y : Entry Bool Bool) → i < j → is_such is_freeing x.deed ≡ true → is_such is_taking y.deed ≡ true → (w : ℕ)
      → (a : Note) × (slice_get notes i ≡ Some a) × (x ≡ entry_of a) → (b : Note) × (slice_get notes j ≡ Some b) × (y ≡ entry_of b) → slice_index x.front w ≤ slice_index y.front w
  by i j x y before frees takes w (a, at_a, is_a) (b, at_b, is_b) =
      let inside = within notes j b at_b in
      let e = kept i j a b before (omega (arith, inside, all)) at_a at_b (sym (ap (λ (k : Entry Bool Bool). is_such is_freeing k.deed) is_a) ∙ frees) (sym (ap (λ (k : Entry Bool Bool). is_such is_taking k.deed) is_b) ∙ takes) w in
      let f : slice_index x.front w ≡ slice_index a.front.of w = ap (λ (k : Entry Bool Bool). slice_index k.front w) is_a in
      let g : slice_index y.front w ≡ slice_index b.front.of w = ap (λ (k : Entry Bool Bool). slice_index k.front w) is_b in
      omega (arith, e, f, g)

-- the loop

module _ (notes : List Note) (n : ℕ) (x : Note) (at : slice_get notes n ≡ Some x) (front : List ℕ) (most : IsMost notes n front) where
  pub most_next : (new : List ℕ) → (x.frees ≡ true → Joins front x.front.of new) → (x.frees ≡ false → new ≡ front) → IsMost notes (n + 1) new
  most_next new joined same = by x.frees refl where
    by : (b : Bool) → x.frees ≡ b → IsMost notes (n + 1) new
    by true is = most_joined notes n x at front most new is (joined is)
    by false is = subst (IsMost notes (n + 1)) (sym (same is)) (most_same notes n x at front most is)

  pub no_law : ((x.takes ≡ true → AtLeast x.front.of front) → ⊥) → KeepsEdges is_freeing is_taking (map entry_of notes) → ⊥
  no_law fails law = fails (λ takes. knows_all notes n x at front most (law_kept notes (n + 1) law) takes)

pub none_kept : (notes : List Note) → Kept notes 0
none_kept notes = λ i j x y before within. absurd (omega (arith, within))

zeros : (n w : ℕ) → slice_index (replicate n 0) w ≡ 0
zeros zero w = refl
zeros (suc n) zero = refl
zeros (suc n) (suc w) = zeros n w

pub most_zeros : (notes : List Note) (n : ℕ) → IsMost notes 0 (replicate n 0)
most_zeros notes n = most_first notes (replicate n 0) (zeros n)
