-- Pairs that are sorted by key, each of which stands there once, are the entries of their map.
use Rattle.std.proofs.Common.{rules, ◌≡◌, ℕ, suc, ◌+◌, ◌<◌, ◌≤◌, ◌==◌, Bool, true, false, ◌&&◌, cond, eq-eqb, List, [], ◌∷◌, Option, Some, None, is_some, length, refl, sym, ap, ◌∙◌, subst, arith, inl, inr}
use Rattle.std.specs.Prelude.{T, All, count_by}
use Rattle.std.specs.Cmp.{tied_itself, nat_cmp_total}
use Rattle.std.specs.FinMap.{entries, find, from_entries, from_sorted, is_sorted, len, entries-from_sorted, get-from_sorted, get-from_entries, len-entries, len-insert, len-empty, same_map, nat_cmp-IsAntisymmetric}
use Rattle.std.specs.FinMap.Entries.{below_all}
use Rattle.std.specs.List.Sorted.{IsPermutation, IsNonDecreasingBy}
use Rattle.std.specs.Ordering.{nat_cmp, eq_by_cmp, is_eq, is_lt}
use Rattle.std.specs.declared.cmp.Ordering.{Ordering}
use Rattle.std.specs.declared.cmp.Ordering.TheVariants.{Less, Equal, Greater}
use Rattle.std.proofs.lemmas.Bool.{cases_eq}
use Rattle.std.proofs.lemmas.List.Elements.{All-nil, All-cons, All-head, All-tail, All-weaker}
use Rattle.std.proofs.lemmas.List.Sorted.{All-permutation, IsPermutation-sym, sum_by-IsPermutation}
use Rattle.std.proofs.lemmas.List.Sums.{sum_by-cons}
use Rattle.std.proofs.lemmas.Option.{none-some}

not_tied : (o : Ordering) (q k : ℕ) → nat_cmp q k ≡ o → (q ≡ k → ⊥) → is_eq o ≡ false
not_tied Less q k e ne = refl
not_tied Equal q k e ne = absurd (ne (nat_cmp-IsAntisymmetric q k e))
not_tied Greater q k e ne = refl

-- the first of some pairs has this key, or another
finds_first : (q : ℕ) (pair : ℕ × ℕ) (pairs : List (ℕ × ℕ)) → q ≡ pair.0 → find nat_cmp q (pair ∷ pairs) ≡ Some pair.1
finds_first q pair pairs same = ap (λ (b : Bool). cond b (Some pair.1) (find nat_cmp q pairs)) (subst (λ (j : ℕ). eq_by_cmp nat_cmp q j ≡ true) same (ap is_eq (tied_itself nat_cmp_total q)))

finds_behind : (q : ℕ) (pair : ℕ × ℕ) (pairs : List (ℕ × ℕ)) → (q ≡ pair.0 → ⊥) → find nat_cmp q (pair ∷ pairs) ≡ find nat_cmp q pairs
finds_behind q pair pairs ne = ap (λ (b : Bool). cond b (Some pair.1) (find nat_cmp q pairs)) (not_tied (nat_cmp q pair.0) q pair.0 refl ne)

-- how often a key stands there
abbrev count : ℕ → List (ℕ × ℕ) → ℕ
count key pairs = count_by (λ pair. pair.0 == key) pairs

abbrev Once : List (ℕ × ℕ) → Type 0
Once pairs = (key : ℕ) → count_by (λ pair. pair.0 == key) pairs ≤ 1

one_if : (b : Bool) → b ≡ true → cond {A = ℕ} b 1 0 ≡ 1
one_if b is = ap (λ (t : Bool). cond {A = ℕ} t 1 0) is

count_more : (key : ℕ) (pair : ℕ × ℕ) (pairs : List (ℕ × ℕ)) → count key pairs ≤ count key (pair ∷ pairs)
count_more key pair pairs = let sum = sum_by-cons (λ (pair : ℕ × ℕ). cond (pair.0 == key) 1 0) pair pairs in omega arith

count_first : (pair : ℕ × ℕ) (pairs : List (ℕ × ℕ)) → count pair.0 (pair ∷ pairs) ≡ 1 + count pair.0 pairs
count_first pair pairs = let sum = sum_by-cons (λ (other : ℕ × ℕ). cond (other.0 == pair.0) 1 0) pair pairs in let one = one_if (pair.0 == pair.0) (eq-eqb pair.0 pair.0 refl) in omega arith

found_counted : (q v : ℕ) (pairs : List (ℕ × ℕ)) → find nat_cmp q pairs ≡ Some v → 1 ≤ count q pairs
found_counted q v [] at = absurd (none-some v at)
found_counted q v (pair ∷ pairs) at = elim (cases_eq q pair.0) [
  | inl same ↦ subst (λ n. 1 ≤ count n (pair ∷ pairs)) (sym same) (let one = count_first pair pairs in omega arith)
  | inr ne ↦ let more = count_more q pair pairs in let there = found_counted q v pairs (sym (finds_behind q pair pairs ne) ∙ at) in omega arith
]

not_counted : (q : ℕ) (pairs : List (ℕ × ℕ)) → count q pairs ≡ 0 → find nat_cmp q pairs ≡ None
not_counted q pairs none = by_value (find nat_cmp q pairs) refl
  where
    by_value : (o : Option ℕ) → find nat_cmp q pairs ≡ o → o ≡ None
    by_value None is = refl
    by_value (Some v) is = absurd (let there = found_counted q v pairs is in omega arith)

module _ (pair : ℕ × ℕ) (pairs : List (ℕ × ℕ)) (once : Once (pair ∷ pairs)) where
  once_behind : Once pairs
  once_behind key = let more = count_more key pair pairs in let one = once key in omega arith

  not_behind : find nat_cmp pair.0 pairs ≡ None
  not_behind = not_counted pair.0 pairs (let first = count_first pair pairs in let one = once pair.0 in omega arith)

-- each pair is found under its key
all_found : (pairs : List (ℕ × ℕ)) → Once pairs → All (λ pair. find nat_cmp pair.0 pairs ≡ Some pair.1) pairs
all_found [] once = All-nil (λ (pair : ℕ × ℕ). find nat_cmp pair.0 [] ≡ Some pair.1)
all_found (first ∷ pairs) once = All-cons (λ (pair : ℕ × ℕ). find nat_cmp pair.0 (first ∷ pairs) ≡ Some pair.1) first pairs (finds_first first.0 first pairs refl)
    (All-weaker (λ (pair : ℕ × ℕ). find nat_cmp pair.0 pairs ≡ Some pair.1) (λ (pair : ℕ × ℕ). find nat_cmp pair.0 (first ∷ pairs) ≡ Some pair.1) still pairs (all_found pairs (once_behind first pairs once)))
  where
    still : (pair : ℕ × ℕ) → find nat_cmp pair.0 pairs ≡ Some pair.1 → find nat_cmp pair.0 (first ∷ pairs) ≡ Some pair.1
    still pair at = finds_behind pair.0 first pairs (λ same. none-some pair.1 (sym (not_behind first pairs once) ∙ ap (λ n. find nat_cmp n pairs) (sym same) ∙ at)) ∙ at

also_found : (xs ys : List (ℕ × ℕ)) → All (λ pair. find nat_cmp pair.0 xs ≡ Some pair.1) ys → (q v : ℕ) → find nat_cmp q ys ≡ Some v → find nat_cmp q xs ≡ Some v
also_found xs [] all q v at = absurd (none-some v at)
also_found xs (pair ∷ ys) all q v at = elim (cases_eq q pair.0) [
  | inl same ↦ ap (λ n. find nat_cmp n xs) same ∙ All-head (λ (pair : ℕ × ℕ). find nat_cmp pair.0 xs ≡ Some pair.1) pair ys all ∙ sym (finds_first q pair ys same) ∙ at
  | inr ne ↦ also_found xs ys (All-tail (λ (pair : ℕ × ℕ). find nat_cmp pair.0 xs ≡ Some pair.1) pair ys all) q v (sym (finds_behind q pair ys ne) ∙ at)
]

both : (a b : Bool) → T a → T b → T (a && b)
both true b p q = q
both false b p q = p

less : (a b : ℕ) → a < b → T (is_lt (nat_cmp a b))
less a b below = search rules

-- a key that isn't there and is no more than the others is below them
below : (key : ℕ) (pairs : List (ℕ × ℕ)) → All (λ pair. key ≤ pair.0) pairs → find nat_cmp key pairs ≡ None → T (below_all nat_cmp key pairs)
below key [] all none = tt
below key (pair ∷ pairs) all none =
    let le = All-head (λ (pair : ℕ × ℕ). key ≤ pair.0) pair pairs all in
    let ne : key ≡ pair.0 → ⊥ = (λ same. none-some pair.1 (sym none ∙ finds_first key pair pairs same)) in
    both _ _ (less key pair.0 (omega arith)) (below key pairs (All-tail (λ (pair : ℕ × ℕ). key ≤ pair.0) pair pairs all) (sym (finds_behind key pair pairs ne) ∙ none))

strictly : (pairs : List (ℕ × ℕ)) → IsNonDecreasingBy (λ pair. pair.0) pairs → Once pairs → T (is_sorted nat_cmp pairs)
strictly [] rise once = tt
strictly (pair ∷ pairs) rise once = both _ _
    (below pair.0 pairs (λ i d inside. rise 0 (suc i) d (omega arith) (omega arith)) (not_behind pair pairs once))
    (strictly pairs (λ i j d le inside. rise (suc i) (suc j) d (omega arith) (omega arith)) (once_behind pair pairs once))

module _ (xs ys : List (ℕ × ℕ)) (once : Once xs) (same : IsPermutation xs ys) where
  still_once : Once ys
  still_once key = let moved = sum_by-IsPermutation (λ (pair : ℕ × ℕ). cond (pair.0 == key) 1 0) xs ys same in let one = once key in omega arith

  finds_same : (q : ℕ) → find nat_cmp q ys ≡ find nat_cmp q xs
  finds_same q = by_value (find nat_cmp q ys) (find nat_cmp q xs) refl refl
    where
      to_first : (v : ℕ) → find nat_cmp q ys ≡ Some v → find nat_cmp q xs ≡ Some v
      to_first v = also_found xs ys (All-permutation (λ (pair : ℕ × ℕ). find nat_cmp pair.0 xs ≡ Some pair.1) xs ys same (all_found xs once)) q v

      to_second : (v : ℕ) → find nat_cmp q xs ≡ Some v → find nat_cmp q ys ≡ Some v
      to_second v = also_found ys xs (All-permutation (λ (pair : ℕ × ℕ). find nat_cmp pair.0 ys ≡ Some pair.1) ys xs (IsPermutation-sym xs ys same) (all_found ys still_once)) q v

      by_value : (a b : Option ℕ) → find nat_cmp q ys ≡ a → find nat_cmp q xs ≡ b → a ≡ b
      by_value (Some v) b is_a is_b = sym (to_first v is_a) ∙ is_b
      by_value None None is_a is_b = refl
      by_value None (Some v) is_a is_b = sym is_a ∙ to_second v is_b

  pub are_entries : IsNonDecreasingBy (λ pair. pair.0) ys → ys ≡ entries (from_entries {R = nat_cmp} xs)
  are_entries rise =
      let sorted = strictly ys rise still_once in
      sym (entries-from_sorted nat_cmp ys sorted)
      ∙ ap entries (same_map nat_cmp_total nat_cmp-IsAntisymmetric (from_sorted ys) (from_entries xs) (λ q. get-from_sorted nat_cmp ys q sorted ∙ finds_same q ∙ sym (get-from_entries nat_cmp_total xs q)))

-- the map has as many entries
pub as_many : (pairs : List (ℕ × ℕ)) → Once pairs → length (entries (from_entries {R = nat_cmp} pairs)) ≡ length pairs
as_many pairs once = sym (len-entries (from_entries {R = nat_cmp} pairs)) ∙ counts pairs once
  where
    counts : (pairs : List (ℕ × ℕ)) → Once pairs → len (from_entries {R = nat_cmp} pairs) ≡ length pairs
    counts [] once = len-empty nat_cmp ℕ
    counts (pair ∷ pairs) once =
        let m = from_entries {R = nat_cmp} pairs in
        let absent = get-from_entries nat_cmp_total pairs pair.0 ∙ not_behind pair pairs once in
        len-insert nat_cmp_total m pair.0 pair.1 ∙ ap (λ o. cond (is_some o) (len m) (len m + 1)) absent ∙ (let rest = counts pairs (once_behind pair pairs once) in omega arith)
