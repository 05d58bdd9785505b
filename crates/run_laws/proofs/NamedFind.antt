-- Looking keys up by name and by number, and in maps put together.
use Rattle.std.proofs.Common.{◌≡◌, ◌≢◌, ◌⊎◌, inl, inr, ℕ, zero, suc, ◌+◌, ◌<◌, ◌≤◌, ◌==◌, Bool, true, false, ◌||◌, cond, List, [], ◌∷◌, ◌++◌, map, length, get_or, Option, Some, None, slice_get, refl, sym, ap, ◌∙◌, subst, arith}
use Rattle.std.specs.Prelude.{is_some}
use Rattle.std.specs.Cmp.{IsTotalOrder, unsigned_tied}
use Rattle.std.specs.Cmp.Lexicographic.{slice_cmp}
use Rattle.std.specs.declared.cmp.Ordering.{Ordering}
use Rattle.std.specs.FinMap.{FinMap, find, entries, get, get-entries}
use Rattle.std.specs.List.{list_any, flat_map, position_from}
use Rattle.std.specs.Option.{option_map_or}
use Rattle.std.specs.Ordering.{nat_cmp, eq_by_cmp}
use Rattle.std.specs.Str.{bytes_eq}
use Rattle.std.proofs.lemmas.Bool.{false≢true, cases_Bool, eq-eqb, ne_eqb}
use Rattle.std.proofs.lemmas.Cmp.{eq_by_cmp_equiv}
use Rattle.std.proofs.lemmas.Map.Text.{is_eq-slice_cmp}
use Rattle.std.proofs.lemmas.Option.{none-some, same_Some, slice_get_cases, get_or_from_slice_get}
use Rattle.std.proofs.lemmas.Slice.Eq.{bytes_eq-Decides}
use Rattle.workload.specs.Keys.{number_in, key_number, key_name}
use Rattle.run_laws.proofs.NamedKeys.{or_second, same_bytes}

-- the first of two lists that has the key
pub find_append : {K X : Type 0} (R : K → K → Ordering) (q : K) (xs ys : List (K × X)) → find R q (xs ++ ys) ≡ cond (is_some (find R q xs)) (find R q xs) (find R q ys)
find_append R q [] ys = refl
find_append {X = X} R q (x ∷ xs) ys = ap (cond (eq_by_cmp R q x.0) (Some x.1)) (find_append R q xs ys) ∙ chosen (eq_by_cmp R q x.0) where
  chosen : (b : Bool) → cond b (Some x.1) (cond (is_some (find R q xs)) (find R q xs) (find R q ys)) ≡ cond (is_some (cond b (Some x.1) (find R q xs))) (cond b (Some x.1) (find R q xs)) (find R q ys)
  chosen true = refl
  chosen false = refl

or_else : {X : Type 0} (found : Option X) → cond (is_some found) found None ≡ found
or_else (Some x) = refl
or_else None = refl

-- in maps put together, of which one at most has the key
module _ {A K X : Type 0} (R : K → K → Ordering) (q : K) (f : A → FinMap R X) where
  pub find_none : (xs : List A) → ((i : ℕ) (x : A) → slice_get xs i ≡ Some x → get (f x) q ≡ None) → find R q (flat_map (λ x. entries (f x)) xs) ≡ None
  find_none [] none = refl
  find_none (x ∷ xs) none = find_append R q (entries (f x)) (flat_map (λ y. entries (f y)) xs)
      ∙ (ap (λ (o : Option X). cond (is_some o) o (find R q (flat_map (λ y. entries (f y)) xs))) (sym (get-entries (f x) q) ∙ none 0 x refl) ∙ find_none xs (λ i y at. none (suc i) y at))

  pub find_one : (xs : List A) (w : ℕ) (x : A) → slice_get xs w ≡ Some x → ((i : ℕ) (y : A) → slice_get xs i ≡ Some y → i ≢ w → get (f y) q ≡ None) → find R q (flat_map (λ y. entries (f y)) xs) ≡ get (f x) q
  find_one [] w x at none = absurd (none-some x at)
  find_one (y ∷ xs) zero x at none = find_append R q (entries (f y)) (flat_map (λ z. entries (f z)) xs)
      ∙ (ap (λ (o : Option X). cond (is_some (find R q (entries (f y)))) (find R q (entries (f y))) o) (find_none xs (λ i z in_xs. none (suc i) z in_xs (λ e. omega (arith, e))))
      ∙ (or_else (find R q (entries (f y))) ∙ (sym (get-entries (f y) q) ∙ ap (λ (z : A). get (f z) q) (same_Some y x at))))
  find_one (y ∷ xs) (suc w) x at none = find_append R q (entries (f y)) (flat_map (λ z. entries (f z)) xs)
      ∙ (ap (λ (o : Option X). cond (is_some o) o (find R q (flat_map (λ z. entries (f z)) xs))) (sym (get-entries (f y) q) ∙ none 0 y refl (λ e. omega (arith, e)))
      ∙ find_one xs w x at (λ i z in_xs apart. none (suc i) z in_xs (λ e. apart (omega (arith, e)))))

-- each entry's key is found
pub entry_found : {K X : Type 0} {R : K → K → Ordering} (total : IsTotalOrder R) (es : List (K × X)) (i : ℕ) (e : K × X) → slice_get es i ≡ Some e → is_some (find R e.0 es) ≡ true
entry_found total [] i e at = absurd (none-some e at)
entry_found {K} {X} {R} total (x ∷ es) zero e at = ap (λ (b : Bool). is_some (cond b (Some x.1) (find R e.0 es))) (ap (λ (y : K × X). eq_by_cmp R e.0 y.0) (same_Some x e at) ∙ (eq_by_cmp_equiv total).refl e.0)
entry_found {K} {X} {R} total (x ∷ es) (suc i) e at = either (eq_by_cmp R e.0 x.0) (entry_found total es i e at) where
  either : (b : Bool) → is_some (find R e.0 es) ≡ true → is_some (cond b (Some x.1) (find R e.0 es)) ≡ true
  either true found = refl
  either false found = found

-- the number of a name that is one of the keys
position_of : (p : List ℕ → Bool) (from : ℕ) (names : List (List ℕ)) → list_any p names ≡ true → (n : ℕ) × (position_from p from names ≡ Some n)
position_of p from [] any = absurd (false≢true any)
position_of p from (name ∷ names) any =
    elim (p name) as (λ b. (b || list_any p names) ≡ true → (n : ℕ) × (cond b (Some from) (position_from p (from + 1) names) ≡ Some n)) [
      | true ↦ λ t. (from, refl)
      | false ↦ λ rest. position_of p (from + 1) names rest
    ] any

pub listed : (names : List (List ℕ)) (i : ℕ) (name : List ℕ) → slice_get names i ≡ Some name → list_any (bytes_eq name) names ≡ true
listed [] i name at = absurd (none-some name at)
listed (x ∷ names) zero name at = ap (λ (b : Bool). b || list_any (bytes_eq name) names) (ap (bytes_eq name) (same_Some x name at) ∙ same_bytes name)
listed (x ∷ names) (suc i) name at = or_second (bytes_eq name x) (list_any (bytes_eq name) names) (listed names i name at)

module _ (keys : List (List ℕ)) (numbered : (name : List ℕ) (n : ℕ) → number_in keys name ≡ Some n → slice_get keys n ≡ Some name) (placed : (name : List ℕ) (n : ℕ) → slice_get keys n ≡ Some name → number_in keys name ≡ Some n) where
  -- a key's number is its place
  pub number_at_key : (name : List ℕ) → list_any (bytes_eq name) keys ≡ true → slice_get keys (key_number keys name) ≡ Some name
  number_at_key name any = let n = position_of (bytes_eq name) 0 keys any in
      subst (λ k. slice_get keys k ≡ Some name) (sym (ap (λ (o : Option ℕ). option_map_or (λ k. k) o 0) n.1)) (numbered name n.0 n.1)

  pub number_of_placed : (name : List ℕ) (n : ℕ) → slice_get keys n ≡ Some name → key_number keys name ≡ n
  number_of_placed name n at = ap (λ (o : Option ℕ). option_map_or (λ k. k) o 0) (placed name n at)

  -- the name of an entry's key
  abbrev by_name : ℕ × ℕ → List ℕ × ℕ
  by_name e = (key_name keys e.0, e.1)

  name_there : (n : ℕ) → n < length keys → slice_get keys n ≡ Some (key_name keys n)
  name_there n within = by_case (slice_get_cases keys n).1 where
    by_case : ((name : List ℕ) × (n < length keys) × (slice_get keys n ≡ Some name) × (get_or keys n name ≡ name)) ⊎ ((length keys ≤ n) × (slice_get keys n ≡ None)) → slice_get keys n ≡ Some (key_name keys n)
    by_case (inl (name, inside, at, is)) = at ∙ ap (λ (k : List ℕ). Some k) (sym (get_or_from_slice_get keys n name [] at))
    by_case (inr (past, none)) = absurd (omega (arith, within, past))

  -- a name is found where its number is
  pub find_named : (q : List ℕ) → list_any (bytes_eq q) keys ≡ true → (es : List (ℕ × ℕ)) → ((i : ℕ) (e : ℕ × ℕ) → slice_get es i ≡ Some e → e.0 < length keys)
      → find (slice_cmp nat_cmp) q (map by_name es) ≡ find nat_cmp (key_number keys q) es
  find_named q known [] within = refl
  find_named q known (e ∷ es) within = ap (λ (o : Option ℕ). cond (eq_by_cmp (slice_cmp nat_cmp) q (key_name keys e.0)) (Some e.1) o) (find_named q known es (λ i x at. within (suc i) x at))
      ∙ ap (λ (b : Bool). cond b (Some e.1) (find nat_cmp (key_number keys q) es)) (is_eq-slice_cmp q (key_name keys e.0) ∙ (alike ∙ sym (unsigned_tied (key_number keys q) e.0))) where
        at_name : slice_get keys e.0 ≡ Some (key_name keys e.0)
        at_name = name_there e.0 (within 0 e refl)

        alike : bytes_eq q (key_name keys e.0) ≡ (key_number keys q == e.0)
        alike = elim (cases_Bool (bytes_eq q (key_name keys e.0))) [
          | inl same ↦ same ∙ sym (eq-eqb (key_number keys q) e.0 (ap (key_number keys) ((bytes_eq-Decides q (key_name keys e.0)).0 same) ∙ number_of_placed (key_name keys e.0) e.0 at_name))
          | inr apart ↦ apart ∙ sym (ne_eqb (key_number keys q) e.0 (λ one. false≢true (sym apart ∙ (bytes_eq-Decides q (key_name keys e.0)).1
              (same_Some q (key_name keys e.0) (sym (number_at_key q known) ∙ (ap (slice_get keys) one ∙ at_name))))))
        ]

  -- and a name that is no key is not found
  pub find_unnamed : (q : List ℕ) → list_any (bytes_eq q) keys ≡ false → (es : List (ℕ × ℕ)) → ((i : ℕ) (e : ℕ × ℕ) → slice_get es i ≡ Some e → e.0 < length keys) → find (slice_cmp nat_cmp) q (map by_name es) ≡ None
  find_unnamed q unknown [] within = refl
  find_unnamed q unknown (e ∷ es) within = ap (λ (b : Bool). cond b (Some e.1) (find (slice_cmp nat_cmp) q (map by_name es))) (is_eq-slice_cmp q (key_name keys e.0) ∙ another (cases_Bool (bytes_eq q (key_name keys e.0))))
      ∙ find_unnamed q unknown es (λ i x at. within (suc i) x at) where
        another : (bytes_eq q (key_name keys e.0) ≡ true) ⊎ (bytes_eq q (key_name keys e.0) ≡ false) → bytes_eq q (key_name keys e.0) ≡ false
        another (inl same) = absurd (false≢true (sym unknown ∙ subst (λ (name : List ℕ). list_any (bytes_eq name) keys ≡ true) (sym ((bytes_eq-Decides q (key_name keys e.0)).0 same)) (listed keys e.0 (key_name keys e.0) (name_there e.0 (within 0 e refl)))))
        another (inr apart) = apart
