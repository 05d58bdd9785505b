-- One number for each key, by first appearance.
use Rattle.std.proofs.Common.{◌≡◌, ℕ, zero, suc, ◌+◌, ◌<◌, ◌≤◌, Bool, true, false, cond, ◌||◌, List, [], ◌∷◌, ◌++◌, length, Option, Some, None, ◌⊎◌, inl, inr, refl, sym, ap, ◌∙◌, arith}
use Rattle.std.specs.Prelude.{is_some, slice_get}
use Rattle.std.specs.List.{list_any, position_from}
use Rattle.std.specs.Option.{option_map_or}
use Rattle.std.specs.Str.{bytes_eq}
use Rattle.std.proofs.lemmas.Option.{slice_get_within, get_or_from_slice_get}
use Rattle.std.proofs.lemmas.Slice.Eq.{bytes_eq-Decides}
use Rattle.script_calls.specs.declared.call.Call.{Call}
use Rattle.workload.specs.Draft.{all_keys}
use Rattle.workload.specs.Keys.{with_name, with_names, keys_in, number_in, key_number, key_name}
use Rattle.workload.proofs.KeyNumbers.{some_found, position_push, any_names, any_name, eq_self, longer_name}

some_is : {X : Type 0} (x y : X) → Some x ≡ Some y → x ≡ y
some_is x y e = cc

none_some : {A X : Type 0} (x : X) → None ≡ Some x → A
none_some x e = absurd cc

true_false : {A : Type 0} → true ≡ false → A
true_false e = absurd cc

some_of : {X : Type 0} (o : Option X) → is_some o ≡ true → (x : X) × (o ≡ Some x)
some_of None e = absurd cc
some_of (Some x) e = (x, refl)

-- ---- where a name is found

-- at its place, from where it was counted
found_at : (name : List ℕ) (names : List (List ℕ)) (n k : ℕ) → position_from (bytes_eq name) n names ≡ Some k → (i : ℕ) × (k ≡ n + i) × (slice_get names i ≡ Some name)
found_at name [] n k e = none_some k e
found_at name (first ∷ names) n k e = at (bytes_eq name first) refl e (found_at name names (n + 1) k)
  where
    at : (b : Bool) → bytes_eq name first ≡ b → cond b (Some n) (position_from (bytes_eq name) (n + 1) names) ≡ Some k
        → (position_from (bytes_eq name) (n + 1) names ≡ Some k → (i : ℕ) × (k ≡ n + 1 + i) × (slice_get names i ≡ Some name))
        → (i : ℕ) × (k ≡ n + i) × (slice_get (first ∷ names) i ≡ Some name)
    at true same e later = let here : n ≡ k = some_is n k e in (0, omega (arith, here), ap (λ (x : List ℕ). Some x) (sym ((bytes_eq-Decides name first).0 same)))
    at false other e later = let rest = later e in (suc rest.0, omega (arith, rest.1), rest.2)

-- a number is below how many there are
pub number_below : (names : List (List ℕ)) (name : List ℕ) (number : ℕ) → number_in names name ≡ Some number → (slice_get names number ≡ Some name) × (number < length names)
number_below names name number e =
    let found = found_at name names 0 number e in
    let same : found.0 ≡ number = omega (arith, found.1) in
    let at : slice_get names number ≡ Some name = ap (slice_get names) (sym same) ∙ found.2 in
    (at, slice_get_within names number name at)

pub any_there : (names : List (List ℕ)) (name : List ℕ) (k : ℕ) → number_in names name ≡ Some k → list_any (bytes_eq name) names ≡ true
any_there names name k e = sym (some_found (bytes_eq name) 0 names) ∙ ap is_some e

or_true : (a : Bool) → (a || true) ≡ true
or_true true = refl
or_true false = refl

any_at : (names : List (List ℕ)) (k : ℕ) (name : List ℕ) → slice_get names k ≡ Some name → list_any (bytes_eq name) names ≡ true
any_at [] k name e = none_some name e
any_at (first ∷ names) zero name e = ap (λ (x : List ℕ). bytes_eq name x || list_any (bytes_eq name) names) (some_is first name e) ∙ ap (λ b. b || list_any (bytes_eq name) names) (eq_self name)
any_at (first ∷ names) (suc k) name e = ap (λ b. bytes_eq name first || b) (any_at names k name e) ∙ or_true (bytes_eq name first)

-- ---- each name has its own place

abbrev HasPlaces : List (List ℕ) → Type 0
HasPlaces names = (name : List ℕ) (k : ℕ) → slice_get names k ≡ Some name → number_in names name ≡ Some k

end_cases : (names : List (List ℕ)) (last : List ℕ) (k : ℕ) (name : List ℕ) → slice_get (names ++ last ∷ []) k ≡ Some name → (slice_get names k ≡ Some name) ⊎ ((k ≡ length names) × (last ≡ name))
end_cases [] last zero name e = inr (refl, some_is last name e)
end_cases [] last (suc k) name e = none_some name e
end_cases (first ∷ names) last zero name e = inl e
end_cases (first ∷ names) last (suc k) name e =
    elim (end_cases names last k name e) [
      | inl at ↦ inl at
      | inr is ↦ inr (let one : suc k ≡ length (first ∷ names) = omega (arith, is.0) in one, is.1)
    ]

-- a name that is there keeps its number
stays : (names : List (List ℕ)) (last name : List ℕ) → list_any (bytes_eq name) names ≡ true → number_in (names ++ last ∷ []) name ≡ number_in names name
stays names last name there =
    position_push (bytes_eq name) 0 names last ∙ ap (λ b. cond b (number_in names name) (cond (bytes_eq name last) (Some (0 + length names)) None)) there

pub at_the_end : (names : List (List ℕ)) (last : List ℕ) → list_any (bytes_eq last) names ≡ false → number_in (names ++ last ∷ []) last ≡ Some (length names)
at_the_end names last new =
    position_push (bytes_eq last) 0 names last ∙ ap (λ b. cond b (number_in names last) (cond (bytes_eq last last) (Some (0 + length names)) None)) new
    ∙ ap (λ b. cond b (Some (0 + length names)) None) (eq_self last) ∙ ap (λ (k : ℕ). Some k) (let e : 0 + length names ≡ length names = omega arith in e)

places_push : (names : List (List ℕ)) (last : List ℕ) → list_any (bytes_eq last) names ≡ false → HasPlaces names → HasPlaces (names ++ last ∷ [])
places_push names last new places name k e =
    elim (end_cases names last k name e) [
      | inl at ↦ stays names last name (any_at names k name at) ∙ places name k at
      | inr is ↦ ap (λ (x : List ℕ). number_in (names ++ last ∷ []) x) (sym is.1) ∙ at_the_end names last new ∙ ap (λ (n : ℕ). Some n) (sym is.0)
    ]

places_name : (names : List (List ℕ)) (name : List ℕ) → HasPlaces names → HasPlaces (with_name names name)
places_name names name places = at (list_any (bytes_eq name) names) refl
  where
    at : (b : Bool) → list_any (bytes_eq name) names ≡ b → HasPlaces (cond b names (names ++ name ∷ []))
    at true e = places
    at false e = places_push names name e places

places_names : (names more : List (List ℕ)) → HasPlaces names → HasPlaces (with_names names more)
places_names names [] places = places
places_names names (name ∷ more) places = places_names (with_name names name) more (places_name names name places)

no_places : HasPlaces []
no_places name k e = none_some name e

pub place_of_number : (scripts : List (List Call)) (name : List ℕ) (number : ℕ) → slice_get (keys_in scripts) number ≡ Some name → number_in (keys_in scripts) name ≡ Some number
place_of_number scripts name number = places_names [] (all_keys scripts) no_places name number

pub number_of_place : (scripts : List (List Call)) (name : List ℕ) (number : ℕ) → number_in (keys_in scripts) name ≡ Some number → slice_get (keys_in scripts) number ≡ Some name
number_of_place scripts name number e = (number_below (keys_in scripts) name number e).0

-- a key's number is that of the key
pub named : (scripts : List (List Call)) (name : List ℕ) → list_any (bytes_eq name) (all_keys scripts) ≡ true → key_name (keys_in scripts) (key_number (keys_in scripts) name) ≡ name
named scripts name among =
    let keys = keys_in scripts in
    let found = some_of (number_in keys name) (some_found (bytes_eq name) 0 keys ∙ any_names [] (all_keys scripts) name ∙ among) in
    ap (λ o. key_name keys (option_map_or (λ (number : ℕ). number) o 0)) found.1 ∙ get_or_from_slice_get keys found.0 name [] (number_of_place scripts name found.0 found.1)

-- ---- by first appearance

stays_name : (names : List (List ℕ)) (name q : List ℕ) → list_any (bytes_eq q) names ≡ true → number_in (with_name names name) q ≡ number_in names q
stays_name names name q there = at (list_any (bytes_eq name) names)
  where
    at : (b : Bool) → number_in (cond b names (names ++ name ∷ [])) q ≡ number_in names q
    at true = refl
    at false = stays names name q there

-- names that are there keep their numbers, whatever names come
pub stays_names : (names more : List (List ℕ)) (q : List ℕ) → list_any (bytes_eq q) names ≡ true → number_in (with_names names more) q ≡ number_in names q
stays_names names [] q there = refl
stays_names names (name ∷ more) q there =
    stays_names (with_name names name) more q (any_name names name q ∙ ap (λ b. b || bytes_eq q name) there) ∙ stays_name names name q there

-- a name that comes with another has the number behind those that are there
comes_last : (names : List (List ℕ)) (name q : List ℕ) (n : ℕ) → list_any (bytes_eq q) names ≡ false → number_in (with_name names name) q ≡ Some n → length names ≤ n
comes_last names name q n new e = at (list_any (bytes_eq name) names) e
  where
    at : (b : Bool) → number_in (cond b names (names ++ name ∷ [])) q ≡ Some n → length names ≤ n
    at true e = true_false (sym (any_there names q n e) ∙ new)
    at false e =
        elim (end_cases names name n q (number_below (names ++ name ∷ []) q n e).0) [
          | inl there ↦ true_false (sym (any_at names n q there) ∙ new)
          | inr is ↦ omega (arith, is.0)
        ]

behind : (names more : List (List ℕ)) (q : List ℕ) (n : ℕ) → list_any (bytes_eq q) names ≡ false → number_in (with_names names more) q ≡ Some n → length names ≤ n
behind names [] q n new e = true_false (sym (any_there names q n e) ∙ new)
behind names (name ∷ more) q n new e = at (list_any (bytes_eq q) (with_name names name)) refl (behind (with_name names name) more q n)
  where
    at : (b : Bool) → list_any (bytes_eq q) (with_name names name) ≡ b → (list_any (bytes_eq q) (with_name names name) ≡ false → number_in (with_names (with_name names name) more) q ≡ Some n → length (with_name names name) ≤ n) → length names ≤ n
    at true there later = comes_last names name q n new (sym (stays_names (with_name names name) more q there) ∙ e)
    at false none later = omega (arith, longer_name names name, later none e)

abbrev Ordered : List (List ℕ) → List (List ℕ) → List ℕ → List ℕ → ℕ → Type 0
Ordered names more a b n =
    (i j x y : ℕ) → position_from (bytes_eq a) n more ≡ Some i → position_from (bytes_eq b) n more ≡ Some j → i < j → list_any (bytes_eq b) names ≡ false
    → number_in (with_names names more) a ≡ Some x → number_in (with_names names more) b ≡ Some y → x < y

ordered : (names more : List (List ℕ)) (a b : List ℕ) (n : ℕ) → Ordered names more a b n
ordered names [] a b n i j x y at_a at_b less new is_a is_b = none_some i at_a
ordered names (first ∷ more) a b n i j x y at_a at_b less new is_a is_b =
    cases (bytes_eq a first) (bytes_eq b first) refl refl at_a at_b (ordered (with_name names first) more a b (n + 1))
  where
    more_names : List (List ℕ)
    more_names = with_name names first

    no_b : bytes_eq b first ≡ false → list_any (bytes_eq b) (with_name names first) ≡ false
    no_b other = any_name names first b ∙ ap (λ c. c || bytes_eq b first) new ∙ other

    with_a : bytes_eq a first ≡ true → list_any (bytes_eq a) (with_name names first) ≡ true
    with_a same = any_name names first a ∙ ap (λ c. list_any (bytes_eq a) names || c) same ∙ or_true (list_any (bytes_eq a) names)

    cases : (c d : Bool) → bytes_eq a first ≡ c → bytes_eq b first ≡ d → cond c (Some n) (position_from (bytes_eq a) (n + 1) more) ≡ Some i
        → cond d (Some n) (position_from (bytes_eq b) (n + 1) more) ≡ Some j → Ordered (with_name names first) more a b (n + 1) → x < y
    cases true true same same_too e f later = let one : n ≡ i = some_is n i e in let two : n ≡ j = some_is n j f in absurd (omega (arith, one, two, less))
    cases true false same other e f later =
        let low = number_below (with_name names first) a x (sym (stays_names (with_name names first) more a (with_a same)) ∙ is_a) in
        omega (arith, low.1, behind (with_name names first) more b y (no_b other) is_b)
    cases false true other same e f later =
        let two : n ≡ j = some_is n j f in
        let at = found_at a more (n + 1) i e in
        absurd (omega (arith, two, at.1, less))
    cases false false other other_too e f later = later i j x y e f less (no_b other_too) is_a is_b

pub numbered_in_order : (scripts : List (List Call)) (a b : List ℕ) (i j x y : ℕ) → position_from (bytes_eq a) 0 (all_keys scripts) ≡ Some i → position_from (bytes_eq b) 0 (all_keys scripts) ≡ Some j → i < j
    → number_in (keys_in scripts) a ≡ Some x → number_in (keys_in scripts) b ≡ Some y → x < y
numbered_in_order scripts a b i j x y at_a at_b less is_a is_b = ordered [] (all_keys scripts) a b 0 i j x y at_a at_b less refl is_a is_b
