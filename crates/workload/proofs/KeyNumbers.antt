-- The numbers of keys.
use Rattle.std.proofs.Common.{◌≡◌, ℕ, suc, ◌+◌, ◌<◌, ◌≤◌, Bool, true, false, cond, ◌||◌, List, [], ◌∷◌, ◌++◌, length, drop, get_or, Option, Some, None, refl, sym, ap, ◌∙◌, arith, length-append}
use Rattle.std.specs.Prelude.{is_some}
use Rattle.std.specs.List.{list_any, flat_map, position_from}
use Rattle.std.specs.Str.{bytes_eq}
use Rattle.std.specs.Ordering.{nat_cmp}
use Rattle.std.specs.Cmp.Lexicographic.{slice_cmp}
use Rattle.std.specs.FinMap.{FinMap, get}
use Rattle.std.proofs.lemmas.List.Folds.{list_any-append}
use Rattle.std.proofs.lemmas.Slice.Eq.{bytes_eq-Decides}
use Rattle.std.proofs.Math.Seq.{drop-cons}
use Rattle.script_calls.specs.declared.call.Call.{Call}
use Rattle.workload.specs.Draft.{keys_of, all_keys, distinct_count}
use Rattle.workload.specs.Keys.{with_name, with_names, keys_in, number_in}
use Rattle.workload.proofs.KeyLemmas.{distinct_same}

pub eq_self : (key : List ℕ) → bytes_eq key key ≡ true
eq_self key = (bytes_eq-Decides key key).1 refl

-- ---- the number of a name

pub some_found : (p : List ℕ → Bool) (n : ℕ) (names : List (List ℕ)) → is_some (position_from p n names) ≡ list_any p names
some_found p n [] = refl
some_found p n (name ∷ names) =
    elim (p name) as (λ b. is_some (cond b (Some n) (position_from p (n + 1) names)) ≡ (b || list_any p names)) [
      | true ↦ refl
      | false ↦ some_found p (n + 1) names
    ]

-- a name at the end is found where it is the first
pub position_push : (p : List ℕ → Bool) (n : ℕ) (names : List (List ℕ)) (name : List ℕ)
    → position_from p n (names ++ name ∷ []) ≡ cond (list_any p names) (position_from p n names) (cond (p name) (Some (n + length names)) None)
position_push p n [] name = ap (λ (k : ℕ). cond (p name) (Some k) None) (let e : n ≡ n + 0 = omega arith in e)
position_push p n (first ∷ names) name =
    elim (p first) as (λ b. cond b (Some n) (position_from p (n + 1) (names ++ name ∷ []))
    ≡ cond (b || list_any p names) (cond b (Some n) (position_from p (n + 1) names)) (cond (p name) (Some (n + length (first ∷ names))) None)) [
      | true ↦ refl
      | false ↦ position_push p (n + 1) names name
          ∙ ap (λ (k : ℕ). cond (list_any p names) (position_from p (n + 1) names) (cond (p name) (Some k) None)) (let e : n + 1 + length names ≡ n + length (first ∷ names) = omega arith in e)
    ]

none_is : {X : Type 0} (o : Option X) → is_some o ≡ false → o ≡ None
none_is None e = refl
none_is (Some x) e = absurd cc

-- the numbers with one more name, which is none of those that are there
pub number_push : (names : List (List ℕ)) (name q : List ℕ) → list_any (bytes_eq name) names ≡ false
    → cond (bytes_eq q name) (Some (length names)) (number_in names q) ≡ number_in (names ++ name ∷ []) q
number_push names name q new =
    elim (bytes_eq q name) as (λ b. bytes_eq q name ≡ b → cond b (Some (length names)) (number_in names q) ≡ cond (list_any (bytes_eq q) names) (number_in names q) (cond b (Some (0 + length names)) None)) [
      | true ↦ λ e.
          let same : q ≡ name = (bytes_eq-Decides q name).0 e in
          let none : list_any (bytes_eq q) names ≡ false = ap (λ (x : List ℕ). list_any (bytes_eq x) names) same ∙ new in
          ap (λ (k : ℕ). Some k) (let e : length names ≡ 0 + length names = omega arith in e) ∙ sym (ap (λ (b : Bool). cond b (number_in names q) (Some (0 + length names))) none)
      | false ↦ λ e. old (list_any (bytes_eq q) names) refl
    ] refl ∙ sym (position_push (bytes_eq q) 0 names name)
  where
    old : (b : Bool) → list_any (bytes_eq q) names ≡ b → number_in names q ≡ cond b (number_in names q) None
    old true e = refl
    old false e = none_is (number_in names q) (some_found (bytes_eq q) 0 names ∙ e)

-- ---- which names there are, and how many

or_false : (a : Bool) → (a || false) ≡ a
or_false true = refl
or_false false = refl

or_same : (a b : Bool) → b ≡ true → a ≡ true → (a || b) ≡ a
or_same true b e f = refl
or_same false b e f = absurd cc

or_assoc : (a b c : Bool) → ((a || b) || c) ≡ (a || (b || c))
or_assoc true b c = refl
or_assoc false b c = refl

any_same : (q name : List ℕ) (names : List (List ℕ)) → list_any (bytes_eq name) names ≡ true → list_any (bytes_eq q) names ≡ (list_any (bytes_eq q) names || bytes_eq q name)
any_same q name names there = at (bytes_eq q name) refl
  where
    or_true : (a : Bool) → a ≡ true → a ≡ (a || true)
    or_true true e = refl
    or_true false e = absurd cc

    at : (b : Bool) → bytes_eq q name ≡ b → list_any (bytes_eq q) names ≡ (list_any (bytes_eq q) names || b)
    at true e = or_true (list_any (bytes_eq q) names) (ap (λ (x : List ℕ). list_any (bytes_eq x) names) ((bytes_eq-Decides q name).0 e) ∙ there)
    at false e = sym (or_false (list_any (bytes_eq q) names))

pub any_name : (names : List (List ℕ)) (name q : List ℕ) → list_any (bytes_eq q) (with_name names name) ≡ (list_any (bytes_eq q) names || bytes_eq q name)
any_name names name q = at (list_any (bytes_eq name) names) refl
  where
    at : (b : Bool) → list_any (bytes_eq name) names ≡ b → list_any (bytes_eq q) (cond b names (names ++ name ∷ [])) ≡ (list_any (bytes_eq q) names || bytes_eq q name)
    at true e = any_same q name names e
    at false e = list_any-append (bytes_eq q) names (name ∷ []) ∙ ap (λ (b : Bool). list_any (bytes_eq q) names || b) (or_false (bytes_eq q name))

pub any_names : (names more : List (List ℕ)) (q : List ℕ) → list_any (bytes_eq q) (with_names names more) ≡ (list_any (bytes_eq q) names || list_any (bytes_eq q) more)
any_names names [] q = sym (or_false (list_any (bytes_eq q) names))
any_names names (name ∷ more) q =
    any_names (with_name names name) more q ∙ ap (λ (b : Bool). b || list_any (bytes_eq q) more) (any_name names name q)
    ∙ or_assoc (list_any (bytes_eq q) names) (bytes_eq q name) (list_any (bytes_eq q) more)

or_swap : (a b : Bool) → (a || b) ≡ (b || a)
or_swap true true = refl
or_swap true false = refl
or_swap false true = refl
or_swap false false = refl

-- no two of the names are the same
abbrev AllDiffer : List (List ℕ) → Type 0
AllDiffer names = distinct_count names ≡ length names

differ_name : (names : List (List ℕ)) (name : List ℕ) → AllDiffer names → AllDiffer (with_name names name)
differ_name names name differ = at (list_any (bytes_eq name) names) refl
  where
    at : (b : Bool) → list_any (bytes_eq name) names ≡ b → AllDiffer (cond b names (names ++ name ∷ []))
    at true e = differ
    at false e =
        distinct_same (names ++ name ∷ []) (name ∷ names) (λ q.
        list_any-append (bytes_eq q) names (name ∷ []) ∙ ap (λ (b : Bool). list_any (bytes_eq q) names || b) (or_false (bytes_eq q name)) ∙ or_swap (list_any (bytes_eq q) names) (bytes_eq q name))
        ∙ ap (λ (b : Bool). cond b (distinct_count names) (distinct_count names + 1)) e
        ∙ omega (arith, differ, length-append names (name ∷ []))

differ_names : (names more : List (List ℕ)) → AllDiffer names → AllDiffer (with_names names more)
differ_names names [] differ = differ
differ_names names (name ∷ more) differ = differ_names (with_name names name) more (differ_name names name differ)

-- there are as many numbers as different keys
pub length_keys : (scripts : List (List Call)) → length (keys_in scripts) ≡ distinct_count (all_keys scripts)
length_keys scripts = sym (differ_names [] (all_keys scripts) refl) ∙ distinct_same (keys_in scripts) (all_keys scripts) (any_names [] (all_keys scripts))

pub longer_name : (names : List (List ℕ)) (name : List ℕ) → length names ≤ length (with_name names name)
longer_name names name = at (list_any (bytes_eq name) names)
  where
    at : (b : Bool) → length names ≤ length (cond b names (names ++ name ∷ []))
    at true = omega arith
    at false = omega (arith, length-append names (name ∷ []))

pub longer : (names more : List (List ℕ)) → length names ≤ length (with_names names more)
longer names [] = omega arith
longer names (name ∷ more) = omega (arith, longer_name names name, longer (with_name names name) more)

-- ---- one after the other

pub names_append : (names more later : List (List ℕ)) → with_names names (more ++ later) ≡ with_names (with_names names more) later
names_append names [] later = refl
names_append names (name ∷ more) later = names_append (with_name names name) more later

pub with_first : (names : List (List ℕ)) (script : List Call) (i : ℕ) (call : Call) → drop i script ≡ call ∷ drop (suc i) script
    → with_names names (flat_map keys_of (drop i script)) ≡ with_names (with_names names (keys_of call)) (flat_map keys_of (drop (suc i) script))
with_first names script i call e = ap (λ (calls : List Call). with_names names (flat_map keys_of calls)) e ∙ names_append names (keys_of call) (flat_map keys_of (drop (suc i) script))

-- what a table of numbers says of a name that it has, or hasn't
pub there : (table : FinMap (slice_cmp nat_cmp) ℕ) (names : List (List ℕ)) (name : List ℕ) (b : Bool) → ((q : List ℕ) → get table q ≡ number_in names q)
    → is_some (get table name) ≡ b → list_any (bytes_eq name) names ≡ b
there table names name b is e = sym (some_found (bytes_eq name) 0 names) ∙ ap is_some (sym (is name)) ∙ e

-- the first of the scripts from a place on
pub with_script : (names : List (List ℕ)) (scripts : List (List Call)) (i : ℕ) (script : List Call) → i < length scripts → script ≡ get_or scripts i script
    → with_names names (all_keys (drop i scripts)) ≡ with_names (with_names names (flat_map keys_of script)) (all_keys (drop (suc i) scripts))
with_script names scripts i script below is =
    ap (λ (ss : List (List Call)). with_names names (all_keys ss)) (drop-cons scripts i script below ∙ ap (λ (s : List Call). s ∷ drop (suc i) scripts) (sym is))
    ∙ names_append names (flat_map keys_of script) (all_keys (drop (suc i) scripts))

pub few_keys : (names : List (List ℕ)) (scripts : List (List Call)) (i most : ℕ) (script : List Call) → i < length scripts → script ≡ get_or scripts i script
    → with_names names (all_keys (drop i scripts)) ≡ keys_in scripts → distinct_count (all_keys scripts) ≤ most → length (with_names names (flat_map keys_of script)) ≤ most
few_keys names scripts i most script below is so_far few =
    omega (
      arith,
      longer (with_names names (flat_map keys_of script)) (all_keys (drop (suc i) scripts)),
      ap (λ (ns : List (List ℕ)). length ns) (sym (with_script names scripts i script below is) ∙ so_far),
      length_keys scripts,
      few,
    )
