-- The keys of the calls, as a set.
use Rattle.std.proofs.Common.{◌≡◌, ℕ, zero, suc, ◌+◌, ◌<◌, ◌≤◌, Bool, true, false, cond, ◌||◌, List, [], ◌∷◌, ◌++◌, length, get_or, set, Option, Some, None, refl, sym, ap, ◌∙◌, arith}
use Rattle.std.specs.Prelude.{is_some}
use Rattle.std.specs.Option.{option_to_list}
use Rattle.std.specs.List.{list_any, flat_map}
use Rattle.std.specs.Str.{bytes_eq}
use Rattle.std.specs.Ordering.{nat_cmp, eq_by_cmp}
use Rattle.std.specs.Cmp.Lexicographic.{slice_cmp, nat_list_cmp_total}
use Rattle.std.specs.FinMap.{FinMap, get, insert, len, len-empty, len-insert, from_entries, find, get-insert, get-from_entries, same_map, slice_cmp-IsAntisymmetric, nat_cmp-IsAntisymmetric}
use Rattle.std.proofs.lemmas.List.Folds.{list_any-append}
use Rattle.std.proofs.lemmas.Slice.Eq.{bytes_eq-Decides}
use Rattle.std.proofs.lemmas.Map.Text.{is_eq-slice_cmp}
use Rattle.script_calls.specs.declared.call.Call.{Call}
use Rattle.script_calls.specs.declared.call.Operation.{Operation}
use Rattle.script_calls.specs.declared.call.Operation.TheVariants as operations
use Rattle.sync_types.specs.SequentialMap.{map_key}
use Rattle.workload.specs.Draft.{keys_of, operation_keys, all_keys, key_count, distinct_count}
use Rattle.workload.specs.Index.{marks, with_keys}

abbrev pub Keys : Type 0
Keys = FinMap (slice_cmp nat_cmp) (Unit {0})

is_some_cond : {X : Type 0} (b : Bool) (x : X) (o : Option X) → is_some (cond b (Some x) o) ≡ (b || is_some o)
is_some_cond true x o = refl
is_some_cond false x o = refl

found : (names : List (List ℕ)) (q : List ℕ) → is_some (find (slice_cmp nat_cmp) q (marks names)) ≡ list_any (bytes_eq q) names
found [] q = refl
found (name ∷ names) q =
    is_some_cond (eq_by_cmp (slice_cmp nat_cmp) q name) tt (find (slice_cmp nat_cmp) q (marks names))
    ∙ ap (λ (b : Bool). b || is_some (find (slice_cmp nat_cmp) q (marks names))) (is_eq-slice_cmp q name)
    ∙ ap (λ (b : Bool). bytes_eq q name || b) (found names q)

-- the set of names has the names
pub has_name : (names : List (List ℕ)) (q : List ℕ) → is_some (get (from_entries {R = slice_cmp nat_cmp} (marks names)) q) ≡ list_any (bytes_eq q) names
has_name names q = ap is_some (get-from_entries nat_list_cmp_total (marks names) q) ∙ found names q

-- and as many as there are different ones
pub len_names : (names : List (List ℕ)) → len (from_entries {R = slice_cmp nat_cmp} (marks names)) ≡ distinct_count names
len_names [] = len-empty (slice_cmp nat_cmp) (Unit {0})
len_names (name ∷ names) =
    len-insert nat_list_cmp_total (from_entries (marks names)) name tt
    ∙ ap (λ (b : Bool). cond b (len (from_entries {R = slice_cmp nat_cmp} (marks names))) (len (from_entries {R = slice_cmp nat_cmp} (marks names)) + 1)) (has_name names name)
    ∙ ap (λ (n : ℕ). cond (list_any (bytes_eq name) names) n (n + 1)) (len_names names)

same_marks : (x y : Option (Unit {0})) → is_some x ≡ is_some y → x ≡ y
same_marks None None e = refl
same_marks None (Some u) e = absurd cc
same_marks (Some u) None e = absurd cc
same_marks (Some u) (Some v) e = refl

-- two sets with the same names are one
pub same_keys : (m n : Keys) → ((q : List ℕ) → is_some (get m q) ≡ is_some (get n q)) → m ≡ n
same_keys m n e = same_map nat_list_cmp_total (slice_cmp-IsAntisymmetric nat_cmp-IsAntisymmetric) m n (λ q. same_marks (get m q) (get n q) (e q))

or_swap : (a b c : Bool) → (a || (b || c)) ≡ (b || (a || c))
or_swap true true c = refl
or_swap true false c = refl
or_swap false b c = refl

or_assoc : (a b c : Bool) → ((a || b) || c) ≡ (a || (b || c))
or_assoc true b c = refl
or_assoc false b c = refl

or-false : (a : Bool) → (a || false) ≡ a
or-false true = refl
or-false false = refl

module _ (p : List ℕ → Bool) where
  -- the keys of a script with one more call
  script_more : (script : List Call) (call : Call) → list_any p (flat_map keys_of (script ++ call ∷ [])) ≡ (list_any p (keys_of call) || list_any p (flat_map keys_of script))
  script_more [] call = list_any-append p (keys_of call) []
  script_more (c ∷ script) call =
      list_any-append p (keys_of c) (flat_map keys_of (script ++ call ∷ []))
      ∙ ap (λ (b : Bool). list_any p (keys_of c) || b) (script_more script call)
      ∙ or_swap (list_any p (keys_of c)) (list_any p (keys_of call)) (list_any p (flat_map keys_of script))
      ∙ ap (λ (b : Bool). list_any p (keys_of call) || b) (sym (list_any-append p (keys_of c) (flat_map keys_of script)))

  -- the keys of all scripts with one more call
  pub keys_more : (scripts : List (List Call)) (i : ℕ) (call : Call) → i < length scripts → list_any p (all_keys (set scripts i (get_or scripts i [] ++ call ∷ []))) ≡ (list_any p (keys_of call) || list_any p (all_keys scripts))
  keys_more [] i call lt = absurd (omega arith)
  keys_more (script ∷ scripts) zero call lt =
      list_any-append p (flat_map keys_of (script ++ call ∷ [])) (all_keys scripts)
      ∙ ap (λ (b : Bool). b || list_any p (all_keys scripts)) (script_more script call)
      ∙ or_assoc (list_any p (keys_of call)) (list_any p (flat_map keys_of script)) (list_any p (all_keys scripts))
      ∙ ap (λ (b : Bool). list_any p (keys_of call) || b) (sym (list_any-append p (flat_map keys_of script) (all_keys scripts)))
  keys_more (script ∷ scripts) (suc i) call lt =
      list_any-append p (flat_map keys_of script) (all_keys (set scripts i (get_or scripts i [] ++ call ∷ [])))
      ∙ ap (λ (b : Bool). list_any p (flat_map keys_of script) || b) (keys_more scripts i call (omega arith))
      ∙ or_swap (list_any p (flat_map keys_of script)) (list_any p (keys_of call)) (list_any p (all_keys scripts))
      ∙ ap (λ (b : Bool). list_any p (keys_of call) || b) (sym (list_any-append p (flat_map keys_of script) (all_keys scripts)))

or_there : (seen : Keys) (key q : List ℕ) (b : Bool) → bytes_eq q key ≡ b → is_some (get seen key) ≡ true → (b || is_some (get seen q)) ≡ is_some (get seen q)
or_there seen key q false e there = refl
or_there seen key q true e there = sym (ap (λ (k : List ℕ). is_some (get seen k)) ((bytes_eq-Decides q key).0 e) ∙ there)

-- a set with a key that it has is the same
pub insert_there : (seen : Keys) (key : List ℕ) → is_some (get seen key) ≡ true → insert seen key tt ≡ seen
insert_there seen key there =
    same_keys (insert seen key tt) seen (λ q.
    ap is_some (get-insert nat_list_cmp_total seen key tt q)
    ∙ is_some_cond (eq_by_cmp (slice_cmp nat_cmp) q key) tt (get seen q)
    ∙ ap (λ (b : Bool). b || is_some (get seen q)) (is_eq-slice_cmp q key)
    ∙ or_there seen key q (bytes_eq q key) refl there)

-- a set with more keys has them
has_with_keys : (seen : Keys) (keys : List (List ℕ)) (q : List ℕ) → is_some (get (with_keys seen keys) q) ≡ (list_any (bytes_eq q) keys || is_some (get seen q))
has_with_keys seen [] q = refl
has_with_keys seen (key ∷ keys) q =
    has_with_keys (insert seen key tt) keys q
    ∙ ap (λ (b : Bool). list_any (bytes_eq q) keys || b) (ap is_some (get-insert nat_list_cmp_total seen key tt q) ∙ is_some_cond (eq_by_cmp (slice_cmp nat_cmp) q key) tt (get seen q) ∙ ap (λ (b : Bool). b || is_some (get seen q)) (is_eq-slice_cmp q key))
    ∙ or_swap (list_any (bytes_eq q) keys) (bytes_eq q key) (is_some (get seen q))
    ∙ sym (or_assoc (bytes_eq q key) (list_any (bytes_eq q) keys) (is_some (get seen q)))

-- the set of the keys with those of one more call
pub keys_with_call : (seen : Keys) (scripts : List (List Call)) (i : ℕ) (call : Call) → i < length scripts → seen ≡ from_entries (marks (all_keys scripts)) → with_keys seen (keys_of call) ≡ from_entries (marks (all_keys (set scripts i (get_or scripts i [] ++ call ∷ []))))
keys_with_call seen scripts i call lt is =
    same_keys _ _ (λ q.
    has_with_keys seen (keys_of call) q
    ∙ ap (λ (b : Bool). list_any (bytes_eq q) (keys_of call) || b) (ap (λ (m : Keys). is_some (get m q)) is ∙ has_name (all_keys scripts) q)
    ∙ sym (keys_more (bytes_eq q) scripts i call lt)
    ∙ sym (has_name (all_keys (set scripts i (get_or scripts i [] ++ call ∷ []))) q))

-- ---- how many different names there are

pub distinct_more : (xs ys : List (List ℕ)) → distinct_count ys ≤ distinct_count (xs ++ ys)
distinct_more [] ys = omega arith
distinct_more (x ∷ xs) ys =
    elim (list_any (bytes_eq x) (xs ++ ys)) as (λ b. distinct_count ys ≤ cond b (distinct_count (xs ++ ys)) (distinct_count (xs ++ ys) + 1)) [
      | true ↦ distinct_more xs ys
      | false ↦ omega (arith, distinct_more xs ys)
    ]

pub distinct_same : (xs ys : List (List ℕ)) → ((q : List ℕ) → list_any (bytes_eq q) xs ≡ list_any (bytes_eq q) ys) → distinct_count xs ≡ distinct_count ys
distinct_same xs ys e =
    sym (len_names xs) ∙ ap len (same_keys _ _ (λ q. has_name xs q ∙ e q ∙ sym (has_name ys q))) ∙ len_names ys

-- one name more at most
pub distinct_one : (xs ys : List (List ℕ)) → length xs ≤ 1 → distinct_count (xs ++ ys) ≤ distinct_count ys + 1
distinct_one [] ys few = omega arith
distinct_one (x ∷ []) ys few =
    elim (list_any (bytes_eq x) ys) as (λ b. cond b (distinct_count ys) (distinct_count ys + 1) ≤ distinct_count ys + 1) [
      | true ↦ omega arith
      | false ↦ omega arith
    ]
distinct_one (x ∷ y ∷ xs) ys few = absurd (omega (arith, few))

option_few : (o : Option (List ℕ)) → length (option_to_list o) ≤ 1
option_few None = omega arith
option_few (Some key) = omega arith

-- a call has one key at most
operation_few : (operation : Operation) → length (operation_keys operation) ≤ 1
operation_few (operations.Map call) = option_few (map_key call)
operation_few operations.Range = omega arith
operation_few (operations.Atomic call) = omega arith
operation_few (operations.Mutex call) = omega arith
operation_few (operations.RwMutex call) = omega arith
operation_few (operations.Cond call) = omega arith
operation_few (operations.WaitGroup call) = omega arith
operation_few operations.Once = omega arith
operation_few operations.OnceFunc = omega arith
operation_few operations.OnceValue = omega arith
operation_few (operations.Pool call) = omega arith
operation_few (operations.Sema call) = omega arith
operation_few (operations.Fly key) = omega arith
operation_few (operations.Var call) = omega arith
operation_few (operations.Composed call) = omega arith

-- so it brings one more at most
pub key_more : (scripts : List (List Call)) (call : Call) → key_count scripts (keys_of call) ≤ distinct_count (all_keys scripts) + 1
key_more scripts call = distinct_one (keys_of call) (all_keys scripts) (operation_few call.operation)
