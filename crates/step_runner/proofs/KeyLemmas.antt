-- Maps whose keys are among names.
use Rattle.std.proofs.Common.{◌≡◌, ℕ, ◌+◌, ◌-◌, ◌≤◌, Bool, true, false, cond, ◌||◌, List, [], ◌∷◌, map, length, Some, None, refl, sym, ap, ◌∙◌, subst, arith}
use Rattle.std.specs.Prelude.{is_some}
use Rattle.std.specs.List.{list_any}
use Rattle.std.specs.Str.{bytes_eq}
use Rattle.std.specs.Option.{option_to_list}
use Rattle.std.specs.Ordering.{nat_cmp, eq_by_cmp}
use Rattle.std.specs.Cmp.Lexicographic.{slice_cmp, nat_list_cmp_total}
use Rattle.std.specs.FinMap.{empty, get, insert, remove, len, entries, keys, contains_key-keys, len-entries, len-remove, get-empty, get-insert, get-remove}
use Rattle.std.proofs.lemmas.Map.Text.{is_eq-slice_cmp}
use Rattle.std.proofs.lemmas.Slice.Eq.{bytes_eq-Decides}
use Rattle.sync_types.specs.declared.map_object.MapCall.{MapCall}
use Rattle.sync_types.specs.declared.map_object.MapCall.TheVariants.{Load, Store, LoadOrStore, LoadAndDelete, Delete, Swap, CompareAndSwap, CompareAndDelete, Clear}
use Rattle.sync_types.specs.SequentialMap.{map_after, map_key, has_value}
use Rattle.workload.specs.Draft.{distinct_count}
use Rattle.workload.specs.OwnMaps.{NamedMap}
use Rattle.step_runner.specs.MapKeys.{is_among, AreAmong, HasKeysIn}

is_same : (q key : List ℕ) → eq_by_cmp (slice_cmp nat_cmp) q key ≡ true → q ≡ key
is_same q key e = (bytes_eq-Decides q key).0 (sym (is_eq-slice_cmp q key) ∙ e)

eq_self : (key : List ℕ) → bytes_eq key key ≡ true
eq_self key = (bytes_eq-Decides key key).1 refl

true_false : true ≡ false → ⊥
true_false e = cc

-- ---- what a call does to the keys

pub empty_keys : (names : List (List ℕ)) → HasKeysIn names empty
empty_keys names key there = absurd (true_false (sym there ∙ ap is_some (get-empty (slice_cmp nat_cmp) key)))

insert_keys : (names : List (List ℕ)) (m : NamedMap) (key : List ℕ) (value : ℕ) → is_among names key ≡ true → HasKeysIn names m → HasKeysIn names (insert m key value)
insert_keys names m key value named within q there =
    let found = sym (ap is_some (get-insert nat_list_cmp_total m key value q)) ∙ there in
    elim (eq_by_cmp (slice_cmp nat_cmp) q key) as (λ b. eq_by_cmp (slice_cmp nat_cmp) q key ≡ b → is_some (cond b (Some value) (get m q)) ≡ true → is_among names q ≡ true) [
      | true ↦ λ e some. subst (λ (name : List ℕ). is_among names name ≡ true) (sym (is_same q key e)) named
      | false ↦ λ e some. within q some
    ] refl found

remove_keys : (names : List (List ℕ)) (m : NamedMap) (key : List ℕ) → HasKeysIn names m → HasKeysIn names (remove m key)
remove_keys names m key within q there =
    let found = sym (ap is_some (get-remove nat_list_cmp_total m key q)) ∙ there in
    elim (eq_by_cmp (slice_cmp nat_cmp) q key) as (λ b. is_some (cond b None (get m q)) ≡ true → is_among names q ≡ true) [
      | true ↦ λ some. absurd (true_false (sym some))
      | false ↦ λ some. within q some
    ] found

either_keys : (names : List (List ℕ)) (b : Bool) (m n : NamedMap) → HasKeysIn names m → HasKeysIn names n → HasKeysIn names (cond b m n)
either_keys names true m n first second = first
either_keys names false m n first second = second

first_among : (names : List (List ℕ)) (key : List ℕ) → AreAmong names (key ∷ []) → is_among names key ≡ true
first_among names key named = named key (ap (λ (b : Bool). b || false) (eq_self key))

-- a call whose key is among the names leaves no other key
pub call_keys : (names : List (List ℕ)) (call : MapCall (List ℕ)) (m : NamedMap) → AreAmong names (option_to_list (map_key call))
    → HasKeysIn names m → HasKeysIn names (map_after call m)
call_keys names (Load key) m named within = within
call_keys names (Store key value) m named within = insert_keys names m key value (first_among names key named) within
call_keys names (LoadOrStore key value) m named within =
    either_keys names (is_some (get m key)) m (insert m key value) within (insert_keys names m key value (first_among names key named) within)
call_keys names (LoadAndDelete key) m named within = remove_keys names m key within
call_keys names (Delete key) m named within = remove_keys names m key within
call_keys names (Swap key value) m named within = insert_keys names m key value (first_among names key named) within
call_keys names (CompareAndSwap key old new) m named within =
    either_keys names (has_value old (get m key)) (insert m key new) m (insert_keys names m key new (first_among names key named) within) within
call_keys names (CompareAndDelete key old) m named within =
    either_keys names (has_value old (get m key)) (remove m key) m (remove_keys names m key within) within
call_keys names Clear m named within = empty_keys names

-- ---- how many keys there are

-- where no name is there, no key is
no_keys : (m : NamedMap) (es : List (List ℕ × ℕ)) → entries m ≡ es → HasKeysIn [] m → length es ≡ 0
no_keys m [] e within = refl
no_keys m (first ∷ es) e within =
    let among : list_any (eq_by_cmp (slice_cmp nat_cmp) first.0) (keys m) ≡ true =
    ap (λ (list : List (List ℕ × ℕ)). list_any (eq_by_cmp (slice_cmp nat_cmp) first.0) (map (λ one. one.0) list)) e
    ∙ ap (λ (b : Bool). b || list_any (eq_by_cmp (slice_cmp nat_cmp) first.0) (map (λ one. one.0) es)) (is_eq-slice_cmp first.0 first.0 ∙ eq_self first.0) in
    absurd (true_false (sym (within first.0 (contains_key-keys m first.0 ∙ among))))

-- a name that stands twice
fewer_names : (names : List (List ℕ)) (name : List ℕ) (m : NamedMap) → is_among names name ≡ true → HasKeysIn (name ∷ names) m → HasKeysIn names m
fewer_names names name m named within q there =
    elim (bytes_eq q name) as (λ b. bytes_eq q name ≡ b → (b || is_among names q) ≡ true → is_among names q ≡ true) [
      | true ↦ λ e some. subst (λ (other : List ℕ). is_among names other ≡ true) (sym ((bytes_eq-Decides q name).0 e)) named
      | false ↦ λ e some. some
    ] refl (within q there)

-- a key that is taken away
without_name : (names : List (List ℕ)) (name : List ℕ) (m : NamedMap) → HasKeysIn (name ∷ names) m → HasKeysIn names (remove m name)
without_name names name m within q there =
    let found = sym (ap is_some (get-remove nat_list_cmp_total m name q)) ∙ there in
    elim (eq_by_cmp (slice_cmp nat_cmp) q name) as (λ b. eq_by_cmp (slice_cmp nat_cmp) q name ≡ b → is_some (cond b None (get m q)) ≡ true → is_among names q ≡ true) [
      | true ↦ λ e some. absurd (true_false (sym some))
      | false ↦ λ e some. sym (ap (λ (b : Bool). b || is_among names q) (sym (is_eq-slice_cmp q name) ∙ e)) ∙ within q some
    ] refl found

one_less : (b : Bool) (n rest : ℕ) → rest ≡ cond b (n - 1) n → n ≤ rest + 1
one_less true n rest e = omega (arith, e)
one_less false n rest e = omega (arith, e)

-- a map has at most as many keys as there are different names
pub count_keys : (names : List (List ℕ)) (m : NamedMap) → HasKeysIn names m → len m ≤ distinct_count names
count_keys [] m within = omega (arith, len-entries m, no_keys m (entries m) refl within)
count_keys (name ∷ names) m within =
    elim (is_among names name) as (λ b. is_among names name ≡ b → len m ≤ cond b (distinct_count names) (distinct_count names + 1)) [
      | true ↦ λ e. count_keys names m (fewer_names names name m e within)
      | false ↦ λ e.
          let taken : len m ≤ len (remove m name) + 1 = one_less (is_some (get m name)) (len m) (len (remove m name)) (len-remove nat_list_cmp_total m name) in
          omega (arith, count_keys names (remove m name) (without_name names name m within), taken)
    ] refl
