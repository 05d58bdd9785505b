-- A map's keys in byte order of their names are the keys of the map by name.
use Rattle.std.proofs.Common.{◌≡◌, ◌≢◌, ℕ, zero, suc, ◌<◌, Bool, true, false, ◌&&◌, cond, eq-eqb, ne_eqb, List, [], ◌∷◌, ◌++◌, map, length, slice_index_or, Option, Some, None, refl, sym, ap, ◌∙◌, subst, arith}
use Rattle.std.specs.Prelude.{T, Contains, zip, flat_map, filter_map}
use Rattle.std.specs.List.{AllByRecursion, cons_option}
use Rattle.std.specs.Option.{option_map}
use mathlib.Core.Logic.{dite}
use native.Mathlib.Decide.{ℕ_discrete}
use Rattle.std.specs.declared.cmp.Ordering.{Ordering}
use Rattle.std.specs.declared.cmp.Ordering.TheVariants.{Less, Equal, Greater}
use Rattle.std.specs.Ordering.{nat_cmp, is_eq, is_lt, eq_by_cmp, ordering_reverse}
use Rattle.std.specs.Cmp.{tied_itself, unsigned_tied}
use Rattle.std.specs.Cmp.Lexicographic.{slice_cmp, nat_list_cmp_total}
use Rattle.std.specs.List.Sorted.{IsStrictlySortedBy}
use Rattle.std.proofs.lemmas.List.Elements.{All-contains, All-from_recursion, recursion_from_All}
use Rattle.std.proofs.lemmas.Map.Keys.{sorted_head, sorted_tail}
use Rattle.std.specs.FinMap.{FinMap, empty, get, get-entries, entries, entries_sorted, get-from_entries, from_sorted, entries-from_sorted, get-from_sorted, find, is_sorted, same_map, nat_cmp-IsAntisymmetric, slice_cmp-IsAntisymmetric}
use Rattle.std.specs.FinMap.Entries.{below_all}
use Rattle.sync_types.specs.declared.end.End.{End}
use Rattle.sync_types.specs.declared.end.End.TheVariants as ends
use Rattle.sync_types.specs.Ends.{number_end, pair_ends}
use Rattle.sync_model.specs.SharedHistory.{Contents}
use Rattle.sync_model.specs.EndsOfHistory.{pair_ends_by, ends_by}
use Rattle.sync_model.specs.EndsByName.{HasKeysAmong, AreInNameOrder, by_name, ends_by_name}

both : (a b : Bool) → T a → T b → T (a && b)
both true b p q = q
both false b p q = p

abbrev by_bytes : List ℕ → List ℕ → Ordering
by_bytes = slice_cmp nat_cmp

is_equal : (r : Ordering) → is_eq r ≡ true → r ≡ Equal
is_equal Less e = (cc)
is_equal Equal e = refl
is_equal Greater e = (cc)

same_name : (p q : List ℕ) → eq_by_cmp by_bytes p q ≡ true → p ≡ q
same_name p q e = slice_cmp-IsAntisymmetric nat_cmp-IsAntisymmetric p q (is_equal (by_bytes p q) e)

-- those of these keys that a map has, in this order, each with its value
abbrev pairs_by : List ℕ → FinMap nat_cmp ℕ → List (ℕ × ℕ)
pairs_by order m = filter_map (λ key. option_map (λ value. (key, value)) (get m key)) order

some_none : {A : Type 0} (x : A) → Some x ≡ None → ⊥
some_none x e = (cc)

-- what a test on keys finds where the key is the first one, and where it isn't
module _ (k j v : ℕ) (es : List (ℕ × ℕ)) where
  found_here : k ≡ j → find nat_cmp k ((j, v) ∷ es) ≡ Some v
  found_here is = ap (λ (b : Bool). cond b (Some v) (find nat_cmp k es)) (unsigned_tied k j ∙ eq-eqb k j is)

  found_later : k ≢ j → find nat_cmp k ((j, v) ∷ es) ≡ find nat_cmp k es
  found_later ne = ap (λ (b : Bool). cond b (Some v) (find nat_cmp k es)) (unsigned_tied k j ∙ ne_eqb k j ne)

module _ (m : FinMap nat_cmp ℕ) (k : ℕ) where
  absent : (order : List ℕ) → get m k ≡ None → find nat_cmp k (pairs_by order m) ≡ None
  absent [] none = refl
  absent (j ∷ js) none = by_found (get m j) refl (absent js none)
    where
      by_found : (found : Option ℕ) → get m j ≡ found → find nat_cmp k (pairs_by js m) ≡ None → find nat_cmp k (cons_option (option_map (λ value. (j, value)) found) (pairs_by js m)) ≡ None
      by_found None at_j rest = rest
      by_found (Some v) at_j rest = found_later k j v (pairs_by js m) (λ is. some_none v (sym at_j ∙ (ap (get m) (sym is) ∙ none))) ∙ rest

  present : (order : List ℕ) (i : ℕ) → i < length order → slice_index_or order i k ≡ k → find nat_cmp k (pairs_by order m) ≡ get m k
  present [] i below at_i = absurd (omega arith)
  present (j ∷ js) i below at_i = dite (ℕ_discrete k j) (λ is. here is (get m j) refl) (λ ne. there ne (rest ne i below at_i (present js)) (get m j))
    where
      here : k ≡ j → (found : Option ℕ) → get m j ≡ found → find nat_cmp k (cons_option (option_map (λ value. (j, value)) found) (pairs_by js m)) ≡ get m k
      here is None at_j = let none = ap (get m) is ∙ at_j in absent js none ∙ sym none
      here is (Some v) at_j = found_here k j v (pairs_by js m) is ∙ (sym at_j ∙ ap (get m) (sym is))

      rest : k ≢ j → (n : ℕ) → n < length (j ∷ js) → slice_index_or (j ∷ js) n k ≡ k → ((l : ℕ) → l < length js → slice_index_or js l k ≡ k → find nat_cmp k (pairs_by js m) ≡ get m k) → find nat_cmp k (pairs_by js m) ≡ get m k
      rest ne zero within at_n more = absurd (ne (sym at_n))
      rest ne (suc n) within at_n more = more n (omega arith) at_n

      there : k ≢ j → find nat_cmp k (pairs_by js m) ≡ get m k → (found : Option ℕ) → find nat_cmp k (cons_option (option_map (λ value. (j, value)) found) (pairs_by js m)) ≡ get m k
      there ne more None = more
      there ne more (Some v) = found_later k j v (pairs_by js m) ne ∙ more

  -- the pairs have what the map has
  found_among : (order : List ℕ) → ((value : ℕ) → get m k ≡ Some value → Contains order k) → find nat_cmp k (pairs_by order m) ≡ get m k
  found_among order among = by_found (get m k) refl
    where
      by_found : (found : Option ℕ) → get m k ≡ found → find nat_cmp k (pairs_by order m) ≡ get m k
      by_found None at_k = absent order at_k ∙ sym at_k
      by_found (Some v) at_k = let inside = among v at_k in present order inside.0 inside.1 inside.2

-- what holds of each key that is found holds of each key
each_key : (P : ℕ → Type 0) (es : List (ℕ × ℕ)) → ((k value : ℕ) → find nat_cmp k es ≡ Some value → P k) → AllByRecursion (λ e. P e.0) es
each_key P [] holds = tt
each_key P (e ∷ es) holds = (holds e.0 e.1 (found_here e.0 e.0 e.1 es refl), each_key P es rest)
  where
    rest : (k value : ℕ) → find nat_cmp k es ≡ Some value → P k
    rest k value is = dite (ℕ_discrete k e.0) (λ same. holds k e.1 (found_here k e.0 e.1 es same)) (λ ne. holds k value (found_later k e.0 e.1 es ne ∙ is))

module _ (name : ℕ → List ℕ) (number : List ℕ → ℕ) where
  abbrev renamed : List (ℕ × ℕ) → List (List ℕ × ℕ)
  renamed es = map (λ e. (name e.0, e.1)) es

  abbrev Numbered : List (ℕ × ℕ) → Type 0
  Numbered es = AllByRecursion (λ e. number (name e.0) ≡ e.0) es

  -- a name is found among the names where its number is found
  found_named : (q : List ℕ) (es : List (ℕ × ℕ)) → Numbered es → find by_bytes q (renamed es) ≡ cond (eq_by_cmp by_bytes q (name (number q))) (find nat_cmp (number q) es) None
  found_named q [] numbered = by_test (eq_by_cmp by_bytes q (name (number q)))
    where
      by_test : (b : Bool) → ◌≡◌ {A = Option ℕ} None (cond b None None)
      by_test true = refl
      by_test false = refl
  found_named q (e ∷ es) numbered = by_test (eq_by_cmp by_bytes q (name e.0)) refl (found_named q es numbered.1)
    where
      is_its : number q ≡ e.0 → eq_by_cmp by_bytes q (name (number q)) ≡ eq_by_cmp by_bytes q (name e.0)
      is_its is = ap (λ (n : ℕ). eq_by_cmp by_bytes q (name n)) is

      by_test : (b : Bool) → eq_by_cmp by_bytes q (name e.0) ≡ b → find by_bytes q (renamed es) ≡ cond (eq_by_cmp by_bytes q (name (number q))) (find nat_cmp (number q) es) None → cond b (Some e.1) (find by_bytes q (renamed es)) ≡ cond (eq_by_cmp by_bytes q (name (number q))) (find nat_cmp (number q) (e ∷ es)) None
      by_test true t rest =
          let is : number q ≡ e.0 = ap number (same_name q (name e.0) t) ∙ numbered.0 in
          sym (ap (λ (b : Bool). cond b (find nat_cmp (number q) (e ∷ es)) None) (is_its is ∙ t) ∙ found_here (number q) e.0 e.1 es is)
      by_test false t rest = dite (ℕ_discrete (number q) e.0)
          (λ is. rest ∙ (ap (λ (b : Bool). cond b (find nat_cmp (number q) es) None) (is_its is ∙ t) ∙ sym (ap (λ (b : Bool). cond b (find nat_cmp (number q) (e ∷ es)) None) (is_its is ∙ t))))
          (λ ne. rest ∙ ap (λ (found : Option ℕ). cond (eq_by_cmp by_bytes q (name (number q))) found None) (sym (found_later (number q) e.0 e.1 es ne)))

  module _ (m : FinMap nat_cmp ℕ) where
    numbered_pairs : (order : List ℕ) → AllByRecursion (λ key. number (name key) ≡ key) order → Numbered (pairs_by order m)
    numbered_pairs [] numbers = tt
    numbered_pairs (j ∷ js) numbers = by_found (get m j) (numbered_pairs js numbers.1)
      where
        by_found : (found : Option ℕ) → Numbered (pairs_by js m) → Numbered (cons_option (option_map (λ value. (j, value)) found) (pairs_by js m))
        by_found None rest = rest
        by_found (Some v) rest = (numbers.0, rest)

    later : (x : List ℕ) (order : List ℕ) → AllByRecursion (λ y. by_bytes x y ≡ Less) (map name order) → T (below_all by_bytes x (renamed (pairs_by order m)))
    later x [] all = tt
    later x (j ∷ js) all = by_found (get m j) (later x js all.1)
      where
        by_found : (found : Option ℕ) → T (below_all by_bytes x (renamed (pairs_by js m))) → T (below_all by_bytes x (renamed (cons_option (option_map (λ value. (j, value)) found) (pairs_by js m))))
        by_found None rest = rest
        by_found (Some v) rest = both _ _ (subst (λ r. T (is_lt r)) (sym all.0) tt) rest

    rising : (order : List ℕ) → IsStrictlySortedBy by_bytes (map name order) → T (is_sorted by_bytes (renamed (pairs_by order m)))
    rising [] rise = tt
    rising (j ∷ js) rise = by_found (get m j) (rising js (sorted_tail by_bytes (name j) (map name js) rise))
      where
        by_found : (found : Option ℕ) → T (is_sorted by_bytes (renamed (pairs_by js m))) → T (is_sorted by_bytes (renamed (cons_option (option_map (λ value. (j, value)) found) (pairs_by js m))))
        by_found None rest = rest
        by_found (Some v) rest = both _ _ (later (name j) js (sorted_head by_bytes (name j) (map name js) rise)) rest

    abbrev as_end : ℕ → List ℕ × ℕ → End
    as_end place entry = ends.Pair place (number entry.0) entry.1

    listed : (place : ℕ) (order : List ℕ) → AllByRecursion (λ key. number (name key) ≡ key) order → pair_ends_by order (place, m) ≡ map (as_end place) (renamed (pairs_by order m))
    listed place [] numbers = refl
    listed place (j ∷ js) numbers = by_found (get m j) (listed place js numbers.1)
      where
        by_found : (found : Option ℕ) → pair_ends_by js (place, m) ≡ map (as_end place) (renamed (pairs_by js m))
            → cons_option (option_map (λ value. ends.Pair place j value) found) (pair_ends_by js (place, m)) ≡ map (as_end place) (renamed (cons_option (option_map (λ value. (j, value)) found) (pairs_by js m)))
        by_found None rest = rest
        by_found (Some v) rest = λ i. ends.Pair place (sym numbers.0 i) v ∷ rest i

    module _ (order : List ℕ) (is : AreInNameOrder name number order) (among : (key value : ℕ) → get m key ≡ Some value → Contains order key) where
      numbered_entries : Numbered (entries m)
      numbered_entries = each_key (λ key. number (name key) ≡ key) (entries m)
          (λ key value found. All-contains (λ k. number (name k) ≡ k) order key is.numbers (among key value (get-entries m key ∙ found)))

      numbered : Numbered (pairs_by order m)
      numbered = numbered_pairs order (recursion_from_All (λ key. number (name key) ≡ key) order is.numbers)

      named_entries : entries (by_name name m) ≡ renamed (pairs_by order m)
      named_entries =
          let sorted = rising order is.rise in
          ap entries (same_map nat_list_cmp_total (slice_cmp-IsAntisymmetric nat_cmp-IsAntisymmetric) (by_name name m) (from_sorted (renamed (pairs_by order m)))
          (λ q. get-from_entries nat_list_cmp_total (renamed (entries m)) q ∙ (found_named q (entries m) numbered_entries
          ∙ (ap (λ (found : Option ℕ). cond (eq_by_cmp by_bytes q (name (number q))) found None) (sym (get-entries m (number q)) ∙ sym (found_among m (number q) order (among (number q))))
          ∙ (sym (found_named q (pairs_by order m) numbered) ∙ sym (get-from_sorted by_bytes (renamed (pairs_by order m)) q sorted))))))
          ∙ entries-from_sorted by_bytes (renamed (pairs_by order m)) sorted

      map_listed : (place : ℕ) → pair_ends_by order (place, m) ≡ pair_ends number (place, by_name name m)
      map_listed place = listed place order (recursion_from_All (λ key. number (name key) ≡ key) order is.numbers) ∙ ap (map (as_end place)) (sym named_entries)

  module _ (order : List ℕ) (is : AreInNameOrder name number order) where
    abbrev AreAmong : FinMap nat_cmp ℕ → Type 0
    AreAmong m = (key value : ℕ) → get m key ≡ Some value → Contains order key

    all_listed : (places : List ℕ) (maps : List (FinMap nat_cmp ℕ)) → AllByRecursion AreAmong maps → flat_map (pair_ends_by order) (zip places maps) ≡ flat_map (pair_ends number) (zip places (map (by_name name) maps))
    all_listed [] maps among = refl
    all_listed (place ∷ places) [] among = refl
    all_listed (place ∷ places) (m ∷ maps) among = λ i. map_listed m order is among.0 place i ++ all_listed places maps among.1 i

    each_map : (maps : List (FinMap nat_cmp ℕ)) → ((m key value : ℕ) → get (slice_index_or maps m empty) key ≡ Some value → Contains order key) → AllByRecursion AreAmong maps
    each_map [] among = tt
    each_map (m ∷ maps) among = (among 0, each_map maps (λ i. among (suc i)))

    pub in_name_order : (atomics maps : List ℕ) (contents : Contents) → HasKeysAmong order contents → ends_by order atomics maps contents ≡ ends_by_name name number atomics maps contents
    in_name_order atomics maps contents among = ap (λ rest. map number_end (zip atomics contents.numbers) ++ rest) (all_listed maps contents.maps (each_map contents.maps among))

-- a map by name has what the map has
pub named_value : (name : ℕ → List ℕ) (number : List ℕ → ℕ) (m : FinMap nat_cmp ℕ) → ((key value : ℕ) → get m key ≡ Some value → number (name key) ≡ key) → (word : List ℕ)
    → get (by_name name m) word ≡ cond (eq_by_cmp by_bytes word (name (number word))) (get m (number word)) None
named_value name number m are word =
    get-from_entries nat_list_cmp_total (renamed name number (entries m)) word
    ∙ (found_named name number word (entries m) (each_key (λ key. number (name key) ≡ key) (entries m) (λ key value found. are key value (get-entries m key ∙ found)))
    ∙ ap (λ (found : Option ℕ). cond (eq_by_cmp by_bytes word (name (number word))) found None) (sym (get-entries m (number word))))

strictly : (r : Ordering) → T (is_lt r) → r ≡ Less
strictly Less is = refl
strictly Equal is = absurd is
strictly Greater is = absurd is

first_of : (a b : Bool) → T (a && b) → T a
first_of true b is = tt
first_of false b is = absurd is

second_of : (a b : Bool) → T (a && b) → T b
second_of true b is = is
second_of false b is = absurd is

tied : (x y : List ℕ) → x ≡ y → eq_by_cmp by_bytes x y ≡ true
tied x y is = ap (λ (z : List ℕ). eq_by_cmp by_bytes x z) (sym is) ∙ ap is_eq (tied_itself nat_list_cmp_total x)

behind : (x y : List ℕ) → by_bytes x y ≡ Less → eq_by_cmp by_bytes y x ≡ false
behind x y less = ap is_eq (nat_list_cmp_total.antisymm y x ∙ ap ordering_reverse less)

all_behind : (x : List ℕ) (es : List (List ℕ × ℕ)) → T (below_all by_bytes x es) → AllByRecursion (λ y. by_bytes x y ≡ Less) (map (λ e. e.0) es)
all_behind x [] below = tt
all_behind x (e ∷ es) below = (strictly (by_bytes x e.0) (first_of _ _ below), all_behind x es (second_of _ _ below))

names_rise : (es : List (List ℕ × ℕ)) → T (is_sorted by_bytes es) → IsStrictlySortedBy by_bytes (map (λ e. e.0) es)
unfolding IsStrictlySortedBy
names_rise [] sorted = tt
names_rise (e ∷ es) sorted = (all_behind e.0 es (first_of _ _ sorted), names_rise es (second_of _ _ sorted))

-- each name is found with its own number
found_each : (es : List (List ℕ × ℕ)) → T (is_sorted by_bytes es) → AllByRecursion (λ e. find by_bytes e.0 es ≡ Some e.1) es
found_each [] sorted = tt
found_each (e ∷ es) sorted = (ap (λ (b : Bool). cond b (Some e.1) (find by_bytes e.0 es)) (tied e.0 e.0 refl), others es (first_of _ _ sorted) (found_each es (second_of _ _ sorted)))
  where
    others : (fs : List (List ℕ × ℕ)) → T (below_all by_bytes e.0 fs) → AllByRecursion (λ f. find by_bytes f.0 es ≡ Some f.1) fs → AllByRecursion (λ f. find by_bytes f.0 (e ∷ es) ≡ Some f.1) fs
    others [] below all = tt
    others (f ∷ fs) below all = (ap (λ (b : Bool). cond b (Some e.1) (find by_bytes f.0 es)) (behind e.0 f.0 (strictly (by_bytes e.0 f.0) (first_of _ _ below))) ∙ all.0, others fs (second_of _ _ below) all.1)

module _ (name : ℕ → List ℕ) (number : List ℕ → ℕ) (m : FinMap nat_cmp ℕ) (are : (key value : ℕ) → get m key ≡ Some value → number (name key) ≡ key) where
  pub value_of_name : (key : ℕ) → number (name key) ≡ key → get (by_name name m) (name key) ≡ get m key
  value_of_name key is = named_value name number m are (name key)
      ∙ (ap (λ (b : Bool). cond b (get m (number (name key))) None) (tied (name key) (name (number (name key))) (ap name (sym is))) ∙ ap (get m) is)

  pub no_other_name : (word : List ℕ) → name (number word) ≢ word → get (by_name name m) word ≡ None
  no_other_name word ne = named_value name number m are word ∙ ap (λ (b : Bool). cond b (get m (number word)) None) (by_test (eq_by_cmp by_bytes word (name (number word))) refl)
    where
      by_test : (b : Bool) → eq_by_cmp by_bytes word (name (number word)) ≡ b → b ≡ false
      by_test true t = absurd (ne (sym (same_name word (name (number word)) t)))
      by_test false t = refl

listed_key : (es : List (List ℕ × ℕ)) (q : List ℕ) (key : ℕ) → find by_bytes q es ≡ Some key → Contains (map (λ e. e.1) es) key
listed_key [] q key found = (cc)
listed_key (e ∷ es) q key found = by_test (eq_by_cmp by_bytes q e.0) found (listed_key es q key)
  where
    by_test : (b : Bool) → cond b (Some e.1) (find by_bytes q es) ≡ Some key → (find by_bytes q es ≡ Some key → Contains (map (λ f. f.1) es) key) → Contains (e.1 ∷ map (λ f. f.1) es) key
    by_test true is rest = (0, omega arith, (cc))
    by_test false is rest = let later = rest is in (suc later.0, (let below = later.1 in omega arith), later.2)

pub listed_by_name : (numbers : FinMap (slice_cmp nat_cmp) ℕ) (q : List ℕ) (key : ℕ) → get numbers q ≡ Some key → Contains (map (λ e. e.1) (entries numbers)) key
listed_by_name numbers q key is = listed_key (entries numbers) q key (sym (get-entries numbers q) ∙ is)

module _ (name : ℕ → List ℕ) (number : List ℕ → ℕ) (numbers : FinMap (slice_cmp nat_cmp) ℕ) (are : (q : List ℕ) (key : ℕ) → get numbers q ≡ Some key → (name key ≡ q) × (number q ≡ key)) where
  same_names : (es : List (List ℕ × ℕ)) → AllByRecursion (λ e. get numbers e.0 ≡ Some e.1) es → map name (map (λ e. e.1) es) ≡ map (λ e. e.0) es
  same_names [] all = refl
  same_names (e ∷ es) all = λ i. (are e.0 e.1 all.0).0 i ∷ same_names es all.1 i

  same_numbers : (es : List (List ℕ × ℕ)) → AllByRecursion (λ e. get numbers e.0 ≡ Some e.1) es → AllByRecursion (λ key. number (name key) ≡ key) (map (λ e. e.1) es)
  same_numbers [] all = tt
  same_numbers (e ∷ es) all = let is = are e.0 e.1 all.0 in (ap number is.0 ∙ is.1, same_numbers es all.1)

  each_got : (es : List (List ℕ × ℕ)) → AllByRecursion (λ e. find by_bytes e.0 (entries numbers) ≡ Some e.1) es → AllByRecursion (λ e. get numbers e.0 ≡ Some e.1) es
  each_got [] all = tt
  each_got (e ∷ es) all = (get-entries numbers e.0 ∙ all.0, each_got es all.1)

  -- the numbers of names, in the order of the names
  pub numbers_in_name_order : AreInNameOrder name number (map (λ e. e.1) (entries numbers))
  numbers_in_name_order =
      let es = entries numbers in
      let got = each_got es (found_each es (entries_sorted numbers)) in
      record {
        numbers = All-from_recursion (λ key. number (name key) ≡ key) (map (λ e. e.1) es) (same_numbers es got);
        rise = subst (IsStrictlySortedBy by_bytes) (sym (same_names es got)) (names_rise es (entries_sorted numbers));
      }
