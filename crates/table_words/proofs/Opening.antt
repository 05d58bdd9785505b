-- A new table keeps the rule.
use Rattle.std.proofs.Common.{◌≡◌, ℕ, zero, suc, pred, ◌+◌, ◌-◌, ◌*◌, ◌/◌, ◌%◌, ◌<◌, ◌≤◌, ◌==◌, Bool, true, false, ◌&&◌, cond, nat_lt, nat_le, eq-eqb, List, [], ◌∷◌, ◌++◌, length, map, replicate, get_or, sum, Some, None, slice_get, slice_index, refl, sym, ap, ◌∙◌, subst, arith, length-append}
use Rattle.std.proofs.lemmas.Bool.{eqb-true, ltb-true, lt-ltb, leb-true, le-leb}
use Rattle.std.proofs.lemmas.List.{length-replicate}
use Rattle.std.proofs.lemmas.Option.{none-some, same_Some, slice_get_within}
use Rattle.std.proofs.lemmas.List.Sums.{sum_by-cons}
use Rattle.std.specs.FinMap.{FinMap, empty, get, get-empty}
use Rattle.std.specs.Ordering.{nat_cmp}
use mathlib.Core.Option.{some, some-ne-none, some-injective}
use lib.ListN.{get_elem?}
use Rattle.atomic_table.specs.Table.{opening}
use Rattle.sync_types.specs.declared.atomic_object.AtomicKind.{AtomicKind}
use Rattle.sync_types.specs.declared.atomic_object.AtomicKind.TheVariants as kinds
use Rattle.sync_types.specs.declared.atomic_object.Number.{Number}
use Rattle.sync_types.specs.declared.atomic_object.Number.TheVariants.{Bool as Truth}
use Rattle.sync_types.specs.SequentialAtomic.{zero_of}
use Rattle.trie_nodes.specs.Layout.{unit_words}
use Rattle.trie_nodes.specs.Paths.{nibble, route}
use Rattle.table_rule.specs.declared.begin.Begin.{Begin}
use Rattle.table_rule.specs.declared.view.Own.{Own}
use Rattle.table_rule.specs.declared.view.View.{View}
use Rattle.table_words.specs.Blank.{IsBlank}
use Rattle.table_rule.specs.Gates.{count_below, Gated}
use Rattle.table_words.specs.Laws.{HistoryLaws}
use Rattle.table_rule.specs.Layout.{gate_word, heads, first_root, first_room, callers_of, IsBegin}
use Rattle.table_rule.specs.Ledger.{Owned, Fits}
use Rattle.table_rule.specs.Owed.{HasRoom, Suits}
use Rattle.table_rule.specs.Rule.{Kept}
use Rattle.table_rule.specs.Shape.{Shape, start_of, IsNumber, IsNode, ShowsAt, Fine}
use Rattle.table_rule.specs.Views.{new_owns, first_view, at_time}
use Rattle.table_words.proofs.Timing.{timely_nowhere}
use Rattle.table_rule.specs.Order.{IsTimely}

both : (a b : Bool) → (a && b) ≡ true → (a ≡ true) × (b ≡ true)
both true b e = (refl, e)
both false b e = absurd (let f : false ≡ true = e in (cc))

pair : (a b : Bool) → a ≡ true → b ≡ true → (a && b) ≡ true
pair true b e f = f
pair false b e f = absurd (let g : false ≡ true = e in (cc))

not_true : (b : Bool) → (b ≡ true → ⊥) → b ≡ false
not_true true ne = absurd (ne refl)
not_true false ne = refl

abbrev one_if : Bool → ℕ
one_if true = 1
one_if false = 0

one_if-true : (b : Bool) → one_if b ≡ 1 → b ≡ true
one_if-true true e = refl
one_if-true false e = absurd (let f : 0 ≡ 1 = e in omega arith)

not_two : (b : Bool) → one_if b ≡ 2 → ⊥
not_two true e = absurd (let f : zero ≡ suc zero = ap pred e in omega arith)
not_two false e = absurd (let f : zero ≡ suc (suc zero) = e in omega arith)

abbrev is_root_path : List ℕ → Bool
is_root_path [] = true
is_root_path (slot ∷ path) = false

root_path : (path : List ℕ) → is_root_path path ≡ true → path ≡ []
root_path [] e = refl
root_path (slot ∷ path) e = absurd (let f : false ≡ true = e in (cc))

-- whose room a word is in, of rooms that begin here
abbrev owner : ℕ → List ℕ → ℕ → ℕ
owner next [] i = 0
owner next (spare ∷ spares) i = cond (nat_lt i (next + unit_words * spare)) 1 (suc (owner (next + unit_words * spare) spares i))

-- what a caller of a new table has
record IsNewOwn (next : ℕ) (spares : List ℕ) (i : ℕ) (own : Own) : Type 0 where
  below : i < length spares
  items : own.items ≡ []
  times : own.times ≡ []
  draft : own.draft ≡ []
  lies : next ≤ own.next
  within : own.next + unit_words * own.spare ≤ next + unit_words * sum spares
  mine : (n : ℕ) → n < unit_words * own.spare → owner next spares (own.next + n) ≡ suc i

new_own : (next : ℕ) (spares : List ℕ) (i : ℕ) (own : Own) → slice_get (new_owns next spares) i ≡ Some own → IsNewOwn next spares i own
new_own next [] i own at = absurd (none-some own at)
new_own next (spare ∷ spares) zero own at = let all = sum_by-cons (λ x. x) spare spares in subst (IsNewOwn next (spare ∷ spares) zero) (same_Some (record { items = []; times = []; next = next; spare = spare; draft = [] }) own at) record {
  below = omega arith;
  items = refl;
  times = refl;
  draft = refl;
  lies = omega arith;
  within = omega arith;
  mine = λ n inside. ap (λ b. cond b 1 (suc (owner (next + unit_words * spare) spares (next + n)))) (lt-ltb (next + n) (next + unit_words * spare) (omega arith));
}
new_own next (spare ∷ spares) (suc i) own at = let r = new_own (next + unit_words * spare) spares i own at in let below = r.below in let lies = r.lies in let within = r.within in let all = sum_by-cons (λ x. x) spare spares in record {
  below = omega arith;
  items = r.items;
  times = r.times;
  draft = r.draft;
  lies = omega arith;
  within = omega arith;
  mine = λ n inside. ap (λ b. cond b 1 (suc (owner (next + unit_words * spare) spares (own.next + n)))) (not_true (nat_lt (own.next + n) (next + unit_words * spare)) (λ e. let f = ltb-true (own.next + n) (next + unit_words * spare) e in omega arith)) ∙ ap suc (r.mine n inside);
}

zero_number : (kind : AtomicKind) → IsNumber kind 0 (zero_of kind)
zero_number kinds.Int32 = (refl, refl)
zero_number kinds.Int64 = (refl, refl)
zero_number kinds.Uint32 = (refl, refl)
zero_number kinds.Uint64 = (refl, refl)
zero_number kinds.Bool = (refl, refl)

zeros_at : (all : List AtomicKind) (a : ℕ) (kind : AtomicKind) (other : Number) → slice_get all a ≡ Some kind → get_or (map zero_of all) a other ≡ zero_of kind
zeros_at [] a kind other at = absurd (none-some kind at)
zeros_at (x ∷ xs) zero kind other at = ap zero_of (same_Some x kind at)
zeros_at (x ∷ xs) (suc a) kind other at = zeros_at xs a kind other at

pub same_for_all : {A : Type 0} (n i : ℕ) (x : A) → get_or (replicate n x) i x ≡ x
same_for_all zero i x = refl
same_for_all (suc n) zero x = refl
same_for_all (suc n) (suc i) x = same_for_all n i x

none_counted : (n : ℕ) → count_below (λ c. false) n ≡ 0
none_counted zero = refl
none_counted (suc n) = none_counted n

no_path : (xs : List ℕ) (x : ℕ) → [] ≡ xs ++ x ∷ [] → ⊥
no_path xs x e = let long : 0 ≡ length (xs ++ x ∷ []) = ap length e in omega (arith, length-append xs (x ∷ []))

module _ (k : Begin) (begin : IsBegin k) (ws : List ℕ) (is_blank : IsBlank k ws) where
  abbrev in_roots : ℕ → Bool
  in_roots i = nat_le (heads k) i && nat_lt i (first_room k)

  abbrev is_root : ℕ → Bool
  is_root p = (nat_le (heads k) p && nat_lt p (first_room k)) && ((p - heads k) % 18 == 0)

  -- the first roots are the nodes
  abbrev blank : Shape
  blank = record {
    node_at = λ m path. cond (is_root_path path && nat_lt m k.maps) (Some (first_root k m)) None;
    kind_of = λ p. one_if (is_root p);
    part_of = λ i. cond (in_roots i) (heads k + 18 * ((i - heads k) / 18)) 0;
    map_of = λ p. (p - heads k) / 18;
    path_of = λ p. [];
    cut_of = λ p. None;
    held_by = λ p. 0;
    area_of = λ i. owner (first_room k) k.spares i;
    closed_by = λ m. 0;
    inside = λ m c. false;
  }

  -- a node is the first root of some map
  root_is : (p : ℕ) → one_if (is_root p) ≡ 1 → ((p - heads k) / 18 < k.maps) × (p ≡ first_root k ((p - heads k) / 18))
  root_is p e =
      let parts = both (nat_le (heads k) p && nat_lt p (first_room k)) ((p - heads k) % 18 == 0) (one_if-true (is_root p) e) in
      let inside = both (nat_le (heads k) p) (nat_lt p (first_room k)) parts.0 in
      let from = leb-true (heads k) p inside.0 in
      let to = ltb-true p (first_room k) inside.1 in
      let whole = eqb-true ((p - heads k) % 18) 0 parts.1 in
      (omega arith, omega arith)

  -- behind the heads all words are 0
  zero_behind : (i : ℕ) → heads k ≤ i → slice_index ws i ≡ 0
  zero_behind i lies = is_blank.others i (λ m inside e. omega arith)

  node_there : (m : ℕ) → m < k.maps → blank.node_at m [] ≡ Some (first_root k m)
  node_there m inside = ap (λ b. cond b (Some (first_root k m)) None) (lt-ltb m k.maps inside)

  blank_node : (p : ℕ) → one_if (is_root p) ≡ 1 → IsNode k blank p
  blank_node p e = let root = root_is p e in let inside = root.0 in let is = root.1 in record {
    lies = omega arith;
    within = omega arith;
    words = λ i below.
        let from = le-leb (heads k) (p + i) (omega arith) in
        let to = lt-ltb (p + i) (first_room k) (omega arith) in
        ap (λ b. cond b (heads k + 18 * ((p + i - heads k) / 18)) 0) (pair (nat_le (heads k) (p + i)) (nat_lt (p + i) (first_room k)) from to) ∙ omega arith;
    map = root.0;
    level = 0;
    key = 0;
    below = omega arith;
    is_key = omega arith;
    path = refl;
  }

  blank_live : (m : ℕ) (path : List ℕ) (p : ℕ) → blank.node_at m path ≡ Some p → (blank.kind_of p ≡ 1) × (blank.map_of p ≡ m) × ([] ≡ path) × (blank.cut_of p ≡ None)
  blank_live m path p e = by_test (is_root_path path && nat_lt m k.maps) refl e
    where
      by_test : (b : Bool) → (is_root_path path && nat_lt m k.maps) ≡ b → cond b (Some (first_root k m)) None ≡ Some p → (blank.kind_of p ≡ 1) × (blank.map_of p ≡ m) × ([] ≡ path) × (blank.cut_of p ≡ None)
      by_test false is f = absurd (none-some p f)
      by_test true is f =
          let parts = both (is_root_path path) (nat_lt m k.maps) is in
          let inside = ltb-true m k.maps parts.1 in
          let place : first_root k m ≡ p = same_Some (first_root k m) p f in
          let from = le-leb (heads k) p (omega arith) in
          let to = lt-ltb p (first_room k) (omega arith) in
          let whole = eq-eqb ((p - heads k) % 18) 0 (omega arith) in (
            ap one_if (pair (nat_le (heads k) p && nat_lt p (first_room k)) ((p - heads k) % 18 == 0) (pair (nat_le (heads k) p) (nat_lt p (first_room k)) from to) whole),
            omega arith,
            sym (root_path path parts.0),
            refl,
          )

  blank_slots : (p d key : ℕ) → one_if (is_root p) ≡ 1 → [] ≡ route k.seed d key → (word : ℕ) → word ≡ 0 → ShowsAt k blank [] ws p d key word
  blank_slots p (suc d) key e path word is = absurd (no_path (route k.seed d key) (nibble key k.seed d) path)
  blank_slots p zero key e path word is = subst (ShowsAt k blank [] ws p zero key) (sym is) record {
    shows = let none_there : FinMap nat_cmp ℕ = empty in ap (λ held. get held key) (same_for_all k.maps ((p - heads k) / 18) none_there) ∙ get-empty nat_cmp key;
    entry = λ place f. absurd (cc);
    childless = λ none_there live. refl;
  }

  blank_fine : Fine k blank [] ws
  blank_fine = record {
    wide = is_blank.wide;
    numbers = λ a kind at. let below = slice_get_within k.kinds a kind at in
        subst (λ (x : ℕ × Number). IsNumber kind x.0 x.1) (λ i. (sym (is_blank.others (1 + a) (λ m inside e. omega arith)) i, sym (zeros_at k.kinds a kind (Truth false) at) i)) (zero_number kind);
    headed = λ i below. ap (λ b. cond b (heads k + 18 * ((i - heads k) / 18)) 0) (not_true (in_roots i) (λ e. let from = leb-true (heads k) i (both (nat_le (heads k) i) (nat_lt i (first_room k)) e).0 in omega arith));
    nodes = blank_node;
    leaves = λ p e. absurd (not_two (is_root p) e);
    roots = λ m inside. node_there m inside ∙ ap (λ n. Some n) (sym (is_blank.roots m inside));
    live = blank_live;
    there = λ p e live. let root = root_is p e in node_there ((p - heads k) / 18) root.0 ∙ ap (λ n. Some n) (sym root.1);
    top = λ p e root. let node = blank_node p e in let lies = node.lies in zero_behind (p + 1) (omega arith);
    parent = λ p d key e live is_key path. absurd (no_path (route k.seed d key) (nibble key k.seed d) path);
    cut = λ p moment e cut. absurd (none-some moment cut);
    held = λ p e alive. sym (zero_behind p (blank_node p e).lies);
    dead = λ p i e dead inside. absurd (let z = zero_behind p (blank_node p e).lies in omega arith);
    slots = λ p d key e level is_key path. let lies = (blank_node p e).lies in blank_slots p d key e path (slice_index ws (p + 2 + nibble key k.seed d)) (zero_behind (p + 2 + nibble key k.seed d) (omega arith));
  }

  blank_gates : (m : ℕ) → m < k.maps → Gated k blank ws m
  blank_gates m inside = record {
    word = is_blank.others (gate_word k m) (λ n below e. omega arith) ∙ sym (let none_there = none_counted (callers_of k) in omega arith);
    callers = λ c is. absurd (cc);
    closers = λ c is. absurd (let z : 0 ≡ suc c = is in omega arith);
  }

  blank_fits : Fits (callers_of k) [] (λ c. []) (λ c. 0) 0 (first_view k)
  blank_fits = record {
    seen = ([], refl);
    heard = λ i xs at. absurd (none-some xs at);
    long = length-replicate (callers_of k) 0;
    front = record { made = λ c. let z : slice_index (replicate (callers_of k) 0) c ≡ 0 = same_for_all (callers_of k) c 0 in omega arith; within = λ c j x below at. absurd (none-some x at) };
    owns = λ i own at. let r = new_own (first_room k) k.spares i own at in let number : i ≡ 0 + i = omega arith in subst (λ (c : ℕ). Owned (callers_of k) (λ c. []) (λ c. 0) 0 (replicate (callers_of k) 0) c own) number record {
      below = r.below;
      claimed = refl;
      items = sym r.items;
      counted = same_for_all (callers_of k) i 0 ∙ sym (ap length r.items);
      knew = λ j x at. absurd (none-some x (ap (λ l. slice_get l j) (sym r.items) ∙ at));
    };
  }

  blank_suits : Suits k blank [] (λ c. []) ws (first_view k)
  blank_suits = record {
    begin = refl;
    walk = λ w is. absurd (none-some w is);
    steady = λ w is inside. absurd (none-some w is);
    leaf = λ l is. absurd (none-some l is);
    spot = λ s is. absurd (none-some s is);
    cut = λ d has. absurd (let less = has.1 in omega arith);
    room = λ i own at. let r = new_own (first_room k) k.spares i own at in let lies = r.lies in let within = r.within in let number : i ≡ 0 + i = omega arith in subst (λ (c : ℕ). HasRoom k blank ws c own) number record {
      lies = omega arith;
      within = omega arith;
      mine = r.mine;
      unused = λ n below. ap (λ b. cond b (heads k + 18 * ((own.next + n - heads k) / 18)) 0) (not_true (in_roots (own.next + n)) (λ e. let to = ltb-true (own.next + n) (first_room k) (both (nat_le (heads k) (own.next + n)) (nat_lt (own.next + n) (first_room k)) e).1 in omega arith));
      words = λ n below. zero_behind (own.next + n) (omega arith) ∙ sym (ap (λ l. slice_index l n) r.draft);
    };
    gate = tt;
    only = λ m i own at is. absurd (cc);
    holder = λ p i own at reach held. absurd (let z : 0 ≡ suc (0 + i) = held in omega arith);
    closer = λ m i own at closed. absurd (let z : 0 ≡ suc (0 + i) = closed in omega arith);
    lock = λ l is. absurd (none-some l is);
    upper = λ l is. absurd (none-some l is);
    nobody = λ e. refl;
  }

  pub opens : HistoryLaws → Kept k (opening ws [] (first_view k))
  opens laws = record {
    log = [];
    calls = λ c. [];
    claim = λ c. 0;
    shape = blank;
    begin = begin;
    lawful = laws.start (start_of k);
    none_else = λ c past. refl;
    values = tt;
    keys = λ m key value at. let none_there : FinMap nat_cmp ℕ = empty in absurd (none-some value (sym (ap (λ held. get held key) (same_for_all k.maps m none_there) ∙ get-empty nat_cmp key) ∙ at));
    fine = blank_fine;
    gates = blank_gates;
    unused = λ i u. is_blank.others i (λ m below. u.root m below);
    fits = λ j v at live. let t = only_one j v at in subst (λ (x : ℕ × View). Fits (callers_of k) [] (λ c. []) (λ c. 0) x.0 x.1) (λ i. (sym t.0 i, t.1 i)) blank_fits;
    ordered = record {
      entry_times = [];
      times = λ c. [];
      clock = 0;
      order = record {
        entries = refl;
        rise = λ n i earlier later below at_n at_i. absurd (none-some earlier at_n);
        all = λ c. refl;
        among = λ c j time x at at_time. absurd (none-some x at);
      };
      apart = λ n i earlier later below at_n at_i. absurd (none-some earlier at_n);
      entered = λ n time at. absurd (none-some time at);
      called = λ c j time at. absurd (none-some time at);
      seats = λ j v at live. let t = only_one j v at in subst (IsTimely blank [] [] (λ c. []) 0) t.1 (timely_nowhere blank [] [] (λ c. []) 0 (first_view k) (λ i own at. sym (new_own (first_room k) k.spares i own at).times) refl);
    };
    suits = λ j v at live. let t = only_one j v at in subst (Suits k blank [] (λ c. []) ws) t.1 blank_suits;
  }
    where
      only_one : (j : ℕ) (v : View) → get_elem? (first_view k ∷ []) j ≡ some v → (j ≡ 0) × (first_view k ≡ v)
      only_one zero v at = (refl, some-injective (first_view k) v at)
      only_one (suc j) v at = absurd (some-ne-none v (sym at))
