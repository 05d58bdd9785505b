-- A walk through all slots finds each key of a map once.
use Rattle.std.proofs.Common.{◌≡◌, ◌≢◌, ◌⊎◌, inl, inr, ℕ, zero, suc, ◌+◌, ◌^◌, ◌<◌, ◌≤◌, ◌==◌, Bool, true, false, cond, eq-eqb, ne_eqb, List, [], ◌∷◌, ◌++◌, Option, Some, None, refl, sym, ap, subst, ◌∙◌, arith}
use Rattle.std.specs.Prelude.{All, count_by, slice_index}
use Rattle.std.specs.Cmp.{tied_itself, nat_cmp_total}
use Rattle.std.specs.FinMap.{find, nat_cmp-IsAntisymmetric}
use Rattle.std.specs.Ordering.{nat_cmp, eq_by_cmp, is_eq}
use Rattle.std.specs.declared.cmp.Ordering.{Ordering}
use Rattle.std.specs.declared.cmp.Ordering.TheVariants.{Less, Equal, Greater}
use Rattle.std.proofs.lemmas.Bool.{cases_eq, cases_lt}
use Rattle.std.proofs.lemmas.List.Elements.{All-append, All-nil, All-cons}
use Rattle.std.proofs.lemmas.List.Sums.{sum_by-append, sum_by-cons}
use Rattle.std.proofs.lemmas.Option.{none-some}
use Rattle.trie_nodes.specs.declared.slot.Slot.{Slot}
use Rattle.trie_nodes.specs.declared.slot.Slot.TheVariants.{Empty, Node, Entry}
use Rattle.trie_nodes.specs.Layout.{key_word, value_word}
use Rattle.trie_nodes.specs.Nodes.{slot_at, Shows}
use Rattle.trie_nodes.specs.Paths.{nibble, route}
use Rattle.trie_nodes.specs.Walks.{slot_pairs, pairs_in_slots, pairs_within, ShowsMap, ArePairsOf}
use Rattle.trie_nodes.proofs.PathLemmas.{nibble-lt, nibble-same, route-parts, route-join, route-part, each_slot_has_key}

apart : (o : Ordering) (q k : ℕ) → nat_cmp q k ≡ o → q ≢ k → is_eq o ≡ false
apart Less q k e ne = refl
apart Equal q k e ne = absurd (ne (nat_cmp-IsAntisymmetric q k e))
apart Greater q k e ne = refl

-- keys tie where they are equal
tied : (q k : ℕ) → q ≡ k → eq_by_cmp nat_cmp q k ≡ true
tied q k is = subst (λ (j : ℕ). eq_by_cmp nat_cmp q j ≡ true) is (ap is_eq (tied_itself nat_cmp_total q))

untied : (q k : ℕ) → q ≢ k → eq_by_cmp nat_cmp q k ≡ false
untied q k ne = apart (nat_cmp q k) q k refl ne

-- whichever way they are compared
tie : (q k : ℕ) → eq_by_cmp nat_cmp q k ≡ (k == q)
tie q k = elim (cases_eq q k) [
  | inl same ↦ tied q k same ∙ sym (eq-eqb k q (sym same))
  | inr ne ↦ untied q k ne ∙ sym (ne_eqb k q (λ e. ne (sym e)))
]

not_counted : (b : Bool) → b ≡ false → cond {A = ℕ} b 1 0 ≡ 0
not_counted b is = ap (λ (t : Bool). cond {A = ℕ} t 1 0) is

one_or_none : (b : Bool) → 0 + cond b 1 0 ≤ 1
one_or_none true = omega arith
one_or_none false = omega arith

-- what is found in two lists together
find_left : (q v : ℕ) (xs ys : List (ℕ × ℕ)) → find nat_cmp q xs ≡ Some v → find nat_cmp q (xs ++ ys) ≡ Some v
find_left q v [] ys at = absurd (none-some v at)
find_left q v (x ∷ xs) ys at = elim (eq_by_cmp nat_cmp q x.0) as (λ b. cond b (Some x.1) (find nat_cmp q xs) ≡ Some v → cond b (Some x.1) (find nat_cmp q (xs ++ ys)) ≡ Some v) [
  | true ↦ λ is. is
  | false ↦ λ is. find_left q v xs ys is
] at

find_right : (q : ℕ) (xs ys : List (ℕ × ℕ)) → find nat_cmp q xs ≡ None → find nat_cmp q (xs ++ ys) ≡ find nat_cmp q ys
find_right q [] ys at = refl
find_right q (x ∷ xs) ys at = elim (eq_by_cmp nat_cmp q x.0) as (λ b. cond b (Some x.1) (find nat_cmp q xs) ≡ None → cond b (Some x.1) (find nat_cmp q (xs ++ ys)) ≡ find nat_cmp q ys) [
  | true ↦ λ is. absurd (none-some x.1 (sym is))
  | false ↦ λ is. find_right q xs ys is
] at

find_both : (q : ℕ) (xs ys : List (ℕ × ℕ)) (o : Option ℕ) → find nat_cmp q xs ≡ o → find nat_cmp q ys ≡ None → find nat_cmp q (xs ++ ys) ≡ o
find_both q xs ys None first second = find_right q xs ys first ∙ second
find_both q xs ys (Some v) first second = find_left q v xs ys first

-- a key that isn't found isn't there
count_none : (q : ℕ) (xs : List (ℕ × ℕ)) → find nat_cmp q xs ≡ None → count_by (λ pair. pair.0 == q) xs ≡ 0
count_none q [] none = refl
count_none q (x ∷ xs) none = elim (cases_eq q x.0) [
  | inl same ↦ absurd (none-some x.1 (sym (sym (ap (λ (b : Bool). cond b (Some x.1) (find nat_cmp q xs)) (tied q x.0 same)) ∙ none)))
  | inr ne ↦
      let rest : find nat_cmp q xs ≡ None = sym (ap (λ (b : Bool). cond b (Some x.1) (find nat_cmp q xs)) (untied q x.0 ne)) ∙ none in
      let here = not_counted (x.0 == q) (ne_eqb x.0 q (λ e. ne (sym e))) in
      let more = sum_by-cons (λ (pair : ℕ × ℕ). cond (pair.0 == q) 1 0) x xs in
      let none_behind = count_none q xs rest in
      omega arith
]

module _ (held : ℕ → Option ℕ) where
  -- a list has the keys of a part of a map once each, with what they have, and no other key
  pub record IsPart (part : ℕ → Type 0) (pairs : List (ℕ × ℕ)) : Type 0 where
    pub on : (key : ℕ) → key < 2 ^ 32 → part key → find nat_cmp key pairs ≡ held key
    pub off : (key : ℕ) → (part key → ⊥) → find nat_cmp key pairs ≡ None
    pub keys : All (λ pair. pair.0 < 2 ^ 32) pairs
    pub once : (key : ℕ) → count_by (λ pair. pair.0 == key) pairs ≤ 1

  same_part : (part other : ℕ → Type 0) (pairs : List (ℕ × ℕ)) → ((key : ℕ) → part key → other key) → ((key : ℕ) → other key → part key) → IsPart part pairs → IsPart other pairs
  same_part part other pairs to from is = record {
    on = λ key below there. is.on key below (from key there);
    off = λ key away. is.off key (λ there. away (to key there));
    keys = is.keys;
    once = is.once;
  }

  both_parts : (part other : ℕ → Type 0) (xs ys : List (ℕ × ℕ)) → ((key : ℕ) → part key → other key → ⊥) → ((key : ℕ) → part key ⊎ (part key → ⊥)) → IsPart part xs → IsPart other ys → IsPart (λ key. part key ⊎ other key) (xs ++ ys)
  both_parts part other xs ys one_only either first second = record {
    on = λ key below there. elim there [
      | inl here ↦ find_both key xs ys (held key) (first.on key below here) (second.off key (λ there. one_only key here there))
      | inr here ↦ find_right key xs ys (first.off key (λ there. one_only key there here)) ∙ second.on key below here
    ];
    off = λ key away. find_right key xs ys (first.off key (λ there. away (inl there))) ∙ second.off key (λ there. away (inr there));
    keys = All-append (λ (pair : ℕ × ℕ). pair.0 < 2 ^ 32) xs ys first.keys second.keys;
    once = λ key.
        let test = λ (pair : ℕ × ℕ). pair.0 == key in
        let sum = sum_by-append (λ (pair : ℕ × ℕ). cond (pair.0 == key) 1 0) xs ys in
        let in_first = first.once key in
        let in_second = second.once key in
        elim (either key) [
          | inl here ↦ let none = count_none key ys (second.off key (λ there. one_only key here there)) in omega arith
          | inr away ↦ let none = count_none key xs (first.off key away) in omega arith
        ];
  }

module _ (words : List ℕ) (seed : ℕ) (held : ℕ → Option ℕ) (node_at : List ℕ → Option ℕ) (seed_fits : seed < 2 ^ 32) (in_order : ShowsMap words seed held node_at) where
  -- a key's path goes through the node of a level on the path of another key
  abbrev Through : ℕ → ℕ → ℕ → Type 0
  Through level base key = route seed level key ≡ route seed level base

  -- and by one of its first slots, or by this slot
  abbrev Before : ℕ → ℕ → ℕ → ℕ → Type 0
  Before level base slot key = Through level base key × (nibble key seed level < slot)

  abbrev By : ℕ → ℕ → ℕ → ℕ → Type 0
  By level base slot key = Through level base key × (nibble key seed level ≡ slot)

  -- what holds of the nodes of a level, where so many are left
  abbrev AllFound : ℕ → ℕ → Type 0
  AllFound levels level = (node base : ℕ) → base < 2 ^ 32 → node_at (route seed level base) ≡ Some node → level < 8 → IsPart held (Through level base) (pairs_within words levels node)

  module _ (levels level node base : ℕ) (base_fits : base < 2 ^ 32) (there : node_at (route seed level base) ≡ Some node) (level_fits : level < 8) (below : AllFound levels (suc level)) where
    -- a slot says of each of its keys what the key has
    shown : (slot key : ℕ) → key < 2 ^ 32 → By level base slot key → Shows words seed (λ place. node_at (route seed (suc level) key) ≡ Some place) level key (held key) (slot_at words node slot)
    shown slot key fits by = subst (λ s. Shows words seed (λ place. node_at (route seed (suc level) key) ≡ Some place) level key (held key) (slot_at words node s)) by.1
        (in_order.shows level node key level_fits fits (ap node_at by.0 ∙ there))

    module _ (slot some_key : ℕ) (some_fits : some_key < 2 ^ 32) (some_by : By level base slot some_key) where
      to_slot : (key : ℕ) → route seed (suc level) key ≡ route seed (suc level) some_key → By level base slot key
      to_slot key same = let parts = route-parts seed level key some_key same in (parts.0 ∙ some_by.0, parts.1 ∙ some_by.1)

      from_slot : (key : ℕ) → By level base slot key → route seed (suc level) key ≡ route seed (suc level) some_key
      from_slot key by = route-join seed level key some_key (by.0 ∙ sym some_by.0) (by.1 ∙ sym some_by.1)

      by_slot : (s : Slot) → slot_at words node slot ≡ s → IsPart held (By level base slot) (slot_pairs words (pairs_within words levels) s)
      by_slot Empty is = record {
        on = λ key fits by. sym (subst (Shows words seed (λ place. node_at (route seed (suc level) key) ≡ Some place) level key (held key)) is (shown slot key fits by));
        off = λ key away. refl;
        keys = All-nil (λ (pair : ℕ × ℕ). pair.0 < 2 ^ 32);
        once = λ key. omega arith;
      }
      by_slot (Node place) is =
          let s = subst (Shows words seed (λ place. node_at (route seed (suc level) some_key) ≡ Some place) level some_key (held some_key)) is (shown slot some_key some_fits some_by) in
          same_part held (Through (suc level) some_key) (By level base slot) (pairs_within words levels place) to_slot from_slot (below place some_key some_fits s.1 s.0)
      by_slot (Entry entry) is =
          let s = subst (Shows words seed (λ place. node_at (route seed (suc level) some_key) ≡ Some place) level some_key (held some_key)) is (shown slot some_key some_fits some_by) in
          let fits = in_order.keys level node some_key entry level_fits some_fits (ap node_at some_by.0 ∙ there) (ap (slot_at words node) some_by.1 ∙ is) in record {
            on = λ key key_fits by.
                let t = subst (Shows words seed (λ place. node_at (route seed (suc level) key) ≡ Some place) level key (held key)) is (shown slot key key_fits by) in
                ap (λ (b : Bool). cond b (Some (slice_index words (value_word entry))) None) (tie key (slice_index words (key_word entry))) ∙ sym t.1;
            off = λ key away. ap (λ (b : Bool). cond b (Some (slice_index words (value_word entry))) None) (untied key (slice_index words (key_word entry)) (λ same. away (to_slot key (ap (route seed (suc level)) same ∙ s.0))));
            keys = All-cons (λ (pair : ℕ × ℕ). pair.0 < 2 ^ 32) (slice_index words (key_word entry), slice_index words (value_word entry)) [] fits (All-nil (λ (pair : ℕ × ℕ). pair.0 < 2 ^ 32));
            once = λ key. one_or_none (slice_index words (key_word entry) == key);
          }

    each_slot : (slot : ℕ) → slot < 16 → IsPart held (By level base slot) (slot_pairs words (pairs_within words levels) (slot_at words node slot))
    each_slot slot inside = let k = each_slot_has_key seed base level slot seed_fits level_fits inside in by_slot slot k.0 k.1 (k.2, k.3) (slot_at words node slot) refl

    either_way : (slot key : ℕ) → Before level base slot key ⊎ (Before level base slot key → ⊥)
    either_way slot key = elim (route-part seed level key base) [
      | inl same ↦ elim (cases_lt (nibble key seed level) slot) [ inl lt ↦ inl (same, lt) | inr le ↦ inr (λ before. absurd (let lt = before.1 in omega arith)) ]
      | inr parts ↦ inr (λ before. parts.3 (nibble-same seed parts.0 level key base parts.1 before.0))
    ]

    next_slot : (slot key : ℕ) → Before level base slot key ⊎ By level base slot key → Before level base (suc slot) key
    next_slot slot key there = elim there [ inl before ↦ (before.0, let lt = before.1 in omega arith) | inr by ↦ (by.0, let is = by.1 in omega arith) ]

    last_slot : (slot key : ℕ) → Before level base (suc slot) key → Before level base slot key ⊎ By level base slot key
    last_slot slot key there = elim (cases_lt (nibble key seed level) slot) [ inl lt ↦ inl (there.0, lt) | inr le ↦ inr (there.0, let lt = there.1 in omega arith) ]

    first_slots : (slots : ℕ) → slots ≤ 16 → IsPart held (Before level base slots) (pairs_in_slots words (pairs_within words levels) node slots)
    unfolding pairs_in_slots
    first_slots zero few = record {
      on = λ key fits before. absurd (let lt = before.1 in omega arith);
      off = λ key away. refl;
      keys = All-nil (λ (pair : ℕ × ℕ). pair.0 < 2 ^ 32);
      once = λ key. omega arith;
    }
    first_slots (suc slot) few = same_part held (λ key. Before level base slot key ⊎ By level base slot key) (Before level base (suc slot)) _ (next_slot slot) (last_slot slot)
        (both_parts held (Before level base slot) (By level base slot) (pairs_in_slots words (pairs_within words levels) node slot) (slot_pairs words (pairs_within words levels) (slot_at words node slot))
        (λ key before by. absurd (let lt = before.1 in let is = by.1 in omega arith)) (either_way slot) (first_slots slot (omega arith)) (each_slot slot (omega arith)))

    all_slots : IsPart held (Through level base) (pairs_in_slots words (pairs_within words levels) node 16)
    all_slots = same_part held (Before level base 16) (Through level base) _ (λ key before. before.0) (λ key through. (through, nibble-lt key seed level)) (first_slots 16 (omega arith))

  all_found : (levels level : ℕ) → level + levels ≡ 8 → AllFound levels level
  unfolding pairs_within
  all_found zero level e node base base_fits there level_fits = absurd (omega arith)
  all_found (suc levels) level e node base base_fits there level_fits = all_slots levels level node base base_fits there level_fits (all_found levels (suc level) (omega arith))

  -- a walk from the root finds all keys
  pub finds_all : (root : ℕ) → node_at [] ≡ Some root → ArePairsOf held (pairs_within words 8 root)
  finds_all root there = let all = all_found 8 0 (omega arith) root 0 (omega arith) there (omega arith) in record {
    found = λ key fits. all.on key fits refl;
    keys = all.keys;
    once = all.once;
  }
