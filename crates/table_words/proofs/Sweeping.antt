-- A cursor goes on by a slot, down into a node, and up again: what it has passed was shown, or was absent at some moment since its begin.
use Rattle.std.proofs.Common.{◌≡◌, ◌⊎◌, inl, inr, ℕ, zero, suc, ◌+◌, ◌^◌, ◌<◌, ◌≤◌, ◌==◌, Bool, cond, ne_eqb, eq-eqb, List, [], ◌∷◌, ◌++◌, length, take, Option, Some, None, get_or, slice_get, slice_index, refl, sym, ap, ◌∙◌, subst, arith, length-append, append_assoc}
use Rattle.std.specs.Prelude.{Contains}
use Rattle.std.proofs.Math.Seq.{take-append_seam, get_or-append_seam}
use Rattle.std.proofs.lemmas.Bool.{cases_lt, cases_eq}
use Rattle.std.proofs.lemmas.List.{take-append-le, append-nil}
use Rattle.std.proofs.lemmas.List.Elements.{Contains-append_left, Contains-append_right, Contains-append_cases}
use Rattle.std.proofs.lemmas.Option.{none-some, same_Some, slice_get_within}
use Rattle.sync_model.specs.declared.item.Item.{Item}
use Rattle.sync_model.specs.declared.item.SharedEntry.{SharedEntry}
use Rattle.sync_model.specs.SharedCalls.{Knows}
use Rattle.trie_nodes.specs.declared.slot.Slot.TheVariants.{Empty, Node, Entry}
use Rattle.trie_nodes.specs.Nodes.{Shows, slot_at}
use Rattle.trie_nodes.specs.Paths.{nibble, route, Passed}
use Rattle.table_rule.specs.declared.begin.Begin.{Begin}
use Rattle.table_rule.specs.declared.view.Spot.{Spot}
use Rattle.table_rule.specs.Layout.{IsBegin}
use Rattle.table_rule.specs.Owed.{Stands}
use Rattle.table_rule.specs.Shape.{Shape, held_at, till, time, IsBelow, Fine}
use Rattle.table_words.specs.SweepLaws.{SweepLaws}

module _ {A : Type 0} where
  -- an item of a list with one more behind
  pub last_item : (xs : List A) (x : A) → slice_get (xs ++ x ∷ []) (length xs) ≡ Some x
  last_item [] x = refl
  last_item (y ∷ xs) x = last_item xs x

  pub front_item : (xs ys : List A) (i : ℕ) → i < length xs → slice_get (xs ++ ys) i ≡ slice_get xs i
  front_item [] ys i below = absurd (omega arith)
  front_item (x ∷ xs) ys zero below = refl
  front_item (x ∷ xs) ys (suc i) below = front_item xs ys i (omega arith)

-- two lists of one length, each with one more, are equal only where both parts are
same_parts : (xs ys : List ℕ) (x y : ℕ) → length xs ≡ length ys → xs ++ x ∷ [] ≡ ys ++ y ∷ [] → (xs ≡ ys) × (x ≡ y)
same_parts xs ys x y long same = (
  sym (take-append_seam xs (x ∷ [])) ∙ ap (take (length xs)) same ∙ ap (λ n. take n (ys ++ y ∷ [])) long ∙ take-append_seam ys (y ∷ []),
  sym (get_or-append_seam xs x [] 0) ∙ ap (λ l. get_or l (length xs) 0) same ∙ ap (λ n. get_or (ys ++ y ∷ []) n 0) long ∙ get_or-append_seam ys y [] 0,
)

-- a cursor that stands in these slots of these nodes, the last of which is given
module _ (k : Begin) (laws : SweepLaws) (sh : Shape) (log : List SharedEntry) (ws : List ℕ) (begin : IsBegin k) (fine : Fine k sh log ws) (calls : ℕ → List Item) (z : Spot) (stands : Stands k sh log calls z)
    (front : List ℕ) (slot : ℕ) (slots_are : z.slots ≡ front ++ slot ∷ []) (above : List ℕ) (node : ℕ) (nodes_are : z.nodes ≡ above ++ node ∷ []) where
  same_depth : length above ≡ length front
  same_depth =
      let sized = stands.sized in
      let nodes = ap length nodes_are in
      let slots = ap length slots_are in
      let more = length-append above (node ∷ []) in
      let also = length-append front (slot ∷ []) in
      omega arith

  pub record Here : Type 0 where
    pub kind : sh.kind_of node ≡ 1
    pub map : sh.map_of node ≡ z.map
    pub path : sh.path_of node ≡ front
    pub since : z.since ≤ time sh log node

  pub here : Here
  here =
      let is = stands.nodes (length above) node (ap (λ l. slice_get l (length above)) nodes_are ∙ last_item above node) in record {
        kind = is.0;
        map = is.1;
        path = is.2 ∙ ap (take (length above)) slots_are ∙ ap (λ n. take n (front ++ slot ∷ [])) same_depth ∙ take-append_seam front (slot ∷ []);
        since = is.3;
      }

  pub till_end : time sh log node ≤ length log
  till_end = by_cut (sh.cut_of node) refl
    where
      by_cut : (o : Option ℕ) → sh.cut_of node ≡ o → till o (length log) ≤ length log
      by_cut None e = omega arith
      by_cut (Some t) e = fine.cut node t here.kind e

  -- the node's level, and a key on its path
  pub record Path : Type 0 where
    pub key : ℕ
    pub fits : key < 2 ^ 32
    pub level : length front < 8
    pub path : route k.seed (length front) key ≡ front

  pub path : Path
  path =
      let is = fine.nodes node here.kind in
      let same = sym here.path ∙ is.path in
      let level : length front ≡ is.level = ap length same ∙ laws.long k.seed is.level is.key in
      let below = is.below in record {
        key = is.key;
        fits = is.is_key;
        level = omega arith;
        path = ap (λ d. route k.seed d is.key) level ∙ sym same;
      }

  -- a key of the slot
  abbrev pub OfSlot : ℕ → Type 0
  OfSlot key = route k.seed (suc (length front)) key ≡ front ++ slot ∷ []

  of_path : (key : ℕ) → OfSlot key → (route k.seed (length front) key ≡ front) × (nibble key k.seed (length front) ≡ slot)
  of_path key of = same_parts (route k.seed (length front) key) front (nibble key k.seed (length front)) slot (laws.long k.seed (length front) key) of

  pub some_key : slot < 16 → (key : ℕ) × (key < 2 ^ 32) × OfSlot key
  some_key inside =
      let p = path in
      let other = laws.each_slot k.seed p.key (length front) slot begin.seed p.level inside in
      (other.0, other.1, λ i. (other.2 ∙ p.path) i ++ other.3 i ∷ [])

  -- what the slot shows of its keys
  pub shows : (key : ℕ) → key < 2 ^ 32 → OfSlot key → Shows ws k.seed (IsBelow k sh log ws node (length front) key) (length front) key (held_at k log (time sh log node) z.map key) (slot_at ws node slot)
  shows key fits of =
      let parts = of_path key of in
      let told = (fine.slots node (length front) key here.kind path.level fits (here.path ∙ sym parts.0)).shows in
      subst (λ (x : ℕ × ℕ). Shows ws k.seed (IsBelow k sh log ws node (length front) key) (length front) key (held_at k log (time sh log node) x.0 key) (slot_at ws node x.1)) (λ i. (here.map i, parts.1 i)) told

  pub entry_of : slot < 16 → (place : ℕ) → slot_at ws node slot ≡ Entry place → sh.kind_of place ≡ 2
  entry_of inside place is =
      let key = some_key inside in
      let parts = of_path key.0 key.2 in
      (fine.slots node (length front) key.0 here.kind path.level key.1 (here.path ∙ sym parts.0)).entry place (ap (slot_at ws node) parts.1 ∙ is)

  -- the cursor passes the slot: each of its keys is shown now, or was absent at some moment
  module _ (inside : slot < 16) (added : List ℕ) (are : (key : ℕ) → Contains added key → (key < 2 ^ 32) × OfSlot key)
      (others : (key : ℕ) → key < 2 ^ 32 → OfSlot key → Contains added key ⊎ ((moment : ℕ) × (z.since ≤ moment) × (moment ≤ length log) × (held_at k log moment z.map key ≡ None))) where
    abbrev pub passed : Spot
    passed = record z { slots = front ++ suc slot ∷ []; shown = z.shown ++ added }

    pub stands_passed : Stands k sh log calls passed
    stands_passed = record {
      since = stands.since;
      knows = stands.knows;
      sized = stands.sized ∙ ap length slots_are ∙ length-append front (slot ∷ []) ∙ sym (length-append front (suc slot ∷ []));
      some = stands.some;
      nodes = λ i p at.
          let is = stands.nodes i p at in
          let within = slice_get_within z.nodes i p at in
          let long = ap length nodes_are ∙ length-append above (node ∷ []) in
          let depth = same_depth in
          let le : i ≤ length front = omega arith in
          (is.0, is.1, is.2 ∙ ap (take i) slots_are ∙ take-append-le i front (slot ∷ []) le ∙ sym (take-append-le i front (suc slot ∷ []) le), is.3);
      slots = λ i s at. elim (cases_lt i (length front)) [
        | inl lt ↦ stands.slots i s (ap (λ l. slice_get l i) slots_are ∙ front_item front (slot ∷ []) i lt ∙ sym (front_item front (suc slot ∷ []) i lt) ∙ at)
        | inr le ↦ let last = at_last i s le at in omega arith
      ];
      entered = λ i s at more.
          let long = length-append front (suc slot ∷ []) in
          let lt : i < length front = omega arith in
          let old = ap length slots_are ∙ length-append front (slot ∷ []) in
          stands.entered i s (ap (λ l. slice_get l i) slots_are ∙ front_item front (slot ∷ []) i lt ∙ sym (front_item front (suc slot ∷ []) i lt) ∙ at) (omega arith);
      shown = λ key there. elim (Contains-append_cases z.shown added key there) [
        | inl old ↦ let was = stands.shown key old in (was.0, (laws.goes_on k.seed slot key front).1 (inl (subst (λ l. Passed k.seed 0 l key) slots_are was.1)))
        | inr new ↦ let is = are key new in (is.0, (laws.goes_on k.seed slot key front).1 (inr is.1))
      ];
      passed = λ key fits there. elim ((laws.goes_on k.seed slot key front).0 there) [
        | inl before ↦ elim (stands.passed key fits (subst (λ l. Passed k.seed 0 l key) (sym slots_are) before)) [ inl old ↦ inl (Contains-append_left z.shown added key old) | inr absent ↦ inr absent ]
        | inr of ↦ elim (others key fits of) [ inl new ↦ inl (Contains-append_right z.shown added key new) | inr absent ↦ inr absent ]
      ];
    }
      where
        at_last : (i s : ℕ) → length front ≤ i → slice_get (front ++ suc slot ∷ []) i ≡ Some s → s ≡ suc slot
        at_last i s le at =
            let within = slice_get_within (front ++ suc slot ∷ []) i s at in
            let long = length-append front (suc slot ∷ []) in
            let e : i ≡ length front = omega arith in
            sym (same_Some (suc slot) s (sym (last_item front (suc slot)) ∙ ap (slice_get (front ++ suc slot ∷ [])) (sym e) ∙ at))

  -- an empty slot is passed
  pub empty_passed : (inside : slot < 16) → slot_at ws node slot ≡ Empty → Stands k sh log calls (record z { slots = front ++ suc slot ∷ [] })
  empty_passed inside is =
      let stands_so = stands_passed inside [] (λ key there. absurd (let none = there.1 in omega arith))
      (λ key fits of. let absent = subst (Shows ws k.seed (IsBelow k sh log ws node (length front) key) (length front) key (held_at k log (time sh log node) z.map key)) is (shows key fits of) in
      inr (time sh log node, here.since, till_end, absent)) in
      subst (λ l. Stands k sh log calls (record z { slots = front ++ suc slot ∷ []; shown = l })) (append-nil z.shown) stands_so

  -- so is a slot with an entry, whose key is shown
  module _ (inside : slot < 16) (place : ℕ) (is : slot_at ws node slot ≡ Entry place) where
    pub entry_shown : (key : ℕ) → key < 2 ^ 32 → OfSlot key → (route k.seed (suc (length front)) (slice_index ws place) ≡ route k.seed (suc (length front)) key) × (held_at k log (time sh log node) z.map key ≡ cond (slice_index ws place == key) (Some (slice_index ws (place + 1))) None)
    entry_shown key fits of = subst (Shows ws k.seed (IsBelow k sh log ws node (length front) key) (length front) key (held_at k log (time sh log node) z.map key)) is (shows key fits of)

    pub own_key : (slice_index ws place < 2 ^ 32) × OfSlot (slice_index ws place)
    own_key = let key = some_key inside in ((fine.leaves place (entry_of inside place is)).is_key, (entry_shown key.0 key.1 key.2).0 ∙ key.2)

    -- it wasn't shown before, and has this value at the moment for which the node stands
    pub not_shown : Contains z.shown (slice_index ws place) → ⊥
    not_shown there = laws.once k.seed slot (slice_index ws place) front own_key.1 (subst (λ l. Passed k.seed 0 l (slice_index ws place)) slots_are (stands.shown (slice_index ws place) there).1)

    pub own_value : held_at k log (time sh log node) z.map (slice_index ws place) ≡ Some (slice_index ws (place + 1))
    own_value = (entry_shown (slice_index ws place) own_key.0 own_key.1).1 ∙ ap (λ (b : Bool). cond b (Some (slice_index ws (place + 1))) None) (eq-eqb (slice_index ws place) (slice_index ws place) refl)

    pub entry_passed : Stands k sh log calls (record z { slots = front ++ suc slot ∷ []; shown = z.shown ++ slice_index ws place ∷ [] })
    entry_passed = stands_passed inside (slice_index ws place ∷ [])
        (λ key there. subst (λ n. (n < 2 ^ 32) × OfSlot n) (only key there) own_key)
        (λ key fits of. elim (cases_eq (slice_index ws place) key) [
          | inl same ↦ inl (subst (λ n. Contains (slice_index ws place ∷ []) n) same (0, omega arith, refl))
          | inr ne ↦ inr (time sh log node, here.since, till_end, (entry_shown key fits of).1 ∙ ap (λ (b : Bool). cond b (Some (slice_index ws (place + 1))) None) (ne_eqb (slice_index ws place) key ne))
        ])
      where
        only : (key : ℕ) → Contains (slice_index ws place ∷ []) key → slice_index ws place ≡ key
        only key (i, below, at) = by_place i below at
          where
            by_place : (i : ℕ) → i < 1 → get_or (slice_index ws place ∷ []) i key ≡ key → slice_index ws place ≡ key
            by_place zero below at = at
            by_place (suc i) below at = absurd (omega arith)

  -- it goes down into a node
  pub goes_down : (inside : slot < 16) (below : ℕ) → slot_at ws node slot ≡ Node below → Stands k sh log calls (record z { nodes = z.nodes ++ below ∷ []; slots = z.slots ++ 0 ∷ [] }) × (sh.kind_of below ≡ 1) × (suc (length front) < 8)
  goes_down inside below is =
      let key = some_key inside in
      let told = subst (Shows ws k.seed (IsBelow k sh log ws node (length front) key.0) (length front) key.0 (held_at k log (time sh log node) z.map key.0)) is (shows key.0 key.1 key.2) in
      let node_is = told.1 in
      let path_is : sh.path_of below ≡ z.slots = node_is.2 ∙ key.2 ∙ sym slots_are in
      let since : z.since ≤ time sh log below = subst (λ o. z.since ≤ till o (length log)) (sym node_is.3) here.since in
      let sized = stands.sized in
      let nodes_long = length-append z.nodes (below ∷ []) in
      let slots_long = length-append z.slots (0 ∷ []) in (
        record {
          since = stands.since;
          knows = stands.knows;
          sized = omega arith;
          some = omega arith;
          nodes = λ i p at. elim (cases_lt i (length z.nodes)) [
            | inl lt ↦ let was = stands.nodes i p (sym (front_item z.nodes (below ∷ []) i lt) ∙ at) in (was.0, was.1, was.2 ∙ sym (take-append-le i z.slots (0 ∷ []) (omega arith)), was.3)
            | inr le ↦
                let e : i ≡ length z.nodes = let within = slice_get_within (z.nodes ++ below ∷ []) i p at in omega arith in
                let same : below ≡ p = same_Some below p (sym (last_item z.nodes below) ∙ ap (slice_get (z.nodes ++ below ∷ [])) (sym e) ∙ at) in
                let all : take i (z.slots ++ 0 ∷ []) ≡ z.slots = ap (λ n. take n (z.slots ++ 0 ∷ [])) (e ∙ sized) ∙ take-append_seam z.slots (0 ∷ []) in
                subst (λ n. (sh.kind_of n ≡ 1) × (sh.map_of n ≡ z.map) × (sh.path_of n ≡ take i (z.slots ++ 0 ∷ [])) × (z.since ≤ time sh log n)) same (node_is.0, node_is.1 ∙ here.map, path_is ∙ sym all, since)
          ];
          slots = λ i s at. elim (cases_lt i (length z.slots)) [
            | inl lt ↦ stands.slots i s (sym (front_item z.slots (0 ∷ []) i lt) ∙ at)
            | inr le ↦ let first = zero_last i s le at in omega arith
          ];
          entered = λ i s at more. elim (cases_lt (suc i) (length z.slots)) [
            | inl lt ↦ stands.entered i s (sym (front_item z.slots (0 ∷ []) i (omega arith)) ∙ at) lt
            | inr le ↦
                let old_long = ap length slots_are ∙ length-append front (slot ∷ []) in
                let e : i ≡ length front = omega arith in
                let same : slot ≡ s = same_Some slot s (sym (last_item front slot) ∙ ap (λ l. slice_get l (length front)) (sym slots_are) ∙ ap (slice_get z.slots) (sym e) ∙ sym (front_item z.slots (0 ∷ []) i (omega arith)) ∙ at) in
                omega arith
          ];
          shown = λ key there. let was = stands.shown key there in (was.0, (same_down key).1 was.1);
          passed = λ key fits there. stands.passed key fits ((same_down key).0 there);
        },
        node_is.0,
        told.0,
      )
    where
      zero_last : (i s : ℕ) → length z.slots ≤ i → slice_get (z.slots ++ 0 ∷ []) i ≡ Some s → s ≡ 0
      zero_last i s le at =
          let within = slice_get_within (z.slots ++ 0 ∷ []) i s at in
          let long = length-append z.slots (0 ∷ []) in
          let e : i ≡ length z.slots = omega arith in
          sym (same_Some 0 s (sym (last_item z.slots 0) ∙ ap (slice_get (z.slots ++ 0 ∷ [])) (sym e) ∙ at))

      same_down : (key : ℕ) → (Passed k.seed 0 (z.slots ++ 0 ∷ []) key → Passed k.seed 0 z.slots key) × (Passed k.seed 0 z.slots key → Passed k.seed 0 (z.slots ++ 0 ∷ []) key)
      same_down key =
          let deeper : z.slots ++ 0 ∷ [] ≡ front ++ slot ∷ 0 ∷ [] = ap (λ l. l ++ 0 ∷ []) slots_are ∙ append_assoc front (slot ∷ []) (0 ∷ []) in (
            λ there. subst (λ l. Passed k.seed 0 l key) (sym slots_are) ((laws.goes_down k.seed slot key front).0 (subst (λ l. Passed k.seed 0 l key) deeper there)),
            λ there. subst (λ l. Passed k.seed 0 l key) (sym deeper) ((laws.goes_down k.seed slot key front).1 (subst (λ l. Passed k.seed 0 l key) slots_are there)),
          )

-- it goes up from a node of which it has passed all slots
module _ (k : Begin) (laws : SweepLaws) (sh : Shape) (log : List SharedEntry) (calls : ℕ → List Item) (z : Spot) (stands : Stands k sh log calls z)
    (front : List ℕ) (slot : ℕ) (slots_are : z.slots ≡ front ++ slot ∷ 16 ∷ []) (above : List ℕ) (node : ℕ) (nodes_are : z.nodes ≡ above ++ node ∷ []) where
  depth : (length above ≡ suc (length front)) × (length z.slots ≡ suc (suc (length front)))
  depth =
      let sized = stands.sized in
      let nodes = ap length nodes_are in
      let slots = ap length slots_are in
      let more = length-append above (node ∷ []) in
      let also = length-append front (slot ∷ 16 ∷ []) in
      (omega arith, omega arith)

  at_slot : slice_get z.slots (length front) ≡ Some slot
  at_slot = ap (λ l. slice_get l (length front)) slots_are ∙ behind front
    where
      behind : (xs : List ℕ) → slice_get (xs ++ slot ∷ 16 ∷ []) (length xs) ≡ Some slot
      behind [] = refl
      behind (x ∷ xs) = behind xs

  pub goes_up : Stands k sh log calls (record z { nodes = above; slots = front ++ suc slot ∷ [] })
  goes_up =
      let long = length-append front (suc slot ∷ []) in
      let deep = depth in
      let entered : slot < 16 = stands.entered (length front) slot at_slot (omega arith) in record {
        since = stands.since;
        knows = stands.knows;
        sized = omega arith;
        some = omega arith;
        nodes = λ i p at.
            let below = slice_get_within above i p at in
            let was = stands.nodes i p (ap (λ l. slice_get l i) nodes_are ∙ front_item above (node ∷ []) i below ∙ at) in
            let le : i ≤ length front = omega arith in
            (was.0, was.1, was.2 ∙ ap (take i) slots_are ∙ take-append-le i front (slot ∷ 16 ∷ []) le ∙ sym (take-append-le i front (suc slot ∷ []) le), was.3);
        slots = λ i s at. elim (cases_lt i (length front)) [
          | inl lt ↦ stands.slots i s (old i s lt at)
          | inr le ↦
              let within = slice_get_within (front ++ suc slot ∷ []) i s at in
              let e : i ≡ length front = omega arith in
              let same : suc slot ≡ s = same_Some (suc slot) s (sym (last_item front (suc slot)) ∙ ap (slice_get (front ++ suc slot ∷ [])) (sym e) ∙ at) in
              omega arith
        ];
        entered = λ i s at more. let lt : i < length front = omega arith in stands.entered i s (old i s lt at) (omega arith);
        shown = λ key there. let was = stands.shown key there in (was.0, (laws.goes_up k.seed slot key front).0 (subst (λ l. Passed k.seed 0 l key) slots_are was.1));
        passed = λ key fits there. stands.passed key fits (subst (λ l. Passed k.seed 0 l key) (sym slots_are) ((laws.goes_up k.seed slot key front).1 there));
      }
    where
      old : (i s : ℕ) → i < length front → slice_get (front ++ suc slot ∷ []) i ≡ Some s → slice_get z.slots i ≡ Some s
      old i s lt at = ap (λ l. slice_get l i) slots_are ∙ front_item front (slot ∷ 16 ∷ []) i lt ∙ sym (front_item front (suc slot ∷ []) i lt) ∙ at

-- at its end it has passed all keys
pub all_passed : (k : Begin) → SweepLaws → (sh : Shape) (log : List SharedEntry) (calls : ℕ → List Item) (z : Spot) → Stands k sh log calls z → z.slots ≡ 16 ∷ [] → (key : ℕ) → key < 2 ^ 32 → Contains z.shown key ⊎ ((moment : ℕ) × (z.since ≤ moment) × (moment ≤ length log) × (held_at k log moment z.map key ≡ None))
all_passed k laws sh log calls z stands ended key fits = stands.passed key fits (subst (λ l. Passed k.seed 0 l key) (sym ended) (laws.ends k.seed key))

-- at its begin it stands in the first slot of the map's root, and has passed none
pub stands_first : (k : Begin) → SweepLaws → (sh : Shape) (log : List SharedEntry) (ws : List ℕ) → Fine k sh log ws → (calls : ℕ → List Item) (b m root : ℕ) (front : List ℕ) → sh.node_at m [] ≡ Some root → Knows calls front (length log)
    → Stands k sh log calls (record { begin = b; map = m; since = length log; front = front; nodes = root ∷ []; slots = 0 ∷ []; shown = [] })
stands_first k laws sh log ws fine calls b m root front there knows =
    let is = fine.live m [] root there in record {
      since = omega arith;
      knows = knows;
      sized = refl;
      some = omega arith;
      nodes = λ i p at. at_root i p at;
      slots = λ i s at. let none_behind = first_slot i s at in omega arith;
      entered = λ i s at more. absurd (omega arith);
      shown = λ key there. absurd (let none = there.1 in omega arith);
      passed = λ key fits there. absurd (laws.begins k.seed key there);
    }
  where
    first_slot : (i s : ℕ) → slice_get (0 ∷ []) i ≡ Some s → s ≡ 0
    first_slot zero s at = sym (same_Some 0 s at)
    first_slot (suc i) s at = absurd (none-some s at)

    at_root : (i p : ℕ) → slice_get (root ∷ []) i ≡ Some p → (sh.kind_of p ≡ 1) × (sh.map_of p ≡ m) × (sh.path_of p ≡ take i (0 ∷ [])) × (length log ≤ time sh log p)
    at_root zero p at =
        let is = fine.live m [] root there in
        subst (λ n. (sh.kind_of n ≡ 1) × (sh.map_of n ≡ m) × (sh.path_of n ≡ []) × (length log ≤ time sh log n)) (same_Some root p at)
        (is.0, is.1, is.2, subst (λ o. length log ≤ till o (length log)) (sym is.3) (omega arith))
    at_root (suc i) p at = absurd (none-some p at)
