-- A shape with one unit more: what it says of the new words, and that it says the same of all others.
use Rattle.std.proofs.Common.{◌≡◌, ◌⊎◌, inl, inr, ℕ, suc, ◌+◌, ◌-◌, ◌*◌, ◌<◌, ◌≤◌, ◌==◌, ◌&&◌, Bool, true, false, cond, nat_lt, nat_le, List, length, Some, None, bytes_eq, refl, sym, ap, ◌∙◌, arith, ltb-true, lt-ltb, leb-true, le-leb, eqb-true, eq-eqb}
use Rattle.std.proofs.lemmas.Slice.Eq.{bytes_eq-Decides}
use Rattle.trie_nodes.specs.Paths.{route}
use Rattle.table_rule.specs.Shape.{Shape}
use Rattle.table_words.specs.TrieLaws.{TrieLaws}
use Rattle.table_rule.specs.Units.{link_at, in_entry, in_links, link_of, is_link, is_link_path, with_unit}

pub both_true : (a b : Bool) → (a && b) ≡ true → (a ≡ true) × (b ≡ true)
both_true true b e = (refl, e)
both_true false b e = absurd (let f : false ≡ true = e in (cc))

pub and_true : (a b : Bool) → a ≡ true → b ≡ true → (a && b) ≡ true
and_true true b e f = f
and_true false b e f = absurd (let g : false ≡ true = e in (cc))

pub not_true : (b : Bool) → (b ≡ true → ⊥) → b ≡ false
not_true true ne = absurd (ne refl)
not_true false ne = refl

-- both ways of a test
pub tested : (b : Bool) → (b ≡ true) ⊎ (b ≡ false)
tested true = inl refl
tested false = inr refl

module _ (sh : Shape) (laws : TrieLaws) (seed m d key unit nodes : ℕ) where
  abbrev new : Shape
  new = with_unit sh seed m d key unit nodes

  entry_in : (i : ℕ) → in_entry sh seed m d key unit nodes i ≡ true → (unit ≤ i) × (i < unit + 2)
  entry_in i e = let b = both_true (nat_le unit i) (nat_lt i (unit + 2)) e in (leb-true unit i b.0, ltb-true i (unit + 2) b.1)

  links_in : (i : ℕ) → in_links sh seed m d key unit nodes i ≡ true → (unit + 2 ≤ i) × (i < unit + 2 + 18 * nodes)
  links_in i e = let b = both_true (nat_le (unit + 2) i) (nat_lt i (unit + 2 + 18 * nodes)) e in (leb-true (unit + 2) i b.0, ltb-true i (unit + 2 + 18 * nodes) b.1)

  in_links_is : (i : ℕ) → unit + 2 ≤ i → i < unit + 2 + 18 * nodes → in_links sh seed m d key unit nodes i ≡ true
  in_links_is i from to = and_true (nat_le (unit + 2) i) (nat_lt i (unit + 2 + 18 * nodes)) (le-leb (unit + 2) i from) (lt-ltb i (unit + 2 + 18 * nodes) to)

  in_entry_is : (i : ℕ) → unit ≤ i → i < unit + 2 → in_entry sh seed m d key unit nodes i ≡ true
  in_entry_is i from to = and_true (nat_le unit i) (nat_lt i (unit + 2)) (le-leb unit i from) (lt-ltb i (unit + 2) to)

  -- a word that isn't in the unit
  abbrev pub IsOutside : ℕ → Type 0
  IsOutside i = (unit ≤ i → unit + 2 + 18 * nodes ≤ i)

  no_entry : (i : ℕ) → IsOutside i → in_entry sh seed m d key unit nodes i ≡ false
  no_entry i out = not_true (in_entry sh seed m d key unit nodes i) (λ e. let b = entry_in i e in let from = b.0 in let to = b.1 in let past = out b.0 in omega arith)

  no_links : (i : ℕ) → IsOutside i → in_links sh seed m d key unit nodes i ≡ false
  no_links i out = not_true (in_links sh seed m d key unit nodes i) (λ e. let b = links_in i e in let from = b.0 in let to = b.1 in let past = out (omega arith) in omega arith)

  pub part_outside : (i : ℕ) → IsOutside i → (with_unit sh seed m d key unit nodes).part_of i ≡ sh.part_of i
  part_outside i out = ap (λ b. cond b unit (cond (in_links sh seed m d key unit nodes i) (link_at unit (link_of sh seed m d key unit nodes i)) (sh.part_of i))) (no_entry i out) ∙ ap (λ b. cond b (link_at unit (link_of sh seed m d key unit nodes i)) (sh.part_of i)) (no_links i out)

  pub kind_outside : (i : ℕ) → IsOutside i → (with_unit sh seed m d key unit nodes).kind_of i ≡ sh.kind_of i
  kind_outside i out =
      let no_link : is_link sh seed m d key unit nodes i ≡ false = ap (λ b. b && (link_at unit (link_of sh seed m d key unit nodes i) == i)) (no_links i out) in
      let no_unit : (i == unit) ≡ false = not_true (i == unit) (λ e. let at = eqb-true i unit e in let past = out (omega arith) in omega arith) in
      ap (λ b. cond b 2 (cond (is_link sh seed m d key unit nodes i) 1 (sh.kind_of i))) no_unit ∙ ap (λ b. cond b 1 (sh.kind_of i)) no_link

  pub map_outside : (i : ℕ) → IsOutside i → (with_unit sh seed m d key unit nodes).map_of i ≡ sh.map_of i
  map_outside i out = ap (λ b. cond b m (sh.map_of i)) (no_links i out)

  pub path_outside : (i : ℕ) → IsOutside i → (with_unit sh seed m d key unit nodes).path_of i ≡ sh.path_of i
  path_outside i out = ap (λ b. cond b (route seed (suc d + link_of sh seed m d key unit nodes i) key) (sh.path_of i)) (no_links i out)

  pub cut_outside : (i : ℕ) → IsOutside i → (with_unit sh seed m d key unit nodes).cut_of i ≡ sh.cut_of i
  cut_outside i out = ap (λ b. cond b None (sh.cut_of i)) (no_links i out)

  -- a reachable node that somebody holds was one before
  pub was_held : (q e : ℕ) → (with_unit sh seed m d key unit nodes).cut_of q ≡ None → (with_unit sh seed m d key unit nodes).held_by q ≡ suc e → (sh.cut_of q ≡ None) × (sh.held_by q ≡ suc e)
  was_held q e reach held = by_link (in_links sh seed m d key unit nodes q) reach held
    where
      by_link : (b : Bool) → cond b None (sh.cut_of q) ≡ None → cond b 0 (sh.held_by q) ≡ suc e → (sh.cut_of q ≡ None) × (sh.held_by q ≡ suc e)
      by_link true reach held = absurd (omega arith)
      by_link false reach held = (reach, held)

  pub holder_outside : (i : ℕ) → IsOutside i → (with_unit sh seed m d key unit nodes).held_by i ≡ sh.held_by i
  holder_outside i out = ap (λ b. cond b 0 (sh.held_by i)) (no_links i out)

  -- the entry
  pub entry_kind : (with_unit sh seed m d key unit nodes).kind_of unit ≡ 2
  entry_kind = ap (λ b. cond b 2 (cond (is_link sh seed m d key unit nodes unit) 1 (sh.kind_of unit))) (eq-eqb unit unit refl)

  pub entry_part : (i : ℕ) → unit ≤ i → i < unit + 2 → (with_unit sh seed m d key unit nodes).part_of i ≡ unit
  entry_part i from to = ap (λ b. cond b unit (cond (in_links sh seed m d key unit nodes i) (link_at unit (link_of sh seed m d key unit nodes i)) (sh.part_of i))) (in_entry_is i from to)

  -- one of the nodes
  module _ (n : ℕ) (below : n < nodes) where
    word_in : (j : ℕ) → j < 18 → in_links sh seed m d key unit nodes (link_at unit n + j) ≡ true
    word_in j inside = in_links_is (link_at unit n + j) (omega arith) (omega arith)

    word_of : (j : ℕ) → j < 18 → link_of sh seed m d key unit nodes (link_at unit n + j) ≡ n
    word_of j inside = omega arith

    here_in : in_links sh seed m d key unit nodes (link_at unit n) ≡ true
    here_in = in_links_is (link_at unit n) (omega arith) (omega arith)

    here_of : link_of sh seed m d key unit nodes (link_at unit n) ≡ n
    here_of = omega arith

    pub link_kind : (with_unit sh seed m d key unit nodes).kind_of (link_at unit n) ≡ 1
    link_kind =
        let no_unit : (link_at unit n == unit) ≡ false = not_true (link_at unit n == unit) (λ e. let at = eqb-true (link_at unit n) unit e in omega arith) in
        let is : is_link sh seed m d key unit nodes (link_at unit n) ≡ true = and_true (in_links sh seed m d key unit nodes (link_at unit n)) (link_at unit (link_of sh seed m d key unit nodes (link_at unit n)) == link_at unit n) here_in
        (eq-eqb (link_at unit (link_of sh seed m d key unit nodes (link_at unit n))) (link_at unit n) (ap (link_at unit) here_of)) in
        ap (λ b. cond b 2 (cond (is_link sh seed m d key unit nodes (link_at unit n)) 1 (sh.kind_of (link_at unit n)))) no_unit ∙ ap (λ b. cond b 1 (sh.kind_of (link_at unit n))) is

    pub link_part : (j : ℕ) → j < 18 → (with_unit sh seed m d key unit nodes).part_of (link_at unit n + j) ≡ link_at unit n
    link_part j inside =
        let no : in_entry sh seed m d key unit nodes (link_at unit n + j) ≡ false = not_true (in_entry sh seed m d key unit nodes (link_at unit n + j)) (λ e. let b = entry_in (link_at unit n + j) e in let to = b.1 in omega arith) in
        ap (λ b. cond b unit (cond (in_links sh seed m d key unit nodes (link_at unit n + j)) (link_at unit (link_of sh seed m d key unit nodes (link_at unit n + j))) (sh.part_of (link_at unit n + j)))) no
        ∙ ap (λ b. cond b (link_at unit (link_of sh seed m d key unit nodes (link_at unit n + j))) (sh.part_of (link_at unit n + j))) (word_in j inside) ∙ ap (link_at unit) (word_of j inside)

    pub link_map : (with_unit sh seed m d key unit nodes).map_of (link_at unit n) ≡ m
    link_map = ap (λ b. cond b m (sh.map_of (link_at unit n))) here_in

    pub link_path : (with_unit sh seed m d key unit nodes).path_of (link_at unit n) ≡ route seed (suc d + n) key
    link_path = ap (λ b. cond b (route seed (suc d + link_of sh seed m d key unit nodes (link_at unit n)) key) (sh.path_of (link_at unit n))) here_in ∙ ap (λ i. route seed (suc d + i) key) here_of

    pub link_cut : (with_unit sh seed m d key unit nodes).cut_of (link_at unit n) ≡ None
    link_cut = ap (λ b. cond b None (sh.cut_of (link_at unit n))) here_in

    pub link_holder : (with_unit sh seed m d key unit nodes).held_by (link_at unit n) ≡ 0
    link_holder = ap (λ b. cond b 0 (sh.held_by (link_at unit n))) here_in

    long : length (route seed (suc d + n) key) ≡ suc d + n
    long = laws.long seed (suc d + n) key

    pub link_there : (with_unit sh seed m d key unit nodes).node_at m (route seed (suc d + n) key) ≡ Some (link_at unit n)
    link_there =
        let path = route seed (suc d + n) key in
        let l : length path ≡ suc d + n = long in
        let is : is_link_path sh seed m d key unit nodes path ≡ true = and_true (nat_lt d (length path)) (nat_le (length path) (d + nodes) && bytes_eq path (route seed (length path) key)) (lt-ltb d (length path) (omega arith))
        (and_true (nat_le (length path) (d + nodes)) (bytes_eq path (route seed (length path) key)) (le-leb (length path) (d + nodes) (omega arith))
        ((bytes_eq-Decides path (route seed (length path) key)).1 (ap (λ n. route seed n key) (sym l)))) in
        let at : link_at unit (length path - suc d) ≡ link_at unit n = omega arith in
        ap (λ b. cond b (Some (link_at unit (length path - suc d))) (sh.node_at m path)) (and_true (m == m) (is_link_path sh seed m d key unit nodes path) (eq-eqb m m refl) is) ∙ ap (λ q. Some q) at

  -- a node is an old one, or one of the unit's
  pub node_is : (p : ℕ) → (with_unit sh seed m d key unit nodes).kind_of p ≡ 1 → (sh.kind_of p ≡ 1) ⊎ ((n : ℕ) × (n < nodes) × (p ≡ link_at unit n))
  node_is p is = elim (tested (p == unit)) [
    | inl here ↦ absurd (let e : 2 ≡ 1 = sym (ap (λ b. cond b 2 (cond (is_link sh seed m d key unit nodes p) 1 (sh.kind_of p))) here) ∙ is in omega arith)
    | inr off ↦ elim (tested (is_link sh seed m d key unit nodes p)) [
      | inl link ↦
          let b = both_true (in_links sh seed m d key unit nodes p) (link_at unit (link_of sh seed m d key unit nodes p) == p) link in
          let at = eqb-true (link_at unit (link_of sh seed m d key unit nodes p)) p b.1 in
          let inside = links_in p b.0 in let from = inside.0 in let to = inside.1 in
          inr (link_of sh seed m d key unit nodes p, omega arith, sym at)
      | inr no_link ↦ inl (sym (ap (λ b. cond b 2 (cond (is_link sh seed m d key unit nodes p) 1 (sh.kind_of p))) off ∙ ap (λ b. cond b 1 (sh.kind_of p)) no_link) ∙ is)
    ]
  ]

  -- and an entry is an old one, or the unit's
  pub leaf_is : (p : ℕ) → (with_unit sh seed m d key unit nodes).kind_of p ≡ 2 → (sh.kind_of p ≡ 2) ⊎ (p ≡ unit)
  leaf_is p is = elim (tested (p == unit)) [
    | inl here ↦ inr (eqb-true p unit here)
    | inr off ↦ elim (tested (is_link sh seed m d key unit nodes p)) [
      | inl link ↦ absurd (let e : 1 ≡ 2 = sym (ap (λ b. cond b 2 (cond (is_link sh seed m d key unit nodes p) 1 (sh.kind_of p))) off ∙ ap (λ b. cond b 1 (sh.kind_of p)) link) ∙ is in omega arith)
      | inr no_link ↦ inl (sym (ap (λ b. cond b 2 (cond (is_link sh seed m d key unit nodes p) 1 (sh.kind_of p))) off ∙ ap (λ b. cond b 1 (sh.kind_of p)) no_link) ∙ is)
    ]
  ]

  -- what is reachable by a path was so, or is one of the unit's nodes
  pub reached_is : (n : ℕ) (path : List ℕ) → ((with_unit sh seed m d key unit nodes).node_at n path ≡ sh.node_at n path) ⊎ ((n ≡ m) × (i : ℕ) × (i < nodes) × (path ≡ route seed (suc d + i) key))
  reached_is n path = elim (tested ((n == m) && is_link_path sh seed m d key unit nodes path)) [
    | inl link ↦
        let b = both_true (n == m) (is_link_path sh seed m d key unit nodes path) link in
        let c = both_true (nat_lt d (length path)) (nat_le (length path) (d + nodes) && bytes_eq path (route seed (length path) key)) b.1 in
        let e = both_true (nat_le (length path) (d + nodes)) (bytes_eq path (route seed (length path) key)) c.1 in
        let from = ltb-true d (length path) c.0 in
        let to = leb-true (length path) (d + nodes) e.0 in
        let at : length path ≡ suc d + (length path - suc d) = omega arith in
        inr (eqb-true n m b.0, length path - suc d, omega arith, (bytes_eq-Decides path (route seed (length path) key)).0 e.1 ∙ ap (λ n. route seed n key) at)
    | inr none_there ↦ inl (ap (λ b. cond b (Some (link_at unit (length path - suc d))) (sh.node_at n path)) none_there)
  ]
