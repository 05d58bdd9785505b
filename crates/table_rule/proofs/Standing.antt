-- What a node stands for: what its map had at the length of the history for which the node stands.
use Rattle.std.proofs.Common.{◌≡◌, ℕ, suc, ◌^◌, ◌<◌, ◌≤◌, ◌==◌, ◌&&◌, Bool, true, false, eq-eqb, bytes_eq, List, [], length, Option, Some, None, slice_index, refl, sym, ap, ◌∙◌, arith}
use Rattle.std.specs.Prelude.{IsTrue}
use Rattle.std.proofs.lemmas.Bool.{eqb-true}
use Rattle.std.proofs.lemmas.Option.{none-some, same_Some}
use Rattle.std.proofs.lemmas.Slice.Eq.{bytes_eq-Decides}
use Rattle.sync_model.specs.declared.item.SharedEntry.{SharedEntry}
use Rattle.sync_model.specs.SharedHistory.{Contents, value_at, contents_at, contents_after}
use Rattle.trie_nodes.specs.declared.slot.Slot.{Slot}
use Rattle.trie_nodes.specs.declared.slot.Slot.TheVariants.{Empty, Node, Entry}
use Rattle.trie_nodes.specs.Nodes.{slot_at, stands_for, Shows}
use Rattle.trie_nodes.specs.Paths.{nibble, route}
use Rattle.table_rule.specs.declared.begin.Begin.{Begin}
use Rattle.table_rule.specs.Layout.{root_word}
use Rattle.table_rule.specs.Shape.{Shape, start_of, held_at, till, time, IsBelow, Fine}

both_true : (a b : Bool) → (a && b) ≡ true → (a ≡ true) × (b ≡ true)
both_true true b e = (refl, e)
both_true false b e = absurd (let f : false ≡ true = e in (cc))

and_true : (a b : Bool) → a ≡ true → b ≡ true → (a && b) ≡ true
and_true true b e f = f
and_true false b e f = absurd (let g : false ≡ true = e in (cc))

-- whether two nodes were cut off at the same moment, or are both reachable
abbrev same_cut : Option ℕ → Option ℕ → Bool
same_cut None None = true
same_cut None (Some b) = false
same_cut (Some a) None = false
same_cut (Some a) (Some b) = a == b

cut_to : (a b : Option ℕ) → same_cut a b ≡ true → a ≡ b
cut_to None None e = refl
cut_to None (Some b) e = absurd (let f : false ≡ true = e in (cc))
cut_to (Some a) None e = absurd (let f : false ≡ true = e in (cc))
cut_to (Some a) (Some b) e = ap (λ n. Some n) (eqb-true a b e)

cut_from : (a b : Option ℕ) → a ≡ b → same_cut a b ≡ true
cut_from None None e = refl
cut_from None (Some b) e = absurd (none-some b e)
cut_from (Some a) None e = absurd (none-some a (sym e))
cut_from (Some a) (Some b) e = eq-eqb a b (same_Some a b e)

-- what a slot shows, it shows of what is the same
shows_same : (words : List ℕ) (seed level key : ℕ) (below other : ℕ → Type 0) (held same : Option ℕ) (slot : Slot) → ((node : ℕ) → below node → other node) → held ≡ same → Shows words seed below level key held slot → Shows words seed other level key same slot
shows_same words seed level key below other held same Empty to is shown = sym is ∙ shown
shows_same words seed level key below other held same (Node node) to is shown = (shown.0, to node shown.1)
shows_same words seed level key below other held same (Entry entry) to is shown = (shown.0, sym is ∙ shown.1)

-- local facts are enough (a law of nodes)
abbrev pub NodeLaw : Type 0
NodeLaw = (words : List ℕ) (seed key : ℕ) (held : Option ℕ) (is_node : ℕ → ℕ → Bool)
    → ((level node : ℕ) → level < 8 → IsTrue (is_node level node) → Shows words seed (λ below. IsTrue (is_node (suc level) below)) level key held (slot_at words node (nibble key seed level)))
    → (level node : ℕ) → level < 8 → IsTrue (is_node level node) → stands_for words seed level node key ≡ held

module _ (k : Begin) (law : NodeLaw) (sh : Shape) (log : List SharedEntry) (ws : List ℕ) (fine : Fine k sh log ws) where
  module _ (m key : ℕ) (fits : key < 2 ^ 32) (cut : Option ℕ) where
    abbrev is_like : ℕ → ℕ → Bool
    is_like level node = (sh.kind_of node == 1) && ((sh.map_of node == m) && (bytes_eq (sh.path_of node) (route k.seed level key) && same_cut (sh.cut_of node) cut))

    abbrev Like : ℕ → ℕ → Type 0
    Like level node = (sh.kind_of node ≡ 1) × (sh.map_of node ≡ m) × (sh.path_of node ≡ route k.seed level key) × (sh.cut_of node ≡ cut)

    like_to : (level node : ℕ) → IsTrue (is_like level node) → Like level node
    like_to level node is =
        let kind = both_true (sh.kind_of node == 1) ((sh.map_of node == m) && (bytes_eq (sh.path_of node) (route k.seed level key) && same_cut (sh.cut_of node) cut)) is in
        let map = both_true (sh.map_of node == m) (bytes_eq (sh.path_of node) (route k.seed level key) && same_cut (sh.cut_of node) cut) kind.1 in
        let path = both_true (bytes_eq (sh.path_of node) (route k.seed level key)) (same_cut (sh.cut_of node) cut) map.1 in (
          eqb-true (sh.kind_of node) 1 kind.0,
          eqb-true (sh.map_of node) m map.0,
          (bytes_eq-Decides (sh.path_of node) (route k.seed level key)).0 path.0,
          cut_to (sh.cut_of node) cut path.1,
        )

    like_from : (level node : ℕ) → Like level node → IsTrue (is_like level node)
    like_from level node is =
        and_true (sh.kind_of node == 1) ((sh.map_of node == m) && (bytes_eq (sh.path_of node) (route k.seed level key) && same_cut (sh.cut_of node) cut)) (eq-eqb (sh.kind_of node) 1 is.0)
        (and_true (sh.map_of node == m) (bytes_eq (sh.path_of node) (route k.seed level key) && same_cut (sh.cut_of node) cut) (eq-eqb (sh.map_of node) m is.1)
        (and_true (bytes_eq (sh.path_of node) (route k.seed level key)) (same_cut (sh.cut_of node) cut) ((bytes_eq-Decides (sh.path_of node) (route k.seed level key)).1 is.2) (cut_from (sh.cut_of node) cut is.3)))

    abbrev held : Option ℕ
    held = held_at k log (till cut (length log)) m key

    shows : (level node : ℕ) → level < 8 → IsTrue (is_like level node) → Shows ws k.seed (λ below. IsTrue (is_like (suc level) below)) level key held (slot_at ws node (nibble key k.seed level))
    shows level node below is =
        let like = like_to level node is in
        let at = (fine.slots node level key like.0 below fits like.2).shows in
        shows_same ws k.seed level key (IsBelow k sh log ws node level key) (λ next. IsTrue (is_like (suc level) next)) (held_at k log (time sh log node) (sh.map_of node) key) held (slot_at ws node (nibble key k.seed level))
        (λ next next_is. like_from (suc level) next (next_is.0, next_is.1 ∙ like.1, next_is.2, next_is.3 ∙ like.3))
        (λ i. held_at k log (till (like.3 i) (length log)) (like.1 i) key) at

    pub stands : (level node : ℕ) → level < 8 → Like level node → stands_for ws k.seed level node key ≡ held
    stands level node below is = law ws k.seed key held is_like shows level node below (like_from level node is)

  -- a node that was cut off
  pub cut_stands : (p level key moment : ℕ) → sh.kind_of p ≡ 1 → sh.cut_of p ≡ Some moment → level < 8 → key < 2 ^ 32 → sh.path_of p ≡ route k.seed level key
      → stands_for ws k.seed level p key ≡ value_at (contents_at (start_of k) log moment) (sh.map_of p) key
  cut_stands p level key moment kind cut below fits path = stands (sh.map_of p) key fits (Some moment) level p below (kind, refl, path, cut)

  -- a map's root
  pub root_stands : ((start : Contents) (history : List SharedEntry) (n : ℕ) → length history ≤ n → contents_at start history n ≡ contents_after start history)
      → (m key : ℕ) → m < k.maps → key < 2 ^ 32 → stands_for ws k.seed 0 (slice_index ws (root_word k m)) key ≡ value_at (contents_after (start_of k) log) m key
  root_stands all m key below fits =
      let root = fine.live m [] (slice_index ws (root_word k m)) (fine.roots m below) in
      stands m key fits None 0 (slice_index ws (root_word k m)) (omega arith) (root.0, root.1, root.2, root.3)
      ∙ ap (λ (contents : Contents). value_at contents m key) (all (start_of k) log (length log) (omega arith))
