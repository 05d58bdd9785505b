-- The nodes that a seat has cut off.
use Rattle.std.proofs.Common.{◌≡◌, ◌≢◌, ℕ, ◌+◌, ◌^◌, ◌<◌, ◌≤◌, List, [], ◌++◌, length, Some, None, slice_index, sym, ap, ◌∙◌, subst, arith}
use Rattle.std.proofs.lemmas.Option.{none-some}
use Rattle.std.specs.Prelude.{Contains}
use Rattle.sync_model.specs.declared.item.SharedEntry.{SharedEntry}
use Rattle.sync_model.specs.Journal.{Begins}
use Rattle.sync_model.specs.SharedHistory.{Contents, value_at, contents_at, contents_after}
use Rattle.trie_nodes.specs.declared.slot.Slot.TheVariants.{Node}
use Rattle.trie_nodes.specs.Layout.{slot_word, dead_word}
use Rattle.trie_nodes.specs.Nodes.{slot_at, stands_for, Shows}
use Rattle.trie_nodes.specs.Paths.{nibble, route}
use Rattle.table_rule.specs.declared.begin.Begin.{Begin}
use Rattle.table_rule.specs.declared.view.CutNode.{CutNode}
use Rattle.table_rule.specs.declared.view.View.{View}
use Rattle.table_rule.specs.Layout.{root_word}
use Rattle.table_rule.specs.LawWords.{IsSeat}
use Rattle.table_rule.specs.Owed.{IsCutOff}
use Rattle.table_rule.specs.Rule.{TableState, Kept}
use Rattle.table_rule.specs.Shape.{start_of, held_at, time, IsBelow}
use Rattle.table_rule.proofs.Standing.{NodeLaw, cut_stands}

module _ (k : Begin) where
  is_cut_off : (s : TableState) (r : Kept k s) (j : ℕ) (v : View) (d : CutNode) → IsSeat s j v → Contains v.cut d → IsCutOff k r.shape r.log s.words d
  is_cut_off s r j v d is has = (r.suits j v is.0 is.1).cut d has

  pub cut_words : (s : TableState) (r : Kept k s) (j n : ℕ) (v : View) (d : CutNode) → IsSeat s j v → Contains v.cut d → n < 18 → slice_index s.words (d.node + n) ≡ slice_index d.words n
  cut_words s r j n v d is has = (is_cut_off s r j v d is has).words n

  pub cut_same : (s t : TableState) → Kept k s → Kept k t → (i j n : ℕ) (u v : View) (d : CutNode) → IsSeat s i u → IsSeat t j v → Contains u.cut d → Contains v.cut d
      → n < 18 → slice_index s.words (d.node + n) ≡ slice_index t.words (d.node + n)
  cut_same s t r q i j n u v d is_u is_v has_u has_v below = cut_words s r i n u d is_u has_u below ∙ sym (cut_words t q j n v d is_v has_v below)

  pub cut_moment : (s : TableState) (r : Kept k s) (j : ℕ) (v : View) (d : CutNode) → IsSeat s j v → Contains v.cut d → (r.shape.cut_of d.node ≡ Some (length d.before)) × Begins r.log d.before
  cut_moment s r j v d is has = let c = is_cut_off s r j v d is has in (c.cut, c.history)

  -- what it stands for
  module _ (law : NodeLaw) (same : (start : Contents) (earlier later : List SharedEntry) (n : ℕ) → n ≤ length earlier → contents_at start (earlier ++ later) n ≡ contents_at start earlier n)
      (all : (start : Contents) (history : List SharedEntry) (n : ℕ) → length history ≤ n → contents_at start history n ≡ contents_after start history) where
    pub cut_holds : (s : TableState) (r : Kept k s) (j key : ℕ) (v : View) (d : CutNode) → IsSeat s j v → Contains v.cut d → key < 2 ^ 32 → route k.seed d.level key ≡ route k.seed d.level d.key
        → stands_for s.words k.seed d.level d.node key ≡ value_at (contents_after (start_of k) d.before) d.map key
    cut_holds s r j key v d is has fits way =
        let c = is_cut_off s r j v d is has in
        cut_stands k law r.shape r.log s.words r.fine d.node d.level key (length d.before) c.node c.cut c.level fits (c.path ∙ sym way)
        ∙ ap (λ h. value_at (contents_at (start_of k) h (length d.before)) (r.shape.map_of d.node) key) c.history.1
        ∙ ap (λ (z : Contents). value_at z (r.shape.map_of d.node) key) (same (start_of k) d.before c.history.0 (length d.before) (omega arith) ∙ all (start_of k) d.before (length d.before) (omega arith))
        ∙ ap (λ m. value_at (contents_after (start_of k) d.before) m key) c.map

    pub cut_stays : (s t : TableState) → Kept k s → Kept k t → (i j key : ℕ) (u v : View) (d : CutNode) → IsSeat s i u → IsSeat t j v → Contains u.cut d → Contains v.cut d
        → key < 2 ^ 32 → route k.seed d.level key ≡ route k.seed d.level d.key → stands_for s.words k.seed d.level d.node key ≡ stands_for t.words k.seed d.level d.node key
    cut_stays s t r q i j key u v d is_u is_v has_u has_v fits way = cut_holds s r i key u d is_u has_u fits way ∙ sym (cut_holds t q j key v d is_v has_v fits way)

  -- what is below it
  pub cut_below : (s : TableState) (r : Kept k s) (j p node level key : ℕ) (v : View) (d : CutNode) → IsSeat s j v → Contains v.cut d → r.shape.kind_of p ≡ 1 → r.shape.cut_of p ≡ Some (length d.before)
      → level < 8 → key < 2 ^ 32 → r.shape.path_of p ≡ route k.seed level key → slot_at s.words p (nibble key k.seed level) ≡ Node node → r.shape.cut_of node ≡ Some (length d.before)
  cut_below s r j p node level key v d is has kind cut below fits path it =
      let held = held_at k r.log (time r.shape r.log p) (r.shape.map_of p) key in
      let shows = subst (Shows s.words k.seed (IsBelow k r.shape r.log s.words p level key) level key held) it (r.fine.slots p level key kind below fits path).shows in
      shows.1.3 ∙ cut

  -- it is not reachable
  pub no_root : (s : TableState) (r : Kept k s) (j m : ℕ) (v : View) (d : CutNode) → IsSeat s j v → Contains v.cut d → m < k.maps → slice_index s.words (root_word k m) ≢ d.node
  no_root s r j m v d is has below it =
      let c = is_cut_off s r j v d is has in
      let root = r.fine.live m [] (slice_index s.words (root_word k m)) (r.fine.roots m below) in
      none-some (length d.before) (sym root.3 ∙ ap r.shape.cut_of it ∙ c.cut)

  pub no_slot : (s : TableState) (r : Kept k s) (j p level key : ℕ) (v : View) (d : CutNode) → IsSeat s j v → Contains v.cut d → r.shape.kind_of p ≡ 1 → r.shape.cut_of p ≡ None
      → level < 8 → key < 2 ^ 32 → r.shape.path_of p ≡ route k.seed level key → slot_at s.words p (nibble key k.seed level) ≢ Node d.node
  no_slot s r j p level key v d is has kind reach below fits path it =
      let c = is_cut_off s r j v d is has in
      let held = held_at k r.log (time r.shape r.log p) (r.shape.map_of p) key in
      let shows = subst (Shows s.words k.seed (IsBelow k r.shape r.log s.words p level key) level key held) it (r.fine.slots p level key kind below fits path).shows in
      none-some (length d.before) (sym reach ∙ sym shows.1.3 ∙ c.cut)

  -- where it is dead, it is empty
  pub cut_empty : (s : TableState) (r : Kept k s) (j slot : ℕ) (v : View) (d : CutNode) → IsSeat s j v → Contains v.cut d → slice_index d.words 0 ≡ dead_word → slot < 16 → slice_index s.words (slot_word d.node slot) ≡ 0
  cut_empty s r j slot v d is has dead below =
      let c = is_cut_off s r j v d is has in
      let first : d.node + 0 ≡ d.node = omega arith in
      r.fine.dead d.node slot c.node (sym (ap (slice_index s.words) first) ∙ c.words 0 (omega arith) ∙ dead) below
