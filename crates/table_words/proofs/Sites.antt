-- Where a call writes: a reachable node's slot for the call's key, which has no node, and a unit of words that are part of nothing.
use Rattle.std.proofs.Common.{◌≡◌, ◌≢◌, inl, inr, ℕ, nat_le, leb-true, leb-false, zero, suc, ◌+◌, ◌-◌, ◌*◌, ◌^◌, ◌<◌, ◌≤◌, List, length, Some, None, slice_index, refl, sym, ap, ◌∙◌, subst, arith}
use Rattle.std.proofs.lemmas.Option.{none-some}
use Rattle.sync_model.specs.declared.item.SharedEntry.{SharedEntry}
use Rattle.table_rule.specs.declared.begin.Begin.{Begin}
use Rattle.trie_nodes.specs.declared.slot.Slot.TheVariants.{Node}
use Rattle.trie_nodes.specs.Layout.{parent_word, slot_word, unit_words}
use Rattle.trie_nodes.specs.Paths.{nibble, route}
use Rattle.trie_nodes.specs.Slots.{slot_in}
use Rattle.table_rule.specs.Layout.{heads, size_of}
use Rattle.table_rule.specs.Shape.{Shape, Fine}
use Rattle.table_words.specs.TrieLaws.{TrieLaws}
use Rattle.table_words.proofs.Units.{tested}

pub record Site (k : Begin) (sh : Shape) (log : List SharedEntry) (ws : List ℕ) (m p d key unit nodes : ℕ) : Type 0 where
  pub fine : Fine k sh log ws
  pub node : sh.kind_of p ≡ 1
  pub map : sh.map_of p ≡ m
  pub path : sh.path_of p ≡ route k.seed d key
  pub reachable : sh.cut_of p ≡ None
  pub level : d < 8
  pub is_key : key < 2 ^ 32
  pub leaf : (below : ℕ) → slot_in (slice_index ws (slot_word p (nibble key k.seed d))) ≢ Node below
  pub lies : heads k ≤ unit
  pub within : unit + unit_words ≤ size_of k
  pub unused : (i : ℕ) → i < unit_words → sh.part_of (unit + i) ≡ 0
  pub few : d + nodes < 8

module _ (k : Begin) (sh : Shape) (log : List SharedEntry) (ws : List ℕ) (m p d key unit nodes : ℕ) (laws : TrieLaws) (site : Site k sh log ws m p d key unit nodes) where
  -- above a reachable node there is one at each level
  pub above : (e more other q : ℕ) → other < 2 ^ 32 → sh.node_at m (route k.seed (e + more) other) ≡ Some q → (top : ℕ) × (sh.node_at m (route k.seed e other) ≡ Some top)
  above e zero other q is at = let end : e + zero ≡ e = omega arith in (q, subst (λ n. sh.node_at m (route k.seed n other) ≡ Some q) end at)
  above e (suc more) other q is at =
      let next : e + suc more ≡ suc (e + more) = omega arith in
      let here = subst (λ n. sh.node_at m (route k.seed n other) ≡ Some q) next at in
      let l = site.fine.live m (route k.seed (suc (e + more)) other) q here in
      let up = site.fine.parent q (e + more) other l.0 l.3 is l.2 in
      above e more other (slice_index ws (parent_word q)) is (subst (λ n. sh.node_at n (route k.seed (e + more) other) ≡ Some (slice_index ws (parent_word q))) l.1 up)

  pub above_at : (e f other q : ℕ) → e ≤ f → other < 2 ^ 32 → sh.node_at m (route k.seed f other) ≡ Some q → (top : ℕ) × (sh.node_at m (route k.seed e other) ≡ Some top)
  above_at e f other q le is at = let more : f ≡ e + (f - e) = omega arith in above e (f - e) other q is (subst (λ n. sh.node_at m (route k.seed n other) ≡ Some q) more at)

  pub is_there : sh.node_at m (route k.seed d key) ≡ Some p
  is_there = let at = site.fine.there p site.node site.reachable in ap (sh.node_at m) (sym site.path) ∙ ap (λ n. sh.node_at n (sh.path_of p)) (sym site.map) ∙ at

  pub childless : sh.node_at m (route k.seed (suc d) key) ≡ None
  childless = let at = (site.fine.slots p d key site.node site.level site.is_key site.path).childless site.leaf site.reachable in ap (λ n. sh.node_at n (route k.seed (suc d) key)) (sym site.map) ∙ at

  -- nothing is reachable below the slot
  pub none_below : (e other q : ℕ) → other < 2 ^ 32 → route k.seed (suc d) other ≡ route k.seed (suc d) key → suc d ≤ e → sh.node_at m (route k.seed e other) ≡ Some q → ⊥
  none_below e other q is along le at = let top = above_at (suc d) e other q le is at in none-some top.0 (sym childless ∙ ap (sh.node_at m) (sym along) ∙ top.1)

  pub none_at : (i q : ℕ) → sh.node_at m (route k.seed (suc d + i) key) ≡ Some q → ⊥
  none_at i q at = none_below (suc d + i) key q site.is_key refl (omega arith) at

  -- levels of equal paths
  pub same_level : (e f one other : ℕ) → route k.seed e one ≡ route k.seed f other → e ≡ f
  same_level e f one other same = sym (laws.long k.seed e one) ∙ ap length same ∙ laws.long k.seed f other

  -- the words of old blocks aren't in the unit
  pub part_outside : (q i : ℕ) → 0 < q → sh.part_of i ≡ q → unit ≤ i → unit + 2 + 18 * nodes ≤ i
  part_outside q i some part past =
      let few = site.few in
      elim (tested (nat_le (unit + 2 + 18 * nodes) i)) [
        | inl beyond ↦ leb-true (unit + 2 + 18 * nodes) i beyond
        | inr within ↦ absurd (let below = leb-false (unit + 2 + 18 * nodes) i within in
            let n : unit + (i - unit) ≡ i = omega arith in
            let zero_part : q ≡ 0 = sym part ∙ subst (λ n. sh.part_of n ≡ 0) n (site.unused (i - unit) (omega arith)) in omega arith)
      ]

  pub node_outside : (q i : ℕ) → sh.kind_of q ≡ 1 → q ≤ i → i < q + 18 → unit ≤ i → unit + 2 + 18 * nodes ≤ i
  node_outside q i is from to =
      let at : q + (i - q) ≡ i = omega arith in
      let lies = (site.fine.nodes q is).lies in
      part_outside q i (omega arith) (subst (λ n. sh.part_of n ≡ q) at ((site.fine.nodes q is).words (i - q) (omega arith)))

  pub key_outside : (q : ℕ) → sh.kind_of q ≡ 2 → unit ≤ q → unit + 2 + 18 * nodes ≤ q
  key_outside q is = let l = site.fine.leaves q is in let lies = l.lies in part_outside q q (omega arith) l.key_part

  pub value_outside : (q : ℕ) → sh.kind_of q ≡ 2 → unit ≤ q + 1 → unit + 2 + 18 * nodes ≤ q + 1
  value_outside q is = let l = site.fine.leaves q is in let lies = l.lies in part_outside q (q + 1) (omega arith) l.value_part
