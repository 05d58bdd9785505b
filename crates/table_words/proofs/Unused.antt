-- Words that nothing uses stay 0: no step writes one.
use Rattle.std.proofs.Common.{◌≡◌, ◌≢◌, ℕ, zero, suc, ◌+◌, ◌<◌, ◌≤◌, true, List, [], ◌∷◌, ◌++◌, length, set, Some, slice_get, slice_index, inl, inr, refl, sym, ap, ◌∙◌, subst, arith, get_or-set_other}
use Rattle.std.proofs.lemmas.Bool.{cases_eq}
use Rattle.std.proofs.lemmas.Option.{same_Some}
use mathlib.Core.Option.{some, some-injective}
use lib.ListN.{get_elem?}
use Rattle.atomic_table.proofs.Lists.{set_else}
use Rattle.table_rule.specs.declared.begin.Begin.{Begin}
use Rattle.table_rule.specs.declared.view.Own.{Own}
use Rattle.table_rule.specs.declared.view.View.{View}
use Rattle.table_rule.specs.Layout.{gate_word}
use Rattle.table_rule.specs.Shape.{Shape}
use Rattle.table_rule.specs.Unused.{IsUndrafted, IsUnused}
use Rattle.table_words.proofs.Lists.{set_here, at_start, at_last}

-- A seat's step writes no word that nothing uses afterwards, and what its callers had drafted is in use still.
pub record LeavesUnused (k : Begin) (new : Shape) (views : List View) (id : ℕ) (owns : List Own) (w : View) (ws ws' : List ℕ) : Type 0 where
  pub drafts : (i : ℕ) → IsUnused k new (set views id w) i → IsUndrafted owns i
  pub same : (i : ℕ) → IsUnused k new (set views id w) i → slice_index ws' i ≡ slice_index ws i

-- another first caller, which has drafted no less
pub others_too : (first after : Own) (owns : List Own) (i : ℕ) → (first.next ≤ i → first.next + length first.draft ≤ i) → IsUndrafted (after ∷ owns) i → IsUndrafted (first ∷ owns) i
others_too first after owns i here u zero own at = subst (λ (o : Own). o.next ≤ i → o.next + length o.draft ≤ i) (same_Some first own at) here
others_too first after owns i here u (suc n) own at = u (suc n) own at

-- a node's word is in use
pub in_node : (k : Begin) (sh : Shape) (views : List View) (p x i : ℕ) → sh.kind_of p ≡ 1 → p ≤ x → x < p + 18 → IsUnused k sh views i → i ≢ x
in_node k sh views p x i is from to u e = let past = u.node p is (omega arith) in omega arith

module _ (k : Begin) (new : Shape) (views : List View) (id : ℕ) (v w : View) (at_me : get_elem? views id ≡ some v) (live : w.live ≡ true) where
  -- what the seat's callers have drafted is in use
  pub mine_now : (i : ℕ) → IsUnused k new (set views id w) i → IsUndrafted w.owns i
  mine_now i u = u.draft id w (set_here views id v w at_me) live

  -- what nothing uses after the step, nothing used before
  pub was_unused : (sh : Shape) → ((p : ℕ) → sh.kind_of p ≡ 1 → new.kind_of p ≡ 1) → ((p : ℕ) → sh.kind_of p ≡ 2 → new.kind_of p ≡ 2)
      → (i : ℕ) → IsUndrafted v.owns i → IsUnused k new (set views id w) i → IsUnused k sh views i
  was_unused sh nodes entries i mine u = record {
    atomic = u.atomic;
    root = u.root;
    gate = u.gate;
    node = λ p is. u.node p (nodes p is);
    entry = λ p is. u.entry p (entries p is);
    draft = λ j z at alive. elim (cases_eq j id) [
      | inl it ↦ subst (λ (y : View). IsUndrafted y.owns i) (some-injective v z (sym at_me ∙ ap (get_elem? views) (sym it) ∙ at)) mine
      | inr ne ↦ u.draft j z (set_else views id j w ne ∙ at) alive
    ];
  }

  -- a seat whose callers stay as they were
  module _ (owns : w.owns ≡ v.owns) (ws : List ℕ) where
    drafts_stay : (i : ℕ) → IsUnused k new (set views id w) i → IsUndrafted v.owns i
    drafts_stay i u = subst (λ os. IsUndrafted os i) owns (mine_now i u)

    pub no_word : LeavesUnused k new views id v.owns w ws ws
    no_word = record { drafts = drafts_stay; same = λ i u. refl }

    pub node_word : (p x y : ℕ) → new.kind_of p ≡ 1 → p ≤ x → x < p + 18 → LeavesUnused k new views id v.owns w ws (set ws x y)
    node_word p x y is from to = record { drafts = drafts_stay; same = λ i u. get_or-set_other ws x i y 0 (in_node k new (set views id w) p x i is from to u) }

    pub map_gate : (m y : ℕ) → m < k.maps → LeavesUnused k new views id v.owns w ws (set ws (gate_word k m) y)
    map_gate m y below = record { drafts = drafts_stay; same = λ i u. get_or-set_other ws (gate_word k m) i y 0 (u.gate m below) }

-- a seat takes in another
pub taken_in : (k : Begin) (sh : Shape) (views : List View) (id other : ℕ) (v w both gone : View) → get_elem? views id ≡ some v → get_elem? views other ≡ some w → other ≢ id → both.live ≡ true
    → ((i : ℕ) → IsUndrafted both.owns i → IsUndrafted v.owns i × IsUndrafted w.owns i) → (i : ℕ) → IsUnused k sh (set (set views id both) other gone) i → IsUnused k sh views i
taken_in k sh views id other v w both gone at_me at_it apart live owns i u =
    let mine = owns i (u.draft id both (set_else (set views id both) other id gone (λ e. apart (sym e)) ∙ set_here views id v both at_me) live) in record {
      atomic = u.atomic;
      root = u.root;
      gate = u.gate;
      node = u.node;
      entry = u.entry;
      draft = λ j z at alive. elim (cases_eq j id) [
        | inl it ↦ subst (λ (y : View). IsUndrafted y.owns i) (some-injective v z (sym at_me ∙ ap (get_elem? views) (sym it) ∙ at)) mine.0
        | inr ne ↦ elim (cases_eq j other) [
          | inl its ↦ subst (λ (y : View). IsUndrafted y.owns i) (some-injective w z (sym at_it ∙ ap (get_elem? views) (sym its) ∙ at)) mine.1
          | inr off ↦ u.draft j z (set_else (set views id both) other j gone off ∙ set_else views id j both ne ∙ at) alive
        ]
      ];
    }

-- a seat is cut in two
pub cut_in_two : (k : Begin) (sh : Shape) (views : List View) (id : ℕ) (v left right : View) → get_elem? views id ≡ some v → left.live ≡ true → right.live ≡ true
    → ((i : ℕ) → IsUndrafted left.owns i → IsUndrafted right.owns i → IsUndrafted v.owns i) → (i : ℕ) → IsUnused k sh (set views id left ++ right ∷ []) i → IsUnused k sh views i
cut_in_two k sh views id v left right at_me live_left live_right owns i u = record {
  atomic = u.atomic;
  root = u.root;
  gate = u.gate;
  node = u.node;
  entry = u.entry;
  draft = λ j z at alive. elim (cases_eq j id) [
    | inl it ↦ subst (λ (y : View). IsUndrafted y.owns i) (some-injective v z (sym at_me ∙ ap (get_elem? views) (sym it) ∙ at))
        (owns i (u.draft id left (at_start (set views id left) right left id (set_here views id v left at_me)) live_left) (u.draft (length (set views id left)) right (at_last (set views id left) right) live_right))
    | inr ne ↦ u.draft j z (at_start (set views id left) right z j (set_else views id j left ne ∙ at)) alive
  ];
}
