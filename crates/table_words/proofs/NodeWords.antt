-- One word of a node changes: which words stay.
use Rattle.std.proofs.Common.{◌≡◌, ◌≢◌, ℕ, ◌+◌, ◌-◌, ◌<◌, ◌≤◌, List, set, slice_index, sym, ap, ◌∙◌, subst, arith, get_or-set_same, get_or-set_other}
use Rattle.sync_model.specs.declared.item.SharedEntry.{SharedEntry}
use Rattle.table_rule.specs.declared.begin.Begin.{Begin}
use Rattle.table_rule.specs.Layout.{heads}
use Rattle.table_rule.specs.Shape.{Shape, Fine}

module _ (k : Begin) (sh : Shape) (log : List SharedEntry) (ws : List ℕ) (p j x : ℕ) (fine : Fine k sh log ws) (is_node : sh.kind_of p ≡ 1) (from : p ≤ j) (to : j < p + 18) where
  part_of_node : (q i : ℕ) → sh.kind_of q ≡ 1 → q ≤ i → i < q + 18 → sh.part_of i ≡ q
  part_of_node q i is from to = let at : q + (i - q) ≡ i = omega arith in subst (λ n. sh.part_of n ≡ q) at ((fine.nodes q is).words (i - q) (omega arith))

  mine : sh.part_of j ≡ p
  mine = part_of_node p j is_node from to

  pub same : (i : ℕ) → i ≢ j → slice_index (set ws j x) i ≡ slice_index ws i
  same i ne = get_or-set_other ws j i x 0 ne

  pub here : slice_index (set ws j x) j ≡ x
  here = let wide = fine.wide in let within = (fine.nodes p is_node).within in get_or-set_same ws j x 0 (omega arith)

  -- a word of another part
  pub elsewhere : (i : ℕ) → sh.part_of i ≢ p → slice_index (set ws j x) i ≡ slice_index ws i
  elsewhere i ne = same i (λ e. ne (ap sh.part_of e ∙ mine))

  pub other_node : (q i : ℕ) → sh.kind_of q ≡ 1 → q ≢ p → q ≤ i → i < q + 18 → slice_index (set ws j x) i ≡ slice_index ws i
  other_node q i is ne from to = elsewhere i (λ e. ne (sym (part_of_node q i is from to) ∙ e))

  -- the node that has the changed word
  pub whose : (q : ℕ) → sh.kind_of q ≡ 1 → q ≤ j → j < q + 18 → q ≡ p
  whose q is from to = sym (part_of_node q j is from to) ∙ mine

  -- word number n of a node, where that isn't the number of the changed word
  pub word_off : (q n : ℕ) → sh.kind_of q ≡ 1 → n < 18 → p + n ≢ j → slice_index (set ws j x) (q + n) ≡ slice_index ws (q + n)
  word_off q n is below ne = same (q + n) (λ e. let there : q ≡ p = whose q is (omega arith) (omega arith) in ne (omega arith))

  pub at_key : (q : ℕ) → sh.kind_of q ≡ 2 → slice_index (set ws j x) q ≡ slice_index ws q
  at_key q is = elsewhere q (λ e. absurd (let there : q ≡ p = sym (fine.leaves q is).key_part ∙ e in let two = sym is ∙ ap sh.kind_of there ∙ is_node in omega arith))

  pub at_value : (q : ℕ) → sh.kind_of q ≡ 2 → slice_index (set ws j x) (q + 1) ≡ slice_index ws (q + 1)
  at_value q is = elsewhere (q + 1) (λ e. absurd (let there : q ≡ p = sym (fine.leaves q is).value_part ∙ e in let two = sym is ∙ ap sh.kind_of there ∙ is_node in omega arith))

  pub head : (i : ℕ) → i < heads k → slice_index (set ws j x) i ≡ slice_index ws i
  head i below = let lies = (fine.nodes p is_node).lies in same i (λ e. absurd (omega arith))

  pub unused : (i : ℕ) → sh.part_of i ≡ 0 → slice_index (set ws j x) i ≡ slice_index ws i
  unused i none_there = elsewhere i (λ e. let zero_place : p ≡ 0 = sym e ∙ none_there in let lies = (fine.nodes p is_node).lies in absurd (omega arith))
