-- Words that nothing uses.
use Rattle.std.proofs.Common.{◌≡◌, ◌≢◌, ℕ, zero, suc, ◌+◌, ◌*◌, ◌<◌, ◌≤◌, List, length, set, Some, slice_get, slice_index, refl, sym, ap, ◌∙◌, subst, arith, inl, inr, [], ◌∷◌, get_or-set_same}
use Rattle.std.proofs.lemmas.Bool.{cases_lt}
use Rattle.atomic_table.specs.Table.{Me, Allows}
use Rattle.trie_nodes.specs.Layout.{atomic_word, unit_words}
use Rattle.table_rule.specs.declared.begin.Begin.{Begin}
use Rattle.table_rule.specs.declared.view.Own.{Own}
use Rattle.table_rule.specs.declared.view.View.{View}
use Rattle.table_rule.specs.Layout.{root_word, gate_word, heads}
use Rattle.table_rule.specs.LawWords.{IsSeat}
use Rattle.table_rule.specs.Rule.{TableState, Kept}
use Rattle.table_rule.specs.Unused.{IsUnused, IsLeftOut}

-- a list of numbers has 0 beyond its end
past_end : (xs : List ℕ) (i : ℕ) → length xs ≤ i → slice_index xs i ≡ 0
past_end [] i past = refl
past_end (x ∷ xs) zero past = absurd (omega arith)
past_end (x ∷ xs) (suc i) past = past_end xs i (omega arith)

module _ (k : Begin) where
  pub left_out : (s : TableState) → Kept k s → (i : ℕ) → IsLeftOut k i → slice_index s.words i ≡ 0
  left_out s r i out = let head = out.head in r.unused i record {
    atomic = out.atomic;
    root = out.root;
    gate = out.gate;
    node = λ p is from. let lies = (r.fine.nodes p is).lies in absurd (omega arith);
    entry = λ p is from. let lies = (r.fine.leaves p is).lies in absurd (omega arith);
    draft = λ j v at live n own owned from. let lies = ((r.suits j v at live).room n own owned).lies in absurd (omega arith);
  }

  first_out : IsLeftOut k 0
  first_out = record { head = omega arith; atomic = λ a below e. absurd (omega arith); root = λ m below e. absurd (omega arith); gate = λ m below e. absurd (omega arith) }

  pub first_word : (s : TableState) → Kept k s → slice_index s.words 0 ≡ 0
  first_word s r = left_out s r 0 first_out

  -- the word is 0 before the step, and after it
  pub no_step : (s : TableState) → Kept k s → (id i : ℕ) (me : Me (Unit {0}) View) (f : ℕ → ℕ) → IsSeat s id me.0 → IsLeftOut k i → Allows (Kept k) (length s.homes) id me i f (λ found after. Unit {0}) → f 0 ≡ 0
  no_step s r id i me f is out allows =
      let was = left_out s r i out in
      let step = allows s r refl is.0 (omega arith) in
      let now = left_out _ step.3 i out in
      let wide = r.fine.wide in
      let head = out.head in
      ap f (sym was) ∙ sym (get_or-set_same s.words i (f (slice_index s.words i)) 0 (omega arith)) ∙ now

  pub room_behind : (s : TableState) (r : Kept k s) (j n i : ℕ) (v : View) (own : Own) → IsSeat s j v → slice_get v.owns n ≡ Some own → length own.draft ≤ i → i < unit_words * own.spare → slice_index s.words (own.next + i) ≡ 0
  room_behind s r j n i v own is owned past below = ((r.suits j v is.0 is.1).room n own owned).words i below ∙ past_end own.draft i past

  pub used : (s : TableState) (r : Kept k s) (i : ℕ) → 0 < slice_index s.words i → ((a : ℕ) → a < length k.kinds → i ≢ atomic_word a) → ((m : ℕ) → m < k.maps → (i ≢ root_word k m) × (i ≢ gate_word k m))
      → ((p : ℕ) → r.shape.kind_of p ≡ 1 → p ≤ i → i < p + 18 → ⊥) → ((p : ℕ) → r.shape.kind_of p ≡ 2 → p ≤ i → i < p + 2 → ⊥)
      → ((j n : ℕ) (v : View) (own : Own) → IsSeat s j v → slice_get v.owns n ≡ Some own → own.next ≤ i → i < own.next + length own.draft → ⊥) → ⊥
  used s r i some atomic maps node entry draft =
      let none_there = r.unused i record {
        atomic = atomic;
        root = λ m below. (maps m below).0;
        gate = λ m below. (maps m below).1;
        node = λ p is from. not_below i (p + 18) (node p is from);
        entry = λ p is from. not_below i (p + 2) (entry p is from);
        draft = λ j v at live n own owned from. not_below i (own.next + length own.draft) (draft j n v own (at, live) owned from);
      } in omega arith
    where
      not_below : (a b : ℕ) → (a < b → ⊥) → b ≤ a
      not_below a b no_less = elim (cases_lt a b) [ inl less ↦ absurd (no_less less) | inr le ↦ le ]
