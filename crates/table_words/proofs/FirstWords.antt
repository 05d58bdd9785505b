-- The words of a new table are written.
use Rattle.std.proofs.Common.{◌≡◌, ◌≢◌, ℕ, ◌+◌, ◌<◌, List, length, replicate, set, slice_index, inl, inr, sym, ap, ◌∙◌, subst, arith, length-set, get_or-set_same, get_or-set_other}
use Rattle.std.proofs.lemmas.Bool.{cases_eq}
use Rattle.std.proofs.lemmas.List.{length-replicate}
use Rattle.table_rule.specs.declared.begin.Begin.{Begin}
use Rattle.table_words.specs.Blank.{IsBlank}
use Rattle.table_rule.specs.Layout.{root_word, first_root, size_of}
use Rattle.table_words.proofs.Opening.{same_for_all}

-- the root words of the first n maps are written
pub record HasRoots (k : Begin) (n : ℕ) (ws : List ℕ) : Type 0 where
  pub wide : length ws ≡ size_of k
  pub roots : (m : ℕ) → m < n → slice_index ws (root_word k m) ≡ first_root k m
  pub others : (i : ℕ) → ((m : ℕ) → m < n → i ≢ root_word k m) → slice_index ws i ≡ 0

pub no_roots : (k : Begin) (ws : List ℕ) → ws ≡ replicate (size_of k) 0 → HasRoots k 0 ws
no_roots k ws is = record {
  wide = ap length is ∙ length-replicate (size_of k) 0;
  roots = λ m below. absurd (omega arith);
  others = λ i none_there. ap (λ l. slice_index l i) is ∙ same_for_all (size_of k) i 0;
}

pub root_on : (k : Begin) (n : ℕ) (ws : List ℕ) → HasRoots k n ws → n < k.maps → HasRoots k (n + 1) (set ws (root_word k n) (first_root k n))
root_on k n ws has inside = record {
  wide = length-set ws (root_word k n) (first_root k n) ∙ has.wide;
  roots = λ m below. elim (cases_eq m n) [
    | inl e ↦ let wide = has.wide in subst (λ j. slice_index (set ws (root_word k n) (first_root k n)) (root_word k j) ≡ first_root k j) (sym e) (get_or-set_same ws (root_word k n) (first_root k n) 0 (omega arith))
    | inr ne ↦ get_or-set_other ws (root_word k n) (root_word k m) (first_root k n) 0 (λ e. ne (omega arith)) ∙ has.roots m (omega arith)
  ];
  others = λ i none_there. get_or-set_other ws (root_word k n) i (first_root k n) 0 (none_there n (omega arith)) ∙ has.others i (λ m below. none_there m (omega arith));
}

pub all_roots : (k : Begin) (ws : List ℕ) → HasRoots k k.maps ws → IsBlank k ws
all_roots k ws has = record { wide = has.wide; roots = has.roots; others = has.others }
