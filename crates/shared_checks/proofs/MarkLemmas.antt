-- Calls that are marked by the calls that are entries.
use Rattle.std.proofs.Common.{◌≡◌, ℕ, zero, suc, ◌+◌, Bool, true, false, ◌&&◌, ◌==◌, List, [], ◌∷◌, ◌++◌, length, map, Option, Some, None, slice_get, refl, sym, ap, ◌∙◌, subst, arith}
use Rattle.std.specs.Option.{option_map_or}
use Rattle.std.proofs.lemmas.Bool.{eq-eqb, eqb-true, false≢true}
use Rattle.std.proofs.lemmas.Option.{none-some, same_Some}
use Rattle.sync_model.specs.declared.item.SharedEntry.{SharedEntry}
use Rattle.sync_model.specs.declared.item.Item.{Item}
use Rattle.sync_model.specs.SharedHistory.{Contents}
use Rattle.shared_checks.specs.declared.placed.Placed.{Placed}
use Rattle.shared_checks.specs.Calls.{calls_in}
use Rattle.shared_checks.specs.Parts.{LawfulHistory}
use Rattle.shared_checks.specs.Marks.{AreMarked, AreOwnedBy, AreSameCalls, all_marked_from, mark, marked_from, owns, unmarked}

module _ (owners : List Placed) where
  pub mark_more : (c k : ℕ) (xs : List Item) (x : Item) (i : ℕ) → i ≡ k + length xs → marked_from owners c k (xs ++ x ∷ []) ≡ marked_from owners c k xs ++ mark owners c i x ∷ []
  mark_more c k [] x i e = let same : k ≡ i = omega (arith, e) in ap (λ j. mark owners c j x ∷ []) same
  mark_more c k (y ∷ xs) x i e = ap (λ (ys : List Item). mark owners c k y ∷ ys) (mark_more c (k + 1) xs x i (omega (arith, e)))

  pub all_more : (c : ℕ) (lists : List (List Item)) (items : List Item) (d : ℕ) → d ≡ c + length lists → all_marked_from owners c (lists ++ items ∷ []) ≡ all_marked_from owners c lists ++ marked_from owners d 0 items ∷ []
  all_more c [] items d e = let same : c ≡ d = omega (arith, e) in ap (λ b. marked_from owners b 0 items ∷ []) same
  all_more c (one ∷ lists) items d e = ap (λ (rest : List (List Item)). marked_from owners c 0 one ∷ rest) (all_more (c + 1) lists items d (omega (arith, e)))

  pub count_marked : (c k : ℕ) (items : List Item) → length (marked_from owners c k items) ≡ length items
  count_marked c k [] = refl
  count_marked c k (x ∷ items) = ap suc (count_marked c (k + 1) items)

  pub count_all : (c : ℕ) (lists : List (List Item)) → length (all_marked_from owners c lists) ≡ length lists
  count_all c [] = refl
  count_all c (items ∷ lists) = ap suc (count_all (c + 1) lists)

  same_marked : (c k : ℕ) (items : List Item) → map unmarked (marked_from owners c k items) ≡ map unmarked items
  same_marked c k [] = refl
  same_marked c k (x ∷ items) = ap (λ (ys : List Item). unmarked x ∷ ys) (same_marked c (k + 1) items)

  marked_at : (d : ℕ) (lists : List (List Item)) (c : ℕ) → calls_in (all_marked_from owners d lists) c ≡ marked_from owners (d + c) 0 (calls_in lists c)
  marked_at d [] c = refl
  marked_at d (items ∷ lists) zero = let same : d ≡ d + 0 = omega arith in ap (λ b. marked_from owners b 0 items) same
  marked_at d (items ∷ lists) (suc c) = let same : (d + 1) + c ≡ d + suc c = omega arith in marked_at (d + 1) lists c ∙ ap (λ b. marked_from owners b 0 (calls_in lists c)) same

  with_mark : Bool → Item → Item
  with_mark entry x = record { call = x.call; reply = x.reply; place = x.place; entry = entry; front = x.front }

  one_mark : (x y : Item) (entry : Bool) → unmarked x ≡ unmarked y → x.entry ≡ entry → x ≡ record { call = y.call; reply = y.reply; place = y.place; entry = entry; front = y.front }
  unfolding with_mark
  one_mark x y entry same is = ap (with_mark x.entry) same ∙ ap (λ b. with_mark b y) is

  are_marked : (c k : ℕ) (items others : List Item) → map unmarked others ≡ map unmarked items → ((j : ℕ) (x : Item) → slice_get others j ≡ Some x → x.entry ≡ owns owners c (k + j) x.place) → others ≡ marked_from owners c k items
  are_marked c k [] [] same each = refl
  are_marked c k [] (x ∷ others) same each = absurd cc
  are_marked c k (y ∷ items) [] same each = absurd cc
  are_marked c k (y ∷ items) (x ∷ others) same each =
      let first : unmarked x ≡ unmarked y = cc in
      let rest : map unmarked others ≡ map unmarked items = cc in
      let here : k + 0 ≡ k = omega arith in
      let entry : x.entry ≡ owns owners c k y.place = each 0 x refl ∙ ap (λ i. owns owners c i x.place) here ∙ ap (λ (z : Item). owns owners c k z.place) first in
      ap (λ (z : Item). z ∷ others) (one_mark x y (owns owners c k y.place) first entry)
      ∙ ap (λ (zs : List Item). mark owners c k y ∷ zs)
      (are_marked c (k + 1) items others rest (λ j z at. let next : k + suc j ≡ (k + 1) + j = omega arith in each (suc j) z at ∙ ap (λ i. owns owners c i z.place) next))

  module _ (calls : ℕ → List Item) (owned : AreOwnedBy owners calls) where
    two : (a b : Bool) → (a && b) ≡ true → (a ≡ true) × (b ≡ true)
    two true b is = (refl, is)
    two false b is = absurd (false≢true is)

    -- the call of this caller and number
    abbrev Test : (c j : ℕ) → Option Placed → Bool
    Test c j found = option_map_or (λ (p : Placed). (p.caller == c) && (p.index == j)) found false

    owns_so : (c j : ℕ) (x : Item) → slice_get (calls c) j ≡ Some x → x.entry ≡ owns owners c j x.place
    owns_so c j x at = by x.entry refl (slice_get owners x.place) refl where
      other : x.entry ≡ false → (p : Placed) → slice_get owners x.place ≡ Some p → (t : Bool) → Test c j (Some p) ≡ t → x.entry ≡ Test c j (Some p)
      other is p there false no_ = is ∙ sym no_
      other is p there true yes_ =
          let (caller, index) = two (p.caller == c) (p.index == j) yes_ in
          let (place, (y, of, entry, stands)) = owned.owned x.place p there in
          let theirs : slice_get (calls c) p.index ≡ Some y = subst (λ d. slice_get (calls d) p.index ≡ Some y) (eqb-true p.caller c caller) of in
          let mine : slice_get (calls c) j ≡ Some y = subst (λ i. slice_get (calls c) i ≡ Some y) (eqb-true p.index j index) theirs in
          absurd (false≢true (sym is ∙ ap (λ (z : Item). z.entry) (same_Some x y (sym at ∙ mine)) ∙ entry))

      by : (b : Bool) → x.entry ≡ b → (found : Option Placed) → slice_get owners x.place ≡ found → x.entry ≡ Test c j found
      by true is None there = absurd (none-some (record { caller = c; index = j; place = x.place }) (sym there ∙ owned.marked c j x at is))
      by true is (Some p) there =
          let same : record { caller = c; index = j; place = x.place } ≡ p = same_Some (record { caller = c; index = j; place = x.place }) p (sym (owned.marked c j x at is) ∙ there) in
          is ∙ sym (ap (λ b. b && (j == j)) (eq-eqb c c refl) ∙ eq-eqb j j refl) ∙ ap (λ (r : Placed). Test c j (Some r)) same
      by false is None there = is
      by false is (Some p) there = other is p there (Test c j (Some p)) refl

pub are_all_marked : (owners : List Placed) (start : Contents) (lists : List (List Item))
    → ((calls : ℕ → List Item) (history : List SharedEntry) → AreSameCalls lists calls → LawfulHistory start history calls → AreOwnedBy owners calls)
    → AreMarked start lists (all_marked_from owners 0 lists)
are_all_marked owners start lists owned = record { count = count_all owners 0 lists; same = same; only = only } where
  at : (c : ℕ) → calls_in (all_marked_from owners 0 lists) c ≡ marked_from owners c 0 (calls_in lists c)
  at c = let none : 0 + c ≡ c = omega arith in marked_at owners 0 lists c ∙ ap (λ d. marked_from owners d 0 (calls_in lists c)) none

  same : AreSameCalls lists (calls_in (all_marked_from owners 0 lists))
  same c = ap (map unmarked) (at c) ∙ same_marked owners c 0 (calls_in lists c)

  only : (calls : ℕ → List Item) (history : List SharedEntry) → AreSameCalls lists calls → LawfulHistory start history calls → (c : ℕ) → calls c ≡ calls_in (all_marked_from owners 0 lists) c
  only calls history alike law c =
      are_marked owners c 0 (calls_in lists c) (calls c) (alike c) (λ j x there. let none : 0 + j ≡ j = omega arith in owns_so owners calls (owned calls history alike law) c j x there ∙ ap (λ i. owns owners c i x.place) (sym none))
      ∙ sym (at c)
