-- A cursor stands as it stood after any other call of its caller.
use Rattle.std.specs.Prelude.{◌≡◌, ◌≢◌, ℕ, zero, suc, List, [], ◌∷◌, ◌++◌, Option, Some, slice_get, length, ◌⊎◌}
use Rattle.std.proofs.Common.{inl, inr, ap, refl, ◌∙◌}
use Rattle.std.proofs.lemmas.Option.{none-some, same_Some}
use Rattle.sync_model.specs.declared.item.Item.{Item}
use Rattle.sync_model.specs.declared.item.SharedCall.TheVariants.{Next}
use Rattle.sync_model.specs.SharedCalls.{IsStep}
use Rattle.shared_table.specs.declared.cursor.TableCursor.{TableCursor}
use Rattle.table_words.specs.declared.words.TableWords.{TableWords}
use Rattle.shared_table.specs.Ranging.{IsCursor}

pub still_at : {A : Type 0} (xs : List A) (z x : A) (i : ℕ) → slice_get xs i ≡ Some x → slice_get (xs ++ z ∷ []) i ≡ Some x
still_at [] z x i at = absurd (none-some x at)
still_at (y ∷ xs) z x zero at = at
still_at (y ∷ xs) z x (suc i) at = still_at xs z x i at

-- an item of a list with one more is one of the list, or the last
pub old_or_last : {A : Type 0} (xs : List A) (z x : A) (i : ℕ) → slice_get (xs ++ z ∷ []) i ≡ Some x → (slice_get xs i ≡ Some x) ⊎ ((i ≡ length xs) × (z ≡ x))
old_or_last [] z x zero at = inr (refl, same_Some z x at)
old_or_last [] z x (suc i) at = absurd (none-some x at)
old_or_last (y ∷ xs) z x zero at = inl at
old_or_last (y ∷ xs) z x (suc i) at = elim (old_or_last xs z x i at) [ inl there ↦ inl there | inr last ↦ inr (ap suc last.0, last.1) ]

pub still_step : (items : List Item) (x : Item) (b i : ℕ) (y : Item) (shown : Option (ℕ × ℕ)) → IsStep items b i y shown → IsStep (items ++ x ∷ []) b i y shown
still_step items x b i y shown step = record { at = still_at items x y i step.at; call = step.call; reply = step.reply }

-- a step among one call more is one of before, or that call
pub old_step : (items : List Item) (x : Item) (b i : ℕ) (y : Item) (shown : Option (ℕ × ℕ)) → IsStep (items ++ x ∷ []) b i y shown → IsStep items b i y shown ⊎ ((i ≡ length items) × (x ≡ y))
old_step items x b i y shown step = elim (old_or_last items x y i step.at) [ inl there ↦ inl (record { at = there; call = step.call; reply = step.reply }) | inr last ↦ inr last ]

pub stays : (words : TableWords) (cursor : TableCursor) (m b : ℕ) (items : List Item) (item : Item) → item.call ≢ Next b → IsCursor words cursor m b items → IsCursor words cursor m b (items ++ item ∷ [])
stays words cursor m b items item other is = record {
  table_is = is.table_is;
  empty = is.empty;
  live = is.live;
  begin = is.begin;
  nobody = is.nobody;
  spot = is.spot;
  is = is.is;
  nodes = is.nodes;
  slots = is.slots;
  within = is.within;
  is_map = is.is_map;
  is_begin = is.is_begin;
  of = record {
    begin = is.of.begin;
    at = still_at items item is.of.begin is.spot.begin is.of.at;
    call = is.of.call;
    front = is.of.front;
    steps = λ j x key value step. elim (old_step items item is.spot.begin j x (Some (key, value)) step) [
      | inl before ↦ is.of.steps j x key value before
      | inr last ↦ absurd (other (ap (λ (y : Item). y.call) last.1 ∙ step.call ∙ ap (λ (n : ℕ). Next n) is.is_begin))
    ];
    shown = λ key there. let step = is.of.shown key there in (step.0, step.1, step.2, still_step items item is.spot.begin step.0 step.1 (Some (key, step.2)) step.3);
  };
}
