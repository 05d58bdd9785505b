-- Where a map's values come from.
use Rattle.std.proofs.Common.{◌≡◌, ◌≢◌, ℕ, zero, suc, Bool, true, false, cond, List, [], ◌∷◌, Some, None, is_some, slice_get, ◌⊎◌, inl, inr, refl, sym, ◌∙◌}
use Rattle.std.specs.Ordering.{nat_cmp, eq_by_cmp}
use Rattle.std.specs.FinMap.{FinMap, get, insert, remove, get-insert, get-remove, get-empty}
use Rattle.std.proofs.lemmas.Cmp.{nat_cmp_total}
use Rattle.std.proofs.lemmas.Option.{none-some, same_Some}
use Rattle.sync_types.specs.declared.map_object.MapCall.{MapCall}
use Rattle.sync_types.specs.declared.map_object.MapCall.TheVariants.{Load, Store, LoadOrStore, LoadAndDelete, Delete, Swap, CompareAndSwap, CompareAndDelete, Clear}
use Rattle.sync_types.specs.SequentialMap.{has_value, map_after}
use Rattle.sync_model.specs.Shared.{values_of, cost_of}

module _ (m : FinMap nat_cmp ℕ) (key value : ℕ) where
  inserted : (k v : ℕ) → get (insert m k v) key ≡ Some value → (get m key ≡ Some value) ⊎ (v ≡ value)
  inserted k v e = by_key (eq_by_cmp nat_cmp key k) (sym (get-insert nat_cmp_total m k v key) ∙ e)
    where
      by_key : (b : Bool) → cond b (Some v) (get m key) ≡ Some value → (get m key ≡ Some value) ⊎ (v ≡ value)
      by_key true e = inr (same_Some v value e)
      by_key false e = inl e

  removed : (k : ℕ) → get (remove m k) key ≡ Some value → get m key ≡ Some value
  removed k e = by_key (eq_by_cmp nat_cmp key k) (sym (get-remove nat_cmp_total m k key) ∙ e)
    where
      by_key : (b : Bool) → cond b None (get m key) ≡ Some value → get m key ≡ Some value
      by_key true e = absurd (none-some value e)
      by_key false e = e

  -- it was there before, or is one of these
  abbrev Given : List ℕ → Type 0
  Given values = (get m key ≡ Some value) ⊎ ((i : ℕ) × (slice_get values i ≡ Some value))

  first_given : (v : ℕ) → (get m key ≡ Some value) ⊎ (v ≡ value) → Given (v ∷ [])
  first_given v (inl there) = inl there
  first_given v (inr is) = inr (zero, cc)

  second_given : (u v : ℕ) → (get m key ≡ Some value) ⊎ (v ≡ value) → Given (u ∷ v ∷ [])
  second_given u v (inl there) = inl there
  second_given u v (inr is) = inr (suc zero, cc)

  either : (b : Bool) (values : List ℕ) (one two : FinMap nat_cmp ℕ) → (get one key ≡ Some value → Given values) → (get two key ≡ Some value → Given values) → get (cond b one two) key ≡ Some value → Given values
  either true values one two in_one in_two e = in_one e
  either false values one two in_one in_two e = in_two e

  pub value_given : (call : MapCall ℕ) → get (map_after call m) key ≡ Some value → Given (values_of call)
  value_given (Load k) e = inl e
  value_given (Store k v) e = first_given v (inserted k v e)
  value_given (LoadOrStore k v) e = either (is_some (get m k)) (v ∷ []) m (insert m k v) (λ there. inl there) (λ there. first_given v (inserted k v there)) e
  value_given (LoadAndDelete k) e = inl (removed k e)
  value_given (Delete k) e = inl (removed k e)
  value_given (Swap k v) e = first_given v (inserted k v e)
  value_given (CompareAndSwap k old new) e = either (has_value old (get m k)) (old ∷ new ∷ []) (insert m k new) m (λ there. second_given old new (inserted k new there)) (λ there. inl there) e
  value_given (CompareAndDelete k old) e = either (has_value old (get m k)) (old ∷ []) (remove m k) m (λ there. inl (removed k there)) (λ there. inl there) e
  value_given Clear e = absurd (none-some value (sym (get-empty nat_cmp key) ∙ e))

-- every call but a load takes a spare entry
pub others_cost : (call : MapCall ℕ) → ((key : ℕ) → call ≢ Load key) → cost_of call ≡ 1
others_cost (Load k) other = absurd (other k refl)
others_cost (Store k v) other = refl
others_cost (LoadOrStore k v) other = refl
others_cost (LoadAndDelete k) other = refl
others_cost (Delete k) other = refl
others_cost (Swap k v) other = refl
others_cost (CompareAndSwap k old new) other = refl
others_cost (CompareAndDelete k old) other = refl
others_cost Clear other = refl
