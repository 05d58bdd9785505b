-- What calls on maps make of the value at one key.
use Rattle.std.proofs.Common.{◌≡◌, ℕ, Bool, true, false, cond, Option, Some, None, refl, sym, ap, ◌∙◌}
use Rattle.std.specs.Prelude.{is_some, not}
use Rattle.std.specs.Option.{option_map_or}
use Rattle.std.specs.declared.cmp.Ordering.{Ordering}
use Rattle.std.specs.declared.cmp.Ordering.TheVariants.{Less, Equal, Greater}
use Rattle.std.specs.Cmp.{IsTotalOrder}
use Rattle.std.specs.FinMap.{FinMap, get, insert, remove, get-empty, get-insert, get-remove, get_tied}
use Rattle.std.specs.Ordering.{eq_by_cmp, is_eq}
use Rattle.std.proofs.lemmas.Bool.{false≢true}
use Rattle.sync_types.specs.declared.map_object.MapCall.{MapCall}
use Rattle.sync_types.specs.declared.map_object.MapCall.TheVariants.{Load, Store, LoadOrStore, LoadAndDelete, Delete, Swap, CompareAndSwap, CompareAndDelete, Clear}
use Rattle.sync_types.specs.Renaming.{renamed_call}
use Rattle.sync_types.specs.KeyCalls.{key_after}
use Rattle.sync_types.specs.SequentialMap.{has_value, map_after, map_key}

-- what a call leaves at its own key is the same at whatever name the key has
pub value_renamed : {K L : Type 0} (rename : K → L) (call : MapCall K) (was : Option ℕ) → key_after (renamed_call rename call) was ≡ key_after call was
value_renamed rename (Load key) was = refl
value_renamed rename (Store key value) was = refl
value_renamed rename (LoadOrStore key value) was = refl
value_renamed rename (LoadAndDelete key) was = refl
value_renamed rename (Delete key) was = refl
value_renamed rename (Swap key value) was = refl
value_renamed rename (CompareAndSwap key old new) was = refl
value_renamed rename (CompareAndDelete key old) was = refl
value_renamed rename Clear was = refl

pub key_renamed : {K L : Type 0} (rename : K → L) (test : L → Bool) (call : MapCall K) → option_map_or test (map_key (renamed_call rename call)) true ≡ option_map_or (λ key. test (rename key)) (map_key call) true
key_renamed rename test (Load key) = refl
key_renamed rename test (Store key value) = refl
key_renamed rename test (LoadOrStore key value) = refl
key_renamed rename test (LoadAndDelete key) = refl
key_renamed rename test (Delete key) = refl
key_renamed rename test (Swap key value) = refl
key_renamed rename test (CompareAndSwap key old new) = refl
key_renamed rename test (CompareAndDelete key old) = refl
key_renamed rename test Clear = refl

module _ {K : Type 0} {R : K → K → Ordering} (total : IsTotalOrder R) (key : K) where
  -- whether a call is on the key
  abbrev pub is_at : MapCall K → Bool
  is_at call = option_map_or (λ other. eq_by_cmp R key other) (map_key call) true

  -- the value at a key that ties with another is the other's
  tied : (m : FinMap R ℕ) (other : K) → eq_by_cmp R key other ≡ true → get m other ≡ get m key
  tied m other same = get_tied total m key other (equal (R key other) same) where
    equal : (o : Ordering) → is_eq o ≡ true → o ≡ Equal
    equal Less e = absurd (false≢true e)
    equal Equal e = refl
    equal Greater e = absurd (false≢true e)

  inserted : (m : FinMap R ℕ) (other : K) (value : ℕ) → get (insert m other value) key ≡ cond (eq_by_cmp R key other) (Some value) (get m key)
  inserted m other value = get-insert total m other value key

  removed : (m : FinMap R ℕ) (other : K) → get (remove m other) key ≡ cond (eq_by_cmp R key other) None (get m key)
  removed m other = get-remove total m other key

  same_both : (b : Bool) (v : Option ℕ) → v ≡ cond b v v
  same_both true v = refl
  same_both false v = refl

  -- a choice between two maps, by what is at the other key
  chosen : (b : Bool) (m n : FinMap R ℕ) → get (cond b m n) key ≡ cond b (get m key) (get n key)
  chosen true m n = refl
  chosen false m n = refl

  abbrev is_none : Option ℕ → Bool
  is_none v = not (is_some v)

  turned : (b : Bool) (v w : Option ℕ) → cond b v w ≡ cond (not b) w v
  turned true v w = refl
  turned false v w = refl

  -- a change that is made where a test of what is at the other key passes
  by_key : (test : Option ℕ → Bool) (new : Option ℕ) (m : FinMap R ℕ) (other : K)
      → cond (test (get m other)) (cond (eq_by_cmp R key other) new (get m key)) (get m key) ≡ cond (eq_by_cmp R key other) (cond (test (get m key)) new (get m key)) (get m key)
  by_key test new m other = either (eq_by_cmp R key other) (λ same. tied m other same) where
    either : (b : Bool) → (b ≡ true → get m other ≡ get m key) → cond (test (get m other)) (cond b new (get m key)) (get m key) ≡ cond b (cond (test (get m key)) new (get m key)) (get m key)
    either true same = ap (λ (v : Option ℕ). cond (test v) new (get m key)) (same refl)
    either false same = sym (same_both (test (get m other)) (get m key))

  -- what a call leaves at the key
  pub key_left : (call : MapCall K) (m : FinMap R ℕ) → get (map_after call m) key ≡ cond (is_at call) (key_after call (get m key)) (get m key)
  key_left (Load other) m = same_both (eq_by_cmp R key other) (get m key)
  key_left (Store other value) m = inserted m other value
  key_left (LoadOrStore other value) m = chosen (is_some (get m other)) m (insert m other value) ∙ (ap (cond (is_some (get m other)) (get m key)) (inserted m other value)
      ∙ (turned (is_some (get m other)) (get m key) _ ∙ (by_key is_none (Some value) m other ∙ ap (λ (v : Option ℕ). cond (eq_by_cmp R key other) v (get m key)) (sym (turned (is_some (get m key)) (get m key) (Some value))))))
  key_left (LoadAndDelete other) m = removed m other
  key_left (Delete other) m = removed m other
  key_left (Swap other value) m = inserted m other value
  key_left (CompareAndSwap other old new) m = chosen (has_value old (get m other)) (insert m other new) m ∙ (ap (λ (v : Option ℕ). cond (has_value old (get m other)) v (get m key)) (inserted m other new) ∙ by_key (has_value old) (Some new) m other)
  key_left (CompareAndDelete other old) m = chosen (has_value old (get m other)) (remove m other) m ∙ (ap (λ (v : Option ℕ). cond (has_value old (get m other)) v (get m key)) (removed m other) ∙ by_key (has_value old) None m other)
  key_left Clear m = get-empty R key
