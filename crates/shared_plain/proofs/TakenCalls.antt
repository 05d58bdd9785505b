-- Calls that maps take.
use Rattle.std.proofs.Common.{◌≡◌, ℕ, zero, suc, ◌<◌, ◌≤◌, ◌^◌, Bool, true, false, ◌&&◌, [], ◌∷◌, Some, slice_get, refl, subst, arith}
use Rattle.std.specs.Prelude.{nat_lt}
use Rattle.std.proofs.lemmas.Bool.{ltb-true, lt-ltb}
use Rattle.std.proofs.lemmas.Option.{same_Some}
use Rattle.sync_types.specs.declared.map_object.MapCall.{MapCall}
use Rattle.sync_types.specs.declared.map_object.MapCall.TheVariants.{Load, Store, LoadOrStore, LoadAndDelete, Delete, Swap, CompareAndSwap, CompareAndDelete, Clear}
use Rattle.sync_model.specs.Shared.{IsMapCall, cost_of}
use Rattle.shared_plain.specs.Fits.{is_in_range, is_taken}

both : (a b : Bool) → (a && b) ≡ true → (a ≡ true) × (b ≡ true)
both true b e = (refl, e)
both false b e = (cc)

below : (keys key : ℕ) → nat_lt key keys ≡ true → (other : ℕ) → Some key ≡ Some other → other < keys
below keys key is other e = subst (λ (k : ℕ). k < keys) (same_Some key other e) (ltb-true key keys is)

one_value : (x : ℕ) → is_in_range x ≡ true → (i value : ℕ) → slice_get (x ∷ []) i ≡ Some value → value < 2 ^ 63
one_value x is zero value e = below (2 ^ 63) x is value e
one_value x is (suc i) value e = (cc)

two_values : (x y : ℕ) → is_in_range x ≡ true → is_in_range y ≡ true → (i value : ℕ) → slice_get (x ∷ y ∷ []) i ≡ Some value → value < 2 ^ 63
two_values x y is_x is_y zero value e = below (2 ^ 63) x is_x value e
two_values x y is_x is_y (suc i) value e = one_value y is_y i value e

pub taken : (keys : ℕ) (call : MapCall ℕ) → is_taken keys call ≡ true → IsMapCall (λ key. key < keys) call
taken keys (Load key) is = record { key = below keys key is; values = λ i value e. (cc) }
taken keys (Store key value) is = let b = both _ _ is in record { key = below keys key b.0; values = one_value value b.1 }
taken keys (LoadOrStore key value) is = let b = both _ _ is in record { key = below keys key b.0; values = one_value value b.1 }
taken keys (LoadAndDelete key) is = record { key = below keys key is; values = λ i value e. (cc) }
taken keys (Delete key) is = record { key = below keys key is; values = λ i value e. (cc) }
taken keys (Swap key value) is = let b = both _ _ is in record { key = below keys key b.0; values = one_value value b.1 }
taken keys (CompareAndSwap key old new) is = let b = both _ _ is in let v = both _ _ b.1 in record { key = below keys key b.0; values = two_values old new v.0 v.1 }
taken keys (CompareAndDelete key old) is = let b = both _ _ is in record { key = below keys key b.0; values = one_value old b.1 }
taken keys Clear is = record { key = λ key e. (cc); values = λ i value e. (cc) }

either : (a b : Bool) → a ≡ true → b ≡ true → (a && b) ≡ true
either true b is_a is_b = is_b
either false b is_a is_b = (cc)

pub all_taken : (keys : ℕ) (call : MapCall ℕ) → IsMapCall (λ key. key < keys) call → is_taken keys call ≡ true
all_taken keys (Load key) is = lt-ltb key keys (is.key key refl)
all_taken keys (Store key value) is = either _ _ (lt-ltb key keys (is.key key refl)) (lt-ltb value (2 ^ 63) (is.values 0 value refl))
all_taken keys (LoadOrStore key value) is = either _ _ (lt-ltb key keys (is.key key refl)) (lt-ltb value (2 ^ 63) (is.values 0 value refl))
all_taken keys (LoadAndDelete key) is = lt-ltb key keys (is.key key refl)
all_taken keys (Delete key) is = lt-ltb key keys (is.key key refl)
all_taken keys (Swap key value) is = either _ _ (lt-ltb key keys (is.key key refl)) (lt-ltb value (2 ^ 63) (is.values 0 value refl))
all_taken keys (CompareAndSwap key old new) is = either _ _ (lt-ltb key keys (is.key key refl)) (either _ _ (lt-ltb old (2 ^ 63) (is.values 0 old refl)) (lt-ltb new (2 ^ 63) (is.values 1 new refl)))
all_taken keys (CompareAndDelete key old) is = either _ _ (lt-ltb key keys (is.key key refl)) (lt-ltb old (2 ^ 63) (is.values 0 old refl))
all_taken keys Clear is = refl

-- no call takes more than one spare entry
pub cost_small : (call : MapCall ℕ) → cost_of call ≤ 1
cost_small (Load key) = omega arith
cost_small (Store key value) = omega arith
cost_small (LoadOrStore key value) = omega arith
cost_small (LoadAndDelete key) = omega arith
cost_small (Delete key) = omega arith
cost_small (Swap key value) = omega arith
cost_small (CompareAndSwap key old new) = omega arith
cost_small (CompareAndDelete key old) = omega arith
cost_small Clear = omega arith
