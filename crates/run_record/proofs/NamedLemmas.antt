-- Each call of a script on a map is by a key that the workload has.
use Rattle.std.proofs.Common.{◌≡◌, ℕ, zero, suc, ◌+◌, ◌<◌, Bool, true, false, ◌||◌, cond, List, [], ◌∷◌, length, Option, Some, slice_get, get_or, refl, ap, ◌∙◌, subst, arith}
use Rattle.std.specs.List.{list_any, flat_map, position_from}
use Rattle.std.specs.Option.{option_map_or, option_to_list}
use Rattle.std.specs.Str.{bytes_eq}
use Rattle.std.proofs.lemmas.Bool.{false≢true}
use Rattle.std.proofs.lemmas.List.Folds.{list_any-append}
use Rattle.std.proofs.lemmas.Option.{slice_get_within, none-some, same_Some}
use Rattle.std.proofs.lemmas.Slice.Eq.{bytes_eq-Decides}
use Rattle.script_calls.specs.declared.call.Call.{Call}
use Rattle.script_calls.specs.declared.call.Operation.{Operation}
use Rattle.script_calls.specs.declared.call.Operation.TheVariants as operations
use Rattle.sync_types.specs.declared.map_object.MapCall.{MapCall}
use Rattle.sync_types.specs.declared.map_object.MapCall.TheVariants.{Load, Store, LoadOrStore, LoadAndDelete, Delete, Swap, CompareAndSwap, CompareAndDelete, Clear}
use Rattle.sync_types.specs.Renaming.{renamed_call}
use Rattle.sync_types.specs.SequentialMap.{map_key}
use Rattle.workload.specs.Draft.{all_keys, keys_of, operation_keys}
use Rattle.workload.specs.Keys.{keys_in, number_in, key_number}
use Rattle.workload.specs.Plan.{Plan}
use Rattle.run_record.proofs.PairLemmas.{IsNamed}

or_first : (a b : Bool) → a ≡ true → (a || b) ≡ true
or_first true b is = refl
or_first false b is = absurd cc

or_second : (a b : Bool) → b ≡ true → (a || b) ≡ true
or_second true b is = refl
or_second false b is = is

module _ {A : Type 0} where
  among_all : {B : Type 0} (f : A → List B) (p : B → Bool) (xs : List A) (i : ℕ) (x : A) → slice_get xs i ≡ Some x → list_any p (f x) ≡ true → list_any p (flat_map f xs) ≡ true
  among_all f p [] i x at any = absurd (none-some x at)
  among_all f p (y ∷ ys) zero x at any = list_any-append p (f y) (flat_map f ys) ∙ or_first (list_any p (f y)) (list_any p (flat_map f ys)) (ap (λ (z : A). list_any p (f z)) (same_Some y x at) ∙ any)
  among_all f p (y ∷ ys) (suc i) x at any = list_any-append p (f y) (flat_map f ys) ∙ or_second (list_any p (f y)) (list_any p (flat_map f ys)) (among_all f p ys i x at any)

  script_at : (scripts : List (List A)) (worker i : ℕ) (x : A) → slice_get (get_or scripts worker []) i ≡ Some x → (script : List A) × (slice_get scripts worker ≡ Some script) × (slice_get script i ≡ Some x)
  script_at [] worker i x at = absurd (none-some x at)
  script_at (script ∷ scripts) zero i x at = (script, refl, at)
  script_at (script ∷ scripts) (suc worker) i x at = script_at scripts worker i x at

position_of : (p : List ℕ → Bool) (from : ℕ) (names : List (List ℕ)) → list_any p names ≡ true → (n : ℕ) × (position_from p from names ≡ Some n)
position_of p from [] any = absurd (false≢true any)
position_of p from (name ∷ names) any =
    elim (p name) as (λ b. (b || list_any p names) ≡ true → (n : ℕ) × (cond b (Some from) (position_from p (from + 1) names) ≡ Some n)) [
      | true ↦ λ t. (from, refl)
      | false ↦ λ rest. position_of p (from + 1) names rest
    ] any

-- the number of a name that is one of the keys
number_within : (keys : List (List ℕ)) (name : List ℕ) → ((number : ℕ) → number_in keys name ≡ Some number → slice_get keys number ≡ Some name) → list_any (bytes_eq name) keys ≡ true → key_number keys name < length keys
number_within keys name at any =
    let place = position_of (bytes_eq name) 0 keys any in
    let is : key_number keys name ≡ place.0 = ap (λ (o : Option ℕ). option_map_or (λ n. n) o 0) place.1 in
    omega (arith, slice_get_within keys place.0 name (at place.0 place.1))

module _ (keys : List (List ℕ)) where
  numbered : (name : List ℕ) (key : ℕ) → key_number keys name < length keys → Some (key_number keys name) ≡ Some key → key < length keys
  numbered name key within is = subst (λ n. n < length keys) (same_Some (key_number keys name) key is) within

  key_of : (call : MapCall (List ℕ)) → ((name : List ℕ) → map_key call ≡ Some name → key_number keys name < length keys) → (key : ℕ) → map_key (renamed_call (key_number keys) call) ≡ Some key → key < length keys
  key_of (Load name) known key is = numbered name key (known name refl) is
  key_of (Store name value) known key is = numbered name key (known name refl) is
  key_of (LoadOrStore name value) known key is = numbered name key (known name refl) is
  key_of (LoadAndDelete name) known key is = numbered name key (known name refl) is
  key_of (Delete name) known key is = numbered name key (known name refl) is
  key_of (Swap name value) known key is = numbered name key (known name refl) is
  key_of (CompareAndSwap name old new) known key is = numbered name key (known name refl) is
  key_of (CompareAndDelete name old) known key is = numbered name key (known name refl) is
  key_of Clear known key is = absurd (none-some key is)

key_among : (operation : Operation) (call : MapCall (List ℕ)) (name : List ℕ) → operation ≡ operations.Map call → map_key call ≡ Some name → list_any (bytes_eq name) (operation_keys operation) ≡ true
key_among operation call name is at =
    ap (λ (o : Operation). list_any (bytes_eq name) (operation_keys o)) is ∙ ap (λ (key : Option (List ℕ)). list_any (bytes_eq name) (option_to_list key)) at ∙ or_first (bytes_eq name name) false ((bytes_eq-Decides name name).1 refl)

-- the calls of a script
pub scripted_named : (plan : Plan) → ((name : List ℕ) → list_any (bytes_eq name) (keys_in plan.scripts) ≡ list_any (bytes_eq name) (all_keys plan.scripts))
    → ((name : List ℕ) (number : ℕ) → number_in (keys_in plan.scripts) name ≡ Some number → slice_get (keys_in plan.scripts) number ≡ Some name)
    → (worker i : ℕ) (call : Call) → slice_get (get_or plan.scripts worker []) i ≡ Some call → IsNamed plan call
scripted_named plan among number worker i call at m op is key has = key_of (keys_in plan.scripts) op known key has where
  known : (name : List ℕ) → map_key op ≡ Some name → key_number (keys_in plan.scripts) name < length (keys_in plan.scripts)
  known name found =
      let script = script_at plan.scripts worker i call at in
      let any = among_all (flat_map keys_of) (bytes_eq name) plan.scripts worker script.0 script.1 (among_all keys_of (bytes_eq name) script.0 i call script.2 (key_among call.operation op name is found)) in
      number_within (keys_in plan.scripts) name (number name) (among name ∙ any)
