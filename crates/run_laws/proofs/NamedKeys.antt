-- The keys of a workload by name and by number.
use Rattle.std.proofs.Common.{◌≡◌, inl, inr, ℕ, zero, suc, ◌==◌, Bool, true, false, ◌||◌, List, [], ◌∷◌, Option, Some, slice_get, refl, sym, ap, ◌∙◌}
use Rattle.std.specs.List.{list_any, flat_map}
use Rattle.std.specs.Option.{option_to_list}
use Rattle.std.specs.Str.{bytes_eq}
use Rattle.std.proofs.lemmas.Bool.{false≢true, cases_Bool, eq-eqb, ne_eqb}
use Rattle.std.proofs.lemmas.List.Folds.{list_any-append}
use Rattle.std.proofs.lemmas.Option.{none-some, same_Some}
use Rattle.std.proofs.lemmas.Slice.Eq.{bytes_eq-Decides}
use Rattle.script_calls.specs.declared.call.Call.{Call}
use Rattle.script_calls.specs.declared.call.Operation.{Operation}
use Rattle.script_calls.specs.declared.call.Operation.TheVariants as operations
use Rattle.sync_types.specs.declared.map_object.MapCall.{MapCall}
use Rattle.sync_types.specs.SequentialMap.{map_key}
use Rattle.workload.specs.Draft.{all_keys, keys_of, operation_keys}
use Rattle.workload.specs.Keys.{keys_in, key_number, key_name}

pub or_first : (a b : Bool) → a ≡ true → (a || b) ≡ true
or_first true b is = refl
or_first false b is = absurd (false≢true is)

pub or_second : (a b : Bool) → b ≡ true → (a || b) ≡ true
or_second true b is = refl
or_second false b is = is

pub same_bytes : (name : List ℕ) → bytes_eq name name ≡ true
same_bytes name = (bytes_eq-Decides name name).1 refl

among_all : {A B : Type 0} (f : A → List B) (p : B → Bool) (xs : List A) (i : ℕ) (x : A) → slice_get xs i ≡ Some x → list_any p (f x) ≡ true → list_any p (flat_map f xs) ≡ true
among_all f p [] i x at any = absurd (none-some x at)
among_all {A} f p (y ∷ ys) zero x at any = list_any-append p (f y) (flat_map f ys) ∙ or_first (list_any p (f y)) (list_any p (flat_map f ys)) (ap (λ (z : A). list_any p (f z)) (same_Some y x at) ∙ any)
among_all f p (y ∷ ys) (suc i) x at any = list_any-append p (f y) (flat_map f ys) ∙ or_second (list_any p (f y)) (list_any p (flat_map f ys)) (among_all f p ys i x at any)

-- the key of a call of a script is one of the workload's
pub key_of_call : (scripts : List (List Call)) (worker i : ℕ) (script : List Call) (call : Call) (m : MapCall (List ℕ)) (name : List ℕ) → slice_get scripts worker ≡ Some script → slice_get script i ≡ Some call
    → call.operation ≡ operations.Map m → map_key m ≡ Some name → list_any (bytes_eq name) (all_keys scripts) ≡ true
key_of_call scripts worker i script call m name in_scripts in_script asks key = among_all (flat_map keys_of) (bytes_eq name) scripts worker script in_scripts (among_all keys_of (bytes_eq name) script i call in_script
    (ap (λ (o : Operation). list_any (bytes_eq name) (operation_keys o)) asks ∙ (ap (λ (k : Option (List ℕ)). list_any (bytes_eq name) (option_to_list k)) key ∙ or_first (bytes_eq name name) false (same_bytes name))))

module _ (scripts : List (List Call)) (named : (name : List ℕ) → list_any (bytes_eq name) (all_keys scripts) ≡ true → key_name (keys_in scripts) (key_number (keys_in scripts) name) ≡ name) where
  -- two keys have one number exactly where they are one
  pub one_number : (key other : List ℕ) → list_any (bytes_eq key) (all_keys scripts) ≡ true → list_any (bytes_eq other) (all_keys scripts) ≡ true
      → (key_number (keys_in scripts) other == key_number (keys_in scripts) key) ≡ bytes_eq key other
  one_number key other known too = elim (cases_Bool (bytes_eq key other)) [
    | inl e ↦ eq-eqb (key_number (keys_in scripts) other) (key_number (keys_in scripts) key) (ap (key_number (keys_in scripts)) (sym ((bytes_eq-Decides key other).0 e))) ∙ sym e
    | inr e ↦ ne_eqb (key_number (keys_in scripts) other) (key_number (keys_in scripts) key) (λ same. false≢true (sym e ∙ (bytes_eq-Decides key other).1 (sym (named key known) ∙ (ap (key_name (keys_in scripts)) (sym same) ∙ named other too)))) ∙ sym e
  ]
