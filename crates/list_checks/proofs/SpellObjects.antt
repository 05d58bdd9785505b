-- That what a workload's objects and calls refer to is there.
use Rattle.std.proofs.Common.{◌≡◌, ℕ, zero, suc, ◌<◌, Bool, true, false, ◌&&◌, ◌==◌, cond, List, [], ◌∷◌, length, Option, Some, None, slice_get, refl, ◌∙◌, subst}
use Rattle.std.specs.List.{list_all}
use Rattle.std.specs.Option.{option_map_or}
use Rattle.std.proofs.lemmas.Bool.{and_parts, false≢true}
use Rattle.std.proofs.lemmas.Option.{none-some, same_Some, slice_get_within}
use Rattle.script_calls.specs.Starts.{group_in, group_of, group_or, starts}
use Rattle.script_calls.specs.declared.call.Call.{Call}
use Rattle.workload.specs.Plan.{Plan, is_on, is_target, is_turn, is_valid, refers, starts_dormant}
use Rattle.workload.specs.declared.object.ObjectKind.TheVariants as kinds
use Rattle.workload.specs.declared.object.ObjectLine.{ObjectLine}

each : {X : Type 0} (p : X → Bool) (xs : List X) (i : ℕ) (x : X) → list_all p xs ≡ true → slice_get xs i ≡ Some x → p x ≡ true
each p [] i x all at = absurd (none-some x at)
each p (y ∷ xs) zero x all at = subst (λ z. p z ≡ true) (same_Some y x at) (and_parts (p y) (list_all p xs) all).0
each p (y ∷ xs) (suc i) x all at = each p xs i x (and_parts (p y) (list_all p xs) all).1 at

-- what a plan that is valid says of its objects, and of its calls
module _ (plan : Plan) (valid : is_valid plan ≡ true) where
  abbrev calls_are : Bool
  calls_are = list_all (list_all (λ call. is_on plan.objects (slice_get plan.objects call.object) call)) plan.scripts

  abbrev turns_are : Bool
  turns_are = list_all (is_turn plan.workers) plan.schedule

  abbrev objects_are : Bool
  objects_are = list_all (λ object. refers plan.objects object.kind) plan.objects

  abbrev dormant_are : Bool
  dormant_are = (length plan.dormant == plan.workers) && list_all (list_all (λ call. starts_dormant plan.dormant call.operation)) plan.scripts

  all_calls : (calls_are ≡ true) × ((turns_are && (objects_are && dormant_are)) ≡ true)
  all_calls = and_parts calls_are (turns_are && (objects_are && dormant_are)) (and_parts (length plan.scripts == plan.workers) (calls_are && (turns_are && (objects_are && dormant_are))) valid).1

  pub each_refers : (place : ℕ) (object : ObjectLine) → slice_get plan.objects place ≡ Some object → refers plan.objects object.kind ≡ true
  each_refers place object at =
      each (λ object. refers plan.objects object.kind) plan.objects place object (and_parts objects_are dormant_are (and_parts turns_are (objects_are && dormant_are) all_calls.1).1).0 at

  there : (place : ℕ) (found : Option ObjectLine) (call : Call) → slice_get plan.objects place ≡ found → is_on plan.objects found call ≡ true → place < length plan.objects
  there place None call at is = absurd (false≢true is)
  there place (Some object) call at is = slice_get_within plan.objects place object at

  in_script : (worker : ℕ) (script : List Call) (group : ℕ) → list_all (λ call. is_on plan.objects (slice_get plan.objects call.object) call) script ≡ true → group_in worker script ≡ Some group → group < length plan.objects
  in_script worker [] group all is = absurd (none-some group is)
  in_script worker (call ∷ script) group all is =
      let parts = and_parts (is_on plan.objects (slice_get plan.objects call.object) call) (list_all (λ call. is_on plan.objects (slice_get plan.objects call.object) call) script) all in
      by (there call.object (slice_get plan.objects call.object) call refl parts.0) (λ same. in_script worker script group parts.1 same) (starts worker call) is
    where
      by : call.object < length plan.objects → (group_in worker script ≡ Some group → group < length plan.objects) → (starts : Bool) → cond starts (Some call.object) (group_in worker script) ≡ Some group → group < length plan.objects
      by here later true same = subst (λ place. place < length plan.objects) (same_Some call.object group same) here
      by here later false same = later same

  in_scripts : (worker : ℕ) (scripts : List (List Call)) (group : ℕ) → list_all (list_all (λ call. is_on plan.objects (slice_get plan.objects call.object) call)) scripts ≡ true → group_of worker scripts ≡ Some group → group < length plan.objects
  in_scripts worker [] group all is = absurd (none-some group is)
  in_scripts worker (script ∷ scripts) group all is =
      let parts = and_parts (list_all (λ call. is_on plan.objects (slice_get plan.objects call.object) call) script) (list_all (list_all (λ call. is_on plan.objects (slice_get plan.objects call.object) call)) scripts) all in
      by (λ same. in_script worker script group parts.0 same) (λ same. in_scripts worker scripts group parts.1 same) (group_in worker script) refl is
    where
      by : (group_in worker script ≡ Some group → group < length plan.objects) → (group_of worker scripts ≡ Some group → group < length plan.objects) → (found : Option ℕ) → group_in worker script ≡ found → group_or found (group_of worker scripts) ≡ Some group → group < length plan.objects
      by here later None at same = later same
      by here later (Some other) at same = here (at ∙ same)

  pub group_there : (worker group : ℕ) → group_of worker plan.scripts ≡ Some group → group < length plan.objects
  group_there worker group is = in_scripts worker plan.scripts group all_calls.0 is

-- the mutex of a cond
pub mutex_there : (objects : List ObjectLine) (mutex : ℕ) → refers objects (kinds.Cond mutex) ≡ true → mutex < length objects
mutex_there objects mutex is = by (slice_get objects mutex) refl is where
  by : (found : Option ObjectLine) → slice_get objects mutex ≡ found → option_map_or (λ object. is_target (kinds.Cond mutex) object.kind) found false ≡ true → mutex < length objects
  by None at same = absurd (false≢true same)
  by (Some object) at same = slice_get_within objects mutex object at
