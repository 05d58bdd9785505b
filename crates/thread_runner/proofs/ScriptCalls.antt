-- What a workload that was read says of the calls in its scripts.
use Rattle.std.proofs.Common.{◌≡◌, ℕ, zero, suc, ◌+◌, ◌^◌, ◌<◌, Bool, true, false, ◌&&◌, ◌||◌, ◌==◌, cond, List, [], ◌∷◌, length, Option, Some, slice_get, get_or, refl, sym, ap, ◌∙◌, subst, arith}
use Rattle.std.specs.List.{list_all, list_any, flat_map, position_from}
use Rattle.std.specs.Option.{option_map_or, option_to_list}
use Rattle.std.specs.Str.{bytes_eq}
use Rattle.std.proofs.lemmas.Bool.{and_parts, eqb-true, leb-true, false≢true}
use Rattle.std.proofs.lemmas.List.Folds.{list_any-append}
use Rattle.std.proofs.lemmas.Option.{slice_get_within, none-some, same_Some}
use Rattle.std.proofs.lemmas.Slice.Eq.{bytes_eq-Decides}
use Rattle.script_calls.specs.declared.call.Call.{Call}
use Rattle.script_calls.specs.declared.call.Operation.{Operation}
use Rattle.script_calls.specs.declared.call.Operation.TheVariants as operations
use Rattle.sync_types.specs.declared.map_object.MapCall.{MapCall}
use Rattle.sync_types.specs.declared.map_object.MapCall.TheVariants.{Load, Store, LoadOrStore, LoadAndDelete, Delete, Swap, CompareAndSwap, CompareAndDelete, Clear}
use Rattle.sync_types.specs.declared.value.TheConstants.{MAX_VALUE}
use Rattle.sync_types.specs.Name.{is_name}
use Rattle.sync_types.specs.Renaming.{renamed_call}
use Rattle.sync_types.specs.SequentialMap.{map_key}
use Rattle.sync_model.specs.Shared.{IsMapCall, values_of}
use Rattle.workload.specs.declared.object.ObjectLine.{ObjectLine}
use Rattle.workload.specs.CallWords.{map_values}
use Rattle.workload.specs.Draft.{all_keys, is_call, is_map_call, is_value, keys_of, operation_keys}
use Rattle.workload.specs.Keys.{number_in, key_number, map_call_number}
use Rattle.workload.specs.Plan.{Plan, is_on, is_turn, refers, is_valid, starts_dormant}
use Rattle.workload.specs.Readable.{IsReadable}
use Rattle.thread_runner.specs.Sites.{IsScripted}

or_first : (a b : Bool) → a ≡ true → (a || b) ≡ true
or_first true b is = refl
or_first false b is = absurd cc

or_second : (a b : Bool) → b ≡ true → (a || b) ≡ true
or_second true b is = refl
or_second false b is = is

module _ {A : Type 0} where
  pub all_at : (p : A → Bool) (xs : List A) (i : ℕ) (x : A) → list_all p xs ≡ true → slice_get xs i ≡ Some x → p x ≡ true
  all_at p [] i x all at = absurd (none-some x at)
  all_at p (y ∷ ys) zero x all at = ap p (sym (same_Some y x at)) ∙ (and_parts (p y) (list_all p ys) all).0
  all_at p (y ∷ ys) (suc i) x all at = all_at p ys i x (and_parts (p y) (list_all p ys) all).1 at

  -- what one element gives is among what all give
  among_all : {B : Type 0} (f : A → List B) (p : B → Bool) (xs : List A) (i : ℕ) (x : A) → slice_get xs i ≡ Some x → list_any p (f x) ≡ true → list_any p (flat_map f xs) ≡ true
  among_all f p [] i x at any = absurd (none-some x at)
  among_all f p (y ∷ ys) zero x at any = list_any-append p (f y) (flat_map f ys) ∙ or_first (list_any p (f y)) (list_any p (flat_map f ys)) (ap (λ (z : A). list_any p (f z)) (same_Some y x at) ∙ any)
  among_all f p (y ∷ ys) (suc i) x at any = list_any-append p (f y) (flat_map f ys) ∙ or_second (list_any p (f y)) (list_any p (flat_map f ys)) (among_all f p ys i x at any)

  -- a call that stands in a worker's script: the script, and where it stands
  script_at : (scripts : List (List A)) (worker i : ℕ) (x : A) → slice_get (get_or scripts worker []) i ≡ Some x → (script : List A) × (slice_get scripts worker ≡ Some script) × (slice_get script i ≡ Some x)
  script_at [] worker i x at = absurd (none-some x at)
  script_at (script ∷ scripts) zero i x at = (script, refl, at)
  script_at (script ∷ scripts) (suc worker) i x at = script_at scripts worker i x at

-- what is asked of a plan behind the objects of its calls, and behind what its objects refer to
abbrev of_dormant : Plan → Bool
of_dormant plan = (length plan.dormant == plan.workers) && list_all (list_all (λ (c : Call). starts_dormant plan.dormant c.operation)) plan.scripts

abbrev behind_calls : Plan → Bool
behind_calls plan = list_all (is_turn plan.workers) plan.schedule && (list_all (λ (o : ObjectLine). refers plan.objects o.kind) plan.objects && of_dormant plan)

-- a workload that was read has a script for each worker
pub one_script_each : (plan : Plan) → is_valid plan ≡ true → length plan.scripts ≡ plan.workers
one_script_each plan valid =
    let on = list_all (list_all (λ (c : Call). is_on plan.objects (slice_get plan.objects c.object) c)) plan.scripts in
    eqb-true (length plan.scripts) plan.workers (and_parts (length plan.scripts == plan.workers) (on && behind_calls plan) valid).0

-- each call is on an object that has it
pub calls_are_on : (plan : Plan) → is_valid plan ≡ true → list_all (list_all (λ (c : Call). is_on plan.objects (slice_get plan.objects c.object) c)) plan.scripts ≡ true
calls_are_on plan valid =
    let on = list_all (list_all (λ (c : Call). is_on plan.objects (slice_get plan.objects c.object) c)) plan.scripts in
    (and_parts on (behind_calls plan) (and_parts (length plan.scripts == plan.workers) (on && behind_calls plan) valid).1).0

refer_and_wait : (plan : Plan) → is_valid plan ≡ true → (list_all (λ (o : ObjectLine). refers plan.objects o.kind) plan.objects ≡ true) × (of_dormant plan ≡ true)
refer_and_wait plan valid =
    let on = list_all (list_all (λ (c : Call). is_on plan.objects (slice_get plan.objects c.object) c)) plan.scripts in
    let turns = list_all (is_turn plan.workers) plan.schedule in
    let refer = list_all (λ (o : ObjectLine). refers plan.objects o.kind) plan.objects in
    let behind = (and_parts on (behind_calls plan) (and_parts (length plan.scripts == plan.workers) (on && behind_calls plan) valid).1).1 in
    and_parts refer (of_dormant plan) (and_parts turns (refer && of_dormant plan) behind).1

module _ (plan : Plan) (worker : ℕ) (call : Call) (scripted : IsScripted plan worker call) where
  abbrev found : (script : List Call) × (slice_get plan.scripts worker ≡ Some script) × (slice_get script scripted.0 ≡ Some call)
  found = script_at plan.scripts worker scripted.0 call scripted.1

  -- what holds of each call holds of it
  of_each : (p : Call → Bool) → list_all (list_all p) plan.scripts ≡ true → p call ≡ true
  of_each p all = all_at p found.0 scripted.0 call (all_at (list_all p) plan.scripts worker found.0 all found.1) found.2

  pub on_object : is_valid plan ≡ true → is_on plan.objects (slice_get plan.objects call.object) call ≡ true
  on_object valid = of_each (λ c. is_on plan.objects (slice_get plan.objects c.object) c) (calls_are_on plan valid)

  -- the worker that it starts, if it starts one, waits to be started
  pub starts_one : is_valid plan ≡ true → starts_dormant plan.dormant call.operation ≡ true
  starts_one valid =
      let each = list_all (list_all (λ (c : Call). starts_dormant plan.dormant c.operation)) plan.scripts in
      of_each (λ c. starts_dormant plan.dormant c.operation) (and_parts (length plan.dormant == plan.workers) each (refer_and_wait plan valid).1).1

  -- it is a worker of the run
  pub worker_within : is_valid plan ≡ true → worker < plan.workers
  worker_within valid = omega (arith, slice_get_within plan.scripts worker found.0 found.1, one_script_each plan valid)

  pub in_range : IsReadable plan → is_call call ≡ true
  in_range readable = of_each is_call readable.calls

  pub keys_are_known : (name : List ℕ) → list_any (bytes_eq name) (keys_of call) ≡ true → list_any (bytes_eq name) (all_keys plan.scripts) ≡ true
  keys_are_known name any = among_all (flat_map keys_of) (bytes_eq name) plan.scripts worker found.0 found.1 (among_all keys_of (bytes_eq name) found.0 scripted.0 call found.2 any)

-- an object to which another one refers
pub refers_at : (plan : Plan) (place : ℕ) (line : ObjectLine) → is_valid plan ≡ true → slice_get plan.objects place ≡ Some line → refers plan.objects line.kind ≡ true
refers_at plan place line valid at = all_at (λ (o : ObjectLine). refers plan.objects o.kind) plan.objects place line (refer_and_wait plan valid).0 at

-- one of the names has a place among them
position_of : (p : List ℕ → Bool) (from : ℕ) (names : List (List ℕ)) → list_any p names ≡ true → (n : ℕ) × (position_from p from names ≡ Some n)
position_of p from [] any = absurd (false≢true any)
position_of p from (name ∷ names) any =
    elim (p name) as (λ b. (b || list_any p names) ≡ true → (n : ℕ) × (cond b (Some from) (position_from p (from + 1) names) ≡ Some n)) [
      | true ↦ λ t. (from, refl)
      | false ↦ λ rest. position_of p (from + 1) names rest
    ] any

-- the number of a name that is one of the keys
pub number_within : (keys : List (List ℕ)) (name : List ℕ) → ((number : ℕ) → number_in keys name ≡ Some number → slice_get keys number ≡ Some name) → list_any (bytes_eq name) keys ≡ true → key_number keys name < length keys
number_within keys name at any =
    let place = position_of (bytes_eq name) 0 keys any in
    let is : key_number keys name ≡ place.0 = ap (λ (o : Option ℕ). option_map_or (λ n. n) o 0) place.1 in
    omega (arith, slice_get_within keys place.0 name (at place.0 place.1))

-- values that may stand in a text are below 2^63
values_fit : (values : List ℕ) (i value : ℕ) → list_all is_value values ≡ true → slice_get values i ≡ Some value → value < 2 ^ 63
values_fit values i value all at = omega (arith, leb-true value MAX_VALUE (all_at is_value values i value all at))

-- the call with its key's number is the call with its key renamed
pub by_its_number : (keys : List (List ℕ)) (number : ℕ) (call : MapCall (List ℕ)) → number ≡ map_call_number keys call → renamed_call (λ (name : List ℕ). number) call ≡ renamed_call (key_number keys) call
by_its_number keys number (Load name) is = ap (λ (key : ℕ). Load key) is
by_its_number keys number (Store name value) is = ap (λ (key : ℕ). Store key value) is
by_its_number keys number (LoadOrStore name value) is = ap (λ (key : ℕ). LoadOrStore key value) is
by_its_number keys number (LoadAndDelete name) is = ap (λ (key : ℕ). LoadAndDelete key) is
by_its_number keys number (Delete name) is = ap (λ (key : ℕ). Delete key) is
by_its_number keys number (Swap name value) is = ap (λ (key : ℕ). Swap key value) is
by_its_number keys number (CompareAndSwap name old new) is = ap (λ (key : ℕ). CompareAndSwap key old new) is
by_its_number keys number (CompareAndDelete name old) is = ap (λ (key : ℕ). CompareAndDelete key old) is
by_its_number keys number Clear is = refl

module _ (keys : List (List ℕ)) (takes : ℕ → Type 0) (each : (key : ℕ) → key < length keys → takes key) where
  key_taken : (name : List ℕ) (key : ℕ) → key_number keys name < length keys → Some (key_number keys name) ≡ Some key → takes key
  key_taken name key within is = subst takes (same_Some (key_number keys name) key is) (each (key_number keys name) within)

  key_fits : (call : MapCall (List ℕ)) → ((name : List ℕ) → map_key call ≡ Some name → key_number keys name < length keys) → (key : ℕ) → map_key (renamed_call (key_number keys) call) ≡ Some key → takes key
  key_fits (Load name) known key is = key_taken name key (known name refl) is
  key_fits (Store name value) known key is = key_taken name key (known name refl) is
  key_fits (LoadOrStore name value) known key is = key_taken name key (known name refl) is
  key_fits (LoadAndDelete name) known key is = key_taken name key (known name refl) is
  key_fits (Delete name) known key is = key_taken name key (known name refl) is
  key_fits (Swap name value) known key is = key_taken name key (known name refl) is
  key_fits (CompareAndSwap name old new) known key is = key_taken name key (known name refl) is
  key_fits (CompareAndDelete name old) known key is = key_taken name key (known name refl) is
  key_fits Clear known key is = absurd (none-some key is)

  same_values : (call : MapCall (List ℕ)) → values_of (renamed_call (key_number keys) call) ≡ map_values call
  same_values (Load name) = refl
  same_values (Store name value) = refl
  same_values (LoadOrStore name value) = refl
  same_values (LoadAndDelete name) = refl
  same_values (Delete name) = refl
  same_values (Swap name value) = refl
  same_values (CompareAndSwap name old new) = refl
  same_values (CompareAndDelete name old) = refl
  same_values Clear = refl

  pub numbered_fits : (call : MapCall (List ℕ)) → is_map_call call ≡ true → ((name : List ℕ) → map_key call ≡ Some name → key_number keys name < length keys) → IsMapCall takes (renamed_call (key_number keys) call)
  numbered_fits call ranged known = record {
    key = key_fits call known;
    values = λ i value at.
        let ranges = and_parts (list_all is_name (option_to_list (map_key call))) (list_all is_value (map_values call)) ranged in
        values_fit (map_values call) i value ranges.1 (ap (λ (l : List ℕ). slice_get l i) (sym (same_values call)) ∙ at);
  }

-- the key of a map's call is among the operation's
pub key_among : (operation : Operation) (call : MapCall (List ℕ)) (name : List ℕ) → operation ≡ operations.Map call → map_key call ≡ Some name → list_any (bytes_eq name) (operation_keys operation) ≡ true
key_among operation call name is at =
    ap (λ (o : Operation). list_any (bytes_eq name) (operation_keys o)) is ∙ ap (λ (key : Option (List ℕ)). list_any (bytes_eq name) (option_to_list key)) at ∙ or_first (bytes_eq name name) false ((bytes_eq-Decides name name).1 refl)
