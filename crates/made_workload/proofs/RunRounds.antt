-- The scripts of a seed, round by round: each keeps its lock, adds to its int64, and uses keys of its own.
use Rattle.std.proofs.Common.{◌≡◌, ◌⊎◌, inl, inr, ℕ, zero, suc, ◌<◌, ◌==◌, ◌/◌, ◌%◌, Bool, true, false, ◌||◌, cond, List, [], ◌∷◌, map, Option, Some, None, slice_get, refl, sym, ap, ◌∙◌}
use Rattle.std.specs.Prelude.{◌&&◌, nat_lt, is_some, unwrap_or, codes}
use Rattle.std.specs.List.{list_all, list_any, flat_map, range_with_len}
use Rattle.std.specs.Option.{option_map_or, option_to_list}
use Rattle.std.specs.Str.{bytes_eq}
use Rattle.std.proofs.lemmas.Bool.{false≢true, cases_Bool, and_parts, or_cases}
use Rattle.std.proofs.lemmas.List.Folds.{list_any-append}
use Rattle.std.proofs.lemmas.Option.{none-some, same_Some, slice_get_within}
use Rattle.sync_types.specs.declared.atomic_object.AtomicKind.TheVariants as types
use Rattle.script_calls.specs.declared.call.Call.{Call}
use Rattle.script_calls.specs.declared.call.Operation.{Operation}
use Rattle.script_calls.specs.declared.call.Operation.TheVariants as operations
use Rattle.script_calls.specs.Runs.{has_test, have_tests}
use Rattle.sync_types.specs.declared.map_object.MapCall.TheVariants.{Load, Store, Delete}
use Rattle.sync_types.specs.SequentialMap.{map_key}
use Rattle.workload.specs.declared.object.ObjectKind.{ObjectKind}
use Rattle.workload.specs.declared.object.ObjectKind.TheVariants as kinds
use Rattle.workload.specs.declared.object.ObjectLine.{ObjectLine}
use Rattle.workload.specs.Draft.{keys_of, operation_keys}
use Rattle.run_laws.specs.Adds.{is_add, IsOnlyAddedTo}
use Rattle.run_laws.specs.Locks.{has_plain_objects, keeps_lock, KeepsItsLocks}
use Rattle.run_laws.specs.Owners.{is_on_name, uses_key, AreApart}
use Rattle.made_workload.specs.Generated.{in_twos, key_of, drawn_for, round, script_by, generated_objects, generated_plan}

pub objects_are : (seed : ℕ) → (generated_plan seed).objects ≡ generated_objects
unfolding generated_plan
objects_are seed = refl

-- the workers' scripts
abbrev pub script_of_worker : ℕ → ℕ → List Call
script_of_worker seed worker = script_by worker (drawn_for seed worker)

pub scripts_are : (seed : ℕ) → (generated_plan seed).scripts ≡ map (script_of_worker seed) (range_with_len 0 8)
unfolding generated_plan
scripts_are seed = refl

-- a test that each script passes
pub all_scripts : (p : List Call → Bool) (seed : ℕ) → ((worker : ℕ) (words : List (ℕ × ℕ)) → p (flat_map (round worker) words) ≡ true) → list_all p (generated_plan seed).scripts ≡ true
all_scripts p seed passes = ap (list_all p) (scripts_are seed) ∙ each (range_with_len 0 8) where
  each : (workers : List ℕ) → list_all p (map (script_of_worker seed) workers) ≡ true
  each [] = refl
  each (worker ∷ workers) = ap (λ (b : Bool). b && list_all p (map (script_of_worker seed) workers)) (passes worker (in_twos (drawn_for seed worker))) ∙ each workers

-- no call may pass others over
tests_none : (worker : ℕ) (words : List (ℕ × ℕ)) → has_test (flat_map (round worker) words) ≡ false
tests_none worker [] = refl
tests_none worker (pair ∷ words) = tests_none worker words

pub no_tests : (seed : ℕ) → have_tests (generated_plan seed).scripts ≡ false
no_tests seed = ap have_tests (scripts_are seed) ∙ each (range_with_len 0 8) where
  each : (workers : List ℕ) → have_tests (map (script_of_worker seed) workers) ≡ false
  each [] = refl
  each (worker ∷ workers) = ap (λ (b : Bool). b || have_tests (map (script_of_worker seed) workers)) (tests_none worker (in_twos (drawn_for seed worker))) ∙ each workers

keeps_lock_rounds : (worker : ℕ) (words : List (ℕ × ℕ)) → keeps_lock 0 false (flat_map (round worker) words) ≡ true
keeps_lock_rounds worker [] = refl
keeps_lock_rounds worker (pair ∷ words) = keeps_lock_rounds worker words

adds_rounds : (worker : ℕ) (words : List (ℕ × ℕ)) → list_all (λ call. cond (call.object == 1) (is_add call.operation) true) (flat_map (round worker) words) ≡ true
adds_rounds worker [] = refl
adds_rounds worker (pair ∷ words) = adds_rounds worker words

pub plain : (seed : ℕ) → has_plain_objects (generated_plan seed) ≡ true
plain seed = ap (list_all _) (objects_are seed)

pub keeps : (seed : ℕ) → KeepsItsLocks (generated_plan seed)
keeps seed = record { plain = plain seed; locks = λ place object at kind. at_place place object (ap (λ (l : List ObjectLine). slice_get l place) (sym (objects_are seed)) ∙ at) kind } where
  is_mutex : ObjectKind → Bool
  is_mutex kinds.Mutex = true
  is_mutex kind = false

  at_place : (place : ℕ) (object : ObjectLine) → slice_get generated_objects place ≡ Some object → object.kind ≡ kinds.Mutex → list_all (keeps_lock place false) (generated_plan seed).scripts ≡ true
  at_place zero object at kind = all_scripts (keeps_lock 0 false) seed keeps_lock_rounds
  at_place (suc zero) object at kind = absurd (false≢true (ap (λ (o : Option ObjectLine). is_mutex (unwrap_or o object).kind) at ∙ ap is_mutex kind))
  at_place (suc (suc zero)) object at kind = absurd (false≢true (ap (λ (o : Option ObjectLine). is_mutex (unwrap_or o object).kind) at ∙ ap is_mutex kind))
  at_place (suc (suc (suc place))) object at kind = absurd (none-some object at)

pub only_adds : (seed : ℕ) → IsOnlyAddedTo (generated_plan seed) 1
only_adds seed = record { plain = plain seed; adds = all_scripts (list_all (λ call. cond (call.object == 1) (is_add call.operation) true)) seed adds_rounds }

-- an operation on a map has a key
abbrev has_key : Operation → Bool
has_key (operations.Map op) = is_some (map_key op)
has_key operation = true

keyed_call : (b c : Bool) (key : List ℕ) (value : ℕ) → is_some (map_key (cond b (Store key value) (cond c (Load key) (Delete key)))) ≡ true
keyed_call true c key value = refl
keyed_call false true key value = refl
keyed_call false false key value = refl

keyed_rounds : (worker : ℕ) (words : List (ℕ × ℕ)) → list_all (λ call. has_key call.operation) (flat_map (round worker) words) ≡ true
keyed_rounds worker [] = refl
keyed_rounds worker (pair ∷ words) = ap (λ (b : Bool). b && list_all (λ call. has_key call.operation) (flat_map (round worker) words)) (keyed_call (nat_lt (pair.1 % 4) 2) (pair.1 % 4 == 2) (key_of worker (pair.1 / 4 % 64)) (pair.1 / 256)) ∙ keyed_rounds worker words

-- a script that uses a key has it among its keys
used_is_key : (key : List ℕ) (b : Bool) (operation : Operation) → has_key operation ≡ true → (b && is_on_name key operation) ≡ true → list_any (bytes_eq key) (operation_keys operation) ≡ true
used_is_key key false operation keyed uses = absurd (false≢true uses)
used_is_key key true (operations.Map op) keyed uses = by_key (map_key op) keyed uses where
  by_key : (o : Option (List ℕ)) → is_some o ≡ true → option_map_or (bytes_eq key) o true ≡ true → list_any (bytes_eq key) (option_to_list o) ≡ true
  by_key (Some name) keyed uses = ap (λ (b : Bool). b || false) uses
  by_key None keyed uses = absurd (false≢true keyed)
used_is_key key true operation keyed uses = absurd (false≢true uses)

used_are_keys : (key : List ℕ) (script : List Call) → list_all (λ call. has_key call.operation) script ≡ true → list_any (uses_key 2 key) script ≡ true → list_any (bytes_eq key) (flat_map keys_of script) ≡ true
used_are_keys key [] keyed uses = absurd (false≢true uses)
used_are_keys key (call ∷ script) keyed uses =
    let both = and_parts (has_key call.operation) (list_all (λ (c : Call). has_key c.operation) script) keyed in
    list_any-append (bytes_eq key) (keys_of call) (flat_map keys_of script) ∙ by_call (or_cases (uses_key 2 key call) (list_any (uses_key 2 key) script) uses) both.0 (used_are_keys key script both.1) where
      either_first : (a b : Bool) → a ≡ true → (a || b) ≡ true
      either_first true b is = refl
      either_first false b is = absurd (false≢true is)

      either_second : (a b : Bool) → b ≡ true → (a || b) ≡ true
      either_second true b is = refl
      either_second false b is = is

      by_call : (uses_key 2 key call ≡ true) ⊎ (list_any (uses_key 2 key) script ≡ true) → has_key call.operation ≡ true → (list_any (uses_key 2 key) script ≡ true → list_any (bytes_eq key) (flat_map keys_of script) ≡ true)
          → (list_any (bytes_eq key) (keys_of call) || list_any (bytes_eq key) (flat_map keys_of script)) ≡ true
      by_call (inl here) keyed rest = either_first _ _ (used_is_key key (call.object == 2) call.operation keyed here)
      by_call (inr later) keyed rest = either_second (list_any (bytes_eq key) (keys_of call)) _ (rest later)

-- each of the scripts is a worker's
script_is : (scripts : (seed worker : ℕ) → worker < 8 → slice_get (generated_plan seed).scripts worker ≡ Some (script_of_worker seed worker)) (seed : ℕ) (worker : ℕ) (script : List Call) → slice_get (generated_plan seed).scripts worker ≡ Some script → (worker < 8) × (script_of_worker seed worker ≡ script)
script_is scripts seed worker script at = (within, same) where
  mapped : slice_get (map (script_of_worker seed) (range_with_len 0 8)) worker ≡ Some script
  mapped = ap (λ (l : List (List Call)). slice_get l worker) (sym (scripts_are seed)) ∙ at

  within : worker < 8
  within = slice_get_within (map (script_of_worker seed) (range_with_len 0 8)) worker script mapped

  same : script_of_worker seed worker ≡ script
  same = same_Some (script_of_worker seed worker) script (sym (scripts seed worker within) ∙ at)

-- no two workers use one key
pub apart : (scripts : (seed worker : ℕ) → worker < 8 → slice_get (generated_plan seed).scripts worker ≡ Some (script_of_worker seed worker)) (seed : ℕ) → ((worker other : ℕ) (key : List ℕ) → worker < 8 → other < 8 → list_any (bytes_eq key) (flat_map keys_of (script_of_worker seed worker)) ≡ true → list_any (bytes_eq key) (flat_map keys_of (script_of_worker seed other)) ≡ true → worker ≡ other)
    → AreApart (generated_plan seed) 2
apart scripts seed one key worker script at uses other its_script other_at unequal = elim (cases_Bool (list_any (uses_key 2 key) its_script)) [
  | inl too ↦ absurd (unequal (sym (one worker other key mine.0 its.0 (keys_in_script worker script mine.1 uses) (keys_in_script other its_script its.1 too))))
  | inr none ↦ none
] where
  mine : (worker < 8) × (script_of_worker seed worker ≡ script)
  mine = script_is scripts seed worker script at

  its : (other < 8) × (script_of_worker seed other ≡ its_script)
  its = script_is scripts seed other its_script other_at

  keys_in_script : (w : ℕ) (s : List Call) → script_of_worker seed w ≡ s → list_any (uses_key 2 key) s ≡ true → list_any (bytes_eq key) (flat_map keys_of (script_of_worker seed w)) ≡ true
  keys_in_script w s is used = used_are_keys key (script_of_worker seed w) (keyed_rounds w (in_twos (drawn_for seed w))) (ap (list_any (uses_key 2 key)) is ∙ used)

-- the int64 and the map
pub int64_at : (seed : ℕ) → (object : ObjectLine) × (slice_get (generated_plan seed).objects 1 ≡ Some object) × (object.kind ≡ kinds.Atomic types.Int64)
int64_at seed = (record { name = codes "total"; kind = kinds.Atomic types.Int64 }, ap (λ (l : List ObjectLine). slice_get l 1) (objects_are seed), refl)

pub map_is_at : (seed : ℕ) → (object : ObjectLine) × (slice_get (generated_plan seed).objects 2 ≡ Some object) × (object.kind ≡ kinds.Map)
map_is_at seed = (record { name = codes "t"; kind = kinds.Map }, ap (λ (l : List ObjectLine). slice_get l 2) (objects_are seed), refl)
