-- The scripts of the workers.
use Rattle.std.proofs.Common.{◌≡◌, ℕ, ◌*◌, ◌/◌, ◌%◌, ◌^◌, ◌<◌, ◌≤◌, nat_lt, ◌==◌, Bool, true, false, ◌&&◌, cond, List, [], ◌∷◌, ◌++◌, map, length, Option, Some, slice_get, refl, ap, ◌∙◌, arith}
use Rattle.std.specs.Prelude.{sum_by}
use Rattle.std.specs.List.{list_all, flat_map, count_by}
use Rattle.std.specs.Option.{option_to_list}
use Rattle.std.proofs.lemmas.Bool.{lt-ltb, le-leb, ltb-true}
use Rattle.std.proofs.lemmas.List.Folds.{list_all-append}
use Rattle.script_calls.specs.declared.call.Call.{Call}
use Rattle.script_calls.specs.Starts.{starts}
use Rattle.sync_types.specs.declared.map_object.MapCall.TheVariants.{Load, Store, Delete}
use Rattle.sync_types.specs.declared.value.TheConstants.{MAX_VALUE}
use Rattle.sync_types.specs.Name.{is_name}
use Rattle.sync_types.specs.SequentialMap.{map_key}
use Rattle.workload.specs.Draft.{keys_of, is_call, is_map_call, is_value, is_range, is_access, tries_of}
use Rattle.workload.specs.Plan.{is_on, starts_dormant}
use Rattle.made_workload.specs.Generated.{key_of, call_by, round, generated_objects}
use Rattle.made_workload.proofs.Ranges.{both, pair}
use Rattle.made_workload.proofs.Draws.{is_small}
use Rattle.made_workload.proofs.Names.{key_is_name}

-- the key of a round
abbrev pub round_key : ℕ → ℕ × ℕ → List ℕ
round_key worker words = key_of worker (words.1 / 4 % 64)

key_in : (is_store is_load : Bool) (key : List ℕ) (value : ℕ) → map_key (cond is_store (Store key value) (cond is_load (Load key) (Delete key))) ≡ Some key
key_in true is_load key value = refl
key_in false true key value = refl
key_in false false key value = refl

fits : (is_store is_load : Bool) (key : List ℕ) (value : ℕ) → is_name key ≡ true → is_value value ≡ true → is_map_call (cond is_store (Store key value) (cond is_load (Load key) (Delete key))) ≡ true
fits true is_load key value named small = pair (is_name key && true) (is_value value && true) (pair (is_name key) true named refl) (pair (is_value value) true small refl)
fits false true key value named small = pair (is_name key && true) true (pair (is_name key) true named refl) refl
fits false false key value named small = pair (is_name key && true) true (pair (is_name key) true named refl) refl

-- each call of a round is on an object that has it
abbrev pub is_in_place : Call → Bool
is_in_place call = is_on generated_objects (slice_get generated_objects call.object) call

round_in_place : (worker : ℕ) (words : ℕ × ℕ) → list_all is_in_place (round worker words) ≡ true
round_in_place worker words =
    let small : words.0 % 1000 < 2 ^ 63 = omega arith in
    pair (nat_lt (words.0 % 1000) (2 ^ 63)) true (lt-ltb (words.0 % 1000) (2 ^ 63) small) refl

-- and has its numbers in range
round_in_range : (worker : ℕ) (words : ℕ × ℕ) → worker < 8 → is_small words ≡ true → list_all is_call (round worker words) ≡ true
round_in_range worker words there small =
    let word : words.1 < 2 ^ 32 = ltb-true words.1 (2 ^ 32) small in
    let number : words.1 / 4 % 64 < 64 = omega arith in
    let value : words.1 / 256 ≤ MAX_VALUE = omega arith in
    pair (is_map_call (call_by worker words.1)) true
    (fits (nat_lt (words.1 % 4) 2) (words.1 % 4 == 2) (round_key worker words) (words.1 / 256) (key_is_name worker (words.1 / 4 % 64) there number) (le-leb (words.1 / 256) MAX_VALUE value)) refl

-- what holds of each round's calls holds of a script's
pub calls_pass : (test : Call → Bool) (worker : ℕ) → ((words : ℕ × ℕ) → is_small words ≡ true → list_all test (round worker words) ≡ true)
    → (rounds : List (ℕ × ℕ)) → list_all is_small rounds ≡ true → list_all test (flat_map (round worker) rounds) ≡ true
calls_pass test worker each [] small = refl
calls_pass test worker each (words ∷ rounds) small =
    let parts = both (is_small words) (list_all is_small rounds) small in
    list_all-append test (round worker words) (flat_map (round worker) rounds)
    ∙ pair (list_all test (round worker words)) (list_all test (flat_map (round worker) rounds)) (each words parts.0) (calls_pass test worker each rounds parts.1)

pub script_in_place : (worker : ℕ) (rounds : List (ℕ × ℕ)) → list_all is_small rounds ≡ true → list_all is_in_place (flat_map (round worker) rounds) ≡ true
script_in_place worker rounds small = calls_pass is_in_place worker (λ words h. round_in_place worker words) rounds small

pub script_in_range : (worker : ℕ) (rounds : List (ℕ × ℕ)) → worker < 8 → list_all is_small rounds ≡ true → list_all is_call (flat_map (round worker) rounds) ≡ true
script_in_range worker rounds there small = calls_pass is_call worker (λ words h. round_in_range worker words there h) rounds small

-- a round has four calls
pub length_script : (worker : ℕ) (rounds : List (ℕ × ℕ)) → length (flat_map (round worker) rounds) ≡ 4 * length rounds
length_script worker [] = omega arith
length_script worker (words ∷ rounds) = omega (arith, length_script worker rounds)

-- and one key
pub script_keys : (worker : ℕ) (rounds : List (ℕ × ℕ)) → flat_map keys_of (flat_map (round worker) rounds) ≡ map (round_key worker) rounds
script_keys worker [] = refl
script_keys worker (words ∷ rounds) =
    ap (λ (key : Option (List ℕ)). option_to_list key ++ flat_map keys_of (flat_map (round worker) rounds)) (key_in (nat_lt (words.1 % 4) 2) (words.1 % 4 == 2) (round_key worker words) (words.1 / 256))
    ∙ ap (λ (keys : List (List ℕ)). round_key worker words ∷ keys) (script_keys worker rounds)

-- and no `range`
pub script_ranges : (worker : ℕ) (rounds : List (ℕ × ℕ)) → count_by is_range (flat_map (round worker) rounds) ≡ 0
script_ranges worker [] = refl
script_ranges worker (words ∷ rounds) = script_ranges worker rounds

-- and no `waitfor`
pub script_tries : (worker : ℕ) (rounds : List (ℕ × ℕ)) → sum_by (λ (call : Call). tries_of call.operation) (flat_map (round worker) rounds) ≡ 0
script_tries worker [] = refl
script_tries worker (words ∷ rounds) = script_tries worker rounds

-- and no read or write of a plain variable
pub script_accesses : (worker : ℕ) (rounds : List (ℕ × ℕ)) → count_by is_access (flat_map (round worker) rounds) ≡ 0
script_accesses worker [] = refl
script_accesses worker (words ∷ rounds) = script_accesses worker rounds

-- and no `go`
pub script_starts : (other worker : ℕ) (rounds : List (ℕ × ℕ)) → count_by (starts other) (flat_map (round worker) rounds) ≡ 0
script_starts other worker [] = refl
script_starts other worker (words ∷ rounds) = script_starts other worker rounds

-- so it starts none that doesn't wait
pub script_waits : (dormant : List Bool) (worker : ℕ) (rounds : List (ℕ × ℕ)) → list_all (λ (call : Call). starts_dormant dormant call.operation) (flat_map (round worker) rounds) ≡ true
script_waits dormant worker [] = refl
script_waits dormant worker (words ∷ rounds) = script_waits dormant worker rounds
