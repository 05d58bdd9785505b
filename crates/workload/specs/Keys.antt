-- The keys of a workload, by number.
use Rattle.std.specs.Prelude.{ℕ, cond, List, [], ◌∷◌, ◌++◌, map, Option, get_or}
use Rattle.std.specs.List.{list_any, position_from}
use Rattle.std.specs.Option.{option_map_or}
use Rattle.std.specs.Str.{bytes_eq}
use Rattle.script_calls.specs.declared.call.Call.{Call}
use Rattle.script_calls.specs.declared.call.Operation.{Operation}
use Rattle.script_calls.specs.declared.call.Operation.TheVariants as operations
use Rattle.sync_types.specs.declared.map_object.MapCall.{MapCall}
use Rattle.sync_types.specs.SequentialMap.{map_key}
use Rattle.workload.specs.Draft.{all_keys}

-- names with one more behind them, unless it is one of them
abbrev pub with_name : List (List ℕ) → List ℕ → List (List ℕ)
with_name names name = cond (list_any (bytes_eq name) names) names (names ++ name ∷ [])

-- names with more of them, one after the other
abbrev pub with_names : List (List ℕ) → List (List ℕ) → List (List ℕ)
with_names names [] = names
with_names names (name ∷ more) = with_names (with_name names name) more

-- the keys of the calls by first appearance, script by script from worker 0: a key's number is its place here
abbrev pub keys_in : List (List Call) → List (List ℕ)
keys_in scripts = with_names [] (all_keys scripts)

-- the number of a name, if it is one of them
abbrev pub number_in : List (List ℕ) → List ℕ → Option ℕ
number_in names name = position_from (bytes_eq name) 0 names

-- the number of a key; 0 for a name that is none
abbrev pub key_number : List (List ℕ) → List ℕ → ℕ
key_number names name = option_map_or (λ number. number) (number_in names name) 0

-- the key of a number; nothing for a number that is none's
abbrev pub key_name : List (List ℕ) → ℕ → List ℕ
key_name names number = get_or names number []

-- the number of the key of a map's call; 0 for a call without a key
abbrev pub map_call_number : List (List ℕ) → MapCall (List ℕ) → ℕ
map_call_number names call = option_map_or (key_number names) (map_key call) 0

-- the number of an operation's key; 0 for one without a key
abbrev pub operation_number : List (List ℕ) → Operation → ℕ
operation_number names (operations.Map call) = map_call_number names call
operation_number names (operations.Fly key) = key_number names key
operation_number names operation = 0

-- the number of a call's key; 0 for a call without one
abbrev pub call_number : List (List ℕ) → Call → ℕ
call_number names call = operation_number names call.operation

-- for each script, the number of each call's key
abbrev pub numbers_in : List (List Call) → List (List ℕ)
numbers_in scripts = map (map (call_number (keys_in scripts))) scripts
