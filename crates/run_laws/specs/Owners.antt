-- Maps whose keys each belong to one worker.
use Rattle.std.specs.Prelude.{◌≡◌, ◌≢◌, ℕ, Bool, true, false, ◌&&◌, ◌==◌, List, Some, slice_get}
use Rattle.std.specs.List.{list_any}
use Rattle.std.specs.Option.{option_map_or}
use Rattle.std.specs.Str.{bytes_eq}
use Rattle.script_calls.specs.declared.call.Call.{Call}
use Rattle.script_calls.specs.declared.call.Operation.{Operation}
use Rattle.script_calls.specs.declared.call.Operation.TheVariants as operations
use Rattle.sync_types.specs.SequentialMap.{map_key}
use Rattle.workload.specs.Plan.{Plan}

-- whether an operation is one on this key of a map: it has this key, or is a `clear`, which is on all
abbrev pub is_on_name : List ℕ → Operation → Bool
is_on_name key (operations.Map call) = option_map_or (bytes_eq key) (map_key call) true
is_on_name key operation = false

-- whether a call is on this key of the map at a place
abbrev pub uses_key : ℕ → List ℕ → Call → Bool
uses_key place key call = (call.object == place) && is_on_name key call.operation

-- of all scripts this worker's alone has calls on the key of the map at a place
abbrev pub IsOwnedBy : Plan → (place worker : ℕ) → List ℕ → Type 0
IsOwnedBy plan place worker key = (other : ℕ) (script : List Call) → slice_get plan.scripts other ≡ Some script → other ≢ worker → list_any (uses_key place key) script ≡ false

-- no two scripts have calls on one key of the map at a place
abbrev pub AreApart : Plan → (place : ℕ) → Type 0
AreApart plan place = (key : List ℕ) (worker : ℕ) (script : List Call) → slice_get plan.scripts worker ≡ Some script → list_any (uses_key place key) script ≡ true → IsOwnedBy plan place worker key
