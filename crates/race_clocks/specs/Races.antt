-- Which calls of a run by schedule race, after the Go memory model: two accesses of one plain variable by two workers, one of them a write, of which neither happens before the other.
use Rattle.std.specs.Prelude.{◌≡◌, ◌≢◌, ◌⊎◌, ℕ, ◌<◌, Bool, true, false, ◌||◌, List, All, AllPairs, Contains, map, Option, Some, None, option_map, slice_get, unwrap_or}
use Rattle.std.specs.Option.{option_and_then, option_map_or}
use Rattle.script_calls.specs.declared.call.Call.{Call}
use Rattle.script_calls.specs.declared.call.Operation.{Operation}
use Rattle.script_calls.specs.declared.call.Operation.TheVariants as operations
use Rattle.script_calls.specs.declared.call.VarCall.{VarCall}
use Rattle.script_calls.specs.declared.call.VarCall.TheVariants.{Read, Write}
use Rattle.workload.specs.Plan.{Plan}
use Rattle.step_runner.specs.declared.trace.TraceItem.{TraceItem}
use Rattle.race_clocks.specs.declared.race.CallPlace.{CallPlace}
use Rattle.race_clocks.specs.declared.race.Race.{Race}
use Rattle.race_clocks.specs.HappensBefore.{Before}

-- ---- accesses

pub record Access : Type 0 where
  pub variable : ℕ  -- its place in order of declaration
  pub writes : Bool

abbrev pub is_write : VarCall → Bool
is_write Read = false
is_write (Write value) = true

abbrev pub access_by : ℕ → Operation → Option Access
access_by place (operations.Var call) = Some (record { variable = place; writes = is_write call })
access_by place operation = None

-- the variable that a turn reads or writes, if it does: its call is a `read` or a `write`, which is one turn
abbrev pub access_of : TraceItem → Option Access
access_of turn = option_and_then (λ (call : Call). access_by call.object call.operation) turn.call

-- ---- races

-- the two turns are of two workers and access one variable, one of them or both by a write
pub record Conflicts (x y : TraceItem) : Type 0 where
  pub first : Access
  pub second : Access
  pub of_first : access_of x ≡ Some first
  pub of_second : access_of y ≡ Some second
  pub workers : x.worker ≢ y.worker
  pub variable : first.variable ≡ second.variable
  pub written : (first.writes || second.writes) ≡ true

-- turns i and j race, of which i is the earlier one
pub record IsRace (plan : Plan) (trace : List TraceItem) (i j : ℕ) : Type 0 where
  pub first : TraceItem
  pub second : TraceItem
  pub at_first : slice_get trace i ≡ Some first
  pub at_second : slice_get trace j ≡ Some second
  pub earlier : i < j
  pub conflict : Conflicts first second
  pub unordered : Before plan trace i j → ⊥

-- ---- and how they are told

-- two turns, by their places in the trace
pub record Pair : Type 0 where
  pub earlier : ℕ
  pub later : ℕ

abbrev pub pair : ℕ → ℕ → Pair
pair i j = record { earlier = i; later = j }

-- a turn's call, by its worker and its place in the script. (The `done` behind a script has none, and accesses nothing)
abbrev pub call_place : TraceItem → CallPlace
call_place turn = record { worker = turn.worker; index = unwrap_or turn.index 0 }

-- the race of two turns, as it is told
abbrev pub race_told : TraceItem → TraceItem → Race
race_told x y = record { variable = option_map_or (λ (access : Access). access.variable) (access_of y) 0; first = call_place x; second = call_place y }

abbrev pub race_of : List TraceItem → Pair → Option Race
race_of trace p = option_and_then (λ x. option_map (race_told x) (slice_get trace p.later)) (slice_get trace p.earlier)

-- of two pairs, the first one stands in front: by the later turns, and where these are one by the earlier turns
abbrev pub Precedes : Pair → Pair → Type 0
Precedes a b = (a.later < b.later) ⊎ ((a.later ≡ b.later) × (a.earlier < b.earlier))

-- these are the pairs that race, each once and in order
pub record ArePairs (plan : Plan) (trace : List TraceItem) (pairs : List Pair) : Type 0 where
  pub sound : All (λ (p : Pair). IsRace plan trace p.earlier p.later) pairs
  pub complete : (i j : ℕ) → IsRace plan trace i j → Contains pairs (pair i j)
  pub sorted : AllPairs Precedes pairs

-- these are the races of the trace, told in that order
pub record AreRaces (plan : Plan) (trace : List TraceItem) (races : List Race) : Type 0 where
  pub pairs : List Pair
  pub are : ArePairs plan trace pairs
  pub told : map (race_of trace) pairs ≡ map Some races
