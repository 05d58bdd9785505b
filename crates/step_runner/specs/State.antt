-- What a run knows between two turns.
use Rattle.std.specs.Prelude.{◌≡◌, ℕ, ◌+◌, ◌<◌, ◌≤◌, Bool, true, false, List, [], ◌∷◌, ◌++◌, map, length, get_or, set, replicate, Option, Some, None}
use Rattle.script_calls.specs.Runs.{left_of, made_of}
use Rattle.script_calls.specs.declared.call.Call.{Call}
use Rattle.script_calls.specs.declared.call.Reply.{Reply}
use Rattle.workload.specs.Draft.{tries_of}
use Rattle.workload.specs.declared.object.ObjectLine.{ObjectLine}
use Rattle.workload.specs.Keys.{keys_in}
use Rattle.workload.specs.Plan.{Plan, is_dormant, is_valid}
use Rattle.workload.specs.Puts.{puts_at}
use Rattle.step_runner.specs.declared.turns.object_state.ObjectState.{ObjectState}
use Rattle.step_runner.specs.declared.state.Stand.{Stand}
use Rattle.step_runner.specs.declared.state.Stand.TheVariants.{Waits, Live, Gone}
use Rattle.step_runner.specs.Objects.{new_object, kind_of, IsMachineOf, EachAt}

pub record State : Type 0 where
  pub moment : ℕ  -- the clock's, in nanoseconds
  pub objects : List ObjectState  -- in order of declaration
  pub replies : List (List (Reply (List ℕ)))  -- for each worker, to its calls so far
  pub begun : List ℕ  -- for each worker, how many waits of the `waitfor` within which it stands were begun; else 0
  pub stands : List Stand  -- for each worker

-- the objects from a place on, each part of a pool with room for every put that the scripts make on it, and each group of flights with the numbers of the workload's keys
abbrev pub new_objects : Plan → ℕ → List ObjectLine → List ObjectState
new_objects plan place [] = []
new_objects plan place (line ∷ lines) = new_object plan.workers (puts_at place plan.scripts) (keys_in plan.scripts) line.kind ∷ new_objects plan (place + 1) lines

-- how a worker stands before the first turn, by whether it waits to be started
abbrev pub first_stand : Bool → Stand
first_stand true = Waits
first_stand false = Live

-- the state in which a run begins: the clock stands at 0
abbrev pub start : Plan → State
start plan = record { moment = 0; objects = new_objects plan 0 plan.objects; replies = replicate plan.workers []; begun = replicate plan.workers 0; stands = map first_stand plan.dormant }

-- a worker's call is completed
abbrev pub with_reply : ℕ → Reply (List ℕ) → State → State
with_reply worker reply s = record s { replies = set s.replies worker (get_or s.replies worker [] ++ reply ∷ []); begun = set s.begun worker 0 }

-- so many waits of its call a worker has begun
abbrev pub with_begun : ℕ → ℕ → State → State
with_begun worker begun s = record s { begun = set s.begun worker begun }

-- how a worker stands; who isn't one makes no calls
abbrev pub stand_of : ℕ → State → Stand
stand_of worker s = get_or s.stands worker Gone

abbrev pub with_stand : ℕ → Stand → State → State
with_stand worker stand s = record s { stands = set s.stands worker stand }

-- whoever waits to be started is live once it is, and any other stands as it did
abbrev pub woken : Stand → Stand
woken Waits = Live
woken Live = Live
woken Gone = Gone

-- how the workers stand behind a call that starts this one, if it starts any
abbrev pub stands_behind : Option ℕ → List Stand → List Stand
stands_behind None stands = stands
stands_behind (Some worker) stands = set stands worker (woken (get_or stands worker Gone))

abbrev pub with_started : Option ℕ → State → State
with_started started s = record s { stands = stands_behind started s.stands }

-- how many waits the next call of a script may make
abbrev pub next_tries : List Call → ℕ
next_tries [] = 0
next_tries (call ∷ rest) = tries_of call.operation

-- the clock is set
abbrev pub with_moment : ℕ → State → State
with_moment moment s = record s { moment = moment }

-- who waits to be started made no call, and whoever is gone was started and made all of its script
abbrev pub StandsSo : Plan → ℕ → List (Reply (List ℕ)) → Stand → Type 0
StandsSo plan worker given Waits = (is_dormant plan worker ≡ true) × (given ≡ [])
StandsSo plan worker given Live = Unit {0}
StandsSo plan worker given Gone = (is_dormant plan worker ≡ true) × (left_of (get_or plan.scripts worker []) given ≡ [])

-- the plan is valid, the objects and workers are its own, each machine is ready for its turns, a worker's replies are to as many calls of its script, and it has begun no more waits
-- than its next call may make
pub record IsStateOf (plan : Plan) (s : State) : Type 0 where
  pub valid : is_valid plan ≡ true
  pub objects : map kind_of s.objects ≡ map (λ object. object.kind) plan.objects
  pub machines : EachAt (λ place. IsMachineOf plan.workers) s.objects
  pub workers : length s.replies ≡ plan.workers
  pub within : (worker : ℕ) → length (get_or s.replies worker []) ≤ length (get_or plan.scripts worker [])
  pub waits : length s.begun ≡ plan.workers
  pub few : (worker : ℕ) → get_or s.begun worker 0 ≤ next_tries (left_of (get_or plan.scripts worker []) (get_or s.replies worker []))
  pub made : (worker : ℕ) → length (made_of (get_or plan.scripts worker []) (get_or s.replies worker [])) ≡ length (get_or s.replies worker [])
  pub count : length s.stands ≡ plan.workers
  pub each : (worker : ℕ) → worker < plan.workers → StandsSo plan worker (get_or s.replies worker []) (stand_of worker s)
