-- How many turns a worker's call can still take that make an event, and whether the worker was told to go on.
use Rattle.std.specs.Prelude.{◌≡◌, ℕ, ◌+◌, ◌<◌, ◌≤◌, Bool, true, false, ◌||◌, if◌then◌else◌, List, slice_get, unwrap_or, is_some, Option, Some, None}
use Rattle.std.specs.Option.{option_map_or}
use Rattle.script_calls.specs.declared.call.Call.{Call}
use Rattle.mutex_core.specs.MutexMachine as mutex
use Rattle.mutex_core.specs.declared.place.Place.{Place as MutexPlace}
use Rattle.mutex_core.specs.declared.place.Place.TheVariants as mutex_place
use Rattle.rw_core.specs.RwMachine as rw
use Rattle.rw_core.specs.declared.place.Place.{Place as RwPlace}
use Rattle.rw_core.specs.declared.place.Place.TheVariants as rw_place
use Rattle.wait_cores.specs.NotifyStanding.{has_ticket}
use Rattle.wait_cores.specs.OnceMachine.{OnceState}
use Rattle.wait_cores.specs.OnceStanding as once
use Rattle.flight_core.specs.FlightStanding as flight
use Rattle.flight_core.specs.declared.calls.FlightStand.{FlightStand}
use Rattle.flight_core.specs.declared.calls.FlightStand.TheVariants.{Out, Leads, Waits}
use Rattle.workload.specs.declared.object.ObjectKind.{ObjectKind}
use Rattle.workload.specs.Plan.{reference_of}
use Rattle.step_runner.specs.declared.turns.answer.Answer.{Answer}
use Rattle.step_runner.specs.declared.turns.answer.Answer.TheVariants as answers
use Rattle.step_runner.specs.declared.turns.object_state.ObjectState.{ObjectState}
use Rattle.step_runner.specs.declared.turns.object_state.ObjectState.TheVariants as states
use Rattle.step_runner.specs.Due.{group_behind, sema_behind}

-- the place of the object to which the call's object refers, among objects of these kinds
abbrev pub refers_to : List ObjectKind → Call → Option ℕ
refers_to kinds call = option_map_or reference_of (slice_get kinds call.object) None

-- ---- what is left of a call

-- A worker that is out at a mutex may arrive there, and go on. A wait of a cond comes to the mutex from the cond
abbrev pub mutex_left : MutexPlace → ℕ
mutex_left mutex_place.Out = 2
mutex_left mutex_place.Waiting = 0
mutex_left mutex_place.Woken = 0
mutex_left mutex_place.Handed = 0

-- a writer may arrive, and go on at the inner mutex
abbrev pub rw_left : RwPlace → ℕ
rw_left rw_place.Out = 2
rw_left rw_place.Queued = 1
rw_left rw_place.Woken = 1
rw_left rw_place.Handed = 1
rw_left rw_place.Waiting = 0
rw_left rw_place.Granted = 0
rw_left rw_place.Admitted = 0

-- one that neither waits nor runs the function may begin it, or come to wait
abbrev pub once_left : {T : Type 0} → OnceState T → ℕ → ℕ
once_left o worker = if once.waits_at o worker || once.runs_at o worker then 0 else 1

-- one that is in no flight may come for one
abbrev pub flight_left : FlightStand → ℕ
flight_left Out = 1
flight_left Leads = 0
flight_left Waits = 0

-- how many events a worker may still make at an object before the one that completes its call, but those with which it goes back to the queue
abbrev pub left_at : ℕ → ObjectState → ℕ
left_at worker (states.Map m) = 0
left_at worker (states.Atomic number) = 0
left_at worker (states.Mutex m) = mutex_left (mutex.place_of m worker)
left_at worker (states.RwMutex m) = rw_left (rw.place_of m worker)
left_at worker (states.Cond c place) = if has_ticket c worker then 0 else 1
left_at worker (states.WaitGroup g first) = if is_some (group_behind g worker) then 0 else 1
left_at worker (states.Once o place delta) = once_left o worker
left_at worker (states.OnceFunc o code) = once_left o worker
left_at worker (states.OnceValue o value) = once_left o worker
left_at worker (states.Pool p) = 0
left_at worker (states.Sema s size) = if is_some (sema_behind s worker) then 0 else 1
left_at worker (states.Flight f keys place delta) = flight_left (flight.stands_at f worker)
left_at worker (states.Var held) = 0

abbrev pub left_in : ℕ → List ObjectState → Option ℕ → ℕ
left_in worker objects None = 0
left_in worker objects (Some place) = option_map_or (left_at worker) (slice_get objects place) 0

-- how many turns with an event a call may still take, but those with which its worker goes back: the last one, and those before it at the call's
-- object and at the one to which that refers
abbrev pub turns_left : List ObjectKind → Call → ℕ → List ObjectState → ℕ
turns_left kinds call worker objects = 1 + (left_in worker objects (Some call.object) + left_in worker objects (refers_to kinds call))

-- what a turn that completes no call takes of what was left: nothing, where its worker goes back
abbrev pub TakesOf : Bool → ℕ → ℕ → Type 0
TakesOf true old new = new ≤ old
TakesOf false old new = new < old

abbrev pub TakesBy : Bool → ℕ → ℕ → Answer → Type 0
TakesBy back old new answers.Still = Unit {0}
TakesBy back old new answers.Unfinished = TakesOf back old new
TakesBy back old new (answers.Completed reply) = Unit {0}
TakesBy back old new (answers.Misused misuse) = Unit {0}

-- ---- who was told to go on

abbrev pub mutex_told : MutexPlace → Bool
mutex_told mutex_place.Out = false
mutex_told mutex_place.Waiting = false
mutex_told mutex_place.Woken = true
mutex_told mutex_place.Handed = true

abbrev pub rw_told : RwPlace → Bool
rw_told rw_place.Out = false
rw_told rw_place.Queued = false
rw_told rw_place.Woken = true
rw_told rw_place.Handed = true
rw_told rw_place.Waiting = false
rw_told rw_place.Granted = false
rw_told rw_place.Admitted = false

-- a worker in the queue of a mutex, or of the inner mutex of a reader/writer mutex, was woken or handed it
abbrev pub told_at : ℕ → ObjectState → Bool
told_at worker (states.Mutex m) = mutex_told (mutex.place_of m worker)
told_at worker (states.RwMutex m) = rw_told (rw.place_of m worker)
told_at worker object = false

-- the same of the object to which the call's object refers, or else of that object
abbrev pub is_told : List ObjectKind → Call → ℕ → List ObjectState → Bool
is_told kinds call worker objects = option_map_or (told_at worker) (slice_get objects (unwrap_or (refers_to kinds call) call.object)) false

-- whether a worker was told to go on before its own turn and behind it: it goes back only where it was told, and isn't told any more then; and no
-- turn of its own tells it
abbrev pub TellsOwn : Bool → Bool → Bool → Type 0
TellsOwn true old new = (old ≡ true) × (new ≡ false)
TellsOwn false old new = new ≡ true → old ≡ true
