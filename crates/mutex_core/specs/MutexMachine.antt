-- The mutex with its two modes: what each event does, and what it is answered.
use Rattle.std.specs.Prelude.{◌≡◌, ℕ, ◌<◌, Bool, true, false, ◌&&◌, ◌||◌, not, ◌==◌, nat_eq, nat_lt, if◌then◌else◌, IsTrue, List, [], ◌∷◌, ◌++◌, map}
use Rattle.std.specs.List.{list_any, IsDistinct, AllByRecursion}
use Rattle.sync_types.specs.declared.misuse.Misuse.TheVariants.{UnlockOfUnlockedMutex}
use Rattle.mutex_core.specs.declared.event.MutexEvent.{MutexEvent}
use Rattle.mutex_core.specs.declared.event.MutexEvent.TheVariants as event
use Rattle.mutex_core.specs.declared.place.Place.{Place}
use Rattle.mutex_core.specs.declared.place.Place.TheVariants as place
use Rattle.mutex_core.specs.declared.reply.MutexReply.{MutexReply}
use Rattle.mutex_core.specs.declared.reply.MutexReply.TheVariants.{Arrived, Tried, Unlocked, Resumed, Still}
use Rattle.mutex_core.specs.declared.reply.Arrival.TheVariants as arrival
use Rattle.mutex_core.specs.declared.reply.Resumption.TheVariants as resumption
use Rattle.mutex_core.specs.declared.reply.Unlocking.TheVariants as unlocking
use Rattle.mutex_core.specs.declared.waiter.Waiter.{Waiter}
use Rattle.mutex_core.specs.declared.waiter.Flight.{Flight}
use Rattle.mutex_core.specs.declared.waiter.Flight.TheVariants as flight
use Rattle.mutex_core.specs.Starving.{is_starving}

-- a mutex of so many callers: whether it is locked, whether a waiter is woken, whether the mode is
-- starvation mode, who waits in which order, and who is in flight
pub record State : Type 0 where
  pub callers : ℕ
  pub locked : Bool
  pub woken : Bool
  pub starving : Bool
  pub queue : List Waiter
  pub flight : Flight

-- the unlocked mutex, in normal mode
abbrev pub start : ℕ → State
start callers = record { callers = callers; locked = false; woken = false; starving = false; queue = []; flight = flight.Nobody }

-- whether the waiter is this caller's
abbrev pub is_waiter_of : ℕ → Waiter → Bool
is_waiter_of caller waiter = caller == waiter.caller

-- in the queue, or out
abbrev pub place_in : List Waiter → ℕ → Place
place_in queue caller = if list_any (is_waiter_of caller) queue then place.Waiting else place.Out

-- where a caller is, by who is in flight and who waits
abbrev pub place_by : Flight → List Waiter → ℕ → Place
place_by flight.Nobody queue caller = place_in queue caller
place_by (flight.Woken waiter) queue caller = if is_waiter_of caller waiter then place.Woken else place_in queue caller
place_by flight.Handed [] caller = place.Out
place_by flight.Handed (front ∷ rest) caller = if is_waiter_of caller front then place.Handed else place_in rest caller

-- a caller's place
abbrev pub place_of : State → ℕ → Place
place_of s caller = place_by s.flight s.queue caller

-- nothing changes
abbrev pub still : State → State × MutexReply
still s = (s, Still)

-- a newcomer acquires the mutex: it is unlocked, and the mode is normal
abbrev pub is_open : State → Bool
is_open s = not s.locked && not s.starving

-- arrive: the mutex is acquired where it is open, else the caller queues at the tail
abbrev pub arrived : State → ℕ → ℕ → State × MutexReply
arrived s caller now =
    if is_open s
    then (record s { locked = true }, Arrived arrival.Acquired)
    else (record s { queue = s.queue ++ record { caller = caller; arrival = now; asked = false } ∷ [] }, Arrived (arrival.Queued caller))

-- try: the same, without queueing
abbrev pub tried : State → State × MutexReply
tried s = if is_open s then (record s { locked = true }, Tried true) else (s, Tried false)

-- unlock of a locked mutex, by: the queue, starving, woken
abbrev pub released : List Waiter → Bool → Bool → State → State × MutexReply
-- nobody waits in the queue
released [] starving woken s = (record s { locked = false }, Unlocked unlocking.Free)
-- starvation mode: the mutex is kept for the front waiter
released (front ∷ rest) true woken s = (record s { locked = false; flight = flight.Handed }, Unlocked (unlocking.Handed front.caller))
-- normal mode: the front waiter is woken and leaves the queue, unless one is woken already
released (front ∷ rest) false true s = (record s { locked = false }, Unlocked unlocking.Free)
released (front ∷ rest) false false s =
    (record s { locked = false; woken = true; queue = rest; flight = flight.Woken front }, Unlocked (unlocking.Woke front.caller))

-- unlock: of a mutex that isn't locked it is a misuse, which changes nothing
abbrev pub unlocked : State → State × MutexReply
unlocked s =
    if s.locked then released s.queue s.starving s.woken s else (s, Unlocked (unlocking.Misuse UnlockOfUnlockedMutex))

-- the woken waiter goes on: it acquires the mutex where no newcomer did, else it goes back to the
-- front with its old arrival, and asks for starvation mode where it starves
abbrev pub contended : Waiter → ℕ → State → State × MutexReply
contended waiter now s =
    if s.locked
    then (
      record s {
        woken = false;
        starving = s.starving || is_starving waiter now;
        queue = record waiter { asked = is_starving waiter now } ∷ s.queue;
        flight = flight.Nobody;
      },
      Resumed resumption.Requeued,
    )
    else (record s { locked = true; woken = false; flight = flight.Nobody }, Resumed resumption.Acquired)

-- whether some waiter is left
abbrev pub is_contended : List Waiter → Bool
is_contended [] = false
is_contended (_ ∷ _) = true

-- the handed waiter goes on: the mutex is its own, and starvation mode stays where it starves and others wait
abbrev pub received : Waiter → List Waiter → ℕ → State → State × MutexReply
received front rest now s = (
  record s {
    locked = true;
    starving = s.starving && (is_starving front now && is_contended rest);
    queue = rest;
    flight = flight.Nobody;
  },
  Resumed resumption.Acquired,
)

-- a waiter goes on, by who is in flight
abbrev pub resumed : Flight → List Waiter → ℕ → State → State × MutexReply
resumed (flight.Woken waiter) queue now s = contended waiter now s
resumed flight.Handed (front ∷ rest) now s = received front rest now s
resumed flight.Handed [] now s = still s
resumed flight.Nobody queue now s = still s

-- an event of a caller at its place: at another place than the event needs nothing changes
abbrev pub at_place : MutexEvent → Place → ℕ → State → State × MutexReply
at_place (event.Arrive now) place.Out caller s = arrived s caller now
at_place (event.Arrive now) _ caller s = still s
at_place event.Try place.Out caller s = tried s
at_place event.Try _ caller s = still s
at_place event.Unlock _ caller s = unlocked s
at_place (event.Woken now) place.Woken caller s = resumed s.flight s.queue now s
at_place (event.Woken now) place.Handed caller s = resumed s.flight s.queue now s
at_place (event.Woken now) _ caller s = still s

-- the machine: what an event of a caller does, and what it is answered
abbrev pub next : State → ℕ → MutexEvent → State × MutexReply
next s caller event = if nat_lt caller s.callers then at_place event (place_of s caller) caller s else still s

-- whether the place is one that the event needs
abbrev pub is_needed : MutexEvent → Place → Bool
is_needed (event.Arrive now) place.Out = true
is_needed (event.Arrive now) _ = false
is_needed event.Try place.Out = true
is_needed event.Try _ = false
is_needed event.Unlock _ = true
is_needed (event.Woken now) place.Woken = true
is_needed (event.Woken now) place.Handed = true
is_needed (event.Woken now) _ = false

-- whether a caller of the mutex is at a place that the event needs
abbrev pub may_make : State → ℕ → MutexEvent → Bool
may_make s caller event = nat_lt caller s.callers && is_needed event (place_of s caller)

-- whether a woken waiter is in flight
abbrev pub is_woken : Flight → Bool
is_woken flight.Nobody = false
is_woken (flight.Woken _) = true
is_woken flight.Handed = false

-- whether the front waiter was handed the mutex
abbrev pub is_handed : Flight → Bool
is_handed flight.Nobody = false
is_handed (flight.Woken _) = false
is_handed flight.Handed = true

-- the callers that wait, a woken one before the queue
abbrev pub waiting_by : Flight → List Waiter → List ℕ
waiting_by flight.Nobody queue = map (λ w. w.caller) queue
waiting_by (flight.Woken waiter) queue = waiter.caller ∷ map (λ w. w.caller) queue
waiting_by flight.Handed queue = map (λ w. w.caller) queue

-- what is true of every state that the machine comes to from `start`
pub record IsValid (s : State) : Type 0 where
  -- the mark `woken` is set exactly where a woken waiter is in flight
  pub woken : s.woken ≡ is_woken s.flight
  -- the front waiter is handed the mutex exactly in starvation mode, while nobody has locked it
  pub handed : is_handed s.flight ≡ (s.starving && not s.locked)
  -- in starvation mode somebody waits in the queue, and nobody is woken
  pub contended : IsTrue s.starving → IsTrue (is_contended s.queue)
  pub unwoken : IsTrue s.starving → s.woken ≡ false
  -- those that wait are callers of the mutex, each at one place
  pub callers : AllByRecursion (λ caller. caller < s.callers) (waiting_by s.flight s.queue)
  pub apart : IsDistinct nat_eq (waiting_by s.flight s.queue)
