-- The reader/writer lock: what each event does, and what it is answered.
use Rattle.std.specs.Prelude.{◌≡◌, ℕ, ◌<◌, ◌≤◌, ◌+◌, ◌-◌, ◌^◌, Bool, true, false, ◌&&◌, not, ◌==◌, nat_lt, if◌then◌else◌, IsTrue, IsFalse, List, [], ◌∷◌, ◌++◌, length, filter}
use Rattle.std.specs.List.{list_any}
use Rattle.sync_types.specs.declared.misuse.Misuse.TheVariants.{RUnlockOfUnlockedRwMutex, UnlockOfUnlockedRwMutex}
use Rattle.mutex_core.specs.MutexMachine as mutex
use Rattle.mutex_core.specs.declared.event.MutexEvent.TheVariants as mutex_event
use Rattle.mutex_core.specs.declared.place.Place.{Place as MutexPlace}
use Rattle.mutex_core.specs.declared.place.Place.TheVariants as mutex_place
use Rattle.mutex_core.specs.declared.reply.MutexReply.{MutexReply}
use Rattle.mutex_core.specs.declared.reply.MutexReply.TheVariants as mutex_reply
use Rattle.mutex_core.specs.declared.reply.Arrival.TheVariants as mutex_arrival
use Rattle.mutex_core.specs.declared.reply.Resumption.TheVariants as mutex_resumption
use Rattle.rw_core.specs.declared.event.RwEvent.{RwEvent}
use Rattle.rw_core.specs.declared.event.RwEvent.TheVariants as event
use Rattle.rw_core.specs.declared.place.Place.{Place}
use Rattle.rw_core.specs.declared.place.Place.TheVariants as place
use Rattle.rw_core.specs.declared.reply.RwReply.{RwReply}
use Rattle.rw_core.specs.declared.reply.RwReply.TheVariants.{Arrived, Tried, Unlocked, Resumed, Left, Still}
use Rattle.rw_core.specs.declared.reply.Arrival.TheVariants as arrival
use Rattle.rw_core.specs.declared.reply.Resumption.TheVariants as resumption
use Rattle.rw_core.specs.declared.reply.Unlocking.TheVariants as unlocking
use Rattle.rw_core.specs.declared.writer.Writer.{Writer}
use Rattle.rw_core.specs.declared.writer.Writer.TheVariants as writer

-- a lock of so many callers: how many readers hold it, the announced writer, the readers that wait in
-- order, those that were admitted or granted and haven't left, and the mutex that writers go through
pub record State : Type 0 where
  pub callers : ℕ
  pub readers : ℕ
  pub writer : Writer
  pub queue : List ℕ
  pub admitted : List ℕ
  pub granted : List ℕ
  pub inner : mutex.State

-- the unlocked lock
abbrev pub start : ℕ → State
start callers =
    record { callers = callers; readers = 0; writer = writer.Nobody; queue = []; admitted = []; granted = []; inner = mutex.start callers }

-- whether the caller is in the list
abbrev pub is_among : ℕ → List ℕ → Bool
is_among caller callers = list_any (λ other. caller == other) callers

-- the list without the caller
abbrev pub without : ℕ → List ℕ → List ℕ
without caller callers = filter (λ other. not (caller == other)) callers

-- whether a writer is announced: it waits for readers, or holds the lock
abbrev pub is_announced : Writer → Bool
is_announced writer.Nobody = false
is_announced (writer.Waiting _) = true
is_announced writer.Holding = true

-- whether it waits for readers
abbrev pub waits_for_readers : Writer → Bool
waits_for_readers writer.Nobody = false
waits_for_readers (writer.Waiting _) = true
waits_for_readers writer.Holding = false

-- whether it holds the lock
abbrev pub is_holding : Writer → Bool
is_holding writer.Nobody = false
is_holding (writer.Waiting _) = false
is_holding writer.Holding = true

-- a writer that arrives acquires the lock: no reader holds it, and the inner mutex is open
abbrev pub is_open : State → Bool
is_open s = (s.readers == 0) && mutex.is_open s.inner

-- whether the caller is the writer that waits for readers
abbrev pub waits_as : ℕ → Writer → Bool
waits_as caller writer.Nobody = false
waits_as caller (writer.Waiting other) = caller == other
waits_as caller writer.Holding = false

-- a writer's place at the inner mutex
abbrev pub place_at : MutexPlace → Place
place_at mutex_place.Out = place.Out
place_at mutex_place.Waiting = place.Queued
place_at mutex_place.Woken = place.Woken
place_at mutex_place.Handed = place.Handed

-- a caller's place
abbrev pub place_of : State → ℕ → Place
place_of s caller =
    if is_among caller s.admitted
    then place.Admitted
    else if is_among caller s.granted
    then place.Granted
    else if waits_as caller s.writer
    then place.Waiting
    else if is_among caller s.queue
    then place.Queued
    else place_at (mutex.place_of s.inner caller)

-- nothing changes
abbrev pub still : State → State × RwReply
still s = (s, Still)

-- one reader more; at the end of its type the count stands still
abbrev pub one_more : ℕ → ℕ
one_more readers = if nat_lt readers (2 ^ 64 - 1) then readers + 1 else readers

-- a reader arrives: it has the lock, unless a writer is announced, for which it queues
abbrev pub read_arrived : ℕ → State → State × RwReply
read_arrived caller s =
    if is_announced s.writer
    then (record s { queue = s.queue ++ caller ∷ [] }, Arrived arrival.Queued)
    else (record s { readers = one_more s.readers }, Arrived arrival.Acquired)

-- a reader tries: the same, without queueing
abbrev pub read_tried : State → State × RwReply
read_tried s =
    if is_announced s.writer then (s, Tried false) else (record s { readers = one_more s.readers }, Tried true)

-- the last reader goes: a writer that waits for it is granted the lock
abbrev pub last_read : Writer → State → State
last_read writer.Nobody s = record s { readers = 0 }
last_read (writer.Waiting caller) s = record s { readers = 0; writer = writer.Holding; granted = s.granted ++ caller ∷ [] }
last_read writer.Holding s = record s { readers = 0 }

-- a reader unlocks: where no reader holds the lock it is a misuse, which changes nothing
abbrev pub read_unlocked : State → State × RwReply
read_unlocked s =
    if s.readers == 0
    then (s, Unlocked (unlocking.Misuse RUnlockOfUnlockedRwMutex))
    else if s.readers == 1
    then (last_read s.writer s, Unlocked unlocking.Done)
    else (record s { readers = s.readers - 1 }, Unlocked unlocking.Done)

-- a writer that has the inner mutex announces itself: it has the lock at once, unless readers hold it
abbrev pub announced : ℕ → RwReply → RwReply → State → State × RwReply
announced caller at_once later s =
    if s.readers == 0
    then (record s { writer = writer.Holding }, at_once)
    else (record s { writer = writer.Waiting caller }, later)

-- a writer arrives, by what the inner mutex answers its arrival
abbrev pub write_arrived : mutex.State × MutexReply → ℕ → State → State × RwReply
write_arrived (inner, mutex_reply.Arrived mutex_arrival.Acquired) caller s =
    announced caller (Arrived arrival.Acquired) (Arrived arrival.Queued) (record s { inner = inner })
write_arrived (inner, _) caller s = (record s { inner = inner }, Arrived arrival.Queued)

-- a writer that was woken or handed the inner mutex goes on, by what the inner mutex answers
abbrev pub write_resumed : mutex.State × MutexReply → ℕ → State → State × RwReply
write_resumed (inner, mutex_reply.Resumed mutex_resumption.Acquired) caller s =
    announced caller (Resumed resumption.Acquired) (Resumed resumption.Queued) (record s { inner = inner })
write_resumed (inner, _) caller s = (record s { inner = inner }, Resumed resumption.Requeued)

-- a writer tries, by what the inner mutex answers a try: a failing try leaves that mutex alone
abbrev pub write_tried : mutex.State × MutexReply → State → State × RwReply
write_tried (inner, mutex_reply.Tried true) s =
    if s.readers == 0 then (record s { writer = writer.Holding; inner = inner }, Tried true) else (s, Tried false)
write_tried (inner, _) s = (s, Tried false)

-- a writer unlocks: the readers that wait hold the lock and are admitted, and then the inner mutex is
-- unlocked. Where no writer holds the lock it is a misuse, which changes nothing
abbrev pub write_unlocked : mutex.State × MutexReply → State → State × RwReply
write_unlocked (inner, _) s =
    if is_holding s.writer
    then (
      -- beside a writer no other reader holds the lock
      record s { readers = length s.queue; writer = writer.Nobody; queue = []; admitted = s.admitted ++ s.queue; inner = inner },
      Unlocked unlocking.Done,
    )
    else (s, Unlocked (unlocking.Misuse UnlockOfUnlockedRwMutex))

-- an event of a caller at its place: at another place than the event needs nothing changes
abbrev pub at_place : RwEvent → Place → ℕ → State → State × RwReply
at_place event.ReadArrive place.Out caller s = read_arrived caller s
at_place event.ReadArrive _ caller s = still s
at_place event.ReadTry place.Out caller s = read_tried s
at_place event.ReadTry _ caller s = still s
at_place event.ReadUnlock _ caller s = read_unlocked s
at_place (event.WriteArrive now) place.Out caller s = write_arrived (mutex.next s.inner caller (mutex_event.Arrive now)) caller s
at_place (event.WriteArrive now) _ caller s = still s
at_place event.WriteTry place.Out caller s = write_tried (mutex.next s.inner caller mutex_event.Try) s
at_place event.WriteTry _ caller s = still s
at_place (event.WriteWoken now) place.Woken caller s = write_resumed (mutex.next s.inner caller (mutex_event.Woken now)) caller s
at_place (event.WriteWoken now) place.Handed caller s = write_resumed (mutex.next s.inner caller (mutex_event.Woken now)) caller s
at_place (event.WriteWoken now) _ caller s = still s
at_place event.WriteUnlock _ caller s = write_unlocked (mutex.next s.inner caller mutex_event.Unlock) s
at_place event.Leave place.Granted caller s = (record s { granted = without caller s.granted }, Left)
at_place event.Leave place.Admitted caller s = (record s { admitted = without caller s.admitted }, Left)
at_place event.Leave _ caller s = still s

-- the machine: what an event of a caller does, and what it is answered
abbrev pub next : State → ℕ → RwEvent → State × RwReply
next s caller event = if nat_lt caller s.callers then at_place event (place_of s caller) caller s else still s

-- whether the place is one that the event needs
abbrev pub is_needed : RwEvent → Place → Bool
is_needed event.ReadArrive place.Out = true
is_needed event.ReadArrive _ = false
is_needed event.ReadTry place.Out = true
is_needed event.ReadTry _ = false
is_needed event.ReadUnlock _ = true
is_needed (event.WriteArrive now) place.Out = true
is_needed (event.WriteArrive now) _ = false
is_needed event.WriteTry place.Out = true
is_needed event.WriteTry _ = false
is_needed (event.WriteWoken now) place.Woken = true
is_needed (event.WriteWoken now) place.Handed = true
is_needed (event.WriteWoken now) _ = false
is_needed event.WriteUnlock _ = true
is_needed event.Leave place.Granted = true
is_needed event.Leave place.Admitted = true
is_needed event.Leave _ = false

-- whether a caller of the lock is at a place that the event needs
abbrev pub may_make : State → ℕ → RwEvent → Bool
may_make s caller event = nat_lt caller s.callers && is_needed event (place_of s caller)

-- how often the caller is in the list
abbrev pub times_in : ℕ → List ℕ → ℕ
times_in caller [] = 0
times_in caller (other ∷ callers) = (if caller == other then 1 else 0) + times_in caller callers

-- at how many places the caller is
abbrev pub places_of : ℕ → State → ℕ
places_of caller s =
    times_in caller s.admitted
    + (times_in caller s.granted
    + ((if waits_as caller s.writer then 1 else 0) + (times_in caller s.queue + times_in caller (mutex.waiting_by s.inner.flight s.inner.queue))))

-- what is true of every state that the machine comes to from `start`
pub record IsValid (s : State) : Type 0 where
  -- a writer and a reader don't hold the lock at once
  pub exclusive : IsTrue (is_holding s.writer) → s.readers ≡ 0
  -- a writer waits only for readers that hold the lock, and a reader only for an announced writer
  pub write_waits : IsTrue (waits_for_readers s.writer) → 0 < s.readers
  pub read_waits : IsFalse (is_announced s.writer) → s.queue ≡ []
  -- the announced writer has the inner mutex
  pub locked : s.inner.locked ≡ is_announced s.writer
  pub inner : mutex.IsValid s.inner
  pub same_callers : s.inner.callers ≡ s.callers
  -- those that wait are callers of the lock, each at one place
  pub apart : (caller : ℕ) → places_of caller s ≤ 1
  pub among : (caller : ℕ) → s.callers ≤ caller → places_of caller s ≡ 0
