-- The edges that Go's memory model and the documentation of its `sync` state, kind by kind: by which event, answered how, a call comes to the point that they name. What comes first of the two releases, and what comes later acquires. This profile's own are one more release (`WorkerEnds`), and the edges of the kinds of `golang.org/x/sync`.
use Rattle.std.specs.Prelude.{ℕ, ℤ, negsuc, Bool, true, false}
use Rattle.flight_core.specs.declared.event.FlightEvent.{FlightEvent}
use Rattle.flight_core.specs.declared.event.FlightEvent.TheVariants as on_flight
use Rattle.flight_core.specs.declared.event.FlightReply.{FlightReply}
use Rattle.flight_core.specs.declared.event.FlightReply.TheVariants as of_flight
use Rattle.mutex_core.specs.declared.event.MutexEvent.{MutexEvent}
use Rattle.mutex_core.specs.declared.event.MutexEvent.TheVariants as on_mutex
use Rattle.mutex_core.specs.declared.reply.MutexReply.{MutexReply}
use Rattle.mutex_core.specs.declared.reply.MutexReply.TheVariants as of_mutex
use Rattle.mutex_core.specs.declared.reply.Arrival.TheVariants as arrival
use Rattle.mutex_core.specs.declared.reply.Resumption.TheVariants as resumption
use Rattle.mutex_core.specs.declared.reply.Unlocking.TheVariants as unlocking
use Rattle.pool_core.specs.declared.pool_event.PoolEvent.{PoolEvent}
use Rattle.pool_core.specs.declared.pool_event.PoolEvent.TheVariants.{Put, LookOwn, LookOther, LookVictim}
use Rattle.pool_core.specs.declared.pool_event.PoolReply.{PoolReply}
use Rattle.pool_core.specs.declared.pool_event.PoolReply.TheVariants.{Kept, Item}
use Rattle.rw_core.specs.declared.event.RwEvent.{RwEvent}
use Rattle.rw_core.specs.declared.event.RwEvent.TheVariants as on_rw
use Rattle.rw_core.specs.declared.reply.RwReply.{RwReply}
use Rattle.rw_core.specs.declared.reply.RwReply.TheVariants as of_rw
use Rattle.rw_core.specs.declared.reply.Arrival.TheVariants as rw_arrival
use Rattle.rw_core.specs.declared.reply.Resumption.TheVariants as rw_resumption
use Rattle.rw_core.specs.declared.reply.Unlocking.TheVariants as rw_unlocking
use Rattle.sema_core.specs.declared.event.SemaEvent.{SemaEvent}
use Rattle.sema_core.specs.declared.event.SemaEvent.TheVariants as on_sema
use Rattle.sema_core.specs.declared.event.SemaReply.{SemaReply}
use Rattle.sema_core.specs.declared.event.SemaReply.TheVariants as of_sema
use Rattle.starts_core.specs.declared.starts.StartEvent.{StartEvent}
use Rattle.starts_core.specs.declared.starts.StartEvent.TheVariants as on_starts
use Rattle.starts_core.specs.declared.starts.StartReply.{StartReply}
use Rattle.starts_core.specs.declared.starts.StartReply.TheVariants as of_starts
use Rattle.wait_cores.specs.declared.group.GroupEvent.{GroupEvent}
use Rattle.wait_cores.specs.declared.group.GroupEvent.TheVariants as on_group
use Rattle.wait_cores.specs.declared.group.GroupReply.{GroupReply}
use Rattle.wait_cores.specs.declared.group.GroupReply.TheVariants as of_group
use Rattle.wait_cores.specs.declared.notify.NotifyEvent.{NotifyEvent}
use Rattle.wait_cores.specs.declared.notify.NotifyEvent.TheVariants as on_cond
use Rattle.wait_cores.specs.declared.notify.NotifyReply.{NotifyReply}
use Rattle.wait_cores.specs.declared.notify.NotifyReply.TheVariants as of_cond
use Rattle.wait_cores.specs.declared.once.OnceEvent.{OnceEvent}
use Rattle.wait_cores.specs.declared.once.OnceEvent.TheVariants as on_once
use Rattle.wait_cores.specs.declared.once.OnceReply.{OnceReply}
use Rattle.wait_cores.specs.declared.once.OnceReply.TheVariants as of_once
use Rattle.run_record.specs.declared.entered.ObjectEvent.{ObjectEvent}
use Rattle.run_record.specs.declared.entered.ObjectEvent.TheVariants as event
use Rattle.run_record.specs.declared.entered.ObjectReply.{ObjectReply}
use Rattle.run_record.specs.declared.entered.ObjectReply.TheVariants as reply

-- "for n < m, call n of l.Unlock() is synchronized before call m of l.Lock() returns", and a TryLock that succeeds "is equivalent to a call to Lock". An unlock that is a misuse is none.
pub data Unlocks : MutexEvent → MutexReply → Type 0 where
  told_nobody : Unlocks on_mutex.Unlock (of_mutex.Unlocked unlocking.Free)
  woke : (waiter : ℕ) → Unlocks on_mutex.Unlock (of_mutex.Unlocked (unlocking.Woke waiter))
  handed_on : (waiter : ℕ) → Unlocks on_mutex.Unlock (of_mutex.Unlocked (unlocking.Handed waiter))

pub data Locks : MutexEvent → MutexReply → Type 0 where
  at_once : (now : ℕ) → Locks (on_mutex.Arrive now) (of_mutex.Arrived arrival.Acquired)
  after_waiting : (now : ℕ) → Locks (on_mutex.Woken now) (of_mutex.Resumed resumption.Acquired)
  by_a_try : Locks on_mutex.Try (of_mutex.Tried true)

-- The same goes for Lock and Unlock of a reader/writer mutex. For a call of RLock "there is an n such that the n'th call to Unlock synchronizes before the return from RLock, and the corresponding call to RUnlock synchronizes before the n+1'th call to Lock".
pub data RwUnlocks : RwEvent → RwReply → Type 0 where
  a_reader : RwUnlocks on_rw.ReadUnlock (of_rw.Unlocked rw_unlocking.Done)
  a_writer : RwUnlocks on_rw.WriteUnlock (of_rw.Unlocked rw_unlocking.Done)

pub data RwLocks : RwEvent → RwReply → Type 0 where
  a_reader_at_once : RwLocks on_rw.ReadArrive (of_rw.Arrived rw_arrival.Acquired)
  a_reader_by_a_try : RwLocks on_rw.ReadTry (of_rw.Tried true)
  a_writer_at_once : (now : ℕ) → RwLocks (on_rw.WriteArrive now) (of_rw.Arrived rw_arrival.Acquired)
  a_writer_by_a_try : RwLocks on_rw.WriteTry (of_rw.Tried true)
  a_writer_behind_writers : (now : ℕ) → RwLocks (on_rw.WriteWoken now) (of_rw.Resumed rw_resumption.Acquired)
  whoever_was_let_in : RwLocks on_rw.Leave of_rw.Left

-- "A call to Done synchronizes before the return of any Wait call that it unblocks." Done adds -1, and Add of any number below 0 is the same. `Go` says it of "the return from f": that is the `done` which a started worker makes behind its script.
pub data Dones : GroupEvent → GroupReply → Type 0 where
  takes_away : (less : ℕ) → Dones (on_group.Add (negsuc less)) of_group.Done

pub data GroupWaitReturns : GroupEvent → GroupReply → Type 0 where
  at_once : GroupWaitReturns on_group.Wait of_group.Done
  released : GroupWaitReturns on_group.Leave of_group.Done

-- "The completion of a single call of f() from once.Do(f) is synchronized before the return of any call of once.Do(f)." OnceFunc and OnceValue rest on a once.
module _ {T : Type 0} where
  pub data FunctionCompletes : OnceEvent T → OnceReply T → Type 0 where
    with_value : (value : T) → FunctionCompletes (on_once.End value) of_once.Ended

  pub data OnceCallReturns : OnceEvent T → OnceReply T → Type 0 where
    at_once : (value : T) → OnceCallReturns on_once.Begin (of_once.Done value)
    released : (value : T) → OnceCallReturns on_once.Leave (of_once.Left value)

-- "A call to Broadcast or Signal synchronizes before any Wait call that it unblocks."
pub data Notifies : NotifyEvent → NotifyReply → Type 0 where
  one : Notifies on_cond.Signal of_cond.Done
  all : Notifies on_cond.Broadcast of_cond.Done

pub data CondWaitGoesOn : NotifyEvent → NotifyReply → Type 0 where
  notified : CondWaitGoesOn on_cond.Leave of_cond.Done

-- "A call to Put(x) synchronizes before a call to Get returning that same value x." An item that is dropped is returned to nobody.
pub data Puts : PoolEvent ℕ → PoolReply ℕ → Type 0 where
  kept : (item : ℕ) → Puts (Put item) Kept

pub data Gets : PoolEvent ℕ → PoolReply ℕ → Type 0 where
  of_the_own_part : (item : ℕ) → Gets LookOwn (Item item)
  of_another_part : (part item : ℕ) → Gets (LookOther part) (Item item)
  of_the_victims : (part item : ℕ) → Gets (LookVictim part) (Item item)

-- The documentation of `golang.org/x/sync` names no edge of a semaphore. These are a choice of this profile: the edges of a mutex, which a semaphore of size 1 is. A release that is a misuse is none, and a caller whose try is refused, or that comes to wait, has no weight yet.
pub data SemaReleases : SemaEvent → SemaReply → Type 0 where
  gives_back : (weight : ℕ) → SemaReleases (on_sema.Release weight) of_sema.Done

pub data SemaAcquires : SemaEvent → SemaReply → Type 0 where
  at_once : (weight : ℕ) → SemaAcquires (on_sema.Acquire weight) of_sema.Done
  by_a_try : (weight : ℕ) → SemaAcquires (on_sema.Try weight) of_sema.Done
  granted : SemaAcquires on_sema.Leave of_sema.Done

-- It names none of flights either. Here the landing of a flight is synchronized before the return of each caller that joined it, and before each later flight of the group begins, of whatever key, as by the lock that Go's code takes.
pub data FlightLands : FlightEvent → FlightReply → Type 0 where
  with_value : (value : ℤ) (shared : Bool) → FlightLands (on_flight.Land value) (of_flight.Landed shared)

pub data FlightCallGoesOn : FlightEvent → FlightReply → Type 0 where
  leads : (key : ℕ) → FlightCallGoesOn (on_flight.Join key) of_flight.Lead
  leaves : (value : ℤ) → FlightCallGoesOn on_flight.Leave (of_flight.Left value)

-- "The go statement that starts a new goroutine is synchronized before the start of the goroutine's execution." A worker that waits to be started is such a goroutine, and begins its execution where it goes.
pub data GoStarts : StartEvent → StartReply → Type 0 where
  a_worker : (worker : ℕ) → GoStarts (on_starts.Start worker) of_starts.Done

pub data StartedGoes : StartEvent → StartReply → Type 0 where
  was_started : StartedGoes on_starts.Leave of_starts.Go

-- Go names no edge from the exit of a goroutine: that the end of a worker releases is a choice of this profile.
pub data WorkerEnds : StartEvent → StartReply → Type 0 where
  made_its_calls : WorkerEnds on_starts.End of_starts.Done

-- whether the answer is one of an object of the event's kind
abbrev pub is_of_its_kind : ObjectEvent → ObjectReply → Bool
is_of_its_kind (event.Mutex e) (reply.Mutex r) = true
is_of_its_kind (event.RwMutex e) (reply.RwMutex r) = true
is_of_its_kind (event.Cond e) (reply.Cond r) = true
is_of_its_kind (event.WaitGroup e) (reply.WaitGroup r) = true
is_of_its_kind (event.Once e) (reply.Once r) = true
is_of_its_kind (event.OnceFunc e) (reply.OnceFunc r) = true
is_of_its_kind (event.OnceValue e) (reply.OnceValue r) = true
is_of_its_kind (event.Pool e) (reply.Pool r) = true
is_of_its_kind (event.Sema e) (reply.Sema r) = true
is_of_its_kind (event.Flight e) (reply.Flight r) = true
is_of_its_kind (event.Starts e) (reply.Starts r) = true
is_of_its_kind e r = false
