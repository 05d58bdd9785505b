-- What a call has made when it returns, by its items: what it took in there from earlier calls, and what it left for later ones. A call that is a misuse, or that met a halt, isn't spoken of.
use Rattle.std.specs.Prelude.{◌≡◌, ◌≢◌, ◌⊎◌, ℕ, ℤ, ◌+◌, ◌<◌, negsuc, Bool, true, cond, List, [], ◌∷◌, ◌++◌, map, length, Some, slice_get}
use Rattle.std.specs.List.{AllByRecursion}
use Rattle.sync_types.specs.declared.atomic_object.AtomicCall.TheVariants.{Add}
use Rattle.sync_types.specs.declared.atomic_object.AtomicReply.TheVariants.{Held}
use Rattle.sync_types.specs.declared.atomic_object.Number.TheVariants.{Int64}
use Rattle.script_calls.specs.declared.call.Reply.{Reply}
use Rattle.script_calls.specs.declared.call.Reply.TheVariants as replies
use Rattle.sync_types.specs.declared.lock_call.LockReply.TheVariants as lock_replies
use Rattle.sync_types.specs.declared.lock_call.MutexCall.{MutexCall}
use Rattle.sync_types.specs.declared.lock_call.MutexCall.TheVariants as mutex_calls
use Rattle.sync_types.specs.declared.lock_call.RwMutexCall.{RwMutexCall}
use Rattle.sync_types.specs.declared.lock_call.RwMutexCall.TheVariants as rw_calls
use Rattle.sync_types.specs.declared.once_call.DoReply.TheVariants as do_replies
use Rattle.sync_types.specs.declared.pool_call.PoolCall.{PoolCall}
use Rattle.sync_types.specs.declared.pool_call.PoolCall.TheVariants as pool_calls
use Rattle.sync_types.specs.declared.pool_call.PoolCallReply.TheVariants as pool_replies
use Rattle.sync_types.specs.declared.sema_call.SemaCall.{SemaCall}
use Rattle.sync_types.specs.declared.sema_call.SemaCall.TheVariants as sema_calls
use Rattle.sync_types.specs.declared.wait_call.CondCall.{CondCall}
use Rattle.sync_types.specs.declared.wait_call.CondCall.TheVariants as cond_calls
use Rattle.sync_types.specs.declared.wait_call.WaitGroupCall.{WaitGroupCall}
use Rattle.sync_types.specs.declared.wait_call.WaitGroupCall.TheVariants as group_calls
use Rattle.sync_model.specs.declared.item.Item.{Item}
use Rattle.sync_model.specs.declared.item.SharedCall.TheVariants as shared
use Rattle.sync_model.specs.declared.item.SharedReply.TheVariants as shared_replies
use Rattle.sync_model.specs.declared.journal.Deed.TheVariants.{Event}
use Rattle.sync_model.specs.Journal.{is_such}
use Rattle.flight_core.specs.declared.event.FlightEvent.TheVariants as on_flight
use Rattle.flight_core.specs.declared.event.FlightReply.TheVariants as flight_answers
use Rattle.mutex_core.specs.declared.event.MutexEvent.TheVariants as on_mutex
use Rattle.mutex_core.specs.declared.reply.MutexReply.{MutexReply}
use Rattle.mutex_core.specs.declared.reply.MutexReply.TheVariants as mutex_answers
use Rattle.mutex_core.specs.Edges.{releases}
use Rattle.pool_core.specs.declared.pool_event.PoolEvent.{PoolEvent}
use Rattle.pool_core.specs.declared.pool_event.PoolEvent.TheVariants as on_pool
use Rattle.pool_core.specs.declared.pool_event.PoolReply.{PoolReply}
use Rattle.pool_core.specs.declared.pool_event.PoolReply.TheVariants as pool_answers
use Rattle.rw_core.specs.declared.event.RwEvent.TheVariants as on_rw
use Rattle.rw_core.specs.declared.reply.RwReply.TheVariants as rw_answers
use Rattle.rw_core.specs.declared.reply.Unlocking.TheVariants as rw_unlocking
use Rattle.sema_core.specs.declared.event.SemaEvent.TheVariants as on_sema
use Rattle.sema_core.specs.declared.event.SemaReply.TheVariants as sema_answers
use Rattle.wait_cores.specs.declared.group.GroupEvent.TheVariants as on_group
use Rattle.wait_cores.specs.declared.group.GroupReply.TheVariants as group_answers
use Rattle.wait_cores.specs.declared.notify.NotifyEvent.TheVariants as on_cond
use Rattle.wait_cores.specs.declared.notify.NotifyReply.TheVariants as cond_answers
use Rattle.wait_cores.specs.declared.once.OnceEvent.{OnceEvent}
use Rattle.wait_cores.specs.declared.once.OnceEvent.TheVariants as on_once
use Rattle.wait_cores.specs.declared.once.OnceReply.{OnceReply}
use Rattle.wait_cores.specs.declared.once.OnceReply.TheVariants as once_answers
use Rattle.run_record.specs.declared.entered.ObjectEvent.{ObjectEvent}
use Rattle.run_record.specs.declared.entered.ObjectEvent.TheVariants as event
use Rattle.run_record.specs.declared.entered.ObjectReply.{ObjectReply}
use Rattle.run_record.specs.declared.entered.ObjectReply.TheVariants as reply
use Rattle.run_record.specs.declared.made.Made.{Made}
use Rattle.run_record.specs.declared.made.Made.TheVariants.{Shared, Entered}
use Rattle.run_record.specs.Edges.{takes}
use Rattle.run_record.specs.OnceKind.{failure}
use Rattle.run_record.specs.Record.{ObjectEntry}

-- the one item is this event on the object, which was answered so
pub record IsOnce (object : ℕ) (e : ObjectEvent) (r : ObjectReply) (items : List Made) : Type 0 where
  pub entry : ObjectEntry
  pub are : items ≡ Entered object entry ∷ []
  pub deed : entry.deed ≡ Event e r

-- the first item is this event on the object
pub record BeginsBy (object : ℕ) (e : ObjectEvent) (items : List Made) : Type 0 where
  pub entry : ObjectEntry
  pub rest : List Made
  pub answer : ObjectReply
  pub are : items ≡ Entered object entry ∷ rest
  pub deed : entry.deed ≡ Event e answer

-- the last item is an event on the object that takes in what earlier calls left there
pub record EndsTaking (object : ℕ) (items : List Made) : Type 0 where
  pub earlier : List Made
  pub last : ObjectEntry
  pub are : items ≡ earlier ++ Entered object last ∷ []
  pub takes_in : is_such takes last.deed ≡ true

-- of a mutex. A lock takes in what unlocks left, and so does a try that succeeds; an unlock leaves what its caller knows
abbrev pub MutexReturns : ℕ → MutexCall → List Made → Reply ℕ → Type 0
MutexReturns object mutex_calls.Lock items answer = (answer ≡ replies.Lock lock_replies.Done) × EndsTaking object items
MutexReturns object mutex_calls.TryLock items answer = (acquired : Bool) × (answer ≡ replies.Lock (lock_replies.Tried acquired)) × IsOnce object (event.Mutex on_mutex.Try) (reply.Mutex (mutex_answers.Tried acquired)) items
MutexReturns object mutex_calls.Unlock items answer = (given : MutexReply) × (answer ≡ replies.Lock lock_replies.Done) × IsOnce object (event.Mutex on_mutex.Unlock) (reply.Mutex given) items × (releases given ≡ true)

-- of a reader/writer mutex
abbrev pub RwMutexReturns : ℕ → RwMutexCall → List Made → Reply ℕ → Type 0
RwMutexReturns object rw_calls.Lock items answer = (now : ℕ) × (answer ≡ replies.Lock lock_replies.Done) × BeginsBy object (event.RwMutex (on_rw.WriteArrive now)) items × EndsTaking object items
RwMutexReturns object rw_calls.RLock items answer = (answer ≡ replies.Lock lock_replies.Done) × BeginsBy object (event.RwMutex on_rw.ReadArrive) items × EndsTaking object items
RwMutexReturns object rw_calls.TryLock items answer = (acquired : Bool) × (answer ≡ replies.Lock (lock_replies.Tried acquired)) × IsOnce object (event.RwMutex on_rw.WriteTry) (reply.RwMutex (rw_answers.Tried acquired)) items
RwMutexReturns object rw_calls.TryRLock items answer = (acquired : Bool) × (answer ≡ replies.Lock (lock_replies.Tried acquired)) × IsOnce object (event.RwMutex on_rw.ReadTry) (reply.RwMutex (rw_answers.Tried acquired)) items
RwMutexReturns object rw_calls.Unlock items answer = (answer ≡ replies.Lock lock_replies.Done) × IsOnce object (event.RwMutex on_rw.WriteUnlock) (reply.RwMutex (rw_answers.Unlocked rw_unlocking.Done)) items
RwMutexReturns object rw_calls.RUnlock items answer = (answer ≡ replies.Lock lock_replies.Done) × IsOnce object (event.RwMutex on_rw.ReadUnlock) (reply.RwMutex (rw_answers.Unlocked rw_unlocking.Done)) items

-- a wait on a cond: it took a ticket, unlocked the mutex, left the cond once it was notified, and locked the mutex again
pub record WaitReturns (cond mutex : ℕ) (items : List Made) : Type 0 where
  pub taken : List Made
  pub unlocked : List Made
  pub left : List Made
  pub locked : List Made
  pub unlocking : MutexReply
  pub are : items ≡ taken ++ (unlocked ++ (left ++ locked))
  pub takes_a_ticket : IsOnce cond (event.Cond on_cond.Ticket) (reply.Cond cond_answers.Done) taken
  pub unlocks : IsOnce mutex (event.Mutex on_mutex.Unlock) (reply.Mutex unlocking) unlocked
  pub frees : releases unlocking ≡ true
  pub leaves : EndsTaking cond left
  pub locks : EndsTaking mutex locked

-- of a cond
abbrev pub CondReturns : (cond mutex : ℕ) → CondCall → List Made → Reply ℕ → Type 0
CondReturns cond mutex cond_calls.Wait items answer = (answer ≡ replies.Returned) × WaitReturns cond mutex items
CondReturns cond mutex cond_calls.Signal items answer = (answer ≡ replies.Returned) × IsOnce cond (event.Cond on_cond.Signal) (reply.Cond cond_answers.Done) items
CondReturns cond mutex cond_calls.Broadcast items answer = (answer ≡ replies.Returned) × IsOnce cond (event.Cond on_cond.Broadcast) (reply.Cond cond_answers.Done) items

-- of a wait group: `done` adds -1
abbrev pub WaitGroupReturns : ℕ → WaitGroupCall → List Made → Reply ℕ → Type 0
WaitGroupReturns object (group_calls.Add delta) items answer = (answer ≡ replies.Returned) × IsOnce object (event.WaitGroup (on_group.Add delta)) (reply.WaitGroup group_answers.Done) items
WaitGroupReturns object group_calls.Done items answer = (answer ≡ replies.Returned) × IsOnce object (event.WaitGroup (on_group.Add (negsuc 0))) (reply.WaitGroup group_answers.Done) items
WaitGroupReturns object group_calls.Wait items answer = (answer ≡ replies.Returned) × BeginsBy object (event.WaitGroup on_group.Wait) items × EndsTaking object items

module _ {T : Type 0} (on : OnceEvent T → ObjectEvent) (answered : OnceReply T → ObjectReply) where
  -- the call was the first, ran the function of the once, which made these items and came to this value, and ended it
  pub record Ran (object : ℕ) (made : List Made) (value : T) (items : List Made) : Type 0 where
    pub begun : List Made
    pub ended : List Made
    pub are : items ≡ begun ++ (made ++ ended)
    pub begins : IsOnce object (on on_once.Begin) (answered once_answers.Run) begun
    pub ends : IsOnce object (on (on_once.End value)) (answered once_answers.Ended) ended

  -- the call was told by its last event what the function had come to
  pub record WasTold (object : ℕ) (value : T) (items : List Made) : Type 0 where
    pub earlier : List Made
    pub last : ObjectEntry
    pub given : OnceReply T
    pub made : OnceEvent T
    pub are : items ≡ earlier ++ Entered object last ∷ []
    pub deed : last.deed ≡ Event (on made) (answered given)
    pub told : (given ≡ once_answers.Done value) ⊎ (given ≡ once_answers.Left value)

-- of a once that adds this amount to atomic number a
abbrev pub OnceReturns : (object a : ℕ) → ℤ → List Made → Reply ℕ → Type 0
OnceReturns object a amount items answer =
    ((sum : ℤ) × (x : Item) × (answer ≡ replies.Once (do_replies.Ran sum)) × Ran event.Once reply.Once object (Shared x ∷ []) sum items
    × (x.call ≡ shared.Atomic a (Add (Int64 amount))) × (x.reply ≡ shared_replies.Atomic (Held (Int64 sum))))
    ⊎ ((kept : ℤ) × (answer ≡ replies.Once do_replies.Done) × WasTold event.Once reply.Once object kept items)

-- of a function made by `OnceFunc` that comes to this code, and of one made by `OnceValue` that comes to this value
abbrev pub OnceFuncReturns : (object code : ℕ) → List Made → Reply ℕ → Type 0
OnceFuncReturns object code items answer =
    ((answer ≡ replies.OnceFunc (failure code)) × Ran event.OnceFunc reply.OnceFunc object [] code items)
    ⊎ ((kept : ℕ) × (answer ≡ replies.OnceFunc (failure kept)) × WasTold event.OnceFunc reply.OnceFunc object kept items)

abbrev pub OnceValueReturns : (object value : ℕ) → List Made → Reply ℕ → Type 0
OnceValueReturns object value items answer =
    ((answer ≡ replies.OnceValue value) × Ran event.OnceValue reply.OnceValue object [] value items)
    ⊎ ((kept : ℕ) × (answer ≡ replies.OnceValue kept) × WasTold event.OnceValue reply.OnceValue object kept items)

-- an item is this event on the object, which was answered so
pub record Has (object : ℕ) (e : ObjectEvent) (r : ObjectReply) (items : List Made) : Type 0 where
  pub i : ℕ
  pub entry : ObjectEntry
  pub at : slice_get items i ≡ Some (Entered object entry)
  pub deed : entry.deed ≡ Event e r

-- a get looked at each part and at the victims of each, and found nothing
pub record FoundNothing (workers worker first : ℕ) (items : List Made) : Type 0 where
  pub own : Has (first + worker) (event.Pool on_pool.LookOwn) (reply.Pool pool_answers.Nothing) items
  pub others : (part : ℕ) → part < workers → part ≢ worker → Has (first + part) (event.Pool (on_pool.LookOther part)) (reply.Pool pool_answers.Nothing) items
  pub victims : (part : ℕ) → part < workers → Has (first + part) (event.Pool (on_pool.LookVictim part)) (reply.Pool pool_answers.Nothing) items

-- a get took this item from a part by its last look: what is private there only from its worker's own part
pub record TookLast (workers worker first item : ℕ) (items : List Made) : Type 0 where
  pub earlier : List Made
  pub last : ObjectEntry
  pub part : ℕ
  pub made : PoolEvent ℕ
  pub within : part < workers
  pub are : items ≡ earlier ++ Entered (first + part) last ∷ []
  pub deed : last.deed ≡ Event (event.Pool made) (reply.Pool (pool_answers.Item item))
  pub own : made ≡ on_pool.LookOwn → part ≡ worker
  pub other : (named : ℕ) → made ≡ on_pool.LookOther named → part ≡ named
  pub victim : (named : ℕ) → made ≡ on_pool.LookVictim named → part ≡ named

-- a sweep swept each part once, from 0 up
pub record SweptAll (workers first : ℕ) (items : List Made) : Type 0 where
  pub count : length items ≡ workers
  pub each : (part : ℕ) → part < workers → (entry : ObjectEntry) × (slice_get items part ≡ Some (Entered (first + part) entry)) × (entry.deed ≡ Event (event.Pool on_pool.Sweep) (reply.Pool pool_answers.Swept))

-- of a pool whose parts are the objects from this one on. A worker puts into its own part
abbrev pub PoolReturns : (workers worker first : ℕ) → PoolCall → List Made → Reply ℕ → Type 0
PoolReturns workers worker first (pool_calls.Put item) items answer = (given : PoolReply ℕ) × (answer ≡ replies.Pool pool_replies.Done) × IsOnce (first + worker) (event.Pool (on_pool.Put item)) (reply.Pool given) items × ((given ≡ pool_answers.Kept) ⊎ ((dropped : ℕ) × (given ≡ pool_answers.Dropped dropped)))
PoolReturns workers worker first pool_calls.Get items answer = ((answer ≡ replies.Pool pool_replies.New) × FoundNothing workers worker first items) ⊎ ((item : ℕ) × (answer ≡ replies.Pool (pool_replies.Put item)) × TookLast workers worker first item items)
PoolReturns workers worker first pool_calls.Sweep items answer = (answer ≡ replies.Pool pool_replies.Done) × SweptAll workers first items

-- of a semaphore. An acquire takes in what releases left, and so does a try that succeeds; a release leaves what its caller knows
abbrev pub SemaReturns : ℕ → SemaCall → List Made → Reply ℕ → Type 0
SemaReturns object (sema_calls.Acquire weight) items answer = (answer ≡ replies.Lock lock_replies.Done) × BeginsBy object (event.Sema (on_sema.Acquire weight)) items × EndsTaking object items
SemaReturns object (sema_calls.TryAcquire weight) items answer = (had : Bool) × (answer ≡ replies.Lock (lock_replies.Tried had)) × IsOnce object (event.Sema (on_sema.Try weight)) (reply.Sema (cond had sema_answers.Done sema_answers.Refused)) items
SemaReturns object (sema_calls.Release weight) items answer = (answer ≡ replies.Lock lock_replies.Done) × IsOnce object (event.Sema (on_sema.Release weight)) (reply.Sema sema_answers.Done) items

-- the call led a flight of the key, ran the function of the group, which made these items and came to this value, and landed the flight with it
pub record HasLed (object key : ℕ) (made : List Made) (value : ℤ) (shared : Bool) (items : List Made) : Type 0 where
  pub led : List Made
  pub landed : List Made
  pub are : items ≡ led ++ (made ++ landed)
  pub leads : IsOnce object (event.Flight (on_flight.Join key)) (reply.Flight flight_answers.Lead) led
  pub lands : IsOnce object (event.Flight (on_flight.Land value)) (reply.Flight (flight_answers.Landed shared)) landed

-- the call joined a flight of the key, slept, perhaps woke too early, and left with what the flight came to
pub record HasJoined (object key : ℕ) (value : ℤ) (items : List Made) : Type 0 where
  pub first : ObjectEntry
  pub between : List ObjectEntry
  pub last : ObjectEntry
  pub are : items ≡ Entered object first ∷ (map (λ entry. Entered object entry) between ++ Entered object last ∷ [])
  pub joins : first.deed ≡ Event (event.Flight (on_flight.Join key)) (reply.Flight flight_answers.Queued)
  pub sleeps : AllByRecursion (λ (entry : ObjectEntry). entry.deed ≡ Event (event.Flight on_flight.Leave) (reply.Flight flight_answers.Still)) between
  pub leaves : last.deed ≡ Event (event.Flight on_flight.Leave) (reply.Flight (flight_answers.Left value))

-- of a group of flights that adds this amount to atomic number a, called for a key
abbrev pub FlightReturns : (object a : ℕ) → ℤ → (key : ℕ) → List Made → Reply ℕ → Type 0
FlightReturns object a amount key items answer =
    ((value : ℤ) × (was_shared : Bool) × (x : Item) × (answer ≡ replies.Flown value was_shared) × HasLed object key (Shared x ∷ []) value was_shared items
    × (x.call ≡ shared.Atomic a (Add (Int64 amount))) × (x.reply ≡ shared_replies.Atomic (Held (Int64 value))))
    ⊎ ((value : ℤ) × (answer ≡ replies.Flown value true) × HasJoined object key value items)
