-- The rows of the table of edges as the laws name them: by the very events and answers, and by the turns that make them.
use Rattle.std.specs.Prelude.{◌≡◌, ◌⊎◌, ℕ, ℤ, pos, ◌<◌, Bool, true, false, List, [], ◌∷◌, ◌++◌, Contains, Option, Some, None, slice_get}
use Rattle.sync_types.specs.declared.atomic_object.AtomicCall.{AtomicCall}
use Rattle.sync_types.specs.declared.atomic_object.AtomicCall.TheVariants as atomic_calls
use Rattle.sync_types.specs.declared.atomic_object.AtomicReply.{AtomicReply}
use Rattle.sync_types.specs.declared.atomic_object.AtomicReply.TheVariants as atomic_replies
use Rattle.sync_types.specs.declared.atomic_object.Number.{Number}
use Rattle.sync_types.specs.declared.lock_call.RwMutexCall.TheVariants as rw_calls
use Rattle.sync_types.specs.declared.map_object.MapCall.TheVariants as map_calls
use Rattle.sync_types.specs.declared.misuse.Misuse.{Misuse}
use Rattle.script_calls.specs.declared.call.Call.{Call}
use Rattle.script_calls.specs.declared.call.Operation.{Operation}
use Rattle.script_calls.specs.declared.call.Operation.TheVariants as operations
use Rattle.script_calls.specs.declared.call.Reply.{Reply}
use Rattle.script_calls.specs.declared.call.Reply.TheVariants as replies
use Rattle.script_calls.specs.declared.call.VarCall.{VarCall}
use Rattle.mutex_core.specs.declared.event.MutexEvent.{MutexEvent}
use Rattle.mutex_core.specs.declared.event.MutexEvent.TheVariants as mutex_events
use Rattle.mutex_core.specs.declared.reply.MutexReply.TheVariants as mutex_replies
use Rattle.mutex_core.specs.declared.reply.Arrival.TheVariants as mutex_arrival
use Rattle.mutex_core.specs.declared.reply.Resumption.TheVariants as mutex_resumption
use Rattle.mutex_core.specs.declared.reply.Unlocking.TheVariants as mutex_unlocking
use Rattle.rw_core.specs.declared.event.RwEvent.{RwEvent}
use Rattle.rw_core.specs.declared.event.RwEvent.TheVariants as rw_events
use Rattle.rw_core.specs.declared.reply.RwReply.TheVariants as rw_replies
use Rattle.rw_core.specs.declared.reply.Arrival.TheVariants as rw_arrival
use Rattle.rw_core.specs.declared.reply.Resumption.TheVariants as rw_resumption
use Rattle.rw_core.specs.declared.reply.Unlocking.TheVariants as rw_unlocking
use Rattle.wait_cores.specs.declared.notify.NotifyEvent.{NotifyEvent}
use Rattle.wait_cores.specs.declared.notify.NotifyEvent.TheVariants as notify_events
use Rattle.wait_cores.specs.declared.notify.NotifyReply.TheVariants as notify_replies
use Rattle.wait_cores.specs.declared.group.GroupEvent.{GroupEvent}
use Rattle.wait_cores.specs.declared.group.GroupEvent.TheVariants as group_events
use Rattle.wait_cores.specs.declared.group.GroupReply.TheVariants as group_replies
use Rattle.wait_cores.specs.declared.once.OnceEvent.TheVariants as once_events
use Rattle.wait_cores.specs.declared.once.OnceReply.TheVariants as once_replies
use Rattle.pool_core.specs.declared.pool_event.PoolEvent.{PoolEvent}
use Rattle.pool_core.specs.declared.pool_event.PoolEvent.TheVariants as pool_events
use Rattle.pool_core.specs.declared.pool_event.PoolReply.TheVariants as pool_replies
use Rattle.sema_core.specs.declared.event.SemaEvent.{SemaEvent}
use Rattle.sema_core.specs.declared.event.SemaEvent.TheVariants as sema_events
use Rattle.sema_core.specs.declared.event.SemaReply.TheVariants as sema_replies
use Rattle.flight_core.specs.declared.event.FlightEvent.{FlightEvent}
use Rattle.flight_core.specs.declared.event.FlightEvent.TheVariants as flight_events
use Rattle.flight_core.specs.declared.event.FlightReply.TheVariants as flight_replies
use Rattle.starts_core.specs.declared.starts.StartEvent.TheVariants as start_events
use Rattle.starts_core.specs.declared.starts.StartReply.TheVariants as start_replies
use Rattle.run_record.specs.declared.entered.ObjectEvent.TheVariants as events
use Rattle.run_record.specs.declared.entered.ObjectReply.TheVariants as answered
use Rattle.workload.specs.Plan.{Plan}
use Rattle.step_runner.specs.declared.trace.TraceItem.{TraceItem}
use Rattle.step_runner.specs.declared.turns.item.Deed.{Deed}
use Rattle.step_runner.specs.declared.turns.item.Deed.TheVariants as deeds
use Rattle.step_runner.specs.declared.turns.item.Item.{Item}
use Rattle.race_clocks.specs.Channels.{Channel, MutexUnlock, WriterUnlock, ReaderUnlock, Notice, Lowering, FunctionEnd, PutItem, Start, Atomic, MapKey, takes_in}
use Rattle.race_clocks.specs.HappensBefore.{done_before, Stands}
use Rattle.race_clocks.specs.Races.{Access, is_write}

-- ---- who makes what

abbrev pub item : (place caller : ℕ) → Deed → Item
item place caller deed = record { object = place; caller = caller; deed = deed }

-- turn i of the trace makes this on the object at this place, behind some items and before others of the turn
pub record Makes (trace : List TraceItem) (i place caller : ℕ) (deed : Deed) : Type 0 where
  pub turn : TraceItem
  pub at : slice_get trace i ≡ Some turn
  pub front : List Item
  pub back : List Item
  pub made : turn.made ≡ front ++ item place caller deed ∷ back

-- what was done before that
abbrev pub earlier_of : (trace : List TraceItem) (i place caller : ℕ) (deed : Deed) → Makes trace i place caller deed → List Item
earlier_of trace i place caller deed makes = done_before trace i ++ makes.front

-- turn i of the trace completed this call on the object at this place, with this reply
pub record Completes (trace : List TraceItem) (i place : ℕ) (operation : Operation) (reply : Reply (List ℕ)) : Type 0 where
  pub turn : TraceItem
  pub at : slice_get trace i ≡ Some turn
  pub of : turn.call ≡ Some (record { object = place; operation = operation })
  pub with : turn.reply ≡ Some reply

-- turns i and j are of one worker, and i is the earlier one
pub record IsOwn (trace : List TraceItem) (i j : ℕ) : Type 0 where
  pub first : TraceItem
  pub second : TraceItem
  pub at_first : slice_get trace i ≡ Some first
  pub at_second : slice_get trace j ≡ Some second
  pub earlier : i < j
  pub worker : first.worker ≡ second.worker

-- turn j takes in what turn i handed on through the channel, and what is still there
pub record IsHanded (plan : Plan) (trace : List TraceItem) (channel : Channel) (i j : ℕ) : Type 0 where
  pub taker : TraceItem
  pub at : slice_get trace j ≡ Some taker
  pub takes : takes_in plan (done_before trace j) taker channel ≡ true
  pub stands : Stands plan trace channel i j

-- ---- a mutex

pub data IsMutexUnlock : Deed → Type 0 where
  free : IsMutexUnlock (deeds.Entered (events.Mutex mutex_events.Unlock) (answered.Mutex (mutex_replies.Unlocked mutex_unlocking.Free)))
  woke : (ticket : ℕ) → IsMutexUnlock (deeds.Entered (events.Mutex mutex_events.Unlock) (answered.Mutex (mutex_replies.Unlocked (mutex_unlocking.Woke ticket))))
  handed : (ticket : ℕ) → IsMutexUnlock (deeds.Entered (events.Mutex mutex_events.Unlock) (answered.Mutex (mutex_replies.Unlocked (mutex_unlocking.Handed ticket))))

pub data IsMutexLock : Deed → Type 0 where
  at_once : (now : ℕ) → IsMutexLock (deeds.Entered (events.Mutex (mutex_events.Arrive now)) (answered.Mutex (mutex_replies.Arrived mutex_arrival.Acquired)))
  tried : IsMutexLock (deeds.Entered (events.Mutex mutex_events.Try) (answered.Mutex (mutex_replies.Tried true)))
  resumed : (now : ℕ) → IsMutexLock (deeds.Entered (events.Mutex (mutex_events.Woken now)) (answered.Mutex (mutex_replies.Resumed mutex_resumption.Acquired)))

-- ---- a reader/writer mutex

abbrev pub writer_unlock : Deed
writer_unlock = deeds.Entered (events.RwMutex rw_events.WriteUnlock) (answered.RwMutex (rw_replies.Unlocked rw_unlocking.Done))

abbrev pub reader_unlock : Deed
reader_unlock = deeds.Entered (events.RwMutex rw_events.ReadUnlock) (answered.RwMutex (rw_replies.Unlocked rw_unlocking.Done))

-- a `lock` or an `rlock` is completed, or a try took the mutex
pub data IsRwLock : Deed → Type 0 where
  reader_at_once : IsRwLock (deeds.Entered (events.RwMutex rw_events.ReadArrive) (answered.RwMutex (rw_replies.Arrived rw_arrival.Acquired)))
  reader_tried : IsRwLock (deeds.Entered (events.RwMutex rw_events.ReadTry) (answered.RwMutex (rw_replies.Tried true)))
  writer_at_once : (now : ℕ) → IsRwLock (deeds.Entered (events.RwMutex (rw_events.WriteArrive now)) (answered.RwMutex (rw_replies.Arrived rw_arrival.Acquired)))
  writer_tried : IsRwLock (deeds.Entered (events.RwMutex rw_events.WriteTry) (answered.RwMutex (rw_replies.Tried true)))
  writer_resumed : (now : ℕ) → IsRwLock (deeds.Entered (events.RwMutex (rw_events.WriteWoken now)) (answered.RwMutex (rw_replies.Resumed rw_resumption.Acquired)))
  left : IsRwLock (deeds.Entered (events.RwMutex rw_events.Leave) (answered.RwMutex rw_replies.Left))

-- in a turn of a writer's call, and of a reader's
pub data IsWritersCall : Option Call → Type 0 where
  lock : (place : ℕ) → IsWritersCall (Some (record { object = place; operation = operations.RwMutex rw_calls.Lock }))
  try_lock : (place : ℕ) → IsWritersCall (Some (record { object = place; operation = operations.RwMutex rw_calls.TryLock }))

pub data IsReadersCall : Option Call → Type 0 where
  r_lock : (place : ℕ) → IsReadersCall (Some (record { object = place; operation = operations.RwMutex rw_calls.RLock }))
  try_r_lock : (place : ℕ) → IsReadersCall (Some (record { object = place; operation = operations.RwMutex rw_calls.TryRLock }))

-- ---- a cond

abbrev pub signal : Deed
signal = deeds.Entered (events.Cond notify_events.Signal) (answered.Cond notify_replies.Done)

abbrev pub broadcast : Deed
broadcast = deeds.Entered (events.Cond notify_events.Broadcast) (answered.Cond notify_replies.Done)

abbrev pub leaving : Deed
leaving = deeds.Entered (events.Cond notify_events.Leave) (answered.Cond notify_replies.Done)

-- ---- a wait group

abbrev pub added : ℤ → Deed
added delta = deeds.Entered (events.WaitGroup (group_events.Add delta)) (answered.WaitGroup group_replies.Done)

pub data IsGroupReturn : Deed → Type 0 where
  at_once : IsGroupReturn (deeds.Entered (events.WaitGroup group_events.Wait) (answered.WaitGroup group_replies.Done))
  left : IsGroupReturn (deeds.Entered (events.WaitGroup group_events.Leave) (answered.WaitGroup group_replies.Done))

-- ---- a once, a `OnceFunc` and a `OnceValue`

pub data IsOnceEnd : Deed → Type 0 where
  once : (sum : ℤ) → IsOnceEnd (deeds.Entered (events.Once (once_events.End sum)) (answered.Once once_replies.Ended))
  once_func : (code : ℕ) → IsOnceEnd (deeds.Entered (events.OnceFunc (once_events.End code)) (answered.OnceFunc once_replies.Ended))
  once_value : (value : ℕ) → IsOnceEnd (deeds.Entered (events.OnceValue (once_events.End value)) (answered.OnceValue once_replies.Ended))

pub data IsOnceReturn : Deed → Type 0 where
  once : (sum : ℤ) → IsOnceReturn (deeds.Entered (events.Once once_events.Begin) (answered.Once (once_replies.Done sum)))
  once_left : (sum : ℤ) → IsOnceReturn (deeds.Entered (events.Once once_events.Leave) (answered.Once (once_replies.Left sum)))
  once_func : (code : ℕ) → IsOnceReturn (deeds.Entered (events.OnceFunc once_events.Begin) (answered.OnceFunc (once_replies.Done code)))
  once_func_left : (code : ℕ) → IsOnceReturn (deeds.Entered (events.OnceFunc once_events.Leave) (answered.OnceFunc (once_replies.Left code)))
  once_value : (value : ℕ) → IsOnceReturn (deeds.Entered (events.OnceValue once_events.Begin) (answered.OnceValue (once_replies.Done value)))
  once_value_left : (value : ℕ) → IsOnceReturn (deeds.Entered (events.OnceValue once_events.Leave) (answered.OnceValue (once_replies.Left value)))

-- ---- a weighted semaphore

abbrev pub gave_back : ℕ → Deed
gave_back weight = deeds.Entered (events.Sema (sema_events.Release weight)) (answered.Sema sema_replies.Done)

-- a caller has its weight, at once or with the leaving
pub data IsWeightHad : Deed → Type 0 where
  at_once : (weight : ℕ) → IsWeightHad (deeds.Entered (events.Sema (sema_events.Acquire weight)) (answered.Sema sema_replies.Done))
  tried : (weight : ℕ) → IsWeightHad (deeds.Entered (events.Sema (sema_events.Try weight)) (answered.Sema sema_replies.Done))
  left : IsWeightHad (deeds.Entered (events.Sema sema_events.Leave) (answered.Sema sema_replies.Done))

-- ---- a group of flights

abbrev pub landed : ℤ → Bool → Deed
landed value shared = deeds.Entered (events.Flight (flight_events.Land value)) (answered.Flight (flight_replies.Landed shared))

-- a caller leads a flight, or leaves one that has landed
pub data IsFlightKnown : Deed → Type 0 where
  leads : (key : ℕ) → IsFlightKnown (deeds.Entered (events.Flight (flight_events.Join key)) (answered.Flight flight_replies.Lead))
  left : (value : ℤ) → IsFlightKnown (deeds.Entered (events.Flight flight_events.Leave) (answered.Flight (flight_replies.Left value)))

-- ---- a pool

abbrev pub put : ℕ → Deed
put value = deeds.Entered (events.Pool (pool_events.Put value)) (answered.Pool pool_replies.Kept)

-- ---- a worker that waits to be started

abbrev pub start_of : ℕ → Deed
start_of worker = deeds.Entered (events.Starts (start_events.Start worker)) (answered.Starts start_replies.Done)

-- ---- an atomic

abbrev pub on_atomic : AtomicCall → AtomicReply → Deed
on_atomic call reply = deeds.Placed (operations.Atomic call) (replies.Atomic reply)

-- ---- a plain variable

-- the turn made this access of a call of its script, and nothing else
pub record IsAccessed (one : TraceItem) (access : Access) : Type 0 where
  pub call : VarCall
  pub reply : Reply (List ℕ)
  pub index : ℕ
  pub made : one.made ≡ item access.variable one.worker (deeds.Placed (operations.Var call) reply) ∷ []
  pub writes : access.writes ≡ is_write call
  pub placed : one.index ≡ Some index

-- ---- what hands on nothing, and what takes in nothing

-- each item of a turn does such a thing
abbrev pub EachDoes : (Deed → Type 0) → TraceItem → Type 0
EachDoes P turn = (it : Item) → Contains turn.made it → P it.deed

-- the misuses, what gives a lock, fails to or waits for it, what returns, an `add` of 0 or above, looks and loads, an event that changes nothing, and a plain variable
pub data HandsOnNothing : Deed → Type 0 where
  mutex_locked : (d : Deed) → IsMutexLock d → HandsOnNothing d
  mutex_misused : (misuse : Misuse) → HandsOnNothing (deeds.Entered (events.Mutex mutex_events.Unlock) (answered.Mutex (mutex_replies.Unlocked (mutex_unlocking.Misuse misuse))))
  rw_locked : (d : Deed) → IsRwLock d → HandsOnNothing d
  rw_misused : (event : RwEvent) (misuse : Misuse) → HandsOnNothing (deeds.Entered (events.RwMutex event) (answered.RwMutex (rw_replies.Unlocked (rw_unlocking.Misuse misuse))))
  raised : (amount : ℕ) → HandsOnNothing (added (pos amount))
  group_misused : (event : GroupEvent) (misuse : Misuse) → HandsOnNothing (deeds.Entered (events.WaitGroup event) (answered.WaitGroup (group_replies.Misused misuse)))
  group_returned : (d : Deed) → IsGroupReturn d → HandsOnNothing d
  once_returned : (d : Deed) → IsOnceReturn d → HandsOnNothing d
  weight_had : (d : Deed) → IsWeightHad d → HandsOnNothing d
  weight_queued : (event : SemaEvent) → HandsOnNothing (deeds.Entered (events.Sema event) (answered.Sema sema_replies.Queued))
  weight_refused : (event : SemaEvent) → HandsOnNothing (deeds.Entered (events.Sema event) (answered.Sema sema_replies.Refused))
  weight_misused : (event : SemaEvent) (misuse : Misuse) → HandsOnNothing (deeds.Entered (events.Sema event) (answered.Sema (sema_replies.Misused misuse)))
  weight_still : (event : SemaEvent) → HandsOnNothing (deeds.Entered (events.Sema event) (answered.Sema sema_replies.Still))
  flight_known : (d : Deed) → IsFlightKnown d → HandsOnNothing d
  flight_queued : (event : FlightEvent) → HandsOnNothing (deeds.Entered (events.Flight event) (answered.Flight flight_replies.Queued))
  flight_still : (event : FlightEvent) → HandsOnNothing (deeds.Entered (events.Flight event) (answered.Flight flight_replies.Still))
  pool_taken : (event : PoolEvent ℕ) (value : ℕ) → HandsOnNothing (deeds.Entered (events.Pool event) (answered.Pool (pool_replies.Item value)))
  pool_missed : (event : PoolEvent ℕ) → HandsOnNothing (deeds.Entered (events.Pool event) (answered.Pool pool_replies.Nothing))
  pool_dropped : (event : PoolEvent ℕ) (value : ℕ) → HandsOnNothing (deeds.Entered (events.Pool event) (answered.Pool (pool_replies.Dropped value)))
  pool_swept : (event : PoolEvent ℕ) → HandsOnNothing (deeds.Entered (events.Pool event) (answered.Pool pool_replies.Swept))
  loaded : (reply : AtomicReply) → HandsOnNothing (on_atomic atomic_calls.Load reply)
  not_swapped : (old new : Number) → HandsOnNothing (on_atomic (atomic_calls.CompareAndSwap old new) (atomic_replies.Compared false))
  key_loaded : (key : List ℕ) (reply : Reply (List ℕ)) → HandsOnNothing (deeds.Placed (operations.Map (map_calls.Load key)) reply)
  ranged : (reply : Reply (List ℕ)) → HandsOnNothing (deeds.Placed operations.Range reply)
  accessed : (call : VarCall) (reply : Reply (List ℕ)) → HandsOnNothing (deeds.Placed (operations.Var call) reply)
  mutex_still : (event : MutexEvent) → HandsOnNothing (deeds.Entered (events.Mutex event) (answered.Mutex mutex_replies.Still))
  rw_still : (event : RwEvent) → HandsOnNothing (deeds.Entered (events.RwMutex event) (answered.RwMutex rw_replies.Still))
  group_still : (event : GroupEvent) → HandsOnNothing (deeds.Entered (events.WaitGroup event) (answered.WaitGroup group_replies.Still))
  mutex_failed : HandsOnNothing (deeds.Entered (events.Mutex mutex_events.Try) (answered.Mutex (mutex_replies.Tried false)))
  mutex_queued : (now ticket : ℕ) → HandsOnNothing (deeds.Entered (events.Mutex (mutex_events.Arrive now)) (answered.Mutex (mutex_replies.Arrived (mutex_arrival.Queued ticket))))
  mutex_requeued : (now : ℕ) → HandsOnNothing (deeds.Entered (events.Mutex (mutex_events.Woken now)) (answered.Mutex (mutex_replies.Resumed mutex_resumption.Requeued)))
  rw_failed : (event : RwEvent) → HandsOnNothing (deeds.Entered (events.RwMutex event) (answered.RwMutex (rw_replies.Tried false)))
  rw_queued : (event : RwEvent) → HandsOnNothing (deeds.Entered (events.RwMutex event) (answered.RwMutex (rw_replies.Arrived rw_arrival.Queued)))
  rw_waits : (event : RwEvent) → HandsOnNothing (deeds.Entered (events.RwMutex event) (answered.RwMutex (rw_replies.Resumed rw_resumption.Queued)))
  rw_requeued : (event : RwEvent) → HandsOnNothing (deeds.Entered (events.RwMutex event) (answered.RwMutex (rw_replies.Resumed rw_resumption.Requeued)))

-- tries that failed, whoever waits still, unlocks, what is written without looking, an event that changes nothing, and a plain variable
pub data TakesInNothing : Deed → Type 0 where
  mutex_failed : TakesInNothing (deeds.Entered (events.Mutex mutex_events.Try) (answered.Mutex (mutex_replies.Tried false)))
  mutex_queued : (now ticket : ℕ) → TakesInNothing (deeds.Entered (events.Mutex (mutex_events.Arrive now)) (answered.Mutex (mutex_replies.Arrived (mutex_arrival.Queued ticket))))
  mutex_requeued : (now : ℕ) → TakesInNothing (deeds.Entered (events.Mutex (mutex_events.Woken now)) (answered.Mutex (mutex_replies.Resumed mutex_resumption.Requeued)))
  mutex_unlocked : (d : Deed) → IsMutexUnlock d → TakesInNothing d
  rw_failed : (event : RwEvent) → TakesInNothing (deeds.Entered (events.RwMutex event) (answered.RwMutex (rw_replies.Tried false)))
  rw_queued : (event : RwEvent) → TakesInNothing (deeds.Entered (events.RwMutex event) (answered.RwMutex (rw_replies.Arrived rw_arrival.Queued)))
  rw_waits : (event : RwEvent) → TakesInNothing (deeds.Entered (events.RwMutex event) (answered.RwMutex (rw_replies.Resumed rw_resumption.Queued)))
  rw_requeued : (event : RwEvent) → TakesInNothing (deeds.Entered (events.RwMutex event) (answered.RwMutex (rw_replies.Resumed rw_resumption.Requeued)))
  rw_unlocked : (event : RwEvent) → TakesInNothing (deeds.Entered (events.RwMutex event) (answered.RwMutex (rw_replies.Unlocked rw_unlocking.Done)))
  signalled : TakesInNothing signal
  broadcasted : TakesInNothing broadcast
  counted : (delta : ℤ) → TakesInNothing (added delta)
  group_queued : TakesInNothing (deeds.Entered (events.WaitGroup group_events.Wait) (answered.WaitGroup group_replies.Queued))
  group_misused : (event : GroupEvent) (misuse : Misuse) → TakesInNothing (deeds.Entered (events.WaitGroup event) (answered.WaitGroup (group_replies.Misused misuse)))
  once_begun : TakesInNothing (deeds.Entered (events.Once once_events.Begin) (answered.Once once_replies.Run))
  once_func_begun : TakesInNothing (deeds.Entered (events.OnceFunc once_events.Begin) (answered.OnceFunc once_replies.Run))
  once_value_begun : TakesInNothing (deeds.Entered (events.OnceValue once_events.Begin) (answered.OnceValue once_replies.Run))
  once_queued : TakesInNothing (deeds.Entered (events.Once once_events.Begin) (answered.Once once_replies.Queued))
  once_func_queued : TakesInNothing (deeds.Entered (events.OnceFunc once_events.Begin) (answered.OnceFunc once_replies.Queued))
  once_value_queued : TakesInNothing (deeds.Entered (events.OnceValue once_events.Begin) (answered.OnceValue once_replies.Queued))
  once_ended : (d : Deed) → IsOnceEnd d → TakesInNothing d
  weight_given : (weight : ℕ) → TakesInNothing (gave_back weight)
  weight_queued : (event : SemaEvent) → TakesInNothing (deeds.Entered (events.Sema event) (answered.Sema sema_replies.Queued))
  weight_refused : (event : SemaEvent) → TakesInNothing (deeds.Entered (events.Sema event) (answered.Sema sema_replies.Refused))
  weight_misused : (event : SemaEvent) (misuse : Misuse) → TakesInNothing (deeds.Entered (events.Sema event) (answered.Sema (sema_replies.Misused misuse)))
  weight_still : (event : SemaEvent) → TakesInNothing (deeds.Entered (events.Sema event) (answered.Sema sema_replies.Still))
  flight_landed : (value : ℤ) (shared : Bool) → TakesInNothing (landed value shared)
  flight_queued : (event : FlightEvent) → TakesInNothing (deeds.Entered (events.Flight event) (answered.Flight flight_replies.Queued))
  flight_still : (event : FlightEvent) → TakesInNothing (deeds.Entered (events.Flight event) (answered.Flight flight_replies.Still))
  started : (worker : ℕ) → TakesInNothing (start_of worker)
  stored : (value : Number) (reply : Reply (List ℕ)) → TakesInNothing (deeds.Placed (operations.Atomic (atomic_calls.Store value)) reply)
  key_stored : (key : List ℕ) (value : ℕ) (reply : Reply (List ℕ)) → TakesInNothing (deeds.Placed (operations.Map (map_calls.Store key value)) reply)
  key_deleted : (key : List ℕ) (reply : Reply (List ℕ)) → TakesInNothing (deeds.Placed (operations.Map (map_calls.Delete key)) reply)
  cleared : (reply : Reply (List ℕ)) → TakesInNothing (deeds.Placed (operations.Map map_calls.Clear) reply)
  accessed : (call : VarCall) (reply : Reply (List ℕ)) → TakesInNothing (deeds.Placed (operations.Var call) reply)
  mutex_still : (event : MutexEvent) → TakesInNothing (deeds.Entered (events.Mutex event) (answered.Mutex mutex_replies.Still))
  rw_still : (event : RwEvent) → TakesInNothing (deeds.Entered (events.RwMutex event) (answered.RwMutex rw_replies.Still))
  cond_still : (event : NotifyEvent) → TakesInNothing (deeds.Entered (events.Cond event) (answered.Cond notify_replies.Still))
  group_still : (event : GroupEvent) → TakesInNothing (deeds.Entered (events.WaitGroup event) (answered.WaitGroup group_replies.Still))

-- a turn of a reader: it hands on by nothing but a reader's unlock, and takes in at most by an `rlock` or a `tryrlock`
pub record IsReaders (turn : TraceItem) : Type 0 where
  pub hands : EachDoes (λ d. HandsOnNothing d ⊎ (d ≡ reader_unlock)) turn
  pub takes : IsReadersCall turn.call ⊎ EachDoes TakesInNothing turn

-- ---- whose a channel is

-- the object of a channel; that of a start is nobody's
abbrev pub object_of : Channel → Option ℕ
object_of (MutexUnlock place) = Some place
object_of (WriterUnlock place) = Some place
object_of (ReaderUnlock place) = Some place
object_of (Notice place worker) = Some place
object_of (Lowering place) = Some place
object_of (FunctionEnd place) = Some place
object_of (PutItem place number) = Some place
object_of (Start worker) = None
object_of (Atomic place) = Some place
object_of (MapKey place key) = Some place
