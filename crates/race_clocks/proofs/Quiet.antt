-- What hands on nothing, and what takes in nothing.
use Rattle.std.proofs.Common.{◌≡◌, ◌⊎◌, inl, inr, ℕ, ℤ, Bool, true, false, ◌==◌, ◌&&◌, not, List, ◌∷◌, ◌++◌, Option, refl, sym, ap, ◌∙◌, subst, arith}
use Rattle.std.specs.Prelude.{Contains, cond}
use Rattle.std.proofs.lemmas.Bool.{false≢true, and_parts, and_right, cases_Bool}
use Rattle.std.proofs.lemmas.List.Elements.{Contains-append_right}
use Rattle.script_calls.specs.declared.call.Call.{Call}
use Rattle.sync_types.specs.declared.atomic_object.AtomicCall.{AtomicCall}
use Rattle.sync_types.specs.declared.atomic_object.AtomicReply.{AtomicReply}
use Rattle.sync_types.specs.declared.map_object.MapCall.TheVariants as map_calls
use Rattle.sync_types.specs.declared.misuse.Misuse.{Misuse}
use Rattle.mutex_core.specs.Edges as mutex
use Rattle.mutex_core.specs.declared.event.MutexEvent.{MutexEvent}
use Rattle.mutex_core.specs.declared.reply.MutexReply.{MutexReply}
use Rattle.rw_core.specs.Edges as rw
use Rattle.rw_core.specs.declared.event.RwEvent.{RwEvent}
use Rattle.rw_core.specs.declared.reply.RwReply.{RwReply}
use Rattle.wait_cores.specs.GroupEdges.{is_below_zero, group_releases, group_acquires}
use Rattle.wait_cores.specs.NotifyEdges.{notify_acquires}
use Rattle.wait_cores.specs.OnceEdges.{once_releases, once_acquires}
use Rattle.wait_cores.specs.NotifyMachine as notify
use Rattle.wait_cores.specs.declared.notify.NotifyPlace.{NotifyPlace}
use Rattle.wait_cores.specs.declared.notify.NotifyPlace.TheVariants as places
use Rattle.wait_cores.specs.declared.notify.NotifyEvent.{NotifyEvent}
use Rattle.wait_cores.specs.declared.notify.NotifyEvent.TheVariants as notify_events
use Rattle.wait_cores.specs.declared.notify.NotifyReply.{NotifyReply}
use Rattle.wait_cores.specs.declared.notify.NotifyReply.TheVariants.{Still as NotifyStill}
use Rattle.wait_cores.specs.declared.group.GroupEvent.{GroupEvent}
use Rattle.wait_cores.specs.declared.group.GroupEvent.TheVariants.{Add, Wait, Leave}
use Rattle.wait_cores.specs.declared.group.GroupReply.{GroupReply}
use Rattle.wait_cores.specs.declared.group.GroupReply.TheVariants.{Misused as GroupMisused, Still as GroupStill}
use Rattle.wait_cores.specs.declared.once.OnceEvent.{OnceEvent}
use Rattle.wait_cores.specs.declared.once.OnceReply.{OnceReply}
use Rattle.sema_core.specs.SemaEdges.{is_done, sema_releases, sema_acquires}
use Rattle.sema_core.specs.declared.event.SemaEvent.{SemaEvent}
use Rattle.sema_core.specs.declared.event.SemaEvent.TheVariants as sema_events
use Rattle.sema_core.specs.declared.event.SemaReply.{SemaReply}
use Rattle.flight_core.specs.FlightEdges.{flight_releases, flight_acquires}
use Rattle.flight_core.specs.declared.event.FlightEvent.{FlightEvent}
use Rattle.flight_core.specs.declared.event.FlightReply.{FlightReply}
use Rattle.pool_core.specs.Edges.{pool_releases}
use Rattle.pool_core.specs.declared.pool_event.PoolEvent.{PoolEvent}
use Rattle.pool_core.specs.declared.pool_event.PoolReply.{PoolReply}
use Rattle.run_record.specs.declared.entered.ObjectEvent.TheVariants as events
use Rattle.run_record.specs.declared.entered.ObjectReply.TheVariants as answered
use Rattle.step_runner.specs.declared.turns.item.Deed.TheVariants as deeds
use Rattle.workload.specs.Plan.{Plan}
use Rattle.step_runner.specs.declared.trace.TraceItem.{TraceItem}
use Rattle.step_runner.specs.declared.turns.item.Deed.{Deed}
use Rattle.step_runner.specs.declared.turns.item.Item.{Item}
use Rattle.race_clocks.specs.Channels.{Channel, MutexUnlock, WriterUnlock, ReaderUnlock, Notice, Lowering, FunctionEnd, PutItem, Start, Atomic, MapKey, gives, takes, hands_on, takes_in}
use Rattle.race_clocks.specs.Deeds.{unlocks_mutex, locks_mutex, unlocks_as_writer, unlocks_as_reader, locks_rw_mutex, is_writers_call, leaves_cond, lowers_count, passes_count, ends_function, knows_function, starts_worker, enters_atomic, finds_atomic, finds_in_map, is_entry, is_on}
use Rattle.race_clocks.specs.Seen.{NumberedPool, is_put, is_waiting, is_notified, is_told, cond_made, cond_behind, pool_behind, is_kept_put, takes_put, Named, map_behind, enters_key}
use Rattle.race_clocks.specs.Rows.{on_atomic, IsMutexUnlock, free, woke, handed, IsMutexLock, at_once, tried, resumed, IsRwLock, reader_at_once, reader_tried, writer_at_once, writer_tried, writer_resumed, left, IsGroupReturn, IsWeightHad, IsFlightKnown, leads, weight_had, weight_queued, weight_refused, weight_misused, weight_still, weight_given, flight_known, flight_queued, flight_still, flight_landed, IsOnceEnd, once, once_func, once_value, IsOnceReturn, once_left, once_func_left, once_value_left, EachDoes, HandsOnNothing, mutex_locked, mutex_misused, rw_locked, rw_misused, raised, group_misused, group_returned, once_returned, pool_taken, pool_missed, pool_dropped, pool_swept, loaded, not_swapped, key_loaded, ranged, accessed, mutex_still, rw_still, cond_still, group_still, TakesInNothing, mutex_failed, mutex_queued, mutex_requeued, mutex_unlocked, rw_failed, rw_queued, rw_waits, rw_requeued, rw_unlocked, signalled, broadcasted, counted, group_queued, once_begun, once_func_begun, once_value_begun, once_queued, once_func_queued, once_value_queued, once_ended, started, stored, key_stored, key_deleted, cleared}
use Rattle.race_clocks.proofs.Turns.{Found, found}

-- no channel is handed on through
pub record NoneHanded (d : Deed) : Type 0 where
  unlock : unlocks_mutex d ≡ false
  writer : unlocks_as_writer d ≡ false
  reader : unlocks_as_reader d ≡ false
  notice : (s : notify.NotifyState) (c : ℕ) → cond_made s c d ≡ s
  lowering : lowers_count d ≡ false
  ended : ends_function d ≡ false
  putting : (n : ℕ) (seen : NumberedPool) → is_kept_put n seen d ≡ false
  start : (w : ℕ) → starts_worker w d ≡ false
  atomic : enters_atomic d ≡ false
  key : (k : List ℕ) (m : Named) → enters_key k m d ≡ false

of_mutex : (e : MutexEvent) (r : MutexReply) → mutex.releases r ≡ false → NoneHanded (deeds.Entered (events.Mutex e) (answered.Mutex r))
of_mutex e r is = record { unlock = is; writer = refl; reader = refl; notice = λ s c. refl; lowering = refl; ended = refl; putting = λ n seen. refl; start = λ w. refl; atomic = refl; key = λ k m. refl }

of_rw : (e : RwEvent) (r : RwReply) → rw.is_released r ≡ false → NoneHanded (deeds.Entered (events.RwMutex e) (answered.RwMutex r))
of_rw e r is = record { unlock = refl; writer = and_right (not (rw.is_read e)) (rw.is_released r) is; reader = and_right (rw.is_read e) (rw.is_released r) is; notice = λ s c. refl; lowering = refl; ended = refl; putting = λ n seen. refl; start = λ w. refl; atomic = refl; key = λ k m. refl }

of_group : (e : GroupEvent) (r : GroupReply) → group_releases e r ≡ false → NoneHanded (deeds.Entered (events.WaitGroup e) (answered.WaitGroup r))
of_group e r is = record { unlock = refl; writer = refl; reader = refl; notice = λ s c. refl; lowering = is; ended = refl; putting = λ n seen. refl; start = λ w. refl; atomic = refl; key = λ k m. refl }

of_once : (e : OnceEvent ℤ) (r : OnceReply ℤ) → once_releases e r ≡ false → NoneHanded (deeds.Entered (events.Once e) (answered.Once r))
of_once e r is = record { unlock = refl; writer = refl; reader = refl; notice = λ s c. refl; lowering = refl; ended = is; putting = λ n seen. refl; start = λ w. refl; atomic = refl; key = λ k m. refl }

of_once_func : (e : OnceEvent ℕ) (r : OnceReply ℕ) → once_releases e r ≡ false → NoneHanded (deeds.Entered (events.OnceFunc e) (answered.OnceFunc r))
of_once_func e r is = record { unlock = refl; writer = refl; reader = refl; notice = λ s c. refl; lowering = refl; ended = is; putting = λ n seen. refl; start = λ w. refl; atomic = refl; key = λ k m. refl }

of_once_value : (e : OnceEvent ℕ) (r : OnceReply ℕ) → once_releases e r ≡ false → NoneHanded (deeds.Entered (events.OnceValue e) (answered.OnceValue r))
of_once_value e r is = record { unlock = refl; writer = refl; reader = refl; notice = λ s c. refl; lowering = refl; ended = is; putting = λ n seen. refl; start = λ w. refl; atomic = refl; key = λ k m. refl }

of_sema : (e : SemaEvent) (r : SemaReply) → sema_releases e r ≡ false → NoneHanded (deeds.Entered (events.Sema e) (answered.Sema r))
of_sema e r is = record { unlock = refl; writer = refl; reader = refl; notice = λ s c. refl; lowering = is; ended = refl; putting = λ n seen. refl; start = λ w. refl; atomic = refl; key = λ k m. refl }

of_flight : (e : FlightEvent) (r : FlightReply) → flight_releases e r ≡ false → NoneHanded (deeds.Entered (events.Flight e) (answered.Flight r))
of_flight e r is = record { unlock = refl; writer = refl; reader = refl; notice = λ s c. refl; lowering = refl; ended = is; putting = λ n seen. refl; start = λ w. refl; atomic = refl; key = λ k m. refl }

of_pool : (e : PoolEvent ℕ) (r : PoolReply ℕ) → pool_releases e r ≡ false → NoneHanded (deeds.Entered (events.Pool e) (answered.Pool r))
of_pool e r is = record { unlock = refl; writer = refl; reader = refl; notice = λ s c. refl; lowering = refl; ended = refl; putting = λ n seen. and_right (is_put e && (seen.count == n)) (pool_releases e r) is; start = λ w. refl; atomic = refl; key = λ k m. refl }

of_atomic : (call : AtomicCall) (reply : AtomicReply) → is_entry call reply ≡ false → NoneHanded (on_atomic call reply)
of_atomic call reply is = record { unlock = refl; writer = refl; reader = refl; notice = λ s c. refl; lowering = refl; ended = refl; putting = λ n seen. refl; start = λ w. refl; atomic = is; key = λ k m. refl }

mutex_lock : {d : Deed} → IsMutexLock d → NoneHanded d
mutex_lock (at_once now) = of_mutex _ _ refl
mutex_lock tried = of_mutex _ _ refl
mutex_lock (resumed now) = of_mutex _ _ refl

rw_lock : {d : Deed} → IsRwLock d → NoneHanded d
rw_lock reader_at_once = of_rw _ _ refl
rw_lock reader_tried = of_rw _ _ refl
rw_lock (writer_at_once now) = of_rw _ _ refl
rw_lock writer_tried = of_rw _ _ refl
rw_lock (writer_resumed now) = of_rw _ _ refl
rw_lock left = of_rw _ _ refl

group_return : {d : Deed} → IsGroupReturn d → NoneHanded d
group_return at_once = of_group _ _ refl
group_return left = of_group _ _ refl

once_return : {d : Deed} → IsOnceReturn d → NoneHanded d
once_return (once sum) = of_once _ _ refl
once_return (once_left sum) = of_once _ _ refl
once_return (once_func code) = of_once_func _ _ refl
once_return (once_func_left code) = of_once_func _ _ refl
once_return (once_value value) = of_once_value _ _ refl
once_return (once_value_left value) = of_once_value _ _ refl

weight_return : {d : Deed} → IsWeightHad d → NoneHanded d
weight_return (at_once weight) = of_sema _ _ refl
weight_return (tried weight) = of_sema _ _ refl
weight_return left = of_sema _ _ refl

flight_return : {d : Deed} → IsFlightKnown d → NoneHanded d
flight_return (leads key) = of_flight _ _ refl
flight_return (left value) = of_flight _ _ refl

-- an event of a semaphore that isn't done hands on nothing, and takes in nothing
undone_none : (e : SemaEvent) (r : SemaReply) → is_done r ≡ false → sema_releases e r ≡ false
undone_none (sema_events.Acquire weight) r is = refl
undone_none (sema_events.Try weight) r is = refl
undone_none (sema_events.Release weight) r is = is
undone_none sema_events.Leave r is = refl

misused_none : (e : GroupEvent) (misuse : Misuse) → group_releases e (GroupMisused misuse) ≡ false
misused_none (Add delta) misuse = and_right (is_below_zero delta) false refl
misused_none Wait misuse = refl
misused_none Leave misuse = refl

still_none : (e : GroupEvent) → group_releases e GroupStill ≡ false
still_none (Add delta) = and_right (is_below_zero delta) false refl
still_none Wait = refl
still_none Leave = refl

pub none_handed : {d : Deed} → HandsOnNothing d → NoneHanded d
none_handed (mutex_locked d is) = mutex_lock is
none_handed (mutex_misused misuse) = of_mutex _ _ refl
none_handed (rw_locked d is) = rw_lock is
none_handed (rw_misused event misuse) = of_rw event _ refl
none_handed (raised amount) = of_group _ _ refl
none_handed (group_misused event misuse) = of_group event _ (misused_none event misuse)
none_handed (group_returned d is) = group_return is
none_handed (once_returned d is) = once_return is
none_handed (weight_had d is) = weight_return is
none_handed (weight_queued event) = of_sema event _ (undone_none event _ refl)
none_handed (weight_refused event) = of_sema event _ (undone_none event _ refl)
none_handed (weight_misused event misuse) = of_sema event _ (undone_none event _ refl)
none_handed (weight_still event) = of_sema event _ (undone_none event _ refl)
none_handed (flight_known d is) = flight_return is
none_handed (flight_queued event) = of_flight event _ refl
none_handed (flight_still event) = of_flight event _ refl
none_handed (pool_taken event value) = of_pool event _ refl
none_handed (pool_missed event) = of_pool event _ refl
none_handed (pool_dropped event value) = of_pool event _ refl
none_handed (pool_swept event) = of_pool event _ refl
none_handed (loaded reply) = of_atomic _ reply refl
none_handed (not_swapped old new) = of_atomic _ _ refl
none_handed (key_loaded key reply) = record { unlock = refl; writer = refl; reader = refl; notice = λ s c. refl; lowering = refl; ended = refl; putting = λ n seen. refl; start = λ w. refl; atomic = refl; key = λ k m. and_right (is_on k (map_calls.Load key)) false refl }
none_handed (ranged reply) = record { unlock = refl; writer = refl; reader = refl; notice = λ s c. refl; lowering = refl; ended = refl; putting = λ n seen. refl; start = λ w. refl; atomic = refl; key = λ k m. refl }
none_handed (accessed call reply) = record { unlock = refl; writer = refl; reader = refl; notice = λ s c. refl; lowering = refl; ended = refl; putting = λ n seen. refl; start = λ w. refl; atomic = refl; key = λ k m. refl }
none_handed (mutex_still event) = of_mutex event _ refl
none_handed (rw_still event) = of_rw event _ refl
none_handed (group_still event) = of_group event _ (still_none event)
none_handed mutex_failed = of_mutex _ _ refl
none_handed (mutex_queued now ticket) = of_mutex _ _ refl
none_handed (mutex_requeued now) = of_mutex _ _ refl
none_handed (rw_failed event) = of_rw event _ refl
none_handed (rw_queued event) = of_rw event _ refl
none_handed (rw_waits event) = of_rw event _ refl
none_handed (rw_requeued event) = of_rw event _ refl

pub untold : (worker : ℕ) (s : notify.NotifyState) (b : Bool) → is_told worker s (cond b s s) ≡ false
untold worker s b = by b (notify.place_of s worker) refl where
  same : (place : NotifyPlace) → (is_waiting place && is_notified place) ≡ false
  same places.Waiting = refl
  same places.Notified = refl
  same places.Out = refl

  by : (b : Bool) (place : NotifyPlace) → notify.place_of s worker ≡ place → is_told worker s (cond b s s) ≡ false
  by true place is = ap (λ p. is_waiting p && is_notified p) is ∙ same place
  by false place is = ap (λ p. is_waiting p && is_notified p) is ∙ same place

pub gives_none : (plan : Plan) (earlier : List Item) (it : Item) → NoneHanded it.deed → (channel : Channel) → gives plan earlier it channel ≡ false
gives_none plan earlier it h (MutexUnlock o) = and_right (it.object == o) (unlocks_mutex it.deed) h.unlock
gives_none plan earlier it h (WriterUnlock o) = and_right (it.object == o) (unlocks_as_writer it.deed) h.writer
gives_none plan earlier it h (ReaderUnlock o) = and_right (it.object == o) (unlocks_as_reader it.deed) h.reader
gives_none plan earlier it h (Notice o worker) =
    ap (λ s. is_told worker (cond_behind plan o earlier) (cond (it.object == o) s (cond_behind plan o earlier))) (h.notice (cond_behind plan o earlier) it.caller) ∙ untold worker (cond_behind plan o earlier) (it.object == o)
gives_none plan earlier it h (Lowering o) = and_right (it.object == o) (lowers_count it.deed) h.lowering
gives_none plan earlier it h (FunctionEnd o) = and_right (it.object == o) (ends_function it.deed) h.ended
gives_none plan earlier it h (PutItem o number) = and_right (it.object == o) (is_kept_put number (pool_behind plan o earlier) it.deed) (h.putting number (pool_behind plan o earlier))
gives_none plan earlier it h (Start worker) = h.start worker
gives_none plan earlier it h (Atomic o) = and_right (it.object == o) (enters_atomic it.deed) h.atomic
gives_none plan earlier it h (MapKey o key) = and_right (it.object == o) (enters_key key (map_behind o earlier) it.deed) (h.key key (map_behind o earlier))

pub within : (front : List Item) (it : Item) (back : List Item) → Contains (front ++ it ∷ back) it
within front it back = Contains-append_right front (it ∷ back) it (0, omega arith, refl)

pub hands_nothing : (plan : Plan) (earlier : List Item) (turn : TraceItem) → EachDoes HandsOnNothing turn → (channel : Channel) → hands_on plan earlier turn channel ≡ false
hands_nothing plan earlier turn each channel = by (cases_Bool (hands_on plan earlier turn channel)) where
  at_item : Found (λ before it. gives plan before it channel) earlier turn.made → ⊥
  at_item f = false≢true (sym (gives_none plan (earlier ++ f.front) f.it (none_handed (each f.it (subst (λ made. Contains made f.it) (sym f.is_made) (within f.front f.it f.back)))) channel) ∙ f.passes)

  by : (hands_on plan earlier turn channel ≡ true) ⊎ (hands_on plan earlier turn channel ≡ false) → hands_on plan earlier turn channel ≡ false
  by (inl e) = absurd (at_item (found (λ before it. gives plan before it channel) earlier turn.made e))
  by (inr e) = e

-- no channel is taken in from
record NoneTaken (d : Deed) : Type 0 where
  lock : locks_mutex d ≡ false
  rw : locks_rw_mutex d ≡ false
  leaves : leaves_cond d ≡ false
  group : passes_count d ≡ false
  returns : knows_function d ≡ false
  got : (n : ℕ) (seen : NumberedPool) (c : ℕ) → takes_put n seen c d ≡ false
  atomic : finds_atomic d ≡ false
  key : (k : List ℕ) → finds_in_map k d ≡ false

to_mutex : (e : MutexEvent) (r : MutexReply) → mutex.acquires r ≡ false → NoneTaken (deeds.Entered (events.Mutex e) (answered.Mutex r))
to_mutex e r is = record { lock = is; rw = refl; leaves = refl; group = refl; returns = refl; got = λ n seen c. refl; atomic = refl; key = λ k. refl }

to_rw : (e : RwEvent) (r : RwReply) → rw.acquires r ≡ false → NoneTaken (deeds.Entered (events.RwMutex e) (answered.RwMutex r))
to_rw e r is = record { lock = refl; rw = is; leaves = refl; group = refl; returns = refl; got = λ n seen c. refl; atomic = refl; key = λ k. refl }

to_cond : (e : NotifyEvent) (r : NotifyReply) → notify_acquires e r ≡ false → NoneTaken (deeds.Entered (events.Cond e) (answered.Cond r))
to_cond e r is = record { lock = refl; rw = refl; leaves = is; group = refl; returns = refl; got = λ n seen c. refl; atomic = refl; key = λ k. refl }

to_group : (e : GroupEvent) (r : GroupReply) → group_acquires e r ≡ false → NoneTaken (deeds.Entered (events.WaitGroup e) (answered.WaitGroup r))
to_group e r is = record { lock = refl; rw = refl; leaves = refl; group = is; returns = refl; got = λ n seen c. refl; atomic = refl; key = λ k. refl }

to_once : (e : OnceEvent ℤ) (r : OnceReply ℤ) → once_acquires e r ≡ false → NoneTaken (deeds.Entered (events.Once e) (answered.Once r))
to_once e r is = record { lock = refl; rw = refl; leaves = refl; group = refl; returns = is; got = λ n seen c. refl; atomic = refl; key = λ k. refl }

to_once_func : (e : OnceEvent ℕ) (r : OnceReply ℕ) → once_acquires e r ≡ false → NoneTaken (deeds.Entered (events.OnceFunc e) (answered.OnceFunc r))
to_once_func e r is = record { lock = refl; rw = refl; leaves = refl; group = refl; returns = is; got = λ n seen c. refl; atomic = refl; key = λ k. refl }

to_once_value : (e : OnceEvent ℕ) (r : OnceReply ℕ) → once_acquires e r ≡ false → NoneTaken (deeds.Entered (events.OnceValue e) (answered.OnceValue r))
to_once_value e r is = record { lock = refl; rw = refl; leaves = refl; group = refl; returns = is; got = λ n seen c. refl; atomic = refl; key = λ k. refl }

to_sema : (e : SemaEvent) (r : SemaReply) → sema_acquires e r ≡ false → NoneTaken (deeds.Entered (events.Sema e) (answered.Sema r))
to_sema e r is = record { lock = refl; rw = refl; leaves = refl; group = is; returns = refl; got = λ n seen c. refl; atomic = refl; key = λ k. refl }

to_flight : (e : FlightEvent) (r : FlightReply) → flight_acquires e r ≡ false → NoneTaken (deeds.Entered (events.Flight e) (answered.Flight r))
to_flight e r is = record { lock = refl; rw = refl; leaves = refl; group = refl; returns = is; got = λ n seen c. refl; atomic = refl; key = λ k. refl }

undone_kept : (e : SemaEvent) (r : SemaReply) → is_done r ≡ false → sema_acquires e r ≡ false
undone_kept (sema_events.Acquire weight) r is = is
undone_kept (sema_events.Try weight) r is = is
undone_kept (sema_events.Release weight) r is = refl
undone_kept sema_events.Leave r is = is

mutex_unlock : {d : Deed} → IsMutexUnlock d → NoneTaken d
mutex_unlock free = to_mutex _ _ refl
mutex_unlock (woke ticket) = to_mutex _ _ refl
mutex_unlock (handed ticket) = to_mutex _ _ refl

once_end : {d : Deed} → IsOnceEnd d → NoneTaken d
once_end (once sum) = to_once _ _ refl
once_end (once_func code) = to_once_func _ _ refl
once_end (once_value value) = to_once_value _ _ refl

none_left : (e : NotifyEvent) → notify_acquires e NotifyStill ≡ false
none_left notify_events.Ticket = refl
none_left notify_events.Signal = refl
none_left notify_events.Broadcast = refl
none_left notify_events.Leave = refl

none_returned : (e : GroupEvent) (misuse : Misuse) → group_acquires e (GroupMisused misuse) ≡ false
none_returned (Add delta) misuse = refl
none_returned Wait misuse = refl
none_returned Leave misuse = refl

none_moved : (e : GroupEvent) → group_acquires e GroupStill ≡ false
none_moved (Add delta) = refl
none_moved Wait = refl
none_moved Leave = refl

none_taken : {d : Deed} → TakesInNothing d → NoneTaken d
none_taken mutex_failed = to_mutex _ _ refl
none_taken (mutex_queued now ticket) = to_mutex _ _ refl
none_taken (mutex_requeued now) = to_mutex _ _ refl
none_taken (mutex_unlocked d is) = mutex_unlock is
none_taken (rw_failed event) = to_rw event _ refl
none_taken (rw_queued event) = to_rw event _ refl
none_taken (rw_waits event) = to_rw event _ refl
none_taken (rw_requeued event) = to_rw event _ refl
none_taken (rw_unlocked event) = to_rw event _ refl
none_taken signalled = to_cond _ _ refl
none_taken broadcasted = to_cond _ _ refl
none_taken (counted delta) = to_group _ _ refl
none_taken group_queued = to_group _ _ refl
none_taken (group_misused event misuse) = to_group event _ (none_returned event misuse)
none_taken once_begun = to_once _ _ refl
none_taken once_func_begun = to_once_func _ _ refl
none_taken once_value_begun = to_once_value _ _ refl
none_taken once_queued = to_once _ _ refl
none_taken once_func_queued = to_once_func _ _ refl
none_taken once_value_queued = to_once_value _ _ refl
none_taken (once_ended d is) = once_end is
none_taken (weight_given weight) = to_sema _ _ refl
none_taken (weight_queued event) = to_sema event _ (undone_kept event _ refl)
none_taken (weight_refused event) = to_sema event _ (undone_kept event _ refl)
none_taken (weight_misused event misuse) = to_sema event _ (undone_kept event _ refl)
none_taken (weight_still event) = to_sema event _ (undone_kept event _ refl)
none_taken (flight_landed value shared) = to_flight _ _ refl
none_taken (flight_queued event) = to_flight event _ refl
none_taken (flight_still event) = to_flight event _ refl
none_taken (started worker) = record { lock = refl; rw = refl; leaves = refl; group = refl; returns = refl; got = λ n seen c. refl; atomic = refl; key = λ k. refl }
none_taken (stored value reply) = record { lock = refl; rw = refl; leaves = refl; group = refl; returns = refl; got = λ n seen c. refl; atomic = refl; key = λ k. refl }
none_taken (key_stored key value reply) = record { lock = refl; rw = refl; leaves = refl; group = refl; returns = refl; got = λ n seen c. refl; atomic = refl; key = λ k. refl }
none_taken (key_deleted key reply) = record { lock = refl; rw = refl; leaves = refl; group = refl; returns = refl; got = λ n seen c. refl; atomic = refl; key = λ k. refl }
none_taken (cleared reply) = record { lock = refl; rw = refl; leaves = refl; group = refl; returns = refl; got = λ n seen c. refl; atomic = refl; key = λ k. refl }
none_taken (accessed call reply) = record { lock = refl; rw = refl; leaves = refl; group = refl; returns = refl; got = λ n seen c. refl; atomic = refl; key = λ k. refl }
none_taken (mutex_still event) = to_mutex event _ refl
none_taken (rw_still event) = to_rw event _ refl
none_taken (cond_still event) = to_cond event _ (none_left event)
none_taken (group_still event) = to_group event _ (none_moved event)

module _ (plan : Plan) (earlier : List Item) (call : Option Call) (it : Item) (deaf : NoneTaken it.deed) where
  never : (a b : Bool) → b ≡ false → (a && b) ≡ true → (channel : Channel) → (worker : ℕ) × (channel ≡ Start worker)
  never a b is both channel = absurd (false≢true (sym is ∙ (and_parts a b both).1))

  just_start : (channel : Channel) → takes plan earlier it call channel ≡ true → (worker : ℕ) × (channel ≡ Start worker)
  just_start (MutexUnlock o) is = never (it.object == o) (locks_mutex it.deed) deaf.lock is (MutexUnlock o)
  just_start (WriterUnlock o) is = never (it.object == o) (locks_rw_mutex it.deed) deaf.rw is (WriterUnlock o)
  just_start (ReaderUnlock o) is = never (it.object == o) (locks_rw_mutex it.deed) deaf.rw (and_parts ((it.object == o) && locks_rw_mutex it.deed) (is_writers_call call) is).0 (ReaderUnlock o)
  just_start (Notice o worker) is = never ((it.object == o) && (it.caller == worker)) (leaves_cond it.deed) deaf.leaves is (Notice o worker)
  just_start (Lowering o) is = never (it.object == o) (passes_count it.deed) deaf.group is (Lowering o)
  just_start (FunctionEnd o) is = never (it.object == o) (knows_function it.deed) deaf.returns is (FunctionEnd o)
  just_start (PutItem o number) is = never (it.object == o) (takes_put number (pool_behind plan o earlier) it.caller it.deed) (deaf.got number (pool_behind plan o earlier) it.caller) is (PutItem o number)
  just_start (Start worker) is = (worker, refl)
  just_start (Atomic o) is = never (it.object == o) (finds_atomic it.deed) deaf.atomic is (Atomic o)
  just_start (MapKey o key) is = never (it.object == o) (finds_in_map key it.deed) (deaf.key key) is (MapKey o key)

pub takes_nothing : (plan : Plan) (earlier : List Item) (turn : TraceItem) → EachDoes TakesInNothing turn → (channel : Channel) → takes_in plan earlier turn channel ≡ true → (worker : ℕ) × (channel ≡ Start worker)
takes_nothing plan earlier turn each channel is = at_item (found (λ before it. takes plan before it turn.call channel) earlier turn.made is) where
  at_item : Found (λ before it. takes plan before it turn.call channel) earlier turn.made → (worker : ℕ) × (channel ≡ Start worker)
  at_item f = just_start plan (earlier ++ f.front) turn.call f.it (none_taken (each f.it (subst (λ made. Contains made f.it) (sym f.is_made) (within f.front f.it f.back)))) channel f.passes
