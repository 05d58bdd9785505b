-- What a turn made that completed a call of a lock, of a semaphore or of a wait group.
use Rattle.std.proofs.Common.{◌≡◌, ℕ, ℤ, negsuc, Bool, true, false, List, [], ◌∷◌, Option, Some, None, slice_get, refl, sym, ap, ◌∙◌}
use Rattle.std.specs.Prelude.{cond}
use Rattle.std.specs.Option.{option_map_or}
use Rattle.std.proofs.lemmas.Bool.{false≢true}
use Rattle.std.proofs.lemmas.Option.{none-some, same_Some}
use Rattle.script_calls.specs.declared.call.Call.{Call}
use Rattle.script_calls.specs.declared.call.Operation.{Operation}
use Rattle.script_calls.specs.declared.call.Operation.TheVariants as operations
use Rattle.script_calls.specs.declared.call.Reply.{Reply}
use Rattle.script_calls.specs.declared.call.Reply.TheVariants as replies
use Rattle.sync_types.specs.declared.lock_call.LockReply.TheVariants as locks
use Rattle.sync_types.specs.declared.lock_call.MutexCall.{MutexCall}
use Rattle.sync_types.specs.declared.lock_call.MutexCall.TheVariants as mutex_calls
use Rattle.sync_types.specs.declared.lock_call.RwMutexCall.{RwMutexCall}
use Rattle.sync_types.specs.declared.lock_call.RwMutexCall.TheVariants as rw_calls
use Rattle.sync_types.specs.declared.sema_call.SemaCall.{SemaCall}
use Rattle.sync_types.specs.declared.sema_call.SemaCall.TheVariants as sema_calls
use Rattle.sync_types.specs.declared.wait_call.WaitGroupCall.{WaitGroupCall}
use Rattle.sync_types.specs.declared.wait_call.WaitGroupCall.TheVariants as group_calls
use Rattle.rw_core.specs.RwMachine as rw
use Rattle.rw_core.specs.declared.event.RwEvent.TheVariants as rw_events
use Rattle.rw_core.specs.declared.place.Place.{Place as RwPlace}
use Rattle.rw_core.specs.declared.place.Place.TheVariants as rw_places
use Rattle.rw_core.specs.declared.reply.Arrival.TheVariants as rw_arrival
use Rattle.rw_core.specs.declared.reply.Resumption.TheVariants as rw_resumption
use Rattle.rw_core.specs.declared.reply.RwReply.{RwReply}
use Rattle.rw_core.specs.declared.reply.RwReply.TheVariants as rw_replies
use Rattle.protocols.specs.RwMutexStages as rw_stages
use Rattle.protocols.specs.declared.rw_mutex.RwMutexStage.{RwMutexStage}
use Rattle.protocols.specs.declared.rw_mutex.RwMutexStage.TheVariants as rw_stage
use Rattle.run_record.specs.RwMutexKind.{rw_mutex_stage}
use Rattle.mutex_core.specs.MutexMachine as mutex
use Rattle.mutex_core.specs.declared.event.MutexEvent.TheVariants as mutex_events
use Rattle.mutex_core.specs.declared.place.Place.{Place as MutexPlace}
use Rattle.mutex_core.specs.declared.place.Place.TheVariants as mutex_places
use Rattle.mutex_core.specs.declared.reply.Arrival.TheVariants as mutex_arrival
use Rattle.mutex_core.specs.declared.reply.MutexReply.{MutexReply}
use Rattle.mutex_core.specs.declared.reply.MutexReply.TheVariants as mutex_replies
use Rattle.mutex_core.specs.declared.reply.Resumption.TheVariants as mutex_resumption
use Rattle.sema_core.specs.SemaMachine as sema
use Rattle.sema_core.specs.SemaStages as sema_stages
use Rattle.sema_core.specs.declared.event.SemaEvent.TheVariants as sema_events
use Rattle.sema_core.specs.declared.event.SemaPlace.{SemaPlace}
use Rattle.sema_core.specs.declared.event.SemaPlace.TheVariants as sema_places
use Rattle.sema_core.specs.declared.event.SemaReply.{SemaReply}
use Rattle.sema_core.specs.declared.event.SemaReply.TheVariants as sema_replies
use Rattle.wait_cores.specs.GroupMachine as group
use Rattle.wait_cores.specs.declared.group.GroupEvent.TheVariants as group_events
use Rattle.wait_cores.specs.declared.group.GroupPlace.{GroupPlace}
use Rattle.wait_cores.specs.declared.group.GroupPlace.TheVariants as group_places
use Rattle.wait_cores.specs.declared.group.GroupReply.{GroupReply}
use Rattle.wait_cores.specs.declared.group.GroupReply.TheVariants as group_replies
use Rattle.protocols.specs.GroupStages as group_stages
use Rattle.protocols.specs.MutexStages as mutex_stages
use Rattle.workload.specs.Plan.{Plan, reference_of}
use Rattle.run_record.specs.declared.entered.ObjectEvent.TheVariants as events
use Rattle.run_record.specs.declared.entered.ObjectReply.TheVariants as answered
use Rattle.step_runner.specs.declared.trace.TraceItem.{TraceItem}
use Rattle.step_runner.specs.declared.turns.answer.Answer.{Answer}
use Rattle.step_runner.specs.declared.turns.answer.Answer.TheVariants as answers
use Rattle.step_runner.specs.declared.turns.item.Deed.{Deed}
use Rattle.step_runner.specs.declared.turns.item.Deed.TheVariants as deeds
use Rattle.step_runner.specs.declared.turns.item.Item.{Item}
use Rattle.step_runner.specs.declared.turns.object_state.ObjectState.{ObjectState}
use Rattle.step_runner.specs.declared.turns.object_state.ObjectState.TheVariants as states
use Rattle.step_runner.specs.Due.{mutex_due, rw_due, group_due, sema_due, locked, returned}
use Rattle.step_runner.specs.Items.{items_by, stage_items}
use Rattle.step_runner.specs.Objects.{kind_of}
use Rattle.step_runner.specs.Stages.{make, outcome_of, answer_by}
use Rattle.step_runner.specs.State.{State}
use Rattle.step_runner.specs.Traces.{reply_of, closing_turn, script_turn, place_in_script}
use Rattle.step_runner.specs.TurnAtObjects.{turn_by, turn_on_both, with_both}
use Rattle.step_runner.specs.Turns.{is_behind}
use Rattle.race_clocks.specs.Rows.{item, Makes, Completes, added, IsMutexLock, at_once, tried, resumed, IsGroupReturn, left, IsWeightHad, IsRwLock, reader_at_once, reader_tried, writer_at_once, writer_tried, writer_resumed}
use Rattle.race_clocks.proofs.Accesses.{items, answer, IsToldOf}

-- ---- a turn that completed a call

pub record IsWhole (plan : Plan) (one : TraceItem) (call : Call) (reply : Reply (List ℕ)) : Type 0 where
  pub state : State
  pub worker : ℕ
  pub made : items plan state worker call ≡ one.made
  pub completes : answer plan state worker call ≡ answers.Completed reply

completed : (a : Answer) (reply : Reply (List ℕ)) → reply_of a ≡ Some reply → a ≡ answers.Completed reply
completed answers.Still reply is = absurd (none-some reply is)
completed answers.Unfinished reply is = absurd (none-some reply is)
completed (answers.Completed said) reply is = ap answers.Completed (same_Some said reply is)
completed (answers.Misused misuse) reply is = absurd (none-some reply is)

pub whole_of : (plan : Plan) (one : TraceItem) (call : Call) (reply : Reply (List ℕ)) → one.call ≡ Some call → one.reply ≡ Some reply → IsToldOf plan one → IsWhole plan one call reply
whole_of plan one call reply of with t = by (is_behind plan t.worker t.state) t.is where
  by : (b : Bool) → cond b (closing_turn t.worker (items plan t.state t.worker t.call)) (script_turn t.worker t.call (place_in_script plan t.worker t.state) (items plan t.state t.worker t.call) (reply_of (answer plan t.state t.worker t.call))) ≡ one → IsWhole plan one call reply
  by true is = absurd (none-some reply (ap (λ (x : TraceItem). x.reply) is ∙ with))
  by false is =
      let same : t.call ≡ call = same_Some t.call call (ap (λ (x : TraceItem). x.call) is ∙ of) in
      record {
        state = t.state;
        worker = t.worker;
        made = ap (items plan t.state t.worker) (sym same) ∙ ap (λ (x : TraceItem). x.made) is;
        completes = ap (answer plan t.state t.worker) (sym same) ∙ completed (answer plan t.state t.worker t.call) reply (ap (λ (x : TraceItem). x.reply) is ∙ with);
      }

abbrev pub is_completed : Answer → Bool
is_completed (answers.Completed reply) = true
is_completed answers.Still = false
is_completed answers.Unfinished = false
is_completed (answers.Misused misuse) = false

pub never : {A : Type 0} (reply : Reply (List ℕ)) → answers.Still ≡ answers.Completed reply → A
never reply e = absurd (false≢true (ap is_completed e))

pub later : {A : Type 0} (reply : Reply (List ℕ)) → answers.Unfinished ≡ answers.Completed reply → A
later reply e = absurd (false≢true (ap is_completed e))

-- a try that took a lock
abbrev has_won : Answer → Bool
has_won (answers.Completed (replies.Lock (locks.Tried acquired))) = acquired
has_won a = false

-- the place of the other object to which an object refers
abbrev pub other_of : ObjectState → ℕ
other_of (states.Cond c other) = other
other_of (states.Once o other delta) = other
other_of (states.Flight f keys other delta) = other
other_of object = 0

-- ---- at the call's object

module _ (place : ℕ) (operation : Operation) (worker moment : ℕ) (objects : List ObjectState) where
  abbrev pub made_call : Call
  made_call = record { object = place; operation = operation }

  abbrev pub made_by : ObjectState → List Item
  made_by object = items_by (reference_of (kind_of object)) made_call worker moment objects object

  abbrev pub step_by : ObjectState → List ObjectState × Answer
  step_by object = turn_by (reference_of (kind_of object)) made_call worker moment objects object

  -- the items of a turn that completes the call have a property where they have it at each object
  pub at_found : (P : List Item → Reply (List ℕ) → Type 0) (reply : Reply (List ℕ)) → ((object : ObjectState) → (step_by object).1 ≡ answers.Completed reply → P (made_by object) reply)
      → (found : Option ObjectState) → (option_map_or step_by found (objects, answers.Still)).1 ≡ answers.Completed reply → P (option_map_or made_by found []) reply
  at_found P reply each None is = never reply is
  at_found P reply each (Some object) is = each object is

module _ (place worker : ℕ) where
  -- one item, which does such a thing
  abbrev pub MakesOne : (Deed → Type 0) → List Item → Type 0
  MakesOne Q made = (deed : Deed) × (made ≡ item place worker deed ∷ []) × Q deed

-- ---- a wait group

module _ (place worker moment : ℕ) (objects : List ObjectState) (reply : Reply (List ℕ)) where
  add_done : (delta : ℤ) (q : GroupReply) → answer_by returned (outcome_of (group_stages.add_meaning q)) ≡ answers.Completed reply → MakesOne place worker (λ d. d ≡ added delta) (item place worker (deeds.Entered (events.WaitGroup (group_events.Add delta)) (answered.WaitGroup q)) ∷ [])
  add_done delta group_replies.Done is = (added delta, refl, refl)
  add_done delta group_replies.Queued is = never reply is
  add_done delta (group_replies.Misused misuse) is = absurd (false≢true (ap is_completed is))
  add_done delta group_replies.Still is = never reply is

  wait_done : (q : GroupReply) → answer_by returned (outcome_of (group_stages.wait_meaning q)) ≡ answers.Completed reply → MakesOne place worker IsGroupReturn (item place worker (deeds.Entered (events.WaitGroup group_events.Wait) (answered.WaitGroup q)) ∷ [])
  wait_done group_replies.Done is = (deeds.Entered (events.WaitGroup group_events.Wait) (answered.WaitGroup group_replies.Done), refl, at_once)
  wait_done group_replies.Queued is = later reply is
  wait_done (group_replies.Misused misuse) is = never reply is
  wait_done group_replies.Still is = never reply is

  leave_done : (q : GroupReply) → answer_by returned (outcome_of (group_stages.leave_meaning q)) ≡ answers.Completed reply → MakesOne place worker IsGroupReturn (item place worker (deeds.Entered (events.WaitGroup group_events.Leave) (answered.WaitGroup q)) ∷ [])
  leave_done group_replies.Done is = (deeds.Entered (events.WaitGroup group_events.Leave) (answered.WaitGroup group_replies.Done), refl, left)
  leave_done group_replies.Queued is = never reply is
  leave_done (group_replies.Misused misuse) is = absurd (false≢true (ap is_completed is))
  leave_done group_replies.Still is = later reply is

  wait_at : (g : group.GroupState) (at : GroupPlace) → answer_by returned (make group.next group_stages.group_event group_stages.group_meaning worker moment (group_due group_calls.Wait at) g).1 ≡ answers.Completed reply
      → MakesOne place worker IsGroupReturn (stage_items events.WaitGroup answered.WaitGroup group.next group_stages.group_event worker moment place (group_due group_calls.Wait at) g)
  wait_at g group_places.Out is = wait_done (group.next g worker group_events.Wait).1 is
  wait_at g group_places.Waiting is = never reply is
  wait_at g group_places.Released is = leave_done (group.next g worker group_events.Leave).1 is

  -- an object that refers to another one has no such call
  beside_group : (call : WaitGroupCall) (object : ObjectState) (target : Option ObjectState) → (option_map_or (λ t. with_both place (other_of object) objects (turn_on_both (operations.WaitGroup call) worker moment object t)) target (objects, answers.Still)).1 ≡ answers.Completed reply → ⊥
  beside_group call object None is = never reply is
  beside_group call object (Some target) is = never reply is

  wait_each : (object : ObjectState) → (step_by place (operations.WaitGroup group_calls.Wait) worker moment objects object).1 ≡ answers.Completed reply → MakesOne place worker IsGroupReturn (made_by place (operations.WaitGroup group_calls.Wait) worker moment objects object)
  wait_each (states.WaitGroup g start) is = wait_at g (group.place_of g worker) is
  wait_each (states.Cond c other) is = absurd (beside_group group_calls.Wait (states.Cond c other) (slice_get objects other) is)
  wait_each (states.Once o other delta) is = absurd (beside_group group_calls.Wait (states.Once o other delta) (slice_get objects other) is)
  wait_each (states.Flight f keys other delta) is = absurd (beside_group group_calls.Wait (states.Flight f keys other delta) (slice_get objects other) is)
  wait_each object is = never reply is

  add_each : (delta : ℤ) (object : ObjectState) → (step_by place (operations.WaitGroup (group_calls.Add delta)) worker moment objects object).1 ≡ answers.Completed reply → MakesOne place worker (λ d. d ≡ added delta) (made_by place (operations.WaitGroup (group_calls.Add delta)) worker moment objects object)
  add_each delta (states.WaitGroup g start) is = add_done delta (group.next g worker (group_events.Add delta)).1 is
  add_each delta (states.Cond c other) is = absurd (beside_group (group_calls.Add delta) (states.Cond c other) (slice_get objects other) is)
  add_each delta (states.Once o other amount) is = absurd (beside_group (group_calls.Add delta) (states.Once o other amount) (slice_get objects other) is)
  add_each delta (states.Flight f keys other amount) is = absurd (beside_group (group_calls.Add delta) (states.Flight f keys other amount) (slice_get objects other) is)
  add_each delta object is = never reply is

  done_each : (object : ObjectState) → (step_by place (operations.WaitGroup group_calls.Done) worker moment objects object).1 ≡ answers.Completed reply → MakesOne place worker (λ d. d ≡ added (negsuc 0)) (made_by place (operations.WaitGroup group_calls.Done) worker moment objects object)
  done_each (states.WaitGroup g start) is = add_done (negsuc 0) (group.next g worker (group_events.Add (negsuc 0))).1 is
  done_each (states.Cond c other) is = absurd (beside_group group_calls.Done (states.Cond c other) (slice_get objects other) is)
  done_each (states.Once o other amount) is = absurd (beside_group group_calls.Done (states.Once o other amount) (slice_get objects other) is)
  done_each (states.Flight f keys other amount) is = absurd (beside_group group_calls.Done (states.Flight f keys other amount) (slice_get objects other) is)
  done_each object is = never reply is

-- ---- a mutex

module _ (place worker moment : ℕ) (objects : List ObjectState) (reply : Reply (List ℕ)) where
  lock_done : (q : MutexReply) → answer_by locked (outcome_of (mutex_stages.lock_meaning q)) ≡ answers.Completed reply → MakesOne place worker IsMutexLock (item place worker (deeds.Entered (events.Mutex (mutex_events.Arrive moment)) (answered.Mutex q)) ∷ [])
  lock_done (mutex_replies.Arrived mutex_arrival.Acquired) is = (deeds.Entered (events.Mutex (mutex_events.Arrive moment)) (answered.Mutex (mutex_replies.Arrived mutex_arrival.Acquired)), refl, at_once moment)
  lock_done (mutex_replies.Arrived (mutex_arrival.Queued ticket)) is = later reply is
  lock_done (mutex_replies.Tried acquired) is = never reply is
  lock_done (mutex_replies.Unlocked unlocking) is = never reply is
  lock_done (mutex_replies.Resumed resumption) is = never reply is
  lock_done mutex_replies.Still is = never reply is

  resume_done : (q : MutexReply) → answer_by locked (outcome_of (mutex_stages.resume_meaning q)) ≡ answers.Completed reply → MakesOne place worker IsMutexLock (item place worker (deeds.Entered (events.Mutex (mutex_events.Woken moment)) (answered.Mutex q)) ∷ [])
  resume_done (mutex_replies.Resumed mutex_resumption.Acquired) is = (deeds.Entered (events.Mutex (mutex_events.Woken moment)) (answered.Mutex (mutex_replies.Resumed mutex_resumption.Acquired)), refl, resumed moment)
  resume_done (mutex_replies.Resumed mutex_resumption.Requeued) is = later reply is
  resume_done (mutex_replies.Arrived arrival) is = never reply is
  resume_done (mutex_replies.Tried acquired) is = never reply is
  resume_done (mutex_replies.Unlocked unlocking) is = never reply is
  resume_done mutex_replies.Still is = later reply is

  -- a try that took the mutex
  try_done : reply ≡ replies.Lock (locks.Tried true) → (q : MutexReply) → answer_by locked (outcome_of (mutex_stages.try_meaning q)) ≡ answers.Completed reply → MakesOne place worker IsMutexLock (item place worker (deeds.Entered (events.Mutex mutex_events.Try) (answered.Mutex q)) ∷ [])
  try_done won (mutex_replies.Tried true) is = (deeds.Entered (events.Mutex mutex_events.Try) (answered.Mutex (mutex_replies.Tried true)), refl, tried)
  try_done won (mutex_replies.Tried false) is = absurd (false≢true (ap has_won (is ∙ ap answers.Completed won)))
  try_done won (mutex_replies.Arrived arrival) is = never reply is
  try_done won (mutex_replies.Unlocked unlocking) is = never reply is
  try_done won (mutex_replies.Resumed resumption) is = never reply is
  try_done won mutex_replies.Still is = never reply is

  lock_at : (m : mutex.State) (at : MutexPlace) → answer_by locked (make mutex.next mutex_stages.mutex_event mutex_stages.mutex_meaning worker moment (mutex_due mutex_calls.Lock at) m).1 ≡ answers.Completed reply
      → MakesOne place worker IsMutexLock (stage_items events.Mutex answered.Mutex mutex.next mutex_stages.mutex_event worker moment place (mutex_due mutex_calls.Lock at) m)
  lock_at m mutex_places.Out is = lock_done (mutex.next m worker (mutex_events.Arrive moment)).1 is
  lock_at m mutex_places.Waiting is = never reply is
  lock_at m mutex_places.Woken is = resume_done (mutex.next m worker (mutex_events.Woken moment)).1 is
  lock_at m mutex_places.Handed is = resume_done (mutex.next m worker (mutex_events.Woken moment)).1 is

  try_at : reply ≡ replies.Lock (locks.Tried true) → (m : mutex.State) (at : MutexPlace) → answer_by locked (make mutex.next mutex_stages.mutex_event mutex_stages.mutex_meaning worker moment (mutex_due mutex_calls.TryLock at) m).1 ≡ answers.Completed reply
      → MakesOne place worker IsMutexLock (stage_items events.Mutex answered.Mutex mutex.next mutex_stages.mutex_event worker moment place (mutex_due mutex_calls.TryLock at) m)
  try_at won m mutex_places.Out is = try_done won (mutex.next m worker mutex_events.Try).1 is
  try_at won m mutex_places.Waiting is = never reply is
  try_at won m mutex_places.Woken is = resume_done (mutex.next m worker (mutex_events.Woken moment)).1 is
  try_at won m mutex_places.Handed is = resume_done (mutex.next m worker (mutex_events.Woken moment)).1 is

  beside_mutex : (call : MutexCall) (object : ObjectState) (target : Option ObjectState) → (option_map_or (λ t. with_both place (other_of object) objects (turn_on_both (operations.Mutex call) worker moment object t)) target (objects, answers.Still)).1 ≡ answers.Completed reply → ⊥
  beside_mutex call object None is = never reply is
  beside_mutex call object (Some target) is = never reply is

  lock_each : (object : ObjectState) → (step_by place (operations.Mutex mutex_calls.Lock) worker moment objects object).1 ≡ answers.Completed reply → MakesOne place worker IsMutexLock (made_by place (operations.Mutex mutex_calls.Lock) worker moment objects object)
  lock_each (states.Mutex m) is = lock_at m (mutex.place_of m worker) is
  lock_each (states.Cond c other) is = absurd (beside_mutex mutex_calls.Lock (states.Cond c other) (slice_get objects other) is)
  lock_each (states.Once o other delta) is = absurd (beside_mutex mutex_calls.Lock (states.Once o other delta) (slice_get objects other) is)
  lock_each (states.Flight f keys other delta) is = absurd (beside_mutex mutex_calls.Lock (states.Flight f keys other delta) (slice_get objects other) is)
  lock_each object is = never reply is

  try_each : reply ≡ replies.Lock (locks.Tried true) → (object : ObjectState) → (step_by place (operations.Mutex mutex_calls.TryLock) worker moment objects object).1 ≡ answers.Completed reply → MakesOne place worker IsMutexLock (made_by place (operations.Mutex mutex_calls.TryLock) worker moment objects object)
  try_each won (states.Mutex m) is = try_at won m (mutex.place_of m worker) is
  try_each won (states.Cond c other) is = absurd (beside_mutex mutex_calls.TryLock (states.Cond c other) (slice_get objects other) is)
  try_each won (states.Once o other delta) is = absurd (beside_mutex mutex_calls.TryLock (states.Once o other delta) (slice_get objects other) is)
  try_each won (states.Flight f keys other delta) is = absurd (beside_mutex mutex_calls.TryLock (states.Flight f keys other delta) (slice_get objects other) is)
  try_each won object is = never reply is

-- ---- a reader/writer mutex

module _ (place worker moment : ℕ) (objects : List ObjectState) (reply : Reply (List ℕ)) where
  write_done : (later_stage : RwMutexStage) (q : RwReply) → answer_by locked (outcome_of (rw_stages.arrive_meaning later_stage q)) ≡ answers.Completed reply → MakesOne place worker IsRwLock (item place worker (deeds.Entered (events.RwMutex (rw_events.WriteArrive moment)) (answered.RwMutex q)) ∷ [])
  write_done next (rw_replies.Arrived rw_arrival.Acquired) is = (deeds.Entered (events.RwMutex (rw_events.WriteArrive moment)) (answered.RwMutex (rw_replies.Arrived rw_arrival.Acquired)), refl, writer_at_once moment)
  write_done next (rw_replies.Arrived rw_arrival.Queued) is = later reply is
  write_done next (rw_replies.Tried acquired) is = never reply is
  write_done next (rw_replies.Unlocked unlocking) is = never reply is
  write_done next (rw_replies.Resumed resumption) is = never reply is
  write_done next rw_replies.Left is = never reply is
  write_done next rw_replies.Still is = never reply is

  read_done : (later_stage : RwMutexStage) (q : RwReply) → answer_by locked (outcome_of (rw_stages.arrive_meaning later_stage q)) ≡ answers.Completed reply → MakesOne place worker IsRwLock (item place worker (deeds.Entered (events.RwMutex rw_events.ReadArrive) (answered.RwMutex q)) ∷ [])
  read_done next (rw_replies.Arrived rw_arrival.Acquired) is = (deeds.Entered (events.RwMutex rw_events.ReadArrive) (answered.RwMutex (rw_replies.Arrived rw_arrival.Acquired)), refl, reader_at_once)
  read_done next (rw_replies.Arrived rw_arrival.Queued) is = later reply is
  read_done next (rw_replies.Tried acquired) is = never reply is
  read_done next (rw_replies.Unlocked unlocking) is = never reply is
  read_done next (rw_replies.Resumed resumption) is = never reply is
  read_done next rw_replies.Left is = never reply is
  read_done next rw_replies.Still is = never reply is

  inner_done : (q : RwReply) → answer_by locked (outcome_of (rw_stages.inner_meaning q)) ≡ answers.Completed reply → MakesOne place worker IsRwLock (item place worker (deeds.Entered (events.RwMutex (rw_events.WriteWoken moment)) (answered.RwMutex q)) ∷ [])
  inner_done (rw_replies.Resumed rw_resumption.Acquired) is = (deeds.Entered (events.RwMutex (rw_events.WriteWoken moment)) (answered.RwMutex (rw_replies.Resumed rw_resumption.Acquired)), refl, writer_resumed moment)
  inner_done (rw_replies.Resumed rw_resumption.Queued) is = later reply is
  inner_done (rw_replies.Resumed rw_resumption.Requeued) is = later reply is
  inner_done (rw_replies.Arrived arrival) is = never reply is
  inner_done (rw_replies.Tried acquired) is = never reply is
  inner_done (rw_replies.Unlocked unlocking) is = never reply is
  inner_done rw_replies.Left is = never reply is
  inner_done rw_replies.Still is = later reply is

  left_done : (later_stage : RwMutexStage) (q : RwReply) → answer_by locked (outcome_of (rw_stages.leave_meaning later_stage q)) ≡ answers.Completed reply → MakesOne place worker IsRwLock (item place worker (deeds.Entered (events.RwMutex rw_events.Leave) (answered.RwMutex q)) ∷ [])
  left_done next rw_replies.Left is = (deeds.Entered (events.RwMutex rw_events.Leave) (answered.RwMutex rw_replies.Left), refl, left)
  left_done next (rw_replies.Resumed resumption) is = never reply is
  left_done next (rw_replies.Arrived arrival) is = never reply is
  left_done next (rw_replies.Tried acquired) is = never reply is
  left_done next (rw_replies.Unlocked unlocking) is = never reply is
  left_done next rw_replies.Still is = later reply is

  write_tried : reply ≡ replies.Lock (locks.Tried true) → (q : RwReply) → answer_by locked (outcome_of (rw_stages.try_meaning q)) ≡ answers.Completed reply → MakesOne place worker IsRwLock (item place worker (deeds.Entered (events.RwMutex rw_events.WriteTry) (answered.RwMutex q)) ∷ [])
  write_tried won (rw_replies.Tried true) is = (deeds.Entered (events.RwMutex rw_events.WriteTry) (answered.RwMutex (rw_replies.Tried true)), refl, writer_tried)
  write_tried won (rw_replies.Tried false) is = absurd (false≢true (ap has_won (is ∙ ap answers.Completed won)))
  write_tried won (rw_replies.Arrived arrival) is = never reply is
  write_tried won (rw_replies.Unlocked unlocking) is = never reply is
  write_tried won (rw_replies.Resumed resumption) is = never reply is
  write_tried won rw_replies.Left is = never reply is
  write_tried won rw_replies.Still is = never reply is

  read_tried : reply ≡ replies.Lock (locks.Tried true) → (q : RwReply) → answer_by locked (outcome_of (rw_stages.try_meaning q)) ≡ answers.Completed reply → MakesOne place worker IsRwLock (item place worker (deeds.Entered (events.RwMutex rw_events.ReadTry) (answered.RwMutex q)) ∷ [])
  read_tried won (rw_replies.Tried true) is = (deeds.Entered (events.RwMutex rw_events.ReadTry) (answered.RwMutex (rw_replies.Tried true)), refl, reader_tried)
  read_tried won (rw_replies.Tried false) is = absurd (false≢true (ap has_won (is ∙ ap answers.Completed won)))
  read_tried won (rw_replies.Arrived arrival) is = never reply is
  read_tried won (rw_replies.Unlocked unlocking) is = never reply is
  read_tried won (rw_replies.Resumed resumption) is = never reply is
  read_tried won rw_replies.Left is = never reply is
  read_tried won rw_replies.Still is = never reply is

  -- the calls that take the mutex, with what a completed one answers
  pub data Takes : RwMutexCall → Type 0 where
    locks_it : Takes rw_calls.Lock
    reads_it : Takes rw_calls.RLock
    tries_it : reply ≡ replies.Lock (locks.Tried true) → Takes rw_calls.TryLock
    tries_to_read_it : reply ≡ replies.Lock (locks.Tried true) → Takes rw_calls.TryRLock

  -- by what its first stage comes to
  first_stage : (m : rw.State) {call : RwMutexCall} → Takes call → answer_by locked (make rw.next rw_stages.rw_event rw_stages.rw_meaning worker moment (Some (rw_mutex_stage call)) m).1 ≡ answers.Completed reply
      → MakesOne place worker IsRwLock (stage_items events.RwMutex answered.RwMutex rw.next rw_stages.rw_event worker moment place (Some (rw_mutex_stage call)) m)
  first_stage m locks_it is = write_done rw_stage.Resume (rw.next m worker (rw_events.WriteArrive moment)).1 is
  first_stage m reads_it is = read_done rw_stage.LeaveReading (rw.next m worker rw_events.ReadArrive).1 is
  first_stage m (tries_it won) is = write_tried won (rw.next m worker rw_events.WriteTry).1 is
  first_stage m (tries_to_read_it won) is = read_tried won (rw.next m worker rw_events.ReadTry).1 is

  rw_at : (m : rw.State) (call : RwMutexCall) → Takes call → (at : RwPlace) → answer_by locked (make rw.next rw_stages.rw_event rw_stages.rw_meaning worker moment (rw_due call at) m).1 ≡ answers.Completed reply
      → MakesOne place worker IsRwLock (stage_items events.RwMutex answered.RwMutex rw.next rw_stages.rw_event worker moment place (rw_due call at) m)
  rw_at m call takes rw_places.Out is = first_stage m takes is
  rw_at m call takes rw_places.Queued is = never reply is
  rw_at m call takes rw_places.Waiting is = never reply is
  rw_at m call takes rw_places.Woken is = inner_done (rw.next m worker (rw_events.WriteWoken moment)).1 is
  rw_at m call takes rw_places.Handed is = inner_done (rw.next m worker (rw_events.WriteWoken moment)).1 is
  rw_at m call takes rw_places.Granted is = left_done rw_stage.Behind (rw.next m worker rw_events.Leave).1 is
  rw_at m call takes rw_places.Admitted is = left_done rw_stage.LeaveReading (rw.next m worker rw_events.Leave).1 is

  beside_rw : (call : RwMutexCall) (object : ObjectState) (target : Option ObjectState) → (option_map_or (λ t. with_both place (other_of object) objects (turn_on_both (operations.RwMutex call) worker moment object t)) target (objects, answers.Still)).1 ≡ answers.Completed reply → ⊥
  beside_rw call object None is = never reply is
  beside_rw call object (Some target) is = never reply is

  rw_each : (call : RwMutexCall) → Takes call → (object : ObjectState) → (step_by place (operations.RwMutex call) worker moment objects object).1 ≡ answers.Completed reply → MakesOne place worker IsRwLock (made_by place (operations.RwMutex call) worker moment objects object)
  rw_each call takes (states.RwMutex m) is = rw_at m call takes (rw.place_of m worker) is
  rw_each call takes (states.Cond c other) is = absurd (beside_rw call (states.Cond c other) (slice_get objects other) is)
  rw_each call takes (states.Once o other delta) is = absurd (beside_rw call (states.Once o other delta) (slice_get objects other) is)
  rw_each call takes (states.Flight f keys other delta) is = absurd (beside_rw call (states.Flight f keys other delta) (slice_get objects other) is)
  rw_each call takes object is = never reply is

-- ---- a weighted semaphore

module _ (place worker moment : ℕ) (objects : List ObjectState) (reply : Reply (List ℕ)) where
  acquire_done : (weight : ℕ) (q : SemaReply) → answer_by locked (outcome_of (sema_stages.acquire_meaning q)) ≡ answers.Completed reply → MakesOne place worker IsWeightHad (item place worker (deeds.Entered (events.Sema (sema_events.Acquire weight)) (answered.Sema q)) ∷ [])
  acquire_done weight sema_replies.Done is = (deeds.Entered (events.Sema (sema_events.Acquire weight)) (answered.Sema sema_replies.Done), refl, at_once weight)
  acquire_done weight sema_replies.Queued is = later reply is
  acquire_done weight sema_replies.Refused is = never reply is
  acquire_done weight (sema_replies.Misused misuse) is = never reply is
  acquire_done weight sema_replies.Still is = never reply is

  granted_done : (q : SemaReply) → answer_by locked (outcome_of (sema_stages.leave_meaning q)) ≡ answers.Completed reply → MakesOne place worker IsWeightHad (item place worker (deeds.Entered (events.Sema sema_events.Leave) (answered.Sema q)) ∷ [])
  granted_done sema_replies.Done is = (deeds.Entered (events.Sema sema_events.Leave) (answered.Sema sema_replies.Done), refl, left)
  granted_done sema_replies.Queued is = never reply is
  granted_done sema_replies.Refused is = never reply is
  granted_done (sema_replies.Misused misuse) is = never reply is
  granted_done sema_replies.Still is = later reply is

  -- a try that had the weight
  weight_tried : reply ≡ replies.Lock (locks.Tried true) → (weight : ℕ) (q : SemaReply) → answer_by locked (outcome_of (sema_stages.try_meaning q)) ≡ answers.Completed reply → MakesOne place worker IsWeightHad (item place worker (deeds.Entered (events.Sema (sema_events.Try weight)) (answered.Sema q)) ∷ [])
  weight_tried won weight sema_replies.Done is = (deeds.Entered (events.Sema (sema_events.Try weight)) (answered.Sema sema_replies.Done), refl, tried weight)
  weight_tried won weight sema_replies.Refused is = absurd (false≢true (ap has_won (is ∙ ap answers.Completed won)))
  weight_tried won weight sema_replies.Queued is = never reply is
  weight_tried won weight (sema_replies.Misused misuse) is = never reply is
  weight_tried won weight sema_replies.Still is = never reply is

  acquire_at : (weight : ℕ) (s : sema.SemaState) (at : SemaPlace) → answer_by locked (make sema.next sema_stages.sema_event sema_stages.sema_meaning worker moment (sema_due (sema_calls.Acquire weight) at) s).1 ≡ answers.Completed reply
      → MakesOne place worker IsWeightHad (stage_items events.Sema answered.Sema sema.next sema_stages.sema_event worker moment place (sema_due (sema_calls.Acquire weight) at) s)
  acquire_at weight s sema_places.Out is = acquire_done weight (sema.next s worker (sema_events.Acquire weight)).1 is
  acquire_at weight s sema_places.Waiting is = never reply is
  acquire_at weight s sema_places.Granted is = granted_done (sema.next s worker sema_events.Leave).1 is

  try_weight_at : reply ≡ replies.Lock (locks.Tried true) → (weight : ℕ) (s : sema.SemaState) (at : SemaPlace) → answer_by locked (make sema.next sema_stages.sema_event sema_stages.sema_meaning worker moment (sema_due (sema_calls.TryAcquire weight) at) s).1 ≡ answers.Completed reply
      → MakesOne place worker IsWeightHad (stage_items events.Sema answered.Sema sema.next sema_stages.sema_event worker moment place (sema_due (sema_calls.TryAcquire weight) at) s)
  try_weight_at won weight s sema_places.Out is = weight_tried won weight (sema.next s worker (sema_events.Try weight)).1 is
  try_weight_at won weight s sema_places.Waiting is = never reply is
  try_weight_at won weight s sema_places.Granted is = never reply is

  beside_sema : (call : SemaCall) (object : ObjectState) (target : Option ObjectState) → (option_map_or (λ t. with_both place (other_of object) objects (turn_on_both (operations.Sema call) worker moment object t)) target (objects, answers.Still)).1 ≡ answers.Completed reply → ⊥
  beside_sema call object None is = never reply is
  beside_sema call object (Some target) is = never reply is

  acquire_each : (weight : ℕ) (object : ObjectState) → (step_by place (operations.Sema (sema_calls.Acquire weight)) worker moment objects object).1 ≡ answers.Completed reply → MakesOne place worker IsWeightHad (made_by place (operations.Sema (sema_calls.Acquire weight)) worker moment objects object)
  acquire_each weight (states.Sema s size) is = acquire_at weight s (sema.place_of s worker) is
  acquire_each weight (states.Cond c other) is = absurd (beside_sema (sema_calls.Acquire weight) (states.Cond c other) (slice_get objects other) is)
  acquire_each weight (states.Once o other delta) is = absurd (beside_sema (sema_calls.Acquire weight) (states.Once o other delta) (slice_get objects other) is)
  acquire_each weight (states.Flight f keys other delta) is = absurd (beside_sema (sema_calls.Acquire weight) (states.Flight f keys other delta) (slice_get objects other) is)
  acquire_each weight object is = never reply is

  try_weight_each : reply ≡ replies.Lock (locks.Tried true) → (weight : ℕ) (object : ObjectState) → (step_by place (operations.Sema (sema_calls.TryAcquire weight)) worker moment objects object).1 ≡ answers.Completed reply → MakesOne place worker IsWeightHad (made_by place (operations.Sema (sema_calls.TryAcquire weight)) worker moment objects object)
  try_weight_each won weight (states.Sema s size) is = try_weight_at won weight s (sema.place_of s worker) is
  try_weight_each won weight (states.Cond c other) is = absurd (beside_sema (sema_calls.TryAcquire weight) (states.Cond c other) (slice_get objects other) is)
  try_weight_each won weight (states.Once o other delta) is = absurd (beside_sema (sema_calls.TryAcquire weight) (states.Once o other delta) (slice_get objects other) is)
  try_weight_each won weight (states.Flight f keys other delta) is = absurd (beside_sema (sema_calls.TryAcquire weight) (states.Flight f keys other delta) (slice_get objects other) is)
  try_weight_each won weight object is = never reply is

-- ---- as turns of a trace

module _ (plan : Plan) (trace : List TraceItem) (told : (n : ℕ) (one : TraceItem) → slice_get trace n ≡ Some one → IsToldOf plan one) (i place : ℕ) where
  -- turn i completed this call at this place, with this reply, and made one item, which does such a thing
  pub record DoesOne (operation : Operation) (reply : Reply (List ℕ)) (c : Completes trace i place operation reply) (Q : Deed → Type 0) : Type 0 where
    pub worker : ℕ
    pub deed : Deed
    pub made : c.turn.made ≡ item place worker deed ∷ []
    pub does : Q deed

  pub whole : (operation : Operation) (reply : Reply (List ℕ)) (c : Completes trace i place operation reply) → IsWhole plan c.turn (record { object = place; operation = operation }) reply
  whole operation reply c = whole_of plan c.turn (record { object = place; operation = operation }) reply c.of c.with (told i c.turn c.at)

  pub by_one : (operation : Operation) (reply : Reply (List ℕ)) (c : Completes trace i place operation reply) (Q : Deed → Type 0) (w : IsWhole plan c.turn (record { object = place; operation = operation }) reply)
      → MakesOne place w.worker Q (items plan w.state w.worker (record { object = place; operation = operation })) → DoesOne operation reply c Q
  by_one operation reply c Q w (deed, made, does) = record { worker = w.worker; deed = deed; made = sym w.made ∙ made; does = does }

  on_mutex : (call : MutexCall) (reply : Reply (List ℕ)) → ((worker moment : ℕ) (objects : List ObjectState) (object : ObjectState) → (step_by place (operations.Mutex call) worker moment objects object).1 ≡ answers.Completed reply → MakesOne place worker IsMutexLock (made_by place (operations.Mutex call) worker moment objects object))
      → (c : Completes trace i place (operations.Mutex call) reply) → DoesOne (operations.Mutex call) reply c IsMutexLock
  on_mutex call reply each c = let w = whole (operations.Mutex call) reply c in
      by_one (operations.Mutex call) reply c IsMutexLock w (at_found place (operations.Mutex call) w.worker w.state.moment w.state.objects (λ made _. MakesOne place w.worker IsMutexLock made) reply (each w.worker w.state.moment w.state.objects) (slice_get w.state.objects place) w.completes)

  pub locked_by : (reply : Reply (List ℕ)) (c : Completes trace i place (operations.Mutex mutex_calls.Lock) reply) → DoesOne (operations.Mutex mutex_calls.Lock) reply c IsMutexLock
  locked_by reply c = on_mutex mutex_calls.Lock reply (λ worker moment objects object is. lock_each place worker moment objects reply object is) c

  pub tried_by : (c : Completes trace i place (operations.Mutex mutex_calls.TryLock) (replies.Lock (locks.Tried true))) → DoesOne (operations.Mutex mutex_calls.TryLock) (replies.Lock (locks.Tried true)) c IsMutexLock
  tried_by c = on_mutex mutex_calls.TryLock (replies.Lock (locks.Tried true)) (λ worker moment objects object is. try_each place worker moment objects (replies.Lock (locks.Tried true)) refl object is) c

  pub rw_by : (call : RwMutexCall) (reply : Reply (List ℕ)) → ((worker moment : ℕ) (objects : List ObjectState) → Takes place worker moment objects reply call) → (c : Completes trace i place (operations.RwMutex call) reply) → DoesOne (operations.RwMutex call) reply c IsRwLock
  rw_by call reply takes c = let w = whole (operations.RwMutex call) reply c in
      by_one (operations.RwMutex call) reply c IsRwLock w (at_found place (operations.RwMutex call) w.worker w.state.moment w.state.objects (λ made _. MakesOne place w.worker IsRwLock made) reply
      (rw_each place w.worker w.state.moment w.state.objects reply call (takes w.worker w.state.moment w.state.objects)) (slice_get w.state.objects place) w.completes)

  on_group : (call : WaitGroupCall) (reply : Reply (List ℕ)) (Q : Deed → Type 0) → ((worker moment : ℕ) (objects : List ObjectState) (object : ObjectState) → (step_by place (operations.WaitGroup call) worker moment objects object).1 ≡ answers.Completed reply → MakesOne place worker Q (made_by place (operations.WaitGroup call) worker moment objects object))
      → (c : Completes trace i place (operations.WaitGroup call) reply) → DoesOne (operations.WaitGroup call) reply c Q
  on_group call reply Q each c = let w = whole (operations.WaitGroup call) reply c in
      by_one (operations.WaitGroup call) reply c Q w (at_found place (operations.WaitGroup call) w.worker w.state.moment w.state.objects (λ made _. MakesOne place w.worker Q made) reply (each w.worker w.state.moment w.state.objects) (slice_get w.state.objects place) w.completes)

  pub waited_by : (reply : Reply (List ℕ)) (c : Completes trace i place (operations.WaitGroup group_calls.Wait) reply) → DoesOne (operations.WaitGroup group_calls.Wait) reply c IsGroupReturn
  waited_by reply c = on_group group_calls.Wait reply IsGroupReturn (λ worker moment objects object is. wait_each place worker moment objects reply object is) c

  pub added_by : (delta : ℤ) (reply : Reply (List ℕ)) (c : Completes trace i place (operations.WaitGroup (group_calls.Add delta)) reply) → DoesOne (operations.WaitGroup (group_calls.Add delta)) reply c (λ d. d ≡ added delta)
  added_by delta reply c = on_group (group_calls.Add delta) reply (λ d. d ≡ added delta) (λ worker moment objects object is. add_each place worker moment objects reply delta object is) c

  pub done_by : (reply : Reply (List ℕ)) (c : Completes trace i place (operations.WaitGroup group_calls.Done) reply) → DoesOne (operations.WaitGroup group_calls.Done) reply c (λ d. d ≡ added (negsuc 0))
  done_by reply c = on_group group_calls.Done reply (λ d. d ≡ added (negsuc 0)) (λ worker moment objects object is. done_each place worker moment objects reply object is) c

  on_sema : (call : SemaCall) (reply : Reply (List ℕ)) → ((worker moment : ℕ) (objects : List ObjectState) (object : ObjectState) → (step_by place (operations.Sema call) worker moment objects object).1 ≡ answers.Completed reply → MakesOne place worker IsWeightHad (made_by place (operations.Sema call) worker moment objects object))
      → (c : Completes trace i place (operations.Sema call) reply) → DoesOne (operations.Sema call) reply c IsWeightHad
  on_sema call reply each c = let w = whole (operations.Sema call) reply c in
      by_one (operations.Sema call) reply c IsWeightHad w (at_found place (operations.Sema call) w.worker w.state.moment w.state.objects (λ made _. MakesOne place w.worker IsWeightHad made) reply (each w.worker w.state.moment w.state.objects) (slice_get w.state.objects place) w.completes)

  pub acquired_by : (weight : ℕ) (reply : Reply (List ℕ)) (c : Completes trace i place (operations.Sema (sema_calls.Acquire weight)) reply) → DoesOne (operations.Sema (sema_calls.Acquire weight)) reply c IsWeightHad
  acquired_by weight reply c = on_sema (sema_calls.Acquire weight) reply (λ worker moment objects object is. acquire_each place worker moment objects reply weight object is) c

  pub weight_tried_by : (weight : ℕ) (c : Completes trace i place (operations.Sema (sema_calls.TryAcquire weight)) (replies.Lock (locks.Tried true))) → DoesOne (operations.Sema (sema_calls.TryAcquire weight)) (replies.Lock (locks.Tried true)) c IsWeightHad
  weight_tried_by weight c = on_sema (sema_calls.TryAcquire weight) (replies.Lock (locks.Tried true)) (λ worker moment objects object is. try_weight_each place worker moment objects (replies.Lock (locks.Tried true)) refl weight object is) c

  -- so it makes that item
  abbrev pub makes : (operation : Operation) (reply : Reply (List ℕ)) (c : Completes trace i place operation reply) (Q : Deed → Type 0) (d : DoesOne operation reply c Q) → Makes trace i place d.worker d.deed
  makes operation reply c Q d = record { turn = c.turn; at = c.at; front = []; back = []; made = d.made }
