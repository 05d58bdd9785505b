-- A turn with which a wait on a cond returns leaves its worker with the mutex locked. So a turn of the next wait, which follows at once, doesn't return.
use Rattle.std.proofs.Common.{◌≡◌, ◌≢◌, ℕ, Bool, true, false, not, ◌&&◌, ◌||◌, List, [], ◌∷◌, ◌++◌, set, Some, refl, sym, ap, ◌∙◌, subst}
use Rattle.std.specs.Prelude.{slice_get, if◌then◌else◌}
use Rattle.std.proofs.lemmas.Bool.{eq-eqb}
use Rattle.script_calls.specs.declared.call.Operation.TheVariants as operations
use Rattle.sync_types.specs.declared.lock_call.LockReply.{LockReply}
use Rattle.sync_types.specs.declared.wait_call.CondCall.TheVariants as cond_calls
use Rattle.mutex_core.specs.MutexMachine as mutex
use Rattle.mutex_core.specs.Moves.{place_after}
use Rattle.mutex_core.specs.Starving.{is_starving}
use Rattle.mutex_core.specs.declared.event.MutexEvent.{MutexEvent}
use Rattle.mutex_core.specs.declared.event.MutexEvent.TheVariants.{Arrive, Woken}
use Rattle.mutex_core.specs.declared.place.Place.{Place as MutexPlace}
use Rattle.mutex_core.specs.declared.place.Place.TheVariants as mutex_place
use Rattle.mutex_core.specs.declared.reply.MutexReply.{MutexReply}
use Rattle.mutex_core.specs.declared.reply.MutexReply.TheVariants.{Arrived, Tried, Unlocked, Resumed, Still}
use Rattle.mutex_core.specs.declared.reply.Arrival.TheVariants as arrival
use Rattle.mutex_core.specs.declared.reply.Resumption.TheVariants as resumption
use Rattle.mutex_core.specs.declared.waiter.Flight.{Flight}
use Rattle.mutex_core.specs.declared.waiter.Flight.TheVariants as flight
use Rattle.mutex_core.specs.declared.waiter.Waiter.{Waiter}
use Rattle.wait_cores.specs.NotifyMachine as notify
use Rattle.wait_cores.specs.declared.notify.NotifyPlace.{NotifyPlace}
use Rattle.wait_cores.specs.declared.notify.NotifyPlace.TheVariants as notify_place
use Rattle.protocols.specs.MutexStages.{mutex_event, mutex_meaning, lock_meaning, resume_meaning}
use Rattle.protocols.specs.declared.mutex.MutexStage.{MutexStage}
use Rattle.protocols.specs.declared.mutex.MutexStage.TheVariants as mutex_stage
use Rattle.protocols.specs.declared.step.Step.{Step}
use Rattle.protocols.specs.declared.step.Step.TheVariants.{Finished, Misused, Waits, Next, Never}
use Rattle.workload.specs.Plan.{has_call, is_target, reference_of}
use Rattle.step_runner.specs.declared.turns.answer.Answer.{Answer}
use Rattle.step_runner.specs.declared.turns.object_state.ObjectState.{ObjectState}
use Rattle.step_runner.specs.declared.turns.object_state.ObjectState.TheVariants as states
use Rattle.step_runner.specs.Completes.{IsCompleted}
use Rattle.step_runner.specs.Due.{cond_due, waited}
use Rattle.step_runner.specs.MachinesStand.{MutexStands}
use Rattle.step_runner.specs.Objects.{kind_of, IsMachineOf}
use Rattle.step_runner.specs.Ready.{IsReady, HasTarget}
use Rattle.step_runner.specs.Stages.{make, outcome_of, answer_by}
use Rattle.step_runner.specs.TurnAtObjects.{cond_turn, with_both, turn_on_both, turn_at}
use Rattle.step_runner.specs.TurnWithin.{wait_on}
use Rattle.step_runner.proofs.AtObjects.{apart, turn_referring}
use Rattle.step_runner.proofs.SpeltAtObjects.{set_there, one_found}
use Rattle.step_runner.proofs.Writes.{get_other}
use Rattle.step_runner.proofs.Refuted.{no}

-- ---- a cond and its mutex, among objects

pub record Waiting (cond : ℕ) (objects : List ObjectState) : Type 0 where
  pub c : notify.NotifyState
  pub place : ℕ
  pub m : mutex.State
  pub at : slice_get objects cond ≡ Some (states.Cond c place)
  pub there : slice_get objects place ≡ Some (states.Mutex m)
  pub apart : place ≢ cond
  pub valid : mutex.IsValid m

by_target : (workers cond : ℕ) (objects : List ObjectState) (c : notify.NotifyState) (place : ℕ) (target : ObjectState) → slice_get objects cond ≡ Some (states.Cond c place) → slice_get objects place ≡ Some target
    → is_target (kind_of (states.Cond c place)) (kind_of target) ≡ true → IsMachineOf workers target → Waiting cond objects
by_target workers cond objects c place (states.Mutex m) at there is machine =
    record { c = c; place = place; m = m; at = at; there = there; apart = apart objects cond place (states.Cond c place) (states.Mutex m) at there is; valid = machine.0 }
by_target workers cond objects c place target at there is machine = no is

by_object : (workers cond : ℕ) (objects : List ObjectState) (o : ObjectState) → slice_get objects cond ≡ Some o → has_call (kind_of o) (operations.Cond cond_calls.Wait) ≡ true
    → ((place : ℕ) → reference_of (kind_of o) ≡ Some place → HasTarget workers objects o place) → Waiting cond objects
by_object workers cond objects (states.Cond c place) at has refers = let t = refers place refl in by_target workers cond objects c place t.target at t.there t.is t.machine
by_object workers cond objects o at has refers = no has

pub waiting_at : (workers worker cond : ℕ) (objects : List ObjectState) → IsReady workers worker (wait_on cond) objects → Waiting cond objects
waiting_at workers worker cond objects r = by_object workers cond objects r.object r.there r.has r.refers

abbrev wait_step : (worker moment place : ℕ) → notify.NotifyState → mutex.State → (ObjectState × ObjectState) × Answer
wait_step worker moment place c m = turn_on_both (operations.Cond cond_calls.Wait) worker moment (states.Cond c place) (states.Mutex m)

turn_is : (worker moment cond : ℕ) (objects : List ObjectState) (w : Waiting cond objects) → turn_at (wait_on cond) worker moment objects ≡ with_both cond w.place objects (wait_step worker moment w.place w.c w.m)
turn_is worker moment cond objects w = turn_referring (wait_on cond) worker moment objects (states.Cond w.c w.place) w.place (states.Mutex w.m) w.at refl w.there

-- ---- the mutex

-- the worker is out at the mutex, which is locked
abbrev Held : ℕ → mutex.State → Type 0
Held x m = (m.locked ≡ true) × (mutex.place_of m x ≡ mutex_place.Out)

unlock_open : (step : Step MutexStage LockReply) → IsCompleted (answer_by (waited (Some mutex_stage.Unlock)) (outcome_of step)) → ⊥
unlock_open (Finished outcome) completed = completed
unlock_open (Misused misuse) completed = completed
unlock_open (Waits later) completed = completed
unlock_open (Next later) completed = completed
unlock_open Never completed = completed

lock_done : (r : MutexReply) → IsCompleted (answer_by (waited (Some mutex_stage.Lock)) (outcome_of (lock_meaning r))) → r ≡ Arrived arrival.Acquired
lock_done (Arrived arrival.Acquired) completed = refl
lock_done (Arrived (arrival.Queued ticket)) completed = absurd completed
lock_done (Tried acquired) completed = absurd completed
lock_done (Unlocked unlocking) completed = absurd completed
lock_done (Resumed resumption) completed = absurd completed
lock_done Still completed = absurd completed

resume_done : (r : MutexReply) → IsCompleted (answer_by (waited (Some mutex_stage.Resume)) (outcome_of (resume_meaning r))) → r ≡ Resumed resumption.Acquired
resume_done (Resumed resumption.Acquired) completed = refl
resume_done (Resumed resumption.Requeued) completed = absurd completed
resume_done Still completed = absurd completed
resume_done (Arrived arrival) completed = absurd completed
resume_done (Tried acquired) completed = absurd completed
resume_done (Unlocked unlocking) completed = absurd completed

module _ (x moment : ℕ) (m : mutex.State) where
  -- an event, by whether the worker is one of the callers, and by its place
  abbrev by_place : MutexEvent → Bool → MutexPlace → mutex.State × MutexReply
  by_place e below p = if below then mutex.at_place e p x m else mutex.still m

  abbrev arrives : Bool → mutex.State × MutexReply
  arrives free =
      if free
      then (record m { locked = true }, Arrived arrival.Acquired)
      else (record m { queue = m.queue ++ record { caller = x; arrival = moment; asked = false } ∷ [] }, Arrived (arrival.Queued x))

  arrives_locked : (free : Bool) → (arrives free).1 ≡ Arrived arrival.Acquired → (arrives free).0.locked ≡ true
  arrives_locked true acquired = refl
  arrives_locked false acquired = absurd cc

  lock_locked : (below : Bool) (p : MutexPlace) → (by_place (Arrive moment) below p).1 ≡ Arrived arrival.Acquired → (by_place (Arrive moment) below p).0.locked ≡ true
  lock_locked false p acquired = absurd cc
  lock_locked true mutex_place.Out acquired = arrives_locked (mutex.is_open m) acquired
  lock_locked true mutex_place.Waiting acquired = absurd cc
  lock_locked true mutex_place.Woken acquired = absurd cc
  lock_locked true mutex_place.Handed acquired = absurd cc

  no_arrival : (free : Bool) → free ≡ false → (arrives free).1 ≡ Arrived arrival.Acquired → ⊥
  no_arrival true shut acquired = cc
  no_arrival false shut acquired = cc

  -- a locked mutex isn't acquired by one that arrives
  no_lock : m.locked ≡ true → (below : Bool) (p : MutexPlace) → (by_place (Arrive moment) below p).1 ≡ Arrived arrival.Acquired → ⊥
  no_lock locked false p acquired = cc
  no_lock locked true mutex_place.Out acquired = no_arrival (mutex.is_open m) (ap (λ (b : Bool). not b && not m.starving) locked) acquired
  no_lock locked true mutex_place.Waiting acquired = cc
  no_lock locked true mutex_place.Woken acquired = cc
  no_lock locked true mutex_place.Handed acquired = cc

  abbrev contends : Waiter → Bool → mutex.State × MutexReply
  contends waiter locked =
      if locked
      then (
        record m {
          woken = false;
          starving = m.starving || is_starving waiter moment;
          queue = record waiter { asked = is_starving waiter moment } ∷ m.queue;
          flight = flight.Nobody;
        },
        Resumed resumption.Requeued,
      )
      else (record m { locked = true; woken = false; flight = flight.Nobody }, Resumed resumption.Acquired)

  resumed_locked : (f : Flight) (queue : List Waiter) → (mutex.resumed f queue moment m).1 ≡ Resumed resumption.Acquired → (mutex.resumed f queue moment m).0.locked ≡ true
  resumed_locked (flight.Woken waiter) queue acquired = by_lock m.locked acquired
    where
      by_lock : (locked : Bool) → (contends waiter locked).1 ≡ Resumed resumption.Acquired → (contends waiter locked).0.locked ≡ true
      by_lock true acquired = absurd cc
      by_lock false acquired = refl
  resumed_locked flight.Handed (front ∷ rest) acquired = refl
  resumed_locked flight.Handed [] acquired = absurd cc
  resumed_locked flight.Nobody queue acquired = absurd cc

  resume_locked : (below : Bool) (p : MutexPlace) → (by_place (Woken moment) below p).1 ≡ Resumed resumption.Acquired → (by_place (Woken moment) below p).0.locked ≡ true
  resume_locked false p acquired = absurd cc
  resume_locked true mutex_place.Out acquired = absurd cc
  resume_locked true mutex_place.Waiting acquired = absurd cc
  resume_locked true mutex_place.Woken acquired = resumed_locked m.flight m.queue acquired
  resume_locked true mutex_place.Handed acquired = resumed_locked m.flight m.queue acquired

-- ---- turns of a wait

resumes_held : MutexStands → (x moment : ℕ) (m : mutex.State) → mutex.IsValid m → (mutex.next m x (Woken moment)).1 ≡ Resumed resumption.Acquired → Held x (mutex.next m x (Woken moment)).0
resumes_held law x moment m valid acquired = (
  resume_locked x moment m _ (mutex.place_of m x) acquired,
  law.moved m x x (Woken moment) valid ∙ ap (place_after x x (mutex.place_of m x)) acquired ∙ ap (λ (b : Bool). if b then mutex_place.Out else mutex.place_of m x) (eq-eqb x x refl),
)

-- behind one that returns the worker has the mutex
done_holds : MutexStands → (p : MutexPlace) (q : NotifyPlace) (x moment place : ℕ) (c : notify.NotifyState) (m : mutex.State) → mutex.place_of m x ≡ p → mutex.IsValid m
    → IsCompleted (cond_turn cond_calls.Wait x moment place (cond_due cond_calls.Wait p q) c m).1 → Held x (make mutex.next mutex_event mutex_meaning x moment (cond_due cond_calls.Wait p q).1 m).0
done_holds law mutex_place.Out notify_place.Out x moment place c m at valid completed = absurd (unlock_open (mutex_meaning mutex_stage.Unlock (mutex.next m x (mutex_event mutex_stage.Unlock moment)).1) completed)
done_holds law mutex_place.Out notify_place.Waiting x moment place c m at valid completed = absurd completed
done_holds law mutex_place.Out notify_place.Notified x moment place c m at valid completed =
    let acquired = lock_done (mutex.next m x (Arrive moment)).1 completed in
    (lock_locked x moment m _ (mutex.place_of m x) acquired, law.moved m x x (Arrive moment) valid ∙ ap (place_after x x (mutex.place_of m x)) acquired ∙ at)
done_holds law mutex_place.Waiting q x moment place c m at valid completed = absurd completed
done_holds law mutex_place.Woken q x moment place c m at valid completed = resumes_held law x moment m valid (resume_done (mutex.next m x (Woken moment)).1 completed)
done_holds law mutex_place.Handed q x moment place c m at valid completed = resumes_held law x moment m valid (resume_done (mutex.next m x (Woken moment)).1 completed)

-- one that has it doesn't return
held_open : (p : MutexPlace) (q : NotifyPlace) (x moment place : ℕ) (c : notify.NotifyState) (m : mutex.State) → p ≡ mutex_place.Out → m.locked ≡ true → IsCompleted (cond_turn cond_calls.Wait x moment place (cond_due cond_calls.Wait p q) c m).1 → ⊥
held_open mutex_place.Out notify_place.Out x moment place c m out locked completed = unlock_open (mutex_meaning mutex_stage.Unlock (mutex.next m x (mutex_event mutex_stage.Unlock moment)).1) completed
held_open mutex_place.Out notify_place.Waiting x moment place c m out locked completed = completed
held_open mutex_place.Out notify_place.Notified x moment place c m out locked completed = no_lock x moment m locked _ (mutex.place_of m x) (lock_done (mutex.next m x (Arrive moment)).1 completed)
held_open mutex_place.Waiting q x moment place c m out locked completed = cc
held_open mutex_place.Woken q x moment place c m out locked completed = cc
held_open mutex_place.Handed q x moment place c m out locked completed = cc

-- ---- among the objects

-- the worker has the mutex of the cond
abbrev pub Holds : ℕ → ℕ → List ObjectState → Type 0
Holds worker cond objects = (c : notify.NotifyState) (place : ℕ) (m : mutex.State) → slice_get objects cond ≡ Some (states.Cond c place) → slice_get objects place ≡ Some (states.Mutex m) → Held worker m

set_holds : (worker cond place : ℕ) (objects : List ObjectState) (c d : notify.NotifyState) (m n : mutex.State) → slice_get objects cond ≡ Some (states.Cond c place) → slice_get objects place ≡ Some (states.Mutex m) → place ≢ cond → Held worker n
    → Holds worker cond (set (set objects cond (states.Cond d place)) place (states.Mutex n))
set_holds worker cond place objects c d m n at there apart held e other o is_cond is_mutex =
    let first = set objects cond (states.Cond d place) in
    let here : states.Cond d place ≡ states.Cond e other = one_found (sym (get_other first place cond (states.Mutex n) (states.Cond d place) (λ same. apart (sym same)) (set_there objects cond (states.Cond d place) (states.Cond c place) at)) ∙ is_cond) in
    let same : other ≡ place = cc in
    let beside = set_there first place (states.Mutex n) (states.Mutex m) (get_other objects cond place (states.Cond d place) (states.Mutex m) apart there) in
    let target : states.Mutex n ≡ states.Mutex o = one_found (sym beside ∙ ap (slice_get (set first place (states.Mutex n))) (sym same) ∙ is_mutex) in
    let one : n ≡ o = cc in
    subst (Held worker) one held

pub returned_holds : MutexStands → (workers worker moment cond : ℕ) (objects : List ObjectState) → IsReady workers worker (wait_on cond) objects → IsCompleted (turn_at (wait_on cond) worker moment objects).1
    → Holds worker cond (turn_at (wait_on cond) worker moment objects).0
returned_holds law workers worker moment cond objects r completed =
    let w = waiting_at workers worker cond objects r in
    let is = turn_is worker moment cond objects w in
    let due = cond_due cond_calls.Wait (mutex.place_of w.m worker) (notify.place_of w.c worker) in
    let held = done_holds law (mutex.place_of w.m worker) (notify.place_of w.c worker) worker moment w.place w.c w.m refl w.valid (subst (λ (step : List ObjectState × Answer). IsCompleted step.1) is completed) in
    subst (λ (step : List ObjectState × Answer). Holds worker cond step.0) (sym is) (set_holds worker cond w.place objects w.c _ w.m _ w.at w.there w.apart held)

pub holding_open : (workers worker moment cond : ℕ) (objects : List ObjectState) → IsReady workers worker (wait_on cond) objects → Holds worker cond objects → IsCompleted (turn_at (wait_on cond) worker moment objects).1 → ⊥
holding_open workers worker moment cond objects r holds completed =
    let w = waiting_at workers worker cond objects r in
    let held = holds w.c w.place w.m w.at w.there in
    held_open (mutex.place_of w.m worker) (notify.place_of w.c worker) worker moment w.place w.c w.m held.1 held.0 (subst (λ (step : List ObjectState × Answer). IsCompleted step.1) (turn_is worker moment cond objects w) completed)
