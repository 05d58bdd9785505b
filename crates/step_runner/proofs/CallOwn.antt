-- A worker's own turn that completes no call takes from what is left of it, unless the worker goes back; and none tells the worker.
use Rattle.std.proofs.Common.{◌≡◌, ◌≢◌, ℕ, ◌+◌, ◌<◌, ◌≤◌, ◌⊎◌, inl, inr, Bool, true, false, List, [], ◌∷◌, ◌++◌, Option, Some, None, refl, sym, ap, ◌∙◌, subst, arith}
use Rattle.std.specs.Prelude.{◌==◌, ℤ, ◌||◌, slice_get, is_some, unwrap_or, nat_lt, Result, Ok, Err, if◌then◌else◌}
use Rattle.std.specs.Int.{w64, int_wrapping_add}
use Rattle.std.proofs.lemmas.Bool.{eq-eqb}
use Rattle.sync_types.specs.declared.atomic_object.Number.{Number}
use Rattle.sync_types.specs.declared.atomic_object.Number.TheVariants.{Int64}
use Rattle.script_calls.specs.declared.call.ComposedCall.TheVariants.{IfEqual}
use Rattle.script_calls.specs.declared.call.Operation.{Operation}
use Rattle.script_calls.specs.declared.call.Operation.TheVariants as operations
use Rattle.script_calls.specs.declared.call.Reply.{Reply}
use Rattle.script_calls.specs.declared.call.Reply.TheVariants as replies
use Rattle.sync_types.specs.declared.once_call.DoReply.TheVariants as do_replies
use Rattle.sync_types.specs.declared.lock_call.LockReply.{LockReply}
use Rattle.sync_types.specs.declared.lock_call.MutexCall.{MutexCall}
use Rattle.sync_types.specs.declared.lock_call.MutexCall.TheVariants as mutex_calls
use Rattle.sync_types.specs.declared.lock_call.RwMutexCall.{RwMutexCall}
use Rattle.sync_types.specs.declared.lock_call.RwMutexCall.TheVariants as rw_calls
use Rattle.sync_types.specs.declared.pool_call.PoolCall.{PoolCall}
use Rattle.sync_types.specs.declared.pool_call.PoolCall.TheVariants as pool_calls
use Rattle.sync_types.specs.declared.wait_call.CondCall.{CondCall}
use Rattle.sync_types.specs.declared.wait_call.CondCall.TheVariants as cond_calls
use Rattle.mutex_core.specs.MutexMachine as mutex
use Rattle.mutex_core.specs.Moves as mutex_moves
use Rattle.mutex_core.specs.Standing as mutex_standing
use Rattle.mutex_core.specs.declared.place.Place.{Place as MutexPlace}
use Rattle.mutex_core.specs.declared.place.Place.TheVariants as mutex_place
use Rattle.mutex_core.specs.declared.reply.MutexReply.{MutexReply}
use Rattle.mutex_core.specs.declared.reply.MutexReply.TheVariants as mutex_reply
use Rattle.mutex_core.specs.declared.reply.Arrival.TheVariants as mutex_arrival
use Rattle.mutex_core.specs.declared.reply.Resumption.TheVariants as mutex_resumption
use Rattle.mutex_core.specs.declared.reply.Unlocking.TheVariants as mutex_unlocking
use Rattle.rw_core.specs.RwMachine as rw
use Rattle.rw_core.specs.Moves as rw_moves
use Rattle.rw_core.specs.Standing as rw_standing
use Rattle.rw_core.specs.declared.place.Place.{Place as RwPlace}
use Rattle.rw_core.specs.declared.place.Place.TheVariants as rw_place
use Rattle.rw_core.specs.declared.reply.RwReply.{RwReply}
use Rattle.rw_core.specs.declared.reply.RwReply.TheVariants as rw_reply
use Rattle.rw_core.specs.declared.reply.Arrival.TheVariants as rw_arrival
use Rattle.rw_core.specs.declared.reply.Resumption.TheVariants as rw_resumption
use Rattle.rw_core.specs.declared.reply.Unlocking.TheVariants as rw_unlocking
use Rattle.wait_cores.specs.NotifyLaws as notify_laws
use Rattle.wait_cores.specs.NotifyMachine as notify
use Rattle.wait_cores.specs.NotifyStanding as notify_standing
use Rattle.wait_cores.specs.GroupMachine as group
use Rattle.wait_cores.specs.GroupEventsLeft.{group_left}
use Rattle.wait_cores.specs.OnceMachine as once
use Rattle.wait_cores.specs.OnceStanding as once_standing
use Rattle.wait_cores.specs.declared.notify.NotifyEvent.TheVariants as notify_event
use Rattle.wait_cores.specs.declared.notify.NotifyPlace.{NotifyPlace}
use Rattle.wait_cores.specs.declared.notify.NotifyPlace.TheVariants as notify_place
use Rattle.wait_cores.specs.declared.notify.NotifyReply.{NotifyReply}
use Rattle.wait_cores.specs.declared.notify.NotifyReply.TheVariants as notify_reply
use Rattle.wait_cores.specs.declared.once.OnceEvent.{OnceEvent}
use Rattle.wait_cores.specs.declared.once.OncePlace.{OncePlace}
use Rattle.wait_cores.specs.declared.once.OncePlace.TheVariants as once_place
use Rattle.wait_cores.specs.declared.once.OnceProgress.{OnceProgress}
use Rattle.wait_cores.specs.declared.once.OnceProgress.TheVariants as progress
use Rattle.wait_cores.specs.declared.once.OnceReply.{OnceReply}
use Rattle.wait_cores.specs.declared.once.OnceReply.TheVariants as once_reply
use Rattle.pool_core.specs.PoolMachine as pool
use Rattle.protocols.specs.CondStages.{cond_event}
use Rattle.protocols.specs.GroupStages.{group_event, group_meaning}
use Rattle.protocols.specs.MutexStages.{mutex_event, mutex_meaning}
use Rattle.protocols.specs.OnceStages.{once_event, once_meaning}
use Rattle.protocols.specs.RwMutexStages.{rw_event, rw_meaning}
use Rattle.protocols.specs.declared.cond.CondStage.TheVariants as cond_stage
use Rattle.protocols.specs.declared.mutex.MutexStage.{MutexStage}
use Rattle.protocols.specs.declared.mutex.MutexStage.TheVariants as mutex_stage
use Rattle.protocols.specs.declared.once.OnceOutcome.{OnceOutcome}
use Rattle.protocols.specs.declared.once.OnceOutcome.TheVariants.{Run, Already, Ended}
use Rattle.protocols.specs.declared.once.OnceStage.{OnceStage}
use Rattle.protocols.specs.declared.once.OnceStage.TheVariants as once_stage
use Rattle.protocols.specs.declared.pool.PoolStage.{PoolStage}
use Rattle.protocols.specs.declared.rw_mutex.RwMutexStage.{RwMutexStage}
use Rattle.protocols.specs.declared.rw_mutex.RwMutexStage.TheVariants as rw_stage
use Rattle.protocols.specs.declared.step.Step.{Step}
use Rattle.protocols.specs.declared.step.Step.TheVariants.{Finished, Misused, Waits, Next, Never}
use Rattle.run_record.specs.declared.entered.ObjectEvent.{ObjectEvent}
use Rattle.run_record.specs.declared.entered.ObjectEvent.TheVariants as events
use Rattle.run_record.specs.declared.entered.ObjectReply.{ObjectReply}
use Rattle.run_record.specs.declared.entered.ObjectReply.TheVariants as answered
use Rattle.run_record.specs.OnceKind.{failure}
use Rattle.sema_core.specs.SemaMachine as sema
use Rattle.sema_core.specs.SemaStages.{sema_event, sema_meaning}
use Rattle.flight_core.specs.FlightMachine as flight
use Rattle.flight_core.specs.FlightStages.{flight_event}
use Rattle.sema_core.specs.SemaEventsLeft.{sema_left}
use Rattle.flight_core.specs.declared.calls.FlightOutcome.{FlightOutcome}
use Rattle.flight_core.specs.declared.calls.FlightOutcome.TheVariants.{Lead, Got, Landed}
use Rattle.workload.specs.Keys.{key_number}
use Rattle.step_runner.proofs.FlightTurns.{flight_takes}
use Rattle.step_runner.specs.declared.turns.answer.Answer.{Answer}
use Rattle.step_runner.specs.declared.turns.answer.Answer.TheVariants as answers
use Rattle.step_runner.specs.declared.turns.object_state.ObjectState.{ObjectState}
use Rattle.step_runner.specs.declared.turns.object_state.ObjectState.TheVariants as states
use Rattle.step_runner.specs.TurnsLeft.{mutex_left, rw_left, once_left, left_at, TakesOf, TakesBy, mutex_told, rw_told, told_at, TellsOwn}
use Rattle.step_runner.specs.Completes.{IsCompleted}
use Rattle.step_runner.specs.Due.{mutex_due, rw_due, locked, group_turn, group_behind, GroupFits, group_from, cond_due, waited, once_due, ran_or, sema_turn, sema_behind, SemaFits, sema_from, flight_due}
use Rattle.step_runner.specs.declared.turns.item.Deed.TheVariants as deeds
use Rattle.step_runner.specs.declared.turns.item.Item.{Item}
use Rattle.step_runner.specs.Items.{stage_items, items_on, items_on_both, add_items, once_items, look_items, unless_found, pool_items, is_requeued, goes_back, landed_items, flight_items}
use Rattle.step_runner.specs.Objects.{IsMachineOf}
use Rattle.step_runner.specs.PoolTurn.{looked, pool_step}
use Rattle.step_runner.specs.Stages.{outcome_of, make, answer_by}
use Rattle.step_runner.specs.TurnAtObjects.{once_made, turn_on, turn_on_both, cond_turn, flight_made}
use Rattle.step_runner.specs.MachinesStand.{MutexStands, RwStands, CondStands, OnceStands, MachinesStand, FlightStands}
use Rattle.step_runner.proofs.CompletesLemmas.{pool_completes}
use Rattle.step_runner.proofs.DueLemmas.{OfDue, both_due, mutex_answer, mutex_answers, rw_answers, OnceAnswer, once_answers}
use Rattle.step_runner.proofs.KindTurns.{kind_leaves}
use Rattle.step_runner.proofs.OthersStand.{untold}
use Rattle.step_runner.proofs.Refuted.{no}

-- ---- what a turn takes

abbrev pub Takes : ℕ → ObjectState → ObjectState × Answer → List Item → Type 0
Takes x o step made = TakesBy (goes_back made) (left_at x o) (left_at x step.0) step.1 × TellsOwn (goes_back made) (told_at x o) (told_at x step.0)

-- what a stage takes, by what it means
abbrev TakesStep : {G O : Type 0} → Bool → ℕ → ℕ → Step G O → Type 0
TakesStep back old new (Finished outcome) = Unit {0}
TakesStep back old new (Misused misuse) = Unit {0}
TakesStep back old new (Waits later) = TakesOf back old new
TakesStep back old new (Next later) = TakesOf back old new
TakesStep back old new Never = Unit {0}

-- where each outcome completes the call
takes_by : {G O : Type 0} (read : O → Answer) (back : Bool) (old new : ℕ) → ((outcome : O) → TakesBy back old new (read outcome)) → (step : Step G O) → TakesStep back old new step → TakesBy back old new (answer_by read (outcome_of step))
takes_by read back old new done (Finished outcome) takes = done outcome
takes_by read back old new done (Misused misuse) takes = tt
takes_by read back old new done (Waits later) takes = takes
takes_by read back old new done (Next later) takes = takes
takes_by read back old new done Never takes = tt

same_told : (a b : Bool) → b ≡ a → TellsOwn false a b
same_told a b same told = sym same ∙ told

untold_now : (a b : Bool) → b ≡ false → TellsOwn false a b
untold_now a b untold told = no (sym untold ∙ told)

-- ---- of a mutex

abbrev MutexAt : MutexPlace → MutexStage → Type 0
MutexAt p mutex_stage.Lock = p ≡ mutex_place.Out
MutexAt p mutex_stage.Unlock = p ≡ mutex_place.Out
MutexAt p mutex_stage.TryLock = p ≡ mutex_place.Out
MutexAt p mutex_stage.Resume = mutex_told p ≡ true

mutex_at : (call : MutexCall) (p : MutexPlace) → OfDue (MutexAt p) (mutex_due call p)
mutex_at mutex_calls.Lock mutex_place.Out = refl
mutex_at mutex_calls.Unlock mutex_place.Out = refl
mutex_at mutex_calls.TryLock mutex_place.Out = refl
mutex_at call mutex_place.Waiting = tt
mutex_at call mutex_place.Woken = refl
mutex_at call mutex_place.Handed = refl

abbrev MutexTakes : MutexStage → ℕ → MutexPlace → MutexPlace → MutexReply → Type 0
MutexTakes stage now p q r =
    let back = is_requeued (deeds.Entered (events.Mutex (mutex_event stage now)) (answered.Mutex r)) || false in
    TakesStep back (mutex_left p) (mutex_left q) (mutex_meaning stage r) × TellsOwn back (mutex_told p) (mutex_told q)

-- the worker itself
self : {A : Type 0} (x : ℕ) (a b : A) → (if x == x then a else b) ≡ a
self x a b = ap (λ (t : Bool). if t then a else b) (eq-eqb x x refl)

mutex_takes : (stage : MutexStage) (x now : ℕ) (p q : MutexPlace) (r : MutexReply) → MutexAt p stage → mutex_standing.is_answer (mutex_event stage now) r ≡ true → (p ≡ mutex_place.Out → mutex_moves.tells x r ≡ false)
    → q ≡ mutex_moves.place_after x x p r → MutexTakes stage now p q r
mutex_takes mutex_stage.Lock x now p q (mutex_reply.Arrived mutex_arrival.Acquired) at is told moved = (tt, same_told (mutex_told p) (mutex_told q) (ap mutex_told moved))
mutex_takes mutex_stage.Lock x now p q (mutex_reply.Arrived (mutex_arrival.Queued ticket)) at is told moved =
    let to : q ≡ mutex_place.Waiting = moved ∙ self x mutex_place.Waiting p in
    (omega (arith, ap mutex_left at, ap mutex_left to), untold_now (mutex_told p) (mutex_told q) (ap mutex_told to))
mutex_takes mutex_stage.Lock x now p q r at is told moved = no is
mutex_takes mutex_stage.Unlock x now p q (mutex_reply.Unlocked mutex_unlocking.Free) at is told moved = (tt, same_told (mutex_told p) (mutex_told q) (ap mutex_told moved))
mutex_takes mutex_stage.Unlock x now p q (mutex_reply.Unlocked (mutex_unlocking.Woke ticket)) at is told moved = (tt, same_told (mutex_told p) (mutex_told q) (ap mutex_told (moved ∙ ap (λ (b : Bool). if b then mutex_place.Woken else p) (told at))))
mutex_takes mutex_stage.Unlock x now p q (mutex_reply.Unlocked (mutex_unlocking.Handed ticket)) at is told moved = (tt, same_told (mutex_told p) (mutex_told q) (ap mutex_told (moved ∙ ap (λ (b : Bool). if b then mutex_place.Handed else p) (told at))))
mutex_takes mutex_stage.Unlock x now p q (mutex_reply.Unlocked (mutex_unlocking.Misuse misuse)) at is told moved = (tt, same_told (mutex_told p) (mutex_told q) (ap mutex_told moved))
mutex_takes mutex_stage.Unlock x now p q r at is told moved = no is
mutex_takes mutex_stage.TryLock x now p q (mutex_reply.Tried taken) at is told moved = (tt, same_told (mutex_told p) (mutex_told q) (ap mutex_told moved))
mutex_takes mutex_stage.TryLock x now p q r at is told moved = no is
mutex_takes mutex_stage.Resume x now p q (mutex_reply.Resumed mutex_resumption.Acquired) at is told moved = (tt, untold_now (mutex_told p) (mutex_told q) (ap mutex_told (moved ∙ self x mutex_place.Out p)))
mutex_takes mutex_stage.Resume x now p q (mutex_reply.Resumed mutex_resumption.Requeued) at is told moved =
    let to : q ≡ mutex_place.Waiting = moved ∙ self x mutex_place.Waiting p in
    (omega (arith, ap mutex_left to), (at, ap mutex_told to))
mutex_takes mutex_stage.Resume x now p q r at is told moved = no is

-- a stage that its worker may make where it stands
mutex_made_takes : MutexStands → (stage : MutexStage) (x moment : ℕ) (p : MutexPlace) (m : mutex.State) → MutexAt p stage → mutex.place_of m x ≡ p → mutex.IsValid m
    → let n = mutex.next m x (mutex_event stage moment) in mutex_standing.is_answer (mutex_event stage moment) n.1 ≡ true → MutexTakes stage moment p (mutex.place_of n.0 x) n.1
mutex_made_takes law stage x moment p m at here valid is =
    let e = mutex_event stage moment in
    let n = mutex.next m x e in
    mutex_takes stage x moment p (mutex.place_of n.0 x) n.1 at is
    (λ out. untold law m x x e valid (here ∙ out))
    (law.moved m x x e valid ∙ ap (λ (q : MutexPlace). mutex_moves.place_after x x q n.1) here)

lock_completes : (back : Bool) (old new : ℕ) (outcome : LockReply) → TakesBy back old new (locked outcome)
lock_completes back old new outcome = tt

mutex_due_takes : MutexStands → (due : Option MutexStage) (x moment object : ℕ) (m : mutex.State) → mutex.IsValid m
    → OfDue (λ stage. MutexAt (mutex.place_of m x) stage × (mutex_standing.is_answer (mutex_event stage moment) (mutex.next m x (mutex_event stage moment)).1 ≡ true)) due
    → let made = make mutex.next mutex_event mutex_meaning x moment due m in Takes x (states.Mutex m) (states.Mutex made.0, answer_by locked made.1) (stage_items events.Mutex answered.Mutex mutex.next mutex_event x moment object due m)
mutex_due_takes law None x moment object m valid of = (tt, λ told. told)
mutex_due_takes law (Some stage) x moment object m valid of =
    let n = mutex.next m x (mutex_event stage moment) in
    let takes = mutex_made_takes law stage x moment (mutex.place_of m x) m of.0 refl valid of.1 in
    let back = is_requeued (deeds.Entered (events.Mutex (mutex_event stage moment)) (answered.Mutex n.1)) || false in
    (takes_by locked back (mutex_left (mutex.place_of m x)) (mutex_left (mutex.place_of n.0 x)) (λ outcome. tt) (mutex_meaning stage n.1) takes.0, takes.1)

-- ---- of a reader/writer mutex

abbrev RwAt : RwPlace → RwMutexStage → Type 0
RwAt p rw_stage.Resume = (rw_told p ≡ true) × (rw_left p ≡ 1)
RwAt p rw_stage.LeaveWriting = Unit {0}
RwAt p rw_stage.Inner = (rw_told p ≡ true) × (rw_left p ≡ 1)
RwAt p rw_stage.Behind = Unit {0}
RwAt p rw_stage.LeaveReading = Unit {0}
RwAt p stage = p ≡ rw_place.Out

rw_at : (call : RwMutexCall) (p : RwPlace) → OfDue (RwAt p) (rw_due call p)
rw_at rw_calls.Lock rw_place.Out = refl
rw_at rw_calls.Unlock rw_place.Out = refl
rw_at rw_calls.TryLock rw_place.Out = refl
rw_at rw_calls.RLock rw_place.Out = refl
rw_at rw_calls.RUnlock rw_place.Out = refl
rw_at rw_calls.TryRLock rw_place.Out = refl
rw_at call rw_place.Queued = tt
rw_at call rw_place.Waiting = tt
rw_at call rw_place.Woken = (refl, refl)
rw_at call rw_place.Handed = (refl, refl)
rw_at call rw_place.Granted = tt
rw_at call rw_place.Admitted = tt

abbrev RwTakes : RwMutexStage → ℕ → RwPlace → RwPlace → RwReply → Type 0
RwTakes stage now p q r =
    let back = is_requeued (deeds.Entered (events.RwMutex (rw_event stage now)) (answered.RwMutex r)) || false in
    TakesStep back (rw_left p) (rw_left q) (rw_meaning stage r) × TellsOwn back (rw_told p) (rw_told q)

-- an arrival that waits
rw_waits : (p q : RwPlace) → p ≡ rw_place.Out → (q ≡ rw_place.Queued) ⊎ (q ≡ rw_place.Waiting) → TakesOf false (rw_left p) (rw_left q) × TellsOwn false (rw_told p) (rw_told q)
rw_waits p q out moves = elim moves [
  | inl queued ↦ (omega (arith, ap rw_left out, ap rw_left queued), untold_now (rw_told p) (rw_told q) (ap rw_told queued))
  | inr waiting ↦ (omega (arith, ap rw_left out, ap rw_left waiting), untold_now (rw_told p) (rw_told q) (ap rw_told waiting))
]

rw_outs : (p q : RwPlace) → q ≡ rw_place.Out → Unit {0} × TellsOwn false (rw_told p) (rw_told q)
rw_outs p q out = (tt, untold_now (rw_told p) (rw_told q) (ap rw_told out))

rw_takes : (stage : RwMutexStage) (now : ℕ) (p q : RwPlace) (r : RwReply) → RwAt p stage → rw_standing.is_answer (rw_event stage now) r ≡ true → rw_moves.MovesOwn r p q → RwTakes stage now p q r
rw_takes rw_stage.Lock now p q (rw_reply.Arrived rw_arrival.Acquired) at is moves = rw_outs p q (moves at)
rw_takes rw_stage.Lock now p q (rw_reply.Arrived rw_arrival.Queued) at is moves = rw_waits p q at moves
rw_takes rw_stage.Lock now p q r at is moves = no is
rw_takes rw_stage.RLock now p q (rw_reply.Arrived rw_arrival.Acquired) at is moves = rw_outs p q (moves at)
rw_takes rw_stage.RLock now p q (rw_reply.Arrived rw_arrival.Queued) at is moves = rw_waits p q at moves
rw_takes rw_stage.RLock now p q r at is moves = no is
rw_takes rw_stage.Unlock now p q (rw_reply.Unlocked rw_unlocking.Done) at is moves = rw_outs p q (moves at)
rw_takes rw_stage.Unlock now p q (rw_reply.Unlocked (rw_unlocking.Misuse misuse)) at is moves = rw_outs p q (moves at)
rw_takes rw_stage.Unlock now p q r at is moves = no is
rw_takes rw_stage.RUnlock now p q (rw_reply.Unlocked rw_unlocking.Done) at is moves = rw_outs p q (moves at)
rw_takes rw_stage.RUnlock now p q (rw_reply.Unlocked (rw_unlocking.Misuse misuse)) at is moves = rw_outs p q (moves at)
rw_takes rw_stage.RUnlock now p q r at is moves = no is
rw_takes rw_stage.TryLock now p q (rw_reply.Tried taken) at is moves = rw_outs p q (moves at)
rw_takes rw_stage.TryLock now p q r at is moves = no is
rw_takes rw_stage.TryRLock now p q (rw_reply.Tried taken) at is moves = rw_outs p q (moves at)
rw_takes rw_stage.TryRLock now p q r at is moves = no is
rw_takes rw_stage.Resume now p q (rw_reply.Resumed rw_resumption.Acquired) at is moves = rw_outs p q moves
rw_takes rw_stage.Resume now p q (rw_reply.Resumed rw_resumption.Queued) at is moves = (omega (arith, at.1, ap rw_left moves), untold_now (rw_told p) (rw_told q) (ap rw_told moves))
rw_takes rw_stage.Resume now p q (rw_reply.Resumed rw_resumption.Requeued) at is moves = (omega (arith, at.1, ap rw_left moves), (at.0, ap rw_told moves))
rw_takes rw_stage.Resume now p q r at is moves = no is
rw_takes rw_stage.LeaveWriting now p q rw_reply.Left at is moves = rw_outs p q moves
rw_takes rw_stage.LeaveWriting now p q r at is moves = no is
rw_takes rw_stage.Inner now p q (rw_reply.Resumed rw_resumption.Acquired) at is moves = rw_outs p q moves
rw_takes rw_stage.Inner now p q (rw_reply.Resumed rw_resumption.Queued) at is moves = (omega (arith, at.1, ap rw_left moves), untold_now (rw_told p) (rw_told q) (ap rw_told moves))
rw_takes rw_stage.Inner now p q (rw_reply.Resumed rw_resumption.Requeued) at is moves = (omega (arith, at.1, ap rw_left moves), (at.0, ap rw_told moves))
rw_takes rw_stage.Inner now p q r at is moves = no is
rw_takes rw_stage.Behind now p q rw_reply.Left at is moves = rw_outs p q moves
rw_takes rw_stage.Behind now p q r at is moves = no is
rw_takes rw_stage.LeaveReading now p q rw_reply.Left at is moves = rw_outs p q moves
rw_takes rw_stage.LeaveReading now p q r at is moves = no is

rw_due_takes : RwStands → (due : Option RwMutexStage) (x moment object : ℕ) (m : rw.State) → rw.IsValid m
    → OfDue (λ stage. RwAt (rw.place_of m x) stage × (rw_standing.is_answer (rw_event stage moment) (rw.next m x (rw_event stage moment)).1 ≡ true)) due
    → let made = make rw.next rw_event rw_meaning x moment due m in Takes x (states.RwMutex m) (states.RwMutex made.0, answer_by locked made.1) (stage_items events.RwMutex answered.RwMutex rw.next rw_event x moment object due m)
rw_due_takes law None x moment object m valid of = (tt, λ told. told)
rw_due_takes law (Some stage) x moment object m valid of =
    let n = rw.next m x (rw_event stage moment) in
    let takes = rw_takes stage moment (rw.place_of m x) (rw.place_of n.0 x) n.1 of.0 of.1 (law.own m x (rw_event stage moment) valid) in
    let back = is_requeued (deeds.Entered (events.RwMutex (rw_event stage moment)) (answered.RwMutex n.1)) || false in
    (takes_by locked back (rw_left (rw.place_of m x)) (rw_left (rw.place_of n.0 x)) (λ outcome. tt) (rw_meaning stage n.1) takes.0, takes.1)

-- ---- of a once

-- what is left, by whether the worker waits, and whether it runs the function
abbrev OnceLeft : Bool → Bool → ℕ
OnceLeft waits runs = if waits || runs then 0 else 1

none_left : (waits runs : Bool) → (waits ≡ true) ⊎ (runs ≡ true) → OnceLeft waits runs ≡ 0
none_left true runs one = refl
none_left false true one = refl
none_left false false one = elim one [
  | inl is ↦ no is
  | inr is ↦ no is
]

module _ {T : Type 0} where
  abbrev OnceAt : Bool → Bool → OnceStage T → Type 0
  OnceAt waits runs once_stage.Begin = (waits ≡ false) × (runs ≡ false)
  OnceAt waits runs (once_stage.End value) = Unit {0}
  OnceAt waits runs once_stage.Leave = Unit {0}

  -- one that is out doesn't wait
  out_waits_not : (p : OnceProgress T) (w : Option Bool) → once.place_in p w ≡ once_place.Out → unwrap_or w false ≡ false
  out_waits_not p None out = refl
  out_waits_not p (Some false) out = refl
  out_waits_not progress.NotRun (Some true) out = cc
  out_waits_not (progress.Running caller) (Some true) out = cc
  out_waits_not (progress.Ended kept) (Some true) out = cc

  once_at : (value : T) (waits runs : Bool) (p : OncePlace) → (p ≡ once_place.Out → waits ≡ false) → OfDue (OnceAt waits runs) (once_due value runs p)
  once_at value waits true once_place.Out out = tt
  once_at value waits false once_place.Out out = (out refl, refl)
  once_at value waits runs once_place.Waiting out = tt
  once_at value waits runs once_place.Released out = tt

  -- an outcome by which the call goes on is the beginning of the function
  abbrev TakesOnce : ℕ → ℕ → Step (OnceStage T) (OnceOutcome T) → Type 0
  TakesOnce old new (Finished Run) = new < old
  TakesOnce old new (Finished (Already kept)) = Unit {0}
  TakesOnce old new (Finished Ended) = Unit {0}
  TakesOnce old new (Misused misuse) = Unit {0}
  TakesOnce old new (Waits later) = new < old
  TakesOnce old new (Next later) = new < old
  TakesOnce old new Never = Unit {0}

  once_takes : (stage : OnceStage T) (now : ℕ) (w u v t : Bool) (r : OnceReply T) → OnceAt w u stage → once_standing.answers w u (once_event stage now) r ≡ true → (r ≢ once_reply.Still)
      → v ≡ once_standing.waits_after w r → t ≡ once_standing.runs_after u r → TakesOnce (OnceLeft w u) (OnceLeft v t) (once_meaning stage r)
  once_takes once_stage.Begin now true u v t r at is ne moved ran = no (sym at.0)
  once_takes once_stage.Begin now false true v t r at is ne moved ran = no (sym at.1)
  once_takes once_stage.Begin now false false v t once_reply.Run at is ne moved ran = omega (arith, none_left v t (inr ran))
  once_takes once_stage.Begin now false false v t once_reply.Queued at is ne moved ran = omega (arith, none_left v t (inl moved))
  once_takes once_stage.Begin now false false v t (once_reply.Done kept) at is ne moved ran = tt
  once_takes once_stage.Begin now false false v t r at is ne moved ran = no is
  once_takes (once_stage.End kept) now w true v t once_reply.Ended at is ne moved ran = tt
  once_takes (once_stage.End kept) now w true v t r at is ne moved ran = no is
  once_takes (once_stage.End kept) now w false v t once_reply.Still at is ne moved ran = absurd (ne refl)
  once_takes (once_stage.End kept) now w false v t r at is ne moved ran = no is
  once_takes once_stage.Leave now w u v t (once_reply.Left kept) at is ne moved ran = tt
  once_takes once_stage.Leave now w u v t once_reply.Still at is ne moved ran = absurd (ne refl)
  once_takes once_stage.Leave now w u v t r at is ne moved ran = no is

  ran_takes : (ran : Reply (List ℕ)) (had : T → Reply (List ℕ)) (old new : ℕ) (step : Step (OnceStage T) (OnceOutcome T)) → TakesOnce old new step → TakesBy false old new (answer_by (ran_or ran had) (outcome_of step))
  ran_takes ran had old new (Finished Run) takes = takes
  ran_takes ran had old new (Finished (Already kept)) takes = tt
  ran_takes ran had old new (Finished Ended) takes = tt
  ran_takes ran had old new (Misused misuse) takes = tt
  ran_takes ran had old new (Waits later) takes = takes
  ran_takes ran had old new (Next later) takes = takes
  ran_takes ran had old new Never takes = tt

  once_due_takes : OnceStands T → (ran : Reply (List ℕ)) (had : T → Reply (List ℕ)) (due : Option (OnceStage T)) (x moment : ℕ) (o : once.OnceState T)
      → OfDue (λ stage. OnceAt (once_standing.waits_at o x) (once_standing.runs_at o x) stage × OnceAnswer o x moment stage) due
      → let made = make once.next once_event once_meaning x moment due o in TakesBy false (once_left o x) (once_left made.0 x) (answer_by (ran_or ran had) made.1)
  once_due_takes law ran had None x moment o of = tt
  once_due_takes law ran had (Some stage) x moment o of =
      let n = once.next o x (once_event stage moment) in
      ran_takes ran had (once_left o x) (once_left n.0 x) (once_meaning stage n.1)
      (once_takes stage moment (once_standing.waits_at o x) (once_standing.runs_at o x) (once_standing.waits_at n.0 x) (once_standing.runs_at n.0 x) n.1 of.0 of.1.0 of.1.1
      (law.own_wait o x (once_event stage moment)) (law.own_run o x (once_event stage moment)))

  once_own_takes : OnceStands T → (ran : Reply (List ℕ)) (had : T → Reply (List ℕ)) (value : T) (x moment : ℕ) (o : once.OnceState T) → x < once.callers_of o
      → TakesBy false (once_left o x) (once_left (once_made x moment value o).0 x) (answer_by (ran_or ran had) (once_made x moment value o).1)
  once_own_takes law ran had value x moment o below =
      let due = once_due value (once_standing.runs_at o x) (once.place_of o x) in
      once_due_takes law ran had due x moment o
      (both_due (OnceAt (once_standing.waits_at o x) (once_standing.runs_at o x)) (OnceAnswer o x moment) due
      (once_at value (once_standing.waits_at o x) (once_standing.runs_at o x) (once.place_of o x) (out_waits_not o.progress (slice_get o.waits x)))
      (once_answers law.uses value o x moment below))

-- events of other machines are no going back
stage_forward : {S E R G : Type 0} (event : E → ObjectEvent) (answer : R → ObjectReply) → ((e : E) (r : R) → is_requeued (deeds.Entered (event e) (answer r)) ≡ false) → (next : S → ℕ → E → S × R) (event_of : G → ℕ → E) (x moment object : ℕ) (due : Option G) (s : S)
    → goes_back (stage_items event answer next event_of x moment object due s) ≡ false
stage_forward event answer forward next event_of x moment object None s = refl
stage_forward event answer forward next event_of x moment object (Some stage) s = ap (λ (b : Bool). b || false) (forward (event_of stage moment) (next s x (event_of stage moment)).1)

once_forward : {T : Type 0} (event : OnceEvent T → ObjectEvent) (answer : OnceReply T → ObjectReply) → ((e : OnceEvent T) (r : OnceReply T) → is_requeued (deeds.Entered (event e) (answer r)) ≡ false) → (x moment object : ℕ) (value : T) (o : once.OnceState T)
    → goes_back (once_items event answer x moment object value o) ≡ false
once_forward event answer forward x moment object value o = stage_forward event answer forward once.next once_event x moment object (once_due value (once_standing.runs_at o x) (once.place_of o x)) o

-- ---- of a pool, which completes its call

look_forward : (x moment object : ℕ) (looks : List PoolStage) (p : pool.PoolState ℕ) → goes_back (look_items x moment object looks p) ≡ false
look_forward x moment object [] p = refl
look_forward x moment object (look ∷ looks) p = by_found (looked x moment look p) (look_forward x moment object looks)
  where
    by_found : (step : pool.PoolState ℕ × Option ℕ) → ((q : pool.PoolState ℕ) → goes_back (look_items x moment object looks q) ≡ false) → goes_back (unless_found x moment object step (look_items x moment object looks)) ≡ false
    by_found (q, Some item) rest = refl
    by_found (q, None) rest = rest q

pool_forward : (x moment object : ℕ) (call : PoolCall) (p : pool.PoolState ℕ) → goes_back (pool_items x moment object call p) ≡ false
pool_forward x moment object (pool_calls.Put item) p = refl
pool_forward x moment object pool_calls.Sweep p = refl
pool_forward x moment object pool_calls.Get p = look_forward x moment object _ p

-- ---- of any object that refers to no other

-- where the worker doesn't go back, and isn't told
forward : (x : ℕ) (o : ObjectState) (step : ObjectState × Answer) (made : List Item) → goes_back made ≡ false → told_at x step.0 ≡ false → TakesBy false (left_at x o) (left_at x step.0) step.1 → Takes x o step made
forward x o step made on untold takes = subst (λ (back : Bool). TakesBy back (left_at x o) (left_at x step.0) step.1 × TellsOwn back (told_at x o) (told_at x step.0)) (sym on) (takes, untold_now (told_at x o) (told_at x step.0) untold)

pub turn_takes : MachinesStand → (workers x moment object : ℕ) (operation : Operation) (o : ObjectState) → x < workers → IsMachineOf workers o → Takes x o (turn_on operation x moment o) (items_on operation x moment object o)
turn_takes laws workers x moment object (operations.Map call) (states.Map m) below is = (tt, λ told. told)
turn_takes laws workers x moment object operations.Range (states.Map m) below is = (tt, λ told. told)
turn_takes laws workers x moment object (operations.Atomic call) (states.Atomic number) below is = (tt, λ told. told)
turn_takes laws workers x moment object (operations.Composed (IfEqual value passes)) (states.Atomic number) below is = (tt, λ told. told)
turn_takes laws workers x moment object (operations.Var call) (states.Var held) below is = (tt, λ told. told)
turn_takes laws workers x moment object (operations.Mutex call) (states.Mutex m) below is =
    let due = mutex_due call (mutex.place_of m x) in
    let Answered : MutexStage → Type 0 = λ stage. mutex_standing.is_answer (mutex_event stage moment) (mutex.next m x (mutex_event stage moment)).1 ≡ true in
    mutex_due_takes laws.mutexes due x moment object m is.0
    (both_due (MutexAt (mutex.place_of m x)) Answered due (mutex_at call (mutex.place_of m x)) (mutex_answers laws.mutexes.answered call m x moment (omega (arith, below, is.1))))
turn_takes laws workers x moment object (operations.RwMutex call) (states.RwMutex m) below is =
    let due = rw_due call (rw.place_of m x) in
    let Answered : RwMutexStage → Type 0 = λ stage. rw_standing.is_answer (rw_event stage moment) (rw.next m x (rw_event stage moment)).1 ≡ true in
    rw_due_takes laws.rw_mutexes due x moment object m is.0
    (both_due (RwAt (rw.place_of m x)) Answered due (rw_at call (rw.place_of m x)) (rw_answers laws.rw_mutexes.answered call m x moment (omega (arith, below, is.1))))
turn_takes laws workers x moment object (operations.WaitGroup call) (states.WaitGroup g first) below is =
    forward x (states.WaitGroup g first) (turn_on (operations.WaitGroup call) x moment (states.WaitGroup g first)) (items_on (operations.WaitGroup call) x moment object (states.WaitGroup g first)) (stage_forward events.WaitGroup answered.WaitGroup (λ e r. refl) group.next group_event x moment object (group_turn call g x) g) refl
    (kind_leaves group.next group_event group_meaning group.callers_of group_turn group_behind GroupFits group_from group_left laws.groups (λ done. replies.Returned) call x moment g (omega (arith, below, is)) (λ n. Unit {0}) tt).1
turn_takes laws workers x moment object (operations.Sema call) (states.Sema s size) below is =
    forward x (states.Sema s size) (turn_on (operations.Sema call) x moment (states.Sema s size)) (items_on (operations.Sema call) x moment object (states.Sema s size)) (stage_forward events.Sema answered.Sema (λ e r. refl) sema.next sema_event x moment object (sema_turn call s x) s) refl
    (kind_leaves sema.next sema_event sema_meaning sema.callers_of sema_turn sema_behind SemaFits sema_from sema_left laws.semas replies.Lock call x moment s (omega (arith, below, is)) (λ n. Unit {0}) tt).1
turn_takes laws workers x moment object operations.OnceFunc (states.OnceFunc o code) below is =
    forward x (states.OnceFunc o code) (turn_on operations.OnceFunc x moment (states.OnceFunc o code)) (items_on operations.OnceFunc x moment object (states.OnceFunc o code)) (once_forward events.OnceFunc answered.OnceFunc (λ e r. refl) x moment object code o) refl
    (once_own_takes laws.giving (replies.OnceFunc (failure code)) (λ kept. replies.OnceFunc (failure kept)) code x moment o (omega (arith, below, is)))
turn_takes laws workers x moment object operations.OnceValue (states.OnceValue o value) below is =
    forward x (states.OnceValue o value) (turn_on operations.OnceValue x moment (states.OnceValue o value)) (items_on operations.OnceValue x moment object (states.OnceValue o value)) (once_forward events.OnceValue answered.OnceValue (λ e r. refl) x moment object value o) refl
    (once_own_takes laws.giving (replies.OnceValue value) replies.OnceValue value x moment o (omega (arith, below, is)))
turn_takes laws workers x moment object (operations.Pool call) (states.Pool p) below is =
    forward x (states.Pool p) (turn_on (operations.Pool call) x moment (states.Pool p)) (items_on (operations.Pool call) x moment object (states.Pool p)) (pool_forward x moment object call p) refl (completed_takes (pool_step x moment call p).1 (pool_completes x moment call p))
  where
    completed_takes : (a : Answer) → IsCompleted a → TakesBy false 0 0 a
    completed_takes answers.Still is = absurd is
    completed_takes answers.Unfinished is = absurd is
    completed_takes (answers.Completed reply) is = tt
    completed_takes (answers.Misused misuse) is = absurd is
turn_takes laws workers x moment object operation o below is = (tt, λ told. told)

-- ---- of two objects

abbrev pub BothTake : ℕ → ObjectState → ObjectState → (ObjectState × ObjectState) × Answer → List Item → Type 0
BothTake x o target step made = TakesBy (goes_back made) (left_at x o + left_at x target) (left_at x step.0.0 + left_at x step.0.1) step.1 × TellsOwn (goes_back made) (told_at x target) (told_at x step.0.1)

-- a caller of a cond is out without a ticket, and is notified with one
out_without : (n : ℕ) (o : Option (Option ℕ)) → notify.place_with n o ≡ notify_place.Out → is_some (unwrap_or o None) ≡ false
out_without n None out = refl
out_without n (Some None) out = refl
out_without n (Some (Some ticket)) out = by_test (nat_lt ticket n) out
  where
    by_test : (b : Bool) → (if b then notify_place.Notified else notify_place.Waiting) ≡ notify_place.Out → true ≡ false
    by_test true e = cc
    by_test false e = cc

notified_with : (n : ℕ) (o : Option (Option ℕ)) → notify.place_with n o ≡ notify_place.Notified → is_some (unwrap_or o None) ≡ true
notified_with n None at = cc
notified_with n (Some None) at = cc
notified_with n (Some (Some ticket)) at = refl

-- a ticket that was taken
taken : (a b : Bool) (r : NotifyReply) → notify_laws.answers notify_event.Ticket r ≡ true → b ≡ notify_standing.has_after a notify_event.Ticket r → b ≡ true
taken a b notify_reply.Done is has = has
taken a b notify_reply.Still is has = no is

pub few : (b : Bool) → (if b then 0 else 1) ≤ 1
few true = omega arith
few false = omega arith

-- an unlock leaves its worker where it is
unlock_stays : (x now : ℕ) (p q : MutexPlace) (r : MutexReply) → p ≡ mutex_place.Out → mutex_standing.is_answer (mutex_event mutex_stage.Unlock now) r ≡ true → mutex_moves.tells x r ≡ false → q ≡ mutex_moves.place_after x x p r
    → (q ≡ p) × (is_requeued (deeds.Entered (events.Mutex (mutex_event mutex_stage.Unlock now)) (answered.Mutex r)) ≡ false)
unlock_stays x now p q (mutex_reply.Unlocked mutex_unlocking.Free) at is told moved = (moved, refl)
unlock_stays x now p q (mutex_reply.Unlocked (mutex_unlocking.Woke ticket)) at is told moved = (moved ∙ ap (λ (b : Bool). if b then mutex_place.Woken else p) told, refl)
unlock_stays x now p q (mutex_reply.Unlocked (mutex_unlocking.Handed ticket)) at is told moved = (moved ∙ ap (λ (b : Bool). if b then mutex_place.Handed else p) told, refl)
unlock_stays x now p q (mutex_reply.Unlocked (mutex_unlocking.Misuse misuse)) at is told moved = (moved, refl)
unlock_stays x now p q r at is told moved = no is

any_takes : (old new : ℕ) → new < old → (a : Answer) → TakesBy false old new a
any_takes old new less answers.Still = tt
any_takes old new less answers.Unfinished = less
any_takes old new less (answers.Completed reply) = tt
any_takes old new less (answers.Misused misuse) = tt

-- a wait of a cond locks the mutex again
abbrev AgainTakes : MutexStage → ℕ → ℕ → ℕ → MutexPlace → MutexPlace → MutexReply → Type 0
AgainTakes stage now c d p q r =
    let back = is_requeued (deeds.Entered (events.Mutex (mutex_event stage now)) (answered.Mutex r)) || false in
    TakesBy back (c + mutex_left p) (d + mutex_left q) (answer_by (waited (Some stage)) (outcome_of (mutex_meaning stage r))) × TellsOwn back (mutex_told p) (mutex_told q)

lock_again : (x now c d : ℕ) (p q : MutexPlace) (r : MutexReply) → p ≡ mutex_place.Out → d ≤ 1 → mutex_standing.is_answer (mutex_event mutex_stage.Lock now) r ≡ true → q ≡ mutex_moves.place_after x x p r → AgainTakes mutex_stage.Lock now c d p q r
lock_again x now c d p q (mutex_reply.Arrived mutex_arrival.Acquired) at least is moved = (tt, same_told (mutex_told p) (mutex_told q) (ap mutex_told moved))
lock_again x now c d p q (mutex_reply.Arrived (mutex_arrival.Queued ticket)) at least is moved =
    let to : q ≡ mutex_place.Waiting = moved ∙ self x mutex_place.Waiting p in
    (omega (arith, ap mutex_left at, ap mutex_left to, least), untold_now (mutex_told p) (mutex_told q) (ap mutex_told to))
lock_again x now c d p q r at least is moved = no is

resume_again : (x now c : ℕ) (p q : MutexPlace) (r : MutexReply) → mutex_told p ≡ true → mutex_standing.is_answer (mutex_event mutex_stage.Resume now) r ≡ true → q ≡ mutex_moves.place_after x x p r → AgainTakes mutex_stage.Resume now c c p q r
resume_again x now c p q (mutex_reply.Resumed mutex_resumption.Acquired) at is moved = (tt, untold_now (mutex_told p) (mutex_told q) (ap mutex_told (moved ∙ self x mutex_place.Out p)))
resume_again x now c p q (mutex_reply.Resumed mutex_resumption.Requeued) at is moved =
    let to : q ≡ mutex_place.Waiting = moved ∙ self x mutex_place.Waiting p in
    (omega (arith, ap mutex_left to), (at, ap mutex_told to))
resume_again x now c p q r at is moved = no is

abbrev CondTakes : CondCall → MutexPlace → NotifyPlace → ℕ → ℕ → ℕ → ℕ → ℕ → notify.NotifyState → mutex.State → Type 0
CondTakes call at at_cond x moment object other place c m =
    let due = cond_due call at at_cond in
    BothTake x (states.Cond c place) (states.Mutex m) (cond_turn call x moment place due c m)
    (stage_items events.Cond answered.Cond notify.next cond_event x moment object due.0 c ++ stage_items events.Mutex answered.Mutex mutex.next mutex_event x moment other due.1 m)

wait_takes : MutexStands → CondStands → (at : MutexPlace) (at_cond : NotifyPlace) (x moment object other place : ℕ) (c : notify.NotifyState) (m : mutex.State) → mutex.place_of m x ≡ at → notify.place_of c x ≡ at_cond → x < m.callers
    → x < notify.callers_of c → mutex.IsValid m → CondTakes cond_calls.Wait at at_cond x moment object other place c m
wait_takes law conds mutex_place.Out notify_place.Out x moment object other place c m at at_cond below below_c valid =
    let e = mutex_event mutex_stage.Unlock moment in
    let n = mutex.next m x e in
    let d = notify.next c x (cond_event cond_stage.Ticket moment) in
    let p = mutex.place_of m x in
    let q = mutex.place_of n.0 x in
    let stays = unlock_stays x moment p q n.1 at (mutex_answer law.answered mutex_stage.Unlock mutex_place.Out m x moment at below refl) (untold law m x x e valid at) (law.moved m x x e valid) in
    let without : notify_standing.has_ticket c x ≡ false = out_without c.notified (slice_get c.tickets x) at_cond in
    let has : notify_standing.has_ticket d.0 x ≡ true = taken (notify_standing.has_ticket c x) (notify_standing.has_ticket d.0 x) d.1 (conds.answers c x (cond_event cond_stage.Ticket moment) below_c) (conds.own c x (cond_event cond_stage.Ticket moment)) in
    let old = left_at x (states.Cond c place) + mutex_left p in
    let new = left_at x (states.Cond d.0 place) + mutex_left q in
    let less : new < old = omega (arith, ap {B = ℕ} (λ (b : Bool). if b then 0 else 1) without, ap {B = ℕ} (λ (b : Bool). if b then 0 else 1) has, ap mutex_left stays.0) in
    subst (λ (back : Bool). TakesBy (back || false) old new (answer_by (waited (Some mutex_stage.Unlock)) (outcome_of (mutex_meaning mutex_stage.Unlock n.1))) × TellsOwn (back || false) (mutex_told p) (mutex_told q)) (sym stays.1)
    (any_takes old new less (answer_by (waited (Some mutex_stage.Unlock)) (outcome_of (mutex_meaning mutex_stage.Unlock n.1))), same_told (mutex_told p) (mutex_told q) (ap mutex_told stays.0))
wait_takes law conds mutex_place.Out notify_place.Waiting x moment object other place c m at at_cond below below_c valid = (tt, λ told. told)
wait_takes law conds mutex_place.Out notify_place.Notified x moment object other place c m at at_cond below below_c valid =
    let e = mutex_event mutex_stage.Lock moment in
    let n = mutex.next m x e in
    let d = notify.next c x (cond_event cond_stage.Leave moment) in
    lock_again x moment (left_at x (states.Cond c place)) (left_at x (states.Cond d.0 place)) (mutex.place_of m x) (mutex.place_of n.0 x) n.1 at (few (notify_standing.has_ticket d.0 x))
    (mutex_answer law.answered mutex_stage.Lock mutex_place.Out m x moment at below refl) (law.moved m x x e valid)
wait_takes law conds mutex_place.Waiting at_cond x moment object other place c m at is below below_c valid = (tt, λ told. told)
wait_takes law conds mutex_place.Woken at_cond x moment object other place c m at is below below_c valid =
    let e = mutex_event mutex_stage.Resume moment in
    resume_again x moment (left_at x (states.Cond c place)) (mutex.place_of m x) (mutex.place_of (mutex.next m x e).0 x) (mutex.next m x e).1 (ap mutex_told at)
    (mutex_answer law.answered mutex_stage.Resume mutex_place.Woken m x moment at below refl) (law.moved m x x e valid)
wait_takes law conds mutex_place.Handed at_cond x moment object other place c m at is below below_c valid =
    let e = mutex_event mutex_stage.Resume moment in
    resume_again x moment (left_at x (states.Cond c place)) (mutex.place_of m x) (mutex.place_of (mutex.next m x e).0 x) (mutex.next m x e).1 (ap mutex_told at)
    (mutex_answer law.answered mutex_stage.Resume mutex_place.Handed m x moment at below refl) (law.moved m x x e valid)

cond_takes : MachinesStand → (call : CondCall) (x moment object other place : ℕ) (c : notify.NotifyState) (m : mutex.State) → x < m.callers → x < notify.callers_of c → mutex.IsValid m
    → CondTakes call (mutex.place_of m x) (notify.place_of c x) x moment object other place c m
cond_takes laws cond_calls.Wait x moment object other place c m below below_c valid = wait_takes laws.mutexes laws.conds (mutex.place_of m x) (notify.place_of c x) x moment object other place c m refl refl below below_c valid
cond_takes laws cond_calls.Signal x moment object other place c m below below_c valid = (tt, λ told. told)
cond_takes laws cond_calls.Broadcast x moment object other place c m below below_c valid = (tt, λ told. told)

-- the `add` of a function is no going back
add_forward : (x other : ℕ) (delta : ℤ) (number : Number) (made : Result (OnceOutcome ℤ) Answer) (rest : List Item) → goes_back rest ≡ false → goes_back (add_items x other delta number made ++ rest) ≡ false
add_forward x other delta number (Ok Ended) rest on = on
add_forward x other delta number (Ok Run) rest on = on
add_forward x other delta number (Ok (Already kept)) rest on = on
add_forward x other delta number (Err answer) rest on = on

beside_none : (old new : ℕ) (a : Answer) → TakesBy false old new a → TakesBy false (old + 0) (new + 0) a
beside_none old new answers.Still takes = tt
beside_none old new answers.Unfinished takes = omega (arith, takes)
beside_none old new (answers.Completed reply) takes = tt
beside_none old new (answers.Misused misuse) takes = tt

sum_takes : OnceStands ℤ → (x moment object other : ℕ) (o : once.OnceState ℤ) (place : ℕ) (delta : ℤ) (number : Number) → x < once.callers_of o
    → BothTake x (states.Once o place delta) (states.Atomic number) (turn_on_both operations.Once x moment (states.Once o place delta) (states.Atomic number)) (items_on_both operations.Once x moment object other (states.Once o place delta) (states.Atomic number))
sum_takes law x moment object other o place delta (Int64 held) below =
    let sum = int_wrapping_add w64 held delta in
    let step = turn_on_both operations.Once x moment (states.Once o place delta) (states.Atomic (Int64 held)) in
    let made = items_on_both operations.Once x moment object other (states.Once o place delta) (states.Atomic (Int64 held)) in
    let on : goes_back made ≡ false = add_forward x other delta (Int64 held) (once_made x moment sum o).1 (once_items events.Once answered.Once x moment object sum o) (once_forward events.Once answered.Once (λ e r. refl) x moment object sum o) in
    subst (λ (back : Bool). TakesBy back (once_left o x + 0) (once_left (once_made x moment sum o).0 x + 0) step.1 × TellsOwn back false false) (sym on)
    (beside_none (once_left o x) (once_left (once_made x moment sum o).0 x) step.1 (once_own_takes law (replies.Once (do_replies.Ran sum)) (λ kept. replies.Once do_replies.Done) sum x moment o below), λ told. told)
sum_takes law x moment object other o place delta number below = (tt, λ told. told)

landed_forward : (x other : ℕ) (delta : ℤ) (number : Number) (made : Result FlightOutcome Answer) (rest : List Item) → goes_back rest ≡ false → goes_back (landed_items x other delta number made ++ rest) ≡ false
landed_forward x other delta number (Ok (Landed shared)) rest on = on
landed_forward x other delta number (Ok Lead) rest on = on
landed_forward x other delta number (Ok (Got value)) rest on = on
landed_forward x other delta number (Err answer) rest on = on

fly_takes : FlightStands → (x moment object other : ℕ) (key : List ℕ) (f : flight.FlightState) (keys : List (List ℕ)) (place : ℕ) (delta : ℤ) (number : Number) → x < flight.callers_of f
    → BothTake x (states.Flight f keys place delta) (states.Atomic number) (turn_on_both (operations.Fly key) x moment (states.Flight f keys place delta) (states.Atomic number)) (items_on_both (operations.Fly key) x moment object other (states.Flight f keys place delta) (states.Atomic number))
fly_takes law x moment object other key f keys place delta (Int64 held) below =
    let sum = int_wrapping_add w64 held delta in
    let number = key_number keys key in
    let due = flight_due number sum (flight.place_of f x) in
    let step = turn_on_both (operations.Fly key) x moment (states.Flight f keys place delta) (states.Atomic (Int64 held)) in
    let made = items_on_both (operations.Fly key) x moment object other (states.Flight f keys place delta) (states.Atomic (Int64 held)) in
    let on : goes_back made ≡ false = landed_forward x other delta (Int64 held) (flight_made x moment number sum f).1 (flight_items x moment object number sum f) (stage_forward events.Flight answered.Flight (λ e r. refl) flight.next flight_event x moment object due f) in
    subst (λ (back : Bool). TakesBy back (left_at x (states.Flight f keys place delta) + 0) (left_at x step.0.0 + 0) step.1 × TellsOwn back false false) (sym on)
    (beside_none (left_at x (states.Flight f keys place delta)) (left_at x step.0.0) step.1 (flight_takes law x moment number sum f below), λ told. told)
fly_takes law x moment object other key f keys place delta number below = (tt, λ told. told)

pub both_take : MachinesStand → (workers x moment object other : ℕ) (operation : Operation) (o target : ObjectState) → x < workers → IsMachineOf workers o → IsMachineOf workers target
    → BothTake x o target (turn_on_both operation x moment o target) (items_on_both operation x moment object other o target)
both_take laws workers x moment object other (operations.Cond call) (states.Cond c place) (states.Mutex m) below is is_there = cond_takes laws call x moment object other place c m (omega (arith, below, is_there.1)) (omega (arith, below, is)) is_there.0
both_take laws workers x moment object other operations.Once (states.Once o place delta) (states.Atomic number) below is is_there = sum_takes laws.adding x moment object other o place delta number (omega (arith, below, is))
both_take laws workers x moment object other (operations.Fly key) (states.Flight f keys place delta) (states.Atomic number) below is is_there = fly_takes laws.flights x moment object other key f keys place delta number (omega (arith, below, is))
both_take laws workers x moment object other operation o target below is is_there = (tt, λ told. told)
