-- Behind a worker's own turn it is out where its call doesn't wait, and a reply has the form of its call's.
use Rattle.std.proofs.Common.{◌≡◌, ℕ, ◌*◌, ◌<◌, Bool, true, false, List, Some, refl, sym, ap, ◌∙◌, subst, arith}
use Rattle.std.specs.Prelude.{ℤ, if◌then◌else◌, Result}
use Rattle.std.specs.Int.{w64, int_wrapping_add}
use Rattle.std.proofs.lemmas.Bool.{eq-eqb}
use Rattle.script_calls.specs.Replies.{is_reply_to}
use Rattle.sync_types.specs.declared.atomic_object.Number.{Number}
use Rattle.sync_types.specs.declared.atomic_object.Number.TheVariants.{Int64}
use Rattle.script_calls.specs.declared.call.ComposedCall.TheVariants.{IfEqual}
use Rattle.script_calls.specs.declared.call.Operation.{Operation}
use Rattle.script_calls.specs.declared.call.Operation.TheVariants as operations
use Rattle.script_calls.specs.declared.call.VarCall.TheVariants as var_calls
use Rattle.script_calls.specs.declared.call.Reply.{Reply}
use Rattle.script_calls.specs.declared.call.Reply.TheVariants as replies
use Rattle.sync_types.specs.declared.lock_call.LockReply.{LockReply}
use Rattle.sync_types.specs.declared.lock_call.LockReply.TheVariants as lock_replies
use Rattle.sync_types.specs.declared.lock_call.MutexCall.{MutexCall}
use Rattle.sync_types.specs.declared.lock_call.MutexCall.TheVariants as mutex_calls
use Rattle.sync_types.specs.declared.lock_call.RwMutexCall.{RwMutexCall}
use Rattle.sync_types.specs.declared.lock_call.RwMutexCall.TheVariants as rw_calls
use Rattle.sync_types.specs.declared.once_call.DoReply.TheVariants as do_replies
use Rattle.sync_types.specs.declared.pool_call.PoolCall.TheVariants as pool_calls
use Rattle.sync_types.specs.declared.wait_call.CondCall.TheVariants as cond_calls
use Rattle.sync_types.specs.declared.wait_call.WaitGroupCall.{WaitGroupCall}
use Rattle.mutex_core.specs.MutexMachine as mutex
use Rattle.mutex_core.specs.Moves as mutex_moves
use Rattle.mutex_core.specs.Standing as mutex_standing
use Rattle.mutex_core.specs.declared.place.Place.{Place as MutexPlace}
use Rattle.mutex_core.specs.declared.place.Place.TheVariants as mutex_place
use Rattle.mutex_core.specs.declared.reply.MutexReply.{MutexReply}
use Rattle.mutex_core.specs.declared.reply.MutexReply.TheVariants as mutex_reply
use Rattle.mutex_core.specs.declared.reply.Arrival.TheVariants as mutex_arrival
use Rattle.mutex_core.specs.declared.reply.Resumption.TheVariants as mutex_resumption
use Rattle.mutex_core.specs.declared.reply.Unlocking.TheVariants as mutex_unlocking
use Rattle.rw_core.specs.RwMachine as rw
use Rattle.rw_core.specs.Moves as rw_moves
use Rattle.rw_core.specs.Standing as rw_standing
use Rattle.rw_core.specs.declared.place.Place.{Place as RwPlace}
use Rattle.rw_core.specs.declared.place.Place.TheVariants as rw_place
use Rattle.rw_core.specs.declared.reply.RwReply.{RwReply}
use Rattle.rw_core.specs.declared.reply.RwReply.TheVariants as rw_reply
use Rattle.rw_core.specs.declared.reply.Arrival.TheVariants as rw_arrival
use Rattle.rw_core.specs.declared.reply.Resumption.TheVariants as rw_resumption
use Rattle.rw_core.specs.declared.reply.Unlocking.TheVariants as rw_unlocking
use Rattle.wait_cores.specs.NotifyMachine as notify
use Rattle.wait_cores.specs.GroupMachine as group
use Rattle.wait_cores.specs.OnceMachine as once
use Rattle.wait_cores.specs.OnceStanding.{runs_at}
use Rattle.wait_cores.specs.declared.notify.NotifyPlace.{NotifyPlace}
use Rattle.wait_cores.specs.declared.notify.NotifyPlace.TheVariants as notify_place
use Rattle.pool_core.specs.PoolMachine as pool
use Rattle.protocols.specs.GroupStages.{group_event, group_meaning}
use Rattle.protocols.specs.MutexStages.{mutex_event, mutex_meaning}
use Rattle.protocols.specs.OnceStages.{once_event, once_meaning}
use Rattle.protocols.specs.RwMutexStages.{rw_event, rw_meaning}
use Rattle.protocols.specs.declared.mutex.MutexStage.{MutexStage}
use Rattle.protocols.specs.declared.mutex.MutexStage.TheVariants as mutex_stage
use Rattle.protocols.specs.declared.once.OnceOutcome.{OnceOutcome}
use Rattle.protocols.specs.declared.once.OnceOutcome.TheVariants.{Run, Already, Ended}
use Rattle.protocols.specs.declared.rw_mutex.RwMutexStage.{RwMutexStage}
use Rattle.protocols.specs.declared.rw_mutex.RwMutexStage.TheVariants as rw_stage
use Rattle.protocols.specs.declared.step.Step.{Step}
use Rattle.protocols.specs.declared.step.Step.TheVariants.{Finished, Misused, Waits, Next, Never}
use Rattle.run_record.specs.OnceKind.{failure}
use Rattle.sema_core.specs.SemaMachine as sema
use Rattle.sema_core.specs.SemaStages.{sema_event, sema_meaning, acquire_meaning, leave_meaning, try_meaning, release_meaning}
use Rattle.flight_core.specs.FlightMachine as flight
use Rattle.flight_core.specs.FlightStages.{flight_event, flight_meaning}
use Rattle.sync_types.specs.declared.sema_call.SemaCall.{SemaCall}
use Rattle.sync_types.specs.declared.sema_call.SemaCall.TheVariants as sema_calls
use Rattle.sema_core.specs.declared.event.SemaEvent.TheVariants as sema_events
use Rattle.sema_core.specs.declared.event.SemaPlace.{SemaPlace}
use Rattle.sema_core.specs.declared.event.SemaPlace.TheVariants as sema_place
use Rattle.sema_core.specs.declared.event.SemaReply.{SemaReply}
use Rattle.sema_core.specs.declared.event.SemaReply.TheVariants as sema_reply
use Rattle.flight_core.specs.declared.calls.FlightOutcome.{FlightOutcome}
use Rattle.flight_core.specs.declared.calls.FlightOutcome.TheVariants.{Lead, Got, Landed}
use Rattle.workload.specs.Keys.{key_number}
use Rattle.step_runner.specs.declared.turns.answer.Answer.{Answer}
use Rattle.step_runner.specs.declared.turns.answer.Answer.TheVariants as answers
use Rattle.step_runner.specs.declared.turns.object_state.ObjectState.{ObjectState}
use Rattle.step_runner.specs.declared.turns.object_state.ObjectState.TheVariants as states
use Rattle.step_runner.specs.Due.{mutex_due, rw_due, locked, group_due, returned, cond_due, waited, once_due, ran_or, looks_of, sema_due, flight_due, flown}
use Rattle.step_runner.specs.Objects.{IsMachineOf}
use Rattle.step_runner.specs.PoolTurn.{pool_step}
use Rattle.step_runner.specs.ReplyForm.{HasForm}
use Rattle.step_runner.specs.Stages.{outcome_of, answer_by, make}
use Rattle.step_runner.specs.Stands.{may_wait, IsOutAt}
use Rattle.step_runner.specs.TurnAtObjects.{turned, once_made, cond_turn, turn_on, turn_on_both}
use Rattle.step_runner.proofs.DueLemmas.{OfDue, both_due, mutex_answer, mutex_answers, rw_answers}
use Rattle.step_runner.proofs.Makes.{make_by, step_answer, make_answer, found_answer}
use Rattle.step_runner.specs.MachinesStand.{MutexStands, RwStands}
use Rattle.step_runner.proofs.OthersStand.{Stands, untold}
use Rattle.step_runner.proofs.Refuted.{no}

-- ---- a worker's own turn

-- behind a turn that completes its call the worker is out, and also behind any other turn where the call waits at no mutex
abbrev pub OutAfter : Operation → ℕ → ObjectState → Answer → Type 0
OutAfter operation x o answers.Still = may_wait operation ≡ false → IsOutAt x o
OutAfter operation x o answers.Unfinished = may_wait operation ≡ false → IsOutAt x o
OutAfter operation x o (answers.Completed reply) = IsOutAt x o
OutAfter operation x o (answers.Misused misuse) = may_wait operation ≡ false → IsOutAt x o

abbrev pub Own : Operation → ℕ → ObjectState × Answer → Type 0
Own operation x step = HasForm operation step.1 × OutAfter operation x step.0 step.1

-- at an object at which it is out anyhow
out_after : (operation : Operation) (x : ℕ) (o : ObjectState) (a : Answer) → IsOutAt x o → OutAfter operation x o a
out_after operation x o answers.Still out = λ e. out
out_after operation x o answers.Unfinished out = λ e. out
out_after operation x o (answers.Completed reply) out = out
out_after operation x o (answers.Misused misuse) out = λ e. out

-- what a stage needs of its call, which may wait there, and of the replies by which the call returns
abbrev Returns : Operation → LockReply → Type 0
Returns operation outcome = HasForm operation (locked outcome)

abbrev Waiting : Operation → Type 0
Waiting operation = (may_wait operation ≡ true) × Returns operation lock_replies.Done

abbrev Tries : Operation → Type 0
Tries operation = (taken : Bool) → Returns operation (lock_replies.Tried taken)

-- a worker that stands elsewhere than out is there by a call that may wait
waits_there : {P : Type 0} (out at : P) (may : Bool) → (may ≡ false → at ≡ out) → (at ≡ out → ⊥) → may ≡ true
waits_there out at true is elsewhere = refl
waits_there out at false is elsewhere = absurd (elsewhere (is refl))

-- ---- of a mutex

abbrev MutexOwn : MutexCall → ℕ → mutex.State × Result LockReply Answer → Type 0
MutexOwn call x made = Own (operations.Mutex call) x (turned states.Mutex locked made)

-- what a stage that is due needs, by where its worker stands
abbrev MutexFits : MutexCall → MutexPlace → MutexStage → Type 0
MutexFits call p mutex_stage.Lock = Waiting (operations.Mutex call) × (p ≡ mutex_place.Out)
MutexFits call p mutex_stage.Resume = Waiting (operations.Mutex call)
MutexFits call p mutex_stage.Unlock = Returns (operations.Mutex call) lock_replies.Done × (p ≡ mutex_place.Out)
MutexFits call p mutex_stage.TryLock = Tries (operations.Mutex call) × (p ≡ mutex_place.Out)

-- only a lock goes on
mutex_waits : (call : MutexCall) → may_wait (operations.Mutex call) ≡ true → Waiting (operations.Mutex call)
mutex_waits mutex_calls.Lock may = (may, refl)
mutex_waits mutex_calls.Unlock may = no may
mutex_waits mutex_calls.TryLock may = no may

mutex_fits : (call : MutexCall) (p : MutexPlace) → (may_wait (operations.Mutex call) ≡ false → p ≡ mutex_place.Out) → OfDue (MutexFits call p) (mutex_due call p)
mutex_fits mutex_calls.Lock mutex_place.Out out = ((refl, refl), refl)
mutex_fits mutex_calls.Unlock mutex_place.Out out = (refl, refl)
mutex_fits mutex_calls.TryLock mutex_place.Out out = (λ taken. refl, refl)
mutex_fits call mutex_place.Waiting out = tt
mutex_fits call mutex_place.Woken out = mutex_waits call (waits_there mutex_place.Out mutex_place.Woken (may_wait (operations.Mutex call)) out (λ e. cc))
mutex_fits call mutex_place.Handed out = mutex_waits call (waits_there mutex_place.Out mutex_place.Handed (may_wait (operations.Mutex call)) out (λ e. cc))

-- the worker behind an answer to the stage's event
mutex_stage_own : (call : MutexCall) (stage : MutexStage) (x now : ℕ) (p : MutexPlace) (n : mutex.State) (r : MutexReply) → MutexFits call p stage → mutex_standing.is_answer (mutex_event stage now) r ≡ true
    → (p ≡ mutex_place.Out → mutex_moves.tells x r ≡ false) → mutex.place_of n x ≡ mutex_moves.place_after x x p r → MutexOwn call x (n, outcome_of (mutex_meaning stage r))
mutex_stage_own call mutex_stage.Lock x now p n (mutex_reply.Arrived mutex_arrival.Acquired) fits is told at = (fits.0.1, at ∙ fits.1)
mutex_stage_own call mutex_stage.Lock x now p n (mutex_reply.Arrived (mutex_arrival.Queued ticket)) fits is told at = (tt, λ e. no (sym e ∙ fits.0.0))
mutex_stage_own call mutex_stage.Lock x now p n r fits is told at = no is
mutex_stage_own call mutex_stage.Unlock x now p n (mutex_reply.Unlocked mutex_unlocking.Free) fits is told at = (fits.0, at ∙ fits.1)
mutex_stage_own call mutex_stage.Unlock x now p n (mutex_reply.Unlocked (mutex_unlocking.Woke ticket)) fits is told at = (fits.0, at ∙ (ap (λ (b : Bool). if b then mutex_place.Woken else p) (told fits.1) ∙ fits.1))
mutex_stage_own call mutex_stage.Unlock x now p n (mutex_reply.Unlocked (mutex_unlocking.Handed ticket)) fits is told at = (fits.0, at ∙ (ap (λ (b : Bool). if b then mutex_place.Handed else p) (told fits.1) ∙ fits.1))
mutex_stage_own call mutex_stage.Unlock x now p n (mutex_reply.Unlocked (mutex_unlocking.Misuse misuse)) fits is told at = (tt, λ e. at ∙ fits.1)
mutex_stage_own call mutex_stage.Unlock x now p n r fits is told at = no is
mutex_stage_own call mutex_stage.TryLock x now p n (mutex_reply.Tried taken) fits is told at = (fits.0 taken, at ∙ fits.1)
mutex_stage_own call mutex_stage.TryLock x now p n r fits is told at = no is
mutex_stage_own call mutex_stage.Resume x now p n (mutex_reply.Resumed mutex_resumption.Acquired) fits is told at = (fits.1, at ∙ ap (λ (b : Bool). if b then mutex_place.Out else p) (eq-eqb x x refl))
mutex_stage_own call mutex_stage.Resume x now p n (mutex_reply.Resumed mutex_resumption.Requeued) fits is told at = (tt, λ e. no (sym e ∙ fits.0))
mutex_stage_own call mutex_stage.Resume x now p n r fits is told at = no is

-- behind a stage that fits where the worker stands
mutex_made_own : MutexStands → (call : MutexCall) (stage : MutexStage) (x moment : ℕ) (p : MutexPlace) (m : mutex.State) → MutexFits call p stage → mutex.place_of m x ≡ p → mutex.IsValid m
    → let n = mutex.next m x (mutex_event stage moment) in mutex_standing.is_answer (mutex_event stage moment) n.1 ≡ true → MutexOwn call x (n.0, outcome_of (mutex_meaning stage n.1))
mutex_made_own law call stage x moment p m fits at valid is =
    let e = mutex_event stage moment in
    let n = mutex.next m x e in
    mutex_stage_own call stage x moment p n.0 n.1 fits is
    (λ out. untold law m x x e valid (at ∙ out))
    (law.moved m x x e valid ∙ ap (λ (q : MutexPlace). mutex_moves.place_after x x q n.1) at)

mutex_own : MutexStands → (call : MutexCall) (x moment : ℕ) (m : mutex.State) → x < m.callers → mutex.IsValid m → (may_wait (operations.Mutex call) ≡ false → mutex.place_of m x ≡ mutex_place.Out) → Own (operations.Mutex call) x (turn_on (operations.Mutex call) x moment (states.Mutex m))
mutex_own law call x moment m below valid out =
    let p = mutex.place_of m x in
    let Answered : MutexStage → Type 0 = λ stage. mutex_standing.is_answer (mutex_event stage moment) (mutex.next m x (mutex_event stage moment)).1 ≡ true in
    make_by mutex.next mutex_event mutex_meaning x moment (λ stage. MutexFits call p stage × Answered stage) (MutexOwn call x) (mutex_due call p) m
    (both_due (MutexFits call p) Answered (mutex_due call p) (mutex_fits call p out) (mutex_answers law.answered call m x moment below)) (tt, out)
    (λ stage fits. mutex_made_own law call stage x moment p m fits.0 refl valid fits.1)

-- ---- of a reader/writer mutex

abbrev RwOwn : RwMutexCall → ℕ → rw.State × Result LockReply Answer → Type 0
RwOwn call x made = Own (operations.RwMutex call) x (turned states.RwMutex locked made)

abbrev RwFits : RwMutexCall → RwPlace → RwMutexStage → Type 0
RwFits call p rw_stage.Lock = Waiting (operations.RwMutex call) × (p ≡ rw_place.Out)
RwFits call p rw_stage.RLock = Waiting (operations.RwMutex call) × (p ≡ rw_place.Out)
RwFits call p rw_stage.Unlock = Returns (operations.RwMutex call) lock_replies.Done × (p ≡ rw_place.Out)
RwFits call p rw_stage.RUnlock = Returns (operations.RwMutex call) lock_replies.Done × (p ≡ rw_place.Out)
RwFits call p rw_stage.TryLock = Tries (operations.RwMutex call) × (p ≡ rw_place.Out)
RwFits call p rw_stage.TryRLock = Tries (operations.RwMutex call) × (p ≡ rw_place.Out)
RwFits call p stage = Waiting (operations.RwMutex call)

rw_waits : (call : RwMutexCall) → may_wait (operations.RwMutex call) ≡ true → Waiting (operations.RwMutex call)
rw_waits rw_calls.Lock may = (may, refl)
rw_waits rw_calls.RLock may = (may, refl)
rw_waits rw_calls.Unlock may = no may
rw_waits rw_calls.RUnlock may = no may
rw_waits rw_calls.TryLock may = no may
rw_waits rw_calls.TryRLock may = no may

rw_waits_at : (call : RwMutexCall) (p : RwPlace) → (may_wait (operations.RwMutex call) ≡ false → p ≡ rw_place.Out) → (p ≡ rw_place.Out → ⊥) → Waiting (operations.RwMutex call)
rw_waits_at call p out elsewhere = rw_waits call (waits_there rw_place.Out p (may_wait (operations.RwMutex call)) out elsewhere)

rw_fits : (call : RwMutexCall) (p : RwPlace) → (may_wait (operations.RwMutex call) ≡ false → p ≡ rw_place.Out) → OfDue (RwFits call p) (rw_due call p)
rw_fits rw_calls.Lock rw_place.Out out = ((refl, refl), refl)
rw_fits rw_calls.RLock rw_place.Out out = ((refl, refl), refl)
rw_fits rw_calls.Unlock rw_place.Out out = (refl, refl)
rw_fits rw_calls.RUnlock rw_place.Out out = (refl, refl)
rw_fits rw_calls.TryLock rw_place.Out out = (λ taken. refl, refl)
rw_fits rw_calls.TryRLock rw_place.Out out = (λ taken. refl, refl)
rw_fits call rw_place.Queued out = tt
rw_fits call rw_place.Waiting out = tt
rw_fits call rw_place.Woken out = rw_waits_at call rw_place.Woken out (λ e. cc)
rw_fits call rw_place.Handed out = rw_waits_at call rw_place.Handed out (λ e. cc)
rw_fits call rw_place.Granted out = rw_waits_at call rw_place.Granted out (λ e. cc)
rw_fits call rw_place.Admitted out = rw_waits_at call rw_place.Admitted out (λ e. cc)

rw_stage_own : (call : RwMutexCall) (stage : RwMutexStage) (x now : ℕ) (p : RwPlace) (n : rw.State) (r : RwReply) → RwFits call p stage → rw_standing.is_answer (rw_event stage now) r ≡ true
    → rw_moves.MovesOwn r p (rw.place_of n x) → RwOwn call x (n, outcome_of (rw_meaning stage r))
rw_stage_own call rw_stage.Lock x now p n (rw_reply.Arrived rw_arrival.Acquired) fits is moves = (fits.0.1, moves fits.1)
rw_stage_own call rw_stage.Lock x now p n (rw_reply.Arrived rw_arrival.Queued) fits is moves = (tt, λ e. no (sym e ∙ fits.0.0))
rw_stage_own call rw_stage.Lock x now p n r fits is moves = no is
rw_stage_own call rw_stage.RLock x now p n (rw_reply.Arrived rw_arrival.Acquired) fits is moves = (fits.0.1, moves fits.1)
rw_stage_own call rw_stage.RLock x now p n (rw_reply.Arrived rw_arrival.Queued) fits is moves = (tt, λ e. no (sym e ∙ fits.0.0))
rw_stage_own call rw_stage.RLock x now p n r fits is moves = no is
rw_stage_own call rw_stage.Unlock x now p n (rw_reply.Unlocked rw_unlocking.Done) fits is moves = (fits.0, moves fits.1)
rw_stage_own call rw_stage.Unlock x now p n (rw_reply.Unlocked (rw_unlocking.Misuse misuse)) fits is moves = (tt, λ e. moves fits.1)
rw_stage_own call rw_stage.Unlock x now p n r fits is moves = no is
rw_stage_own call rw_stage.RUnlock x now p n (rw_reply.Unlocked rw_unlocking.Done) fits is moves = (fits.0, moves fits.1)
rw_stage_own call rw_stage.RUnlock x now p n (rw_reply.Unlocked (rw_unlocking.Misuse misuse)) fits is moves = (tt, λ e. moves fits.1)
rw_stage_own call rw_stage.RUnlock x now p n r fits is moves = no is
rw_stage_own call rw_stage.TryLock x now p n (rw_reply.Tried taken) fits is moves = (fits.0 taken, moves fits.1)
rw_stage_own call rw_stage.TryLock x now p n r fits is moves = no is
rw_stage_own call rw_stage.TryRLock x now p n (rw_reply.Tried taken) fits is moves = (fits.0 taken, moves fits.1)
rw_stage_own call rw_stage.TryRLock x now p n r fits is moves = no is
rw_stage_own call rw_stage.Resume x now p n (rw_reply.Resumed rw_resumption.Acquired) fits is moves = (fits.1, moves)
rw_stage_own call rw_stage.Resume x now p n (rw_reply.Resumed rw_resumption.Queued) fits is moves = (tt, λ e. no (sym e ∙ fits.0))
rw_stage_own call rw_stage.Resume x now p n (rw_reply.Resumed rw_resumption.Requeued) fits is moves = (tt, λ e. no (sym e ∙ fits.0))
rw_stage_own call rw_stage.Resume x now p n r fits is moves = no is
rw_stage_own call rw_stage.LeaveWriting x now p n rw_reply.Left fits is moves = (fits.1, moves)
rw_stage_own call rw_stage.LeaveWriting x now p n r fits is moves = no is
rw_stage_own call rw_stage.Inner x now p n (rw_reply.Resumed rw_resumption.Acquired) fits is moves = (fits.1, moves)
rw_stage_own call rw_stage.Inner x now p n (rw_reply.Resumed rw_resumption.Queued) fits is moves = (tt, λ e. no (sym e ∙ fits.0))
rw_stage_own call rw_stage.Inner x now p n (rw_reply.Resumed rw_resumption.Requeued) fits is moves = (tt, λ e. no (sym e ∙ fits.0))
rw_stage_own call rw_stage.Inner x now p n r fits is moves = no is
rw_stage_own call rw_stage.Behind x now p n rw_reply.Left fits is moves = (fits.1, moves)
rw_stage_own call rw_stage.Behind x now p n r fits is moves = no is
rw_stage_own call rw_stage.LeaveReading x now p n rw_reply.Left fits is moves = (fits.1, moves)
rw_stage_own call rw_stage.LeaveReading x now p n r fits is moves = no is

rw_own : RwStands → (call : RwMutexCall) (x moment : ℕ) (m : rw.State) → x < m.callers → rw.IsValid m → (may_wait (operations.RwMutex call) ≡ false → rw.place_of m x ≡ rw_place.Out) → Own (operations.RwMutex call) x (turn_on (operations.RwMutex call) x moment (states.RwMutex m))
rw_own law call x moment m below valid out =
    let p = rw.place_of m x in
    let Answered : RwMutexStage → Type 0 = λ stage. rw_standing.is_answer (rw_event stage moment) (rw.next m x (rw_event stage moment)).1 ≡ true in
    make_by rw.next rw_event rw_meaning x moment (λ stage. RwFits call p stage × Answered stage) (RwOwn call x) (rw_due call p) m
    (both_due (RwFits call p) Answered (rw_due call p) (rw_fits call p out) (rw_answers law.answered call m x moment below)) (tt, out)
    (λ stage fits. let n = rw.next m x (rw_event stage moment) in rw_stage_own call stage x moment p n.0 n.1 fits.0 fits.1 (law.own m x (rw_event stage moment) valid))

-- ---- of a cond and its mutex

abbrev pub OwnBoth : Operation → ℕ → (ObjectState × ObjectState) × Answer → Type 0
OwnBoth operation x step = HasForm operation step.1 × (IsOutAt x step.0.0 × OutAfter operation x step.0.1 step.1)

abbrev WaitOwn : ℕ → ObjectState → Answer → Type 0
WaitOwn x target answer = HasForm (operations.Cond cond_calls.Wait) answer × (Unit {0} × OutAfter (operations.Cond cond_calls.Wait) x target answer)

-- a wait that isn't completed may wait
goes_on : (x : ℕ) (target : ObjectState) → Unit {0} × (may_wait (operations.Cond cond_calls.Wait) ≡ false → IsOutAt x target)
goes_on x target = (tt, λ e. no (sym e))

-- one that locks the mutex again stands as a lock's worker does
locks_again : (x : ℕ) (n : mutex.State) (stage : MutexStage) (step : Step MutexStage LockReply) → ((outcome : LockReply) → waited (Some stage) outcome ≡ answers.Completed replies.Returned) → MutexOwn mutex_calls.Lock x (n, outcome_of step)
    → WaitOwn x (states.Mutex n) (answer_by (waited (Some stage)) (outcome_of step))
locks_again x n stage (Finished outcome) back own = subst (λ (a : Answer). WaitOwn x (states.Mutex n) a) (sym (back outcome)) (refl, (tt, own.1))
locks_again x n stage (Misused misuse) back own = (tt, goes_on x (states.Mutex n))
locks_again x n stage (Waits later) back own = (tt, goes_on x (states.Mutex n))
locks_again x n stage (Next later) back own = (tt, goes_on x (states.Mutex n))
locks_again x n stage Never back own = (tt, goes_on x (states.Mutex n))

wait_own : MutexStands → (at : MutexPlace) (at_cond : NotifyPlace) (x moment place : ℕ) (c : notify.NotifyState) (m : mutex.State) → mutex.place_of m x ≡ at → x < m.callers → mutex.IsValid m
    → OwnBoth (operations.Cond cond_calls.Wait) x (cond_turn cond_calls.Wait x moment place (cond_due cond_calls.Wait at at_cond) c m)
wait_own law mutex_place.Out notify_place.Out x moment place c m at below valid =
    let n = mutex.next m x (mutex_event mutex_stage.Unlock moment) in
    let on : WaitOwn x (states.Mutex n.0) answers.Unfinished = (tt, goes_on x (states.Mutex n.0)) in
    step_answer (WaitOwn x (states.Mutex n.0)) on on (λ misuse. on) (waited (Some mutex_stage.Unlock)) (λ outcome. on) (mutex_meaning mutex_stage.Unlock n.1)
wait_own law mutex_place.Out notify_place.Waiting x moment place c m at below valid = (tt, goes_on x (states.Mutex m))
wait_own law mutex_place.Out notify_place.Notified x moment place c m at below valid =
    let n = mutex.next m x (mutex_event mutex_stage.Lock moment) in
    locks_again x n.0 mutex_stage.Lock (mutex_meaning mutex_stage.Lock n.1) (λ outcome. refl) (mutex_made_own law mutex_calls.Lock mutex_stage.Lock x moment mutex_place.Out m ((refl, refl), refl) at valid (mutex_answer law.answered mutex_stage.Lock mutex_place.Out m x moment at below refl))
wait_own law mutex_place.Waiting at_cond x moment place c m at below valid = (tt, goes_on x (states.Mutex m))
wait_own law mutex_place.Woken at_cond x moment place c m at below valid =
    let n = mutex.next m x (mutex_event mutex_stage.Resume moment) in
    locks_again x n.0 mutex_stage.Resume (mutex_meaning mutex_stage.Resume n.1) (λ outcome. refl) (mutex_made_own law mutex_calls.Lock mutex_stage.Resume x moment mutex_place.Woken m (refl, refl) at valid (mutex_answer law.answered mutex_stage.Resume mutex_place.Woken m x moment at below refl))
wait_own law mutex_place.Handed at_cond x moment place c m at below valid =
    let n = mutex.next m x (mutex_event mutex_stage.Resume moment) in
    locks_again x n.0 mutex_stage.Resume (mutex_meaning mutex_stage.Resume n.1) (λ outcome. refl) (mutex_made_own law mutex_calls.Lock mutex_stage.Resume x moment mutex_place.Handed m (refl, refl) at valid (mutex_answer law.answered mutex_stage.Resume mutex_place.Handed m x moment at below refl))

-- ---- of the others, at which nobody is

group_own : (call : WaitGroupCall) (x moment first : ℕ) (g : group.GroupState) → Own (operations.WaitGroup call) x (turn_on (operations.WaitGroup call) x moment (states.WaitGroup g first))
group_own call x moment first g =
    let step = turn_on (operations.WaitGroup call) x moment (states.WaitGroup g first) in (
      make_answer (HasForm (operations.WaitGroup call)) tt tt (λ misuse. tt) returned (λ outcome. refl) group.next group_event group_meaning x moment (group_due call (group.place_of g x)) g,
      out_after (operations.WaitGroup call) x step.0 step.1 tt,
    )

acquire_form : (weight : ℕ) (r : SemaReply) → HasForm (operations.Sema (sema_calls.Acquire weight)) (answer_by locked (outcome_of (acquire_meaning r)))
acquire_form weight sema_reply.Done = refl
acquire_form weight sema_reply.Queued = tt
acquire_form weight sema_reply.Refused = tt
acquire_form weight (sema_reply.Misused misuse) = tt
acquire_form weight sema_reply.Still = tt

leave_form : (weight : ℕ) (r : SemaReply) → HasForm (operations.Sema (sema_calls.Acquire weight)) (answer_by locked (outcome_of (leave_meaning r)))
leave_form weight sema_reply.Done = refl
leave_form weight sema_reply.Queued = tt
leave_form weight sema_reply.Refused = tt
leave_form weight (sema_reply.Misused misuse) = tt
leave_form weight sema_reply.Still = tt

try_form : (weight : ℕ) (r : SemaReply) → HasForm (operations.Sema (sema_calls.TryAcquire weight)) (answer_by locked (outcome_of (try_meaning r)))
try_form weight sema_reply.Done = refl
try_form weight sema_reply.Queued = tt
try_form weight sema_reply.Refused = refl
try_form weight (sema_reply.Misused misuse) = tt
try_form weight sema_reply.Still = tt

release_form : (weight : ℕ) (r : SemaReply) → HasForm (operations.Sema (sema_calls.Release weight)) (answer_by locked (outcome_of (release_meaning r)))
release_form weight sema_reply.Done = refl
release_form weight sema_reply.Queued = tt
release_form weight sema_reply.Refused = tt
release_form weight (sema_reply.Misused misuse) = tt
release_form weight sema_reply.Still = tt

sema_form : (call : SemaCall) (p : SemaPlace) (x moment : ℕ) (s : sema.SemaState) → HasForm (operations.Sema call) (answer_by locked (make sema.next sema_event sema_meaning x moment (sema_due call p) s).1)
sema_form (sema_calls.Acquire weight) sema_place.Out x moment s = acquire_form weight (sema.next s x (sema_events.Acquire weight)).1
sema_form (sema_calls.Acquire weight) sema_place.Waiting x moment s = tt
sema_form (sema_calls.Acquire weight) sema_place.Granted x moment s = leave_form weight (sema.next s x sema_events.Leave).1
sema_form (sema_calls.TryAcquire weight) sema_place.Out x moment s = try_form weight (sema.next s x (sema_events.Try weight)).1
sema_form (sema_calls.TryAcquire weight) sema_place.Waiting x moment s = tt
sema_form (sema_calls.TryAcquire weight) sema_place.Granted x moment s = tt
sema_form (sema_calls.Release weight) sema_place.Out x moment s = release_form weight (sema.next s x (sema_events.Release weight)).1
sema_form (sema_calls.Release weight) sema_place.Waiting x moment s = tt
sema_form (sema_calls.Release weight) sema_place.Granted x moment s = tt

sema_own : (call : SemaCall) (x moment size : ℕ) (s : sema.SemaState) → Own (operations.Sema call) x (turn_on (operations.Sema call) x moment (states.Sema s size))
sema_own call x moment size s =
    let step = turn_on (operations.Sema call) x moment (states.Sema s size) in
    (sema_form call (sema.place_of s x) x moment s, out_after (operations.Sema call) x step.0 step.1 tt)

ran_form : {T : Type 0} (operation : Operation) (ran : Reply (List ℕ)) (had : T → Reply (List ℕ)) → is_reply_to operation ran ≡ true → ((kept : T) → is_reply_to operation (had kept) ≡ true) → (outcome : OnceOutcome T) → HasForm operation (ran_or ran had outcome)
ran_form operation ran had form each Run = tt
ran_form operation ran had form each (Already kept) = each kept
ran_form operation ran had form each Ended = form

once_form : {T : Type 0} (operation : Operation) (x moment : ℕ) (value : T) (o : once.OnceState T) (ran : Reply (List ℕ)) (had : T → Reply (List ℕ)) → is_reply_to operation ran ≡ true → ((kept : T) → is_reply_to operation (had kept) ≡ true)
    → HasForm operation (answer_by (ran_or ran had) (once_made x moment value o).1)
once_form operation x moment value o ran had form each =
    make_answer (HasForm operation) tt tt (λ misuse. tt) (ran_or ran had) (ran_form operation ran had form each) once.next once_event once_meaning x moment (once_due value (runs_at o x) (once.place_of o x)) o

sum_own : (x moment : ℕ) (o : once.OnceState ℤ) (place : ℕ) (delta : ℤ) (number : Number) → OwnBoth operations.Once x (turn_on_both operations.Once x moment (states.Once o place delta) (states.Atomic number))
sum_own x moment o place delta (Int64 held) =
    let sum = int_wrapping_add w64 held delta in
    let step = turn_on_both operations.Once x moment (states.Once o place delta) (states.Atomic (Int64 held)) in
    (once_form operations.Once x moment sum o (replies.Once (do_replies.Ran sum)) (λ kept. replies.Once do_replies.Done) refl (λ kept. refl), (tt, out_after operations.Once x step.0.1 step.1 tt))
sum_own x moment o place delta number = (tt, (tt, λ e. tt))

flown_form : (key : List ℕ) (value : ℤ) (o : FlightOutcome) → HasForm (operations.Fly key) (flown value o)
flown_form key value Lead = tt
flown_form key value (Got got) = refl
flown_form key value (Landed shared) = refl

fly_own : (key : List ℕ) (x moment : ℕ) (f : flight.FlightState) (keys : List (List ℕ)) (place : ℕ) (delta : ℤ) (number : Number)
    → OwnBoth (operations.Fly key) x (turn_on_both (operations.Fly key) x moment (states.Flight f keys place delta) (states.Atomic number))
fly_own key x moment f keys place delta (Int64 held) =
    let sum = int_wrapping_add w64 held delta in
    let step = turn_on_both (operations.Fly key) x moment (states.Flight f keys place delta) (states.Atomic (Int64 held)) in (
      make_answer (HasForm (operations.Fly key)) tt tt (λ misuse. tt) (flown sum) (flown_form key sum) flight.next flight_event flight_meaning x moment (flight_due (key_number keys key) sum (flight.place_of f x)) f,
      (tt, out_after (operations.Fly key) x step.0.1 step.1 tt),
    )
fly_own key x moment f keys place delta number = (tt, (tt, λ e. tt))

-- ---- of any object

pub turn_own : Stands → (workers x : ℕ) (operation : Operation) (moment : ℕ) (o : ObjectState) → x < workers → IsMachineOf workers o → (may_wait operation ≡ false → IsOutAt x o) → Own operation x (turn_on operation x moment o)
turn_own laws workers x (operations.Map call) moment (states.Map m) below is out = (laws.forms.map call m, tt)
turn_own laws workers x operations.Range moment (states.Map m) below is out = (refl, tt)
turn_own laws workers x (operations.Atomic call) moment (states.Atomic held) below is out = (laws.forms.atomic call held, tt)
turn_own laws workers x (operations.Composed (IfEqual value passes)) moment (states.Atomic held) below is out = (refl, tt)
turn_own laws workers x (operations.Var var_calls.Read) moment (states.Var held) below is out = (refl, tt)
turn_own laws workers x (operations.Var (var_calls.Write value)) moment (states.Var held) below is out = (refl, tt)
turn_own laws workers x (operations.Mutex call) moment (states.Mutex m) below is out = mutex_own laws.mutexes call x moment m (omega (arith, below, is.1)) is.0 out
turn_own laws workers x (operations.RwMutex call) moment (states.RwMutex m) below is out = rw_own laws.rw_mutexes call x moment m (omega (arith, below, is.1)) is.0 out
turn_own laws workers x (operations.WaitGroup call) moment (states.WaitGroup g first) below is out = group_own call x moment first g
turn_own laws workers x (operations.Sema call) moment (states.Sema s size) below is out = sema_own call x moment size s
turn_own laws workers x operations.OnceFunc moment (states.OnceFunc o code) below is out =
    let step = turn_on operations.OnceFunc x moment (states.OnceFunc o code) in
    (once_form operations.OnceFunc x moment code o (replies.OnceFunc (failure code)) (λ kept. replies.OnceFunc (failure kept)) refl (λ kept. refl), out_after operations.OnceFunc x step.0 step.1 tt)
turn_own laws workers x operations.OnceValue moment (states.OnceValue o value) below is out =
    let step = turn_on operations.OnceValue x moment (states.OnceValue o value) in
    (once_form operations.OnceValue x moment value o (replies.OnceValue value) replies.OnceValue refl (λ kept. refl), out_after operations.OnceValue x step.0 step.1 tt)
turn_own laws workers x (operations.Pool (pool_calls.Put item)) moment (states.Pool p) below is out = (refl, tt)
turn_own laws workers x (operations.Pool pool_calls.Sweep) moment (states.Pool p) below is out = (refl, tt)
turn_own laws workers x (operations.Pool pool_calls.Get) moment (states.Pool p) below is out =
    let step = pool_step x moment pool_calls.Get p in
    (found_answer x moment (HasForm (operations.Pool pool_calls.Get)) (λ item. refl) refl (looks_of (pool.callers_of p) x 0 (2 * pool.callers_of p)) p, out_after (operations.Pool pool_calls.Get) x (states.Pool step.0) step.1 tt)
turn_own laws workers x operation moment o below is out = (tt, out)

pub both_own : Stands → (workers x : ℕ) (operation : Operation) (moment : ℕ) (o target : ObjectState) → x < workers → IsMachineOf workers target → IsOutAt x o → (may_wait operation ≡ false → IsOutAt x target)
    → OwnBoth operation x (turn_on_both operation x moment o target)
both_own laws workers x (operations.Cond cond_calls.Wait) moment (states.Cond c place) (states.Mutex m) below is here out =
    wait_own laws.mutexes (mutex.place_of m x) (notify.place_of c x) x moment place c m refl (omega (arith, below, is.1)) is.0
both_own laws workers x (operations.Cond cond_calls.Signal) moment (states.Cond c place) (states.Mutex m) below is here out = (refl, (tt, out refl))
both_own laws workers x (operations.Cond cond_calls.Broadcast) moment (states.Cond c place) (states.Mutex m) below is here out = (refl, (tt, out refl))
both_own laws workers x operations.Once moment (states.Once o place delta) (states.Atomic number) below is here out = sum_own x moment o place delta number
both_own laws workers x (operations.Fly key) moment (states.Flight f keys place delta) (states.Atomic number) below is here out = fly_own key x moment f keys place delta number
both_own laws workers x operation moment o target below is here out = (tt, (here, out))
