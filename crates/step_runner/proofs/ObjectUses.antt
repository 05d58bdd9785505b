-- What a turn uses up at the objects that it touches.
use Rattle.std.proofs.Common.{◌≡◌, ◌≢◌, ℕ, ◌+◌, ◌*◌, ◌<◌, ◌≤◌, Bool, true, false, List, set, Option, Some, None, refl, sym, ap, ◌∙◌, arith}
use Rattle.std.specs.Prelude.{ℤ, slice_get, sum_by, Result, Ok, Err}
use Rattle.std.specs.Int.{w64, int_wrapping_add}
use Rattle.std.proofs.lemmas.List.Sums.{sum_by-set}
use Rattle.std.proofs.lemmas.Option.{get_or_from_slice_get, slice_get_within}
use Rattle.sync_types.specs.declared.atomic_object.Number.{Number}
use Rattle.sync_types.specs.declared.atomic_object.Number.TheVariants.{Int64}
use Rattle.script_calls.specs.declared.call.Call.{Call}
use Rattle.script_calls.specs.declared.call.ComposedCall.TheVariants.{IfEqual}
use Rattle.script_calls.specs.declared.call.Operation.{Operation}
use Rattle.script_calls.specs.declared.call.Operation.TheVariants as operations
use Rattle.script_calls.specs.declared.call.Reply.{Reply}
use Rattle.script_calls.specs.declared.call.Reply.TheVariants as replies
use Rattle.sync_types.specs.declared.lock_call.LockReply.{LockReply}
use Rattle.sync_types.specs.declared.lock_call.MutexCall.{MutexCall}
use Rattle.sync_types.specs.declared.lock_call.RwMutexCall.{RwMutexCall}
use Rattle.sync_types.specs.declared.once_call.DoReply.TheVariants as do_replies
use Rattle.sync_types.specs.declared.wait_call.CondCall.TheVariants as cond_calls
use Rattle.mutex_core.specs.EventsLeft as mutex_left
use Rattle.mutex_core.specs.MutexMachine as mutex
use Rattle.mutex_core.specs.Standing as mutex_standing
use Rattle.mutex_core.specs.declared.place.Place.{Place as MutexPlace}
use Rattle.mutex_core.specs.declared.place.Place.TheVariants as mutex_place
use Rattle.mutex_core.specs.declared.reply.Arrival.TheVariants as mutex_arrival
use Rattle.mutex_core.specs.declared.reply.MutexReply.{MutexReply}
use Rattle.mutex_core.specs.declared.reply.MutexReply.TheVariants as mutex_reply
use Rattle.mutex_core.specs.declared.reply.Resumption.TheVariants as mutex_resumption
use Rattle.mutex_core.specs.declared.reply.Unlocking.TheVariants as mutex_unlocking
use Rattle.rw_core.specs.EventsLeft as rw_left
use Rattle.rw_core.specs.RwMachine as rw
use Rattle.rw_core.specs.Standing as rw_standing
use Rattle.rw_core.specs.declared.reply.Arrival.TheVariants as rw_arrival
use Rattle.rw_core.specs.declared.reply.Resumption.TheVariants as rw_resumption
use Rattle.rw_core.specs.declared.reply.RwReply.{RwReply}
use Rattle.rw_core.specs.declared.reply.RwReply.TheVariants as rw_reply
use Rattle.rw_core.specs.declared.reply.Unlocking.TheVariants as rw_unlocking
use Rattle.wait_cores.specs.GroupEventsLeft.{group_left}
use Rattle.wait_cores.specs.GroupMachine as group
use Rattle.wait_cores.specs.NotifyEventsLeft.{notify_left, notify_used}
use Rattle.wait_cores.specs.NotifyMachine as notify
use Rattle.wait_cores.specs.OnceEventsLeft.{once_left, once_used, once_given}
use Rattle.wait_cores.specs.OnceMachine as once
use Rattle.sema_core.specs.SemaEventsLeft.{sema_left}
use Rattle.sema_core.specs.SemaMachine as sema
use Rattle.sema_core.specs.SemaStages.{sema_event, sema_meaning}
use Rattle.flight_core.specs.FlightEventsLeft.{flight_left}
use Rattle.flight_core.specs.FlightMachine as flight
use Rattle.flight_core.specs.declared.calls.FlightOutcome.{FlightOutcome}
use Rattle.wait_cores.specs.OnceStanding as once_standing
use Rattle.wait_cores.specs.declared.notify.NotifyEvent.TheVariants as notify_event
use Rattle.wait_cores.specs.declared.notify.NotifyPlace.{NotifyPlace}
use Rattle.wait_cores.specs.declared.notify.NotifyPlace.TheVariants as notify_place
use Rattle.wait_cores.specs.declared.once.OnceReply.{OnceReply}
use Rattle.wait_cores.specs.declared.once.OnceReply.TheVariants as once_reply
use Rattle.protocols.specs.GroupStages.{group_event, group_meaning}
use Rattle.protocols.specs.MutexStages.{mutex_event, mutex_meaning}
use Rattle.protocols.specs.OnceStages.{once_event, once_meaning}
use Rattle.protocols.specs.RwMutexStages.{rw_event, rw_meaning}
use Rattle.protocols.specs.declared.mutex.MutexStage.{MutexStage}
use Rattle.protocols.specs.declared.mutex.MutexStage.TheVariants as mutex_stage
use Rattle.protocols.specs.declared.once.OnceOutcome.{OnceOutcome}
use Rattle.protocols.specs.declared.once.OnceOutcome.TheVariants.{Run, Already, Ended}
use Rattle.protocols.specs.declared.once.OnceStage.{OnceStage}
use Rattle.protocols.specs.declared.once.OnceStage.TheVariants as once_stage
use Rattle.protocols.specs.declared.rw_mutex.RwMutexStage.{RwMutexStage}
use Rattle.protocols.specs.declared.rw_mutex.RwMutexStage.TheVariants as rw_stage
use Rattle.protocols.specs.declared.step.Step.{Step}
use Rattle.run_record.specs.OnceKind.{failure}
use Rattle.workload.specs.Keys.{key_number}
use Rattle.step_runner.specs.declared.turns.answer.Answer.{Answer}
use Rattle.step_runner.specs.declared.turns.answer.Answer.TheVariants as answers
use Rattle.step_runner.specs.declared.turns.object_state.ObjectState.{ObjectState}
use Rattle.step_runner.specs.declared.turns.object_state.ObjectState.TheVariants as states
use Rattle.step_runner.specs.Completes.{IsCompleted}
use Rattle.step_runner.specs.Due.{mutex_due, rw_due, locked, group_turn, group_behind, GroupFits, group_from, sema_turn, sema_behind, SemaFits, sema_from, cond_due, waited, once_due, ran_or, flown}
use Rattle.step_runner.specs.ObjectLeft.{object_left, UsesBy}
use Rattle.step_runner.specs.Objects.{IsMachineOf}
use Rattle.step_runner.specs.PoolTurn.{pool_step}
use Rattle.step_runner.specs.Ready.{IsReady}
use Rattle.step_runner.specs.Stages.{outcome_of, make, answer_by}
use Rattle.step_runner.specs.TurnAtObjects.{once_made, number_after, flight_made, number_landed, cond_turn, turn_on, turn_on_both, with_object, with_both, turn_at}
use Rattle.step_runner.proofs.AtObjects.{at_ready}
use Rattle.step_runner.proofs.CompletesLemmas.{pool_completes}
use Rattle.step_runner.proofs.FlightTurns.{flight_uses}
use Rattle.step_runner.proofs.KindTurns.{kind_leaves}
use Rattle.step_runner.proofs.DueLemmas.{OfDue, each_due, OnceAnswer, mutex_answer, mutex_answers, rw_answers, once_answers}
use Rattle.step_runner.specs.MachinesStand.{OnceUses}
use Rattle.step_runner.proofs.MachineLaws.{MutexUses, RwUses, Uses}
use Rattle.step_runner.proofs.Makes.{make_by}
use Rattle.step_runner.proofs.Refuted.{no}
use Rattle.step_runner.proofs.Writes.{set_back, get_other}

-- ---- what an answer says of what is left

-- what it says of numbers, it says of sums of which they are parts
uses_more : (a : Answer) (old new old_sum new_sum : ℕ) (same same_too : Type 0) → UsesBy old new same a → (same → same_too) → new_sum + old ≡ old_sum + new → UsesBy old_sum new_sum same_too a
uses_more answers.Still old new old_sum new_sum same same_too uses more sums = more uses
uses_more answers.Unfinished old new old_sum new_sum same same_too uses more sums = omega (arith, uses, sums)
uses_more (answers.Completed reply) old new old_sum new_sum same same_too uses more sums = omega (arith, uses, sums)
uses_more (answers.Misused misuse) old new old_sum new_sum same same_too uses more sums = tt

-- at one object
abbrev ObjectUses : ObjectState → ObjectState × Answer → Type 0
ObjectUses old step = UsesBy (object_left old) (object_left step.0) (step.0 ≡ old) step.1

-- at an object and the one to which it refers
abbrev BothUse : ObjectState → ObjectState → (ObjectState × ObjectState) × Answer → Type 0
BothUse old target step = UsesBy (object_left old + object_left target) (object_left step.0.0 + object_left step.0.1) ((step.0.0 ≡ old) × (step.0.1 ≡ target)) step.1

-- ---- what a stage leaves

-- By what it comes to: with an outcome at most so much more, and less by so much where the call goes on later. It is never unanswered
abbrev Left : {O : Type 0} → ℕ → ℕ → ℕ → ℕ → Result O Answer → Type 0
Left given used old new (Ok outcome) = new ≤ old + given
Left given used old new (Err answers.Unfinished) = new + used ≤ old
Left given used old new (Err (answers.Misused misuse)) = Unit {0}
Left given used old new (Err answers.Still) = ⊥
Left given used old new (Err (answers.Completed reply)) = ⊥

-- what that says of the turn's answer
answer_uses : {O : Type 0} (read : O → Answer) (given used old new a b : ℕ) (same : Type 0) (r : Result O Answer) → Left given used old new r → ((outcome : O) → new ≤ old + given → UsesBy a b same (read outcome)) → (new + used ≤ old → b < a)
    → UsesBy a b same (answer_by read r)
answer_uses read given used old new a b same (Ok outcome) left done later = done outcome left
answer_uses read given used old new a b same (Err answers.Unfinished) left done later = later left
answer_uses read given used old new a b same (Err (answers.Misused misuse)) left done later = tt
answer_uses read given used old new a b same (Err answers.Still) left done later = absurd left
answer_uses read given used old new a b same (Err (answers.Completed reply)) left done later = absurd left

mutex_leaves : (stage : MutexStage) (now : ℕ) (r : MutexReply) (old new : ℕ) → mutex_standing.is_answer (mutex_event stage now) r ≡ true → new + mutex_left.used_by r ≤ old + mutex_left.given_by r → Left 1 1 old new (outcome_of (mutex_meaning stage r))
mutex_leaves mutex_stage.Lock now (mutex_reply.Arrived mutex_arrival.Acquired) old new is used = omega (arith, used)
mutex_leaves mutex_stage.Lock now (mutex_reply.Arrived (mutex_arrival.Queued ticket)) old new is used = omega (arith, used)
mutex_leaves mutex_stage.Lock now r old new is used = no is
mutex_leaves mutex_stage.TryLock now (mutex_reply.Tried acquired) old new is used = omega (arith, used)
mutex_leaves mutex_stage.TryLock now r old new is used = no is
mutex_leaves mutex_stage.Unlock now (mutex_reply.Unlocked mutex_unlocking.Free) old new is used = omega (arith, used)
mutex_leaves mutex_stage.Unlock now (mutex_reply.Unlocked (mutex_unlocking.Woke ticket)) old new is used = omega (arith, used)
mutex_leaves mutex_stage.Unlock now (mutex_reply.Unlocked (mutex_unlocking.Handed ticket)) old new is used = omega (arith, used)
mutex_leaves mutex_stage.Unlock now (mutex_reply.Unlocked (mutex_unlocking.Misuse misuse)) old new is used = tt
mutex_leaves mutex_stage.Unlock now r old new is used = no is
mutex_leaves mutex_stage.Resume now (mutex_reply.Resumed mutex_resumption.Acquired) old new is used = omega (arith, used)
mutex_leaves mutex_stage.Resume now (mutex_reply.Resumed mutex_resumption.Requeued) old new is used = omega (arith, used)
mutex_leaves mutex_stage.Resume now r old new is used = no is

-- an arrival gives nothing back, and uses up two where it is queued
lock_leaves : (now : ℕ) (r : MutexReply) (old new : ℕ) → mutex_standing.is_answer (mutex_event mutex_stage.Lock now) r ≡ true → new + mutex_left.used_by r ≤ old + mutex_left.given_by r → Left 0 2 old new (outcome_of (mutex_meaning mutex_stage.Lock r))
lock_leaves now (mutex_reply.Arrived mutex_arrival.Acquired) old new is used = omega (arith, used)
lock_leaves now (mutex_reply.Arrived (mutex_arrival.Queued ticket)) old new is used = omega (arith, used)
lock_leaves now r old new is used = no is

rw_leaves : (stage : RwMutexStage) (now : ℕ) (r : RwReply) (old new : ℕ) → rw_standing.is_answer (rw_event stage now) r ≡ true → new + rw_left.used_by r ≤ old + rw_left.given_by r → Left 3 1 old new (outcome_of (rw_meaning stage r))
rw_leaves rw_stage.Lock now (rw_reply.Arrived rw_arrival.Acquired) old new is used = omega (arith, used)
rw_leaves rw_stage.Lock now (rw_reply.Arrived rw_arrival.Queued) old new is used = omega (arith, used)
rw_leaves rw_stage.Lock now r old new is used = no is
rw_leaves rw_stage.RLock now (rw_reply.Arrived rw_arrival.Acquired) old new is used = omega (arith, used)
rw_leaves rw_stage.RLock now (rw_reply.Arrived rw_arrival.Queued) old new is used = omega (arith, used)
rw_leaves rw_stage.RLock now r old new is used = no is
rw_leaves rw_stage.TryLock now (rw_reply.Tried acquired) old new is used = omega (arith, used)
rw_leaves rw_stage.TryLock now r old new is used = no is
rw_leaves rw_stage.TryRLock now (rw_reply.Tried acquired) old new is used = omega (arith, used)
rw_leaves rw_stage.TryRLock now r old new is used = no is
rw_leaves rw_stage.Unlock now (rw_reply.Unlocked rw_unlocking.Done) old new is used = omega (arith, used)
rw_leaves rw_stage.Unlock now (rw_reply.Unlocked (rw_unlocking.Misuse misuse)) old new is used = tt
rw_leaves rw_stage.Unlock now r old new is used = no is
rw_leaves rw_stage.RUnlock now (rw_reply.Unlocked rw_unlocking.Done) old new is used = omega (arith, used)
rw_leaves rw_stage.RUnlock now (rw_reply.Unlocked (rw_unlocking.Misuse misuse)) old new is used = tt
rw_leaves rw_stage.RUnlock now r old new is used = no is
rw_leaves rw_stage.Resume now (rw_reply.Resumed rw_resumption.Acquired) old new is used = omega (arith, used)
rw_leaves rw_stage.Resume now (rw_reply.Resumed rw_resumption.Queued) old new is used = omega (arith, used)
rw_leaves rw_stage.Resume now (rw_reply.Resumed rw_resumption.Requeued) old new is used = omega (arith, used)
rw_leaves rw_stage.Resume now r old new is used = no is
rw_leaves rw_stage.LeaveWriting now rw_reply.Left old new is used = omega (arith, used)
rw_leaves rw_stage.LeaveWriting now r old new is used = no is
rw_leaves rw_stage.Inner now (rw_reply.Resumed rw_resumption.Acquired) old new is used = omega (arith, used)
rw_leaves rw_stage.Inner now (rw_reply.Resumed rw_resumption.Queued) old new is used = omega (arith, used)
rw_leaves rw_stage.Inner now (rw_reply.Resumed rw_resumption.Requeued) old new is used = omega (arith, used)
rw_leaves rw_stage.Inner now r old new is used = no is
rw_leaves rw_stage.Behind now rw_reply.Left old new is used = omega (arith, used)
rw_leaves rw_stage.Behind now r old new is used = no is
rw_leaves rw_stage.LeaveReading now rw_reply.Left old new is used = omega (arith, used)
rw_leaves rw_stage.LeaveReading now r old new is used = no is

-- the caller that is to run the function goes on with it, so that this outcome is less too
abbrev OnceLeft : {T : Type 0} → ℕ → ℕ → Result (OnceOutcome T) Answer → Type 0
OnceLeft old new (Ok Run) = new < old
OnceLeft old new r = Left 3 1 old new r

module _ {T : Type 0} where
  once_leaves : (stage : OnceStage T) (now : ℕ) (waits runs : Bool) (r : OnceReply T) (old new : ℕ) → once_standing.answers waits runs (once_event stage now) r ≡ true → r ≢ once_reply.Still → new + once_used r ≤ old + once_given r
      → OnceLeft old new (outcome_of (once_meaning stage r))
  once_leaves once_stage.Begin now false runs once_reply.Run old new is made used = omega (arith, used)
  once_leaves once_stage.Begin now false runs once_reply.Queued old new is made used = omega (arith, used)
  once_leaves once_stage.Begin now false runs (once_reply.Done kept) old new is made used = omega (arith, used)
  once_leaves once_stage.Begin now false runs r old new is made used = no is
  once_leaves once_stage.Begin now true runs once_reply.Still old new is made used = absurd (made refl)
  once_leaves once_stage.Begin now true runs r old new is made used = no is
  once_leaves (once_stage.End value) now waits true once_reply.Ended old new is made used = omega (arith, used)
  once_leaves (once_stage.End value) now waits true r old new is made used = no is
  once_leaves (once_stage.End value) now waits false once_reply.Still old new is made used = absurd (made refl)
  once_leaves (once_stage.End value) now waits false r old new is made used = no is
  once_leaves once_stage.Leave now waits runs (once_reply.Left kept) old new is made used = omega (arith, used)
  once_leaves once_stage.Leave now waits runs once_reply.Still old new is made used = absurd (made refl)
  once_leaves once_stage.Leave now waits runs r old new is made used = no is

  once_answer_uses : (ran : Reply (List ℕ)) (had : T → Reply (List ℕ)) (old new : ℕ) (same : Type 0) (r : Result (OnceOutcome T) Answer) → OnceLeft old new r → UsesBy old new same (answer_by (ran_or ran had) r)
  once_answer_uses ran had old new same (Ok Run) left = left
  once_answer_uses ran had old new same (Ok (Already kept)) left = omega (arith, left)
  once_answer_uses ran had old new same (Ok Ended) left = omega (arith, left)
  once_answer_uses ran had old new same (Err answers.Unfinished) left = omega (arith, left)
  once_answer_uses ran had old new same (Err (answers.Misused misuse)) left = tt
  once_answer_uses ran had old new same (Err answers.Still) left = absurd left
  once_answer_uses ran had old new same (Err (answers.Completed reply)) left = absurd left

-- ---- at a machine

-- a reply gives room for less than four
completed_uses : (a : Answer) (old new : ℕ) (same : Type 0) → IsCompleted a → new ≤ old + 3 → UsesBy old new same a
completed_uses answers.Still old new same is more = absurd is
completed_uses answers.Unfinished old new same is more = absurd is
completed_uses (answers.Completed reply) old new same is more = omega (arith, more)
completed_uses (answers.Misused misuse) old new same is more = absurd is

module _ {S E R G O : Type 0} (next : S → ℕ → E → S × R) (event_of : G → ℕ → E) (meaning : G → R → Step G O) (worker moment : ℕ) (left_at : S → ℕ) (s : S) where
  -- what the stage that is due leaves
  abbrev LeftBy : G → Type 0
  LeftBy stage = let n = next s worker (event_of stage moment) in Left 3 1 (left_at s) (left_at n.0) (outcome_of (meaning stage n.1))

  -- where each outcome completes the call
  made_uses : (read : O → Answer) → ((outcome : O) → IsCompleted (read outcome)) → (Same : S → Type 0) → Same s → (due : Option G) → OfDue LeftBy due
      → let made = make next event_of meaning worker moment due s in UsesBy (left_at s) (left_at made.0) (Same made.0) (answer_by read made.1)
  made_uses read completes Same same None left = same
  made_uses read completes Same same (Some stage) left =
      let n = next s worker (event_of stage moment) in
      let new = left_at n.0 in
      answer_uses read 3 1 (left_at s) new (left_at s) new (Same n.0) (outcome_of (meaning stage n.1)) left (λ outcome more. completed_uses (read outcome) (left_at s) new (Same n.0) (completes outcome) more) (λ less. omega (arith, less))

-- a mutex counts twice
twice : {O : Type 0} (old new : ℕ) (r : Result O Answer) → Left 1 1 old new r → Left 3 1 (2 * old) (2 * new) r
twice old new (Ok outcome) left = omega (arith, left)
twice old new (Err answers.Unfinished) left = omega (arith, left)
twice old new (Err (answers.Misused misuse)) left = tt
twice old new (Err answers.Still) left = absurd left
twice old new (Err (answers.Completed reply)) left = absurd left

mutex_uses : MutexUses → (call : MutexCall) (worker moment : ℕ) (m : mutex.State) → worker < m.callers → mutex.IsValid m → ObjectUses (states.Mutex m) (turn_on (operations.Mutex call) worker moment (states.Mutex m))
mutex_uses law call worker moment m below valid =
    let due = mutex_due call (mutex.place_of m worker) in
    made_uses mutex.next mutex_event mutex_meaning worker moment (λ n. 2 * mutex_left.events_left n) m locked (λ outcome. tt) (λ n. states.Mutex n ≡ states.Mutex m) refl due
    (each_due _ _ due (λ stage is. let n = mutex.next m worker (mutex_event stage moment) in
    twice (mutex_left.events_left m) (mutex_left.events_left n.0) (outcome_of (mutex_meaning stage n.1)) (mutex_leaves stage moment n.1 _ _ is (law.used m worker (mutex_event stage moment) valid)))
    (mutex_answers law.answered call m worker moment below))

rw_uses : RwUses → (call : RwMutexCall) (worker moment : ℕ) (m : rw.State) → worker < m.callers → rw.IsValid m → ObjectUses (states.RwMutex m) (turn_on (operations.RwMutex call) worker moment (states.RwMutex m))
rw_uses law call worker moment m below valid =
    let due = rw_due call (rw.place_of m worker) in
    made_uses rw.next rw_event rw_meaning worker moment rw_left.events_left m locked (λ outcome. tt) (λ n. states.RwMutex n ≡ states.RwMutex m) refl due
    (each_due _ _ due (λ stage is. rw_leaves stage moment (rw.next m worker (rw_event stage moment)).1 _ _ is (law.used m worker (rw_event stage moment) valid)) (rw_answers law.answered call m worker moment below))

-- with whatever else it leaves, the same where no stage is due
module _ {T : Type 0} (law : OnceUses T) (ran : Reply (List ℕ)) (had : T → Reply (List ℕ)) (worker moment : ℕ) (value : T) (o : once.OnceState T) (below : worker < once.callers_of o) where
  once_uses : (Same : once.OnceState T × Result (OnceOutcome T) Answer → Type 0) → Same (o, Err answers.Still) → let made = once_made worker moment value o in UsesBy (once_left o) (once_left made.0) (Same made) (answer_by (ran_or ran had) made.1)
  once_uses Same same =
      make_by once.next once_event once_meaning worker moment (OnceAnswer o worker moment) (λ made. UsesBy (once_left o) (once_left made.0) (Same made) (answer_by (ran_or ran had) made.1))
      (once_due value (once_standing.runs_at o worker) (once.place_of o worker)) o (once_answers law value o worker moment below) same
      (λ stage is.
      let n = once.next o worker (once_event stage moment) in
      let r = outcome_of (once_meaning stage n.1) in
      once_answer_uses ran had (once_left o) (once_left n.0) (Same (n.0, r)) r
      (once_leaves stage moment (once_standing.waits_at o worker) (once_standing.runs_at o worker) n.1 (once_left o) (once_left n.0) is.0 is.1 (law.used o worker (once_event stage moment))))

-- ---- any object that refers to no other

turn_uses : Uses → (workers : ℕ) (operation : Operation) (worker moment : ℕ) (o : ObjectState) → worker < workers → IsMachineOf workers o → ObjectUses o (turn_on operation worker moment o)
turn_uses uses workers (operations.Map call) worker moment (states.Map m) below is = omega arith
turn_uses uses workers operations.Range worker moment (states.Map m) below is = omega arith
turn_uses uses workers (operations.Atomic call) worker moment (states.Atomic number) below is = omega arith
turn_uses uses workers (operations.Composed (IfEqual value passes)) worker moment (states.Atomic number) below is = omega arith
turn_uses uses workers (operations.Var call) worker moment (states.Var held) below is = omega arith
turn_uses uses workers (operations.Mutex call) worker moment (states.Mutex m) below is = mutex_uses uses.mutexes call worker moment m (omega (arith, below, is.1)) is.0
turn_uses uses workers (operations.RwMutex call) worker moment (states.RwMutex m) below is = rw_uses uses.rw_mutexes call worker moment m (omega (arith, below, is.1)) is.0
turn_uses uses workers (operations.WaitGroup call) worker moment (states.WaitGroup g first) below is =
    (kind_leaves group.next group_event group_meaning group.callers_of group_turn group_behind GroupFits group_from group_left uses.groups (λ done. replies.Returned) call worker moment g (omega (arith, below, is)) (λ h. states.WaitGroup h first ≡ states.WaitGroup g first) refl).0
turn_uses uses workers (operations.Sema call) worker moment (states.Sema s size) below is =
    (kind_leaves sema.next sema_event sema_meaning sema.callers_of sema_turn sema_behind SemaFits sema_from sema_left uses.semas replies.Lock call worker moment s (omega (arith, below, is)) (λ h. states.Sema h size ≡ states.Sema s size) refl).0
turn_uses uses workers operations.OnceFunc worker moment (states.OnceFunc o code) below is =
    once_uses uses.giving (replies.OnceFunc (failure code)) (λ kept. replies.OnceFunc (failure kept)) worker moment code o (omega (arith, below, is)) (λ made. states.OnceFunc made.0 code ≡ states.OnceFunc o code) refl
turn_uses uses workers operations.OnceValue worker moment (states.OnceValue o value) below is =
    once_uses uses.giving (replies.OnceValue value) replies.OnceValue worker moment value o (omega (arith, below, is)) (λ made. states.OnceValue made.0 value ≡ states.OnceValue o value) refl
turn_uses uses workers (operations.Pool call) worker moment (states.Pool p) below is =
    let step = pool_step worker moment call p in
    completed_uses step.1 0 0 (states.Pool step.0 ≡ states.Pool p) (pool_completes worker moment call p) (omega arith)
turn_uses uses workers operation worker moment o below is = refl

-- ---- a cond and its mutex

-- a stage of a wait at its mutex, beside what the cond has left
module _ (uses : Uses) (worker moment place : ℕ) (c : notify.NotifyState) (m : mutex.State) (below : worker < m.callers) (valid : mutex.IsValid m) where
  wait_at_mutex : (stage : MutexStage) (p : MutexPlace) (d : notify.NotifyState) (given used : ℕ) → mutex.place_of m worker ≡ p → mutex.is_needed (mutex_event stage moment) p ≡ true
      → let n = mutex.next m worker (mutex_event stage moment) in let old = mutex_left.events_left m in let new = mutex_left.events_left n.0 in
      (mutex_standing.is_answer (mutex_event stage moment) n.1 ≡ true → new + mutex_left.used_by n.1 ≤ old + mutex_left.given_by n.1 → Left given used old new (outcome_of (mutex_meaning stage n.1)))
      → ((outcome : LockReply) → new ≤ old + given → UsesBy (3 * notify_left c + 2 * old) (3 * notify_left d + 2 * new) ((states.Cond d place ≡ states.Cond c place) × (states.Mutex n.0 ≡ states.Mutex m)) (waited (Some stage) outcome))
      → (new + used ≤ old → 3 * notify_left d + 2 * new < 3 * notify_left c + 2 * old)
      → BothUse (states.Cond c place) (states.Mutex m) ((states.Cond d place, states.Mutex n.0), answer_by (waited (Some stage)) (outcome_of (mutex_meaning stage n.1)))
  wait_at_mutex stage p d given used at needed left done later =
      let n = mutex.next m worker (mutex_event stage moment) in
      let old = mutex_left.events_left m in
      let new = mutex_left.events_left n.0 in
      answer_uses (waited (Some stage)) given used old new (3 * notify_left c + 2 * old) (3 * notify_left d + 2 * new) ((states.Cond d place ≡ states.Cond c place) × (states.Mutex n.0 ≡ states.Mutex m)) (outcome_of (mutex_meaning stage n.1))
      (left (mutex_answer uses.mutexes.answered stage p m worker moment at below needed) (uses.mutexes.used m worker (mutex_event stage moment) valid)) done later

  wait_uses : (p : MutexPlace) (q : NotifyPlace) → mutex.place_of m worker ≡ p → notify.place_of c worker ≡ q → worker < notify.callers_of c → BothUse (states.Cond c place) (states.Mutex m) (cond_turn cond_calls.Wait worker moment place (cond_due cond_calls.Wait p q) c m)
  wait_uses mutex_place.Out notify_place.Out at at_cond there =
      let d = (notify.next c worker notify_event.Ticket).0 in
      let one : notify_used (notify.place_of c worker) notify_event.Ticket ≡ 1 = ap (λ (q : NotifyPlace). notify_used q notify_event.Ticket) at_cond in
      let fewer : notify_left d + 1 ≤ notify_left c = omega (arith, uses.conds c worker notify_event.Ticket there, one) in
      let n = mutex.next m worker (mutex_event mutex_stage.Unlock moment) in
      wait_at_mutex mutex_stage.Unlock mutex_place.Out d 1 1 at refl (mutex_leaves mutex_stage.Unlock moment n.1 (mutex_left.events_left m) (mutex_left.events_left n.0)) (λ outcome more. omega (arith, more, fewer)) (λ less. omega (arith, less, fewer))
  wait_uses mutex_place.Out notify_place.Waiting at at_cond there = (refl, refl)
  wait_uses mutex_place.Out notify_place.Notified at at_cond there =
      let d = (notify.next c worker notify_event.Leave).0 in
      let back : notify_left d ≤ notify_left c + 1 = omega (arith, uses.conds c worker notify_event.Leave there) in
      let n = mutex.next m worker (mutex_event mutex_stage.Lock moment) in
      wait_at_mutex mutex_stage.Lock mutex_place.Out d 0 2 at refl (lock_leaves moment n.1 (mutex_left.events_left m) (mutex_left.events_left n.0)) (λ outcome more. omega (arith, more, back)) (λ less. omega (arith, less, back))
  wait_uses mutex_place.Waiting q at at_cond there = (refl, refl)
  wait_uses mutex_place.Woken q at at_cond there =
      let n = mutex.next m worker (mutex_event mutex_stage.Resume moment) in
      wait_at_mutex mutex_stage.Resume mutex_place.Woken c 1 1 at refl (mutex_leaves mutex_stage.Resume moment n.1 (mutex_left.events_left m) (mutex_left.events_left n.0)) (λ outcome more. omega (arith, more)) (λ less. omega (arith, less))
  wait_uses mutex_place.Handed q at at_cond there =
      let n = mutex.next m worker (mutex_event mutex_stage.Resume moment) in
      wait_at_mutex mutex_stage.Resume mutex_place.Handed c 1 1 at refl (mutex_leaves mutex_stage.Resume moment n.1 (mutex_left.events_left m) (mutex_left.events_left n.0)) (λ outcome more. omega (arith, more)) (λ less. omega (arith, less))

-- ---- any object that refers to another

sum_uses : Uses → (worker moment : ℕ) (o : once.OnceState ℤ) (place : ℕ) (delta : ℤ) (number : Number) → worker < once.callers_of o
    → BothUse (states.Once o place delta) (states.Atomic number) (turn_on_both operations.Once worker moment (states.Once o place delta) (states.Atomic number))
sum_uses uses worker moment o place delta (Int64 held) below =
    let sum = int_wrapping_add w64 held delta in
    let made = once_made worker moment sum o in
    let Same : once.OnceState ℤ × Result (OnceOutcome ℤ) Answer → Type 0 = λ made. (states.Once made.0 place delta ≡ states.Once o place delta) × (states.Atomic (number_after made.1 (Int64 sum) (Int64 held)) ≡ states.Atomic (Int64 held)) in
    uses_more (answer_by (ran_or (replies.Once (do_replies.Ran sum)) (λ kept. replies.Once do_replies.Done)) made.1) (once_left o) (once_left made.0) (once_left o + 0) (once_left made.0 + 0) (Same made) (Same made)
    (once_uses uses.adding (replies.Once (do_replies.Ran sum)) (λ kept. replies.Once do_replies.Done) worker moment sum o below Same (refl, refl)) (λ same. same) (omega arith)
sum_uses uses worker moment o place delta number below = (refl, refl)

fly_uses : Uses → (key : List ℕ) (worker moment : ℕ) (f : flight.FlightState) (keys : List (List ℕ)) (place : ℕ) (delta : ℤ) (number : Number) → worker < flight.callers_of f
    → BothUse (states.Flight f keys place delta) (states.Atomic number) (turn_on_both (operations.Fly key) worker moment (states.Flight f keys place delta) (states.Atomic number))
fly_uses uses key worker moment f keys place delta (Int64 held) below =
    let sum = int_wrapping_add w64 held delta in
    let made = flight_made worker moment (key_number keys key) sum f in
    let Same : flight.FlightState × Result FlightOutcome Answer → Type 0 = λ made. (states.Flight made.0 keys place delta ≡ states.Flight f keys place delta) × (states.Atomic (number_landed made.1 (Int64 sum) (Int64 held)) ≡ states.Atomic (Int64 held)) in
    uses_more (answer_by (flown sum) made.1) (flight_left f) (flight_left made.0) (flight_left f + 0) (flight_left made.0 + 0) (Same made) (Same made)
    (flight_uses uses.flights worker moment (key_number keys key) sum f below Same (refl, refl)) (λ same. same) (omega arith)
fly_uses uses key worker moment f keys place delta number below = (refl, refl)

both_use : Uses → (workers : ℕ) (operation : Operation) (worker moment : ℕ) (o target : ObjectState) → worker < workers → IsMachineOf workers o → IsMachineOf workers target
    → BothUse o target (turn_on_both operation worker moment o target)
both_use uses workers (operations.Cond cond_calls.Wait) worker moment (states.Cond c place) (states.Mutex m) below at_cond at_mutex =
    wait_uses uses worker moment place c m (omega (arith, below, at_mutex.1)) at_mutex.0 (mutex.place_of m worker) (notify.place_of c worker) refl refl (omega (arith, below, at_cond))
both_use uses workers (operations.Cond cond_calls.Signal) worker moment (states.Cond c place) (states.Mutex m) below at_cond at_mutex = omega (arith, uses.conds c worker notify_event.Signal (omega (arith, below, at_cond)))
both_use uses workers (operations.Cond cond_calls.Broadcast) worker moment (states.Cond c place) (states.Mutex m) below at_cond at_mutex = omega (arith, uses.conds c worker notify_event.Broadcast (omega (arith, below, at_cond)))
both_use uses workers operations.Once worker moment (states.Once o place delta) (states.Atomic number) below at_once at_number = sum_uses uses worker moment o place delta number (omega (arith, below, at_once))
both_use uses workers (operations.Fly key) worker moment (states.Flight f keys place delta) (states.Atomic number) below at_group at_number = fly_uses uses key worker moment f keys place delta number (omega (arith, below, at_group))
both_use uses workers operation worker moment o target below first second = (refl, refl)

-- ---- all objects

left_set : (objects : List ObjectState) (place : ℕ) (object next : ObjectState) → slice_get objects place ≡ Some object
    → sum_by object_left (set objects place next) + object_left object ≡ sum_by object_left objects + object_left next
left_set objects place object next at =
    ap (λ o. sum_by object_left (set objects place next) + object_left o) (sym (get_or_from_slice_get objects place object object at))
    ∙ sum_by-set object_left objects place next object (slice_get_within objects place object at)

-- what is left at all objects, by the answer
abbrev pub ObjectsUse : List ObjectState → List ObjectState × Answer → Type 0
ObjectsUse old x = UsesBy (sum_by object_left old) (sum_by object_left x.0) (x.0 ≡ old) x.1

one_uses : (objects : List ObjectState) (place : ℕ) (object : ObjectState) (step : ObjectState × Answer) → slice_get objects place ≡ Some object → ObjectUses object step → ObjectsUse objects (with_object place objects step)
one_uses objects place object step at uses =
    uses_more step.1 (object_left object) (object_left step.0) (sum_by object_left objects) (sum_by object_left (set objects place step.0)) (step.0 ≡ object) (set objects place step.0 ≡ objects) uses
    (λ back. ap (set objects place) back ∙ set_back objects place object at)
    (left_set objects place object step.0 at)

two_use : (objects : List ObjectState) (place other : ℕ) (object target : ObjectState) (step : (ObjectState × ObjectState) × Answer) → slice_get objects place ≡ Some object → slice_get objects other ≡ Some target
    → other ≢ place → BothUse object target step → ObjectsUse objects (with_both place other objects step)
two_use objects place other object target step at there apart uses =
    let first = left_set objects place object step.0.0 at in
    let second = left_set (set objects place step.0.0) other target step.0.1 (get_other objects place other step.0.0 target apart there) in
    uses_more step.1 (object_left object + object_left target) (object_left step.0.0 + object_left step.0.1) (sum_by object_left objects) (sum_by object_left (set (set objects place step.0.0) other step.0.1))
    ((step.0.0 ≡ object) × (step.0.1 ≡ target)) (set (set objects place step.0.0) other step.0.1 ≡ objects) uses
    (λ back. ap (λ (o : ObjectState). set (set objects place o) other step.0.1) back.0 ∙ ap (set (set objects place object) other) back.1
    ∙ ap (λ (os : List ObjectState). set os other target) (set_back objects place object at) ∙ set_back objects other target there)
    (omega (arith, first, second))

pub turn_use : Uses → (workers worker : ℕ) (call : Call) (moment : ℕ) (objects : List ObjectState) → IsReady workers worker call objects → ObjectsUse objects (turn_at call worker moment objects)
turn_use uses workers worker call moment objects r = at_ready (ObjectsUse objects) workers worker call moment objects r
    (λ st. one_uses objects call.object r.object (turn_on call.operation worker moment r.object) st.at (turn_uses uses workers call.operation worker moment r.object st.below st.machine))
    (λ other target st. two_use objects call.object other r.object target (turn_on_both call.operation worker moment r.object target) st.at st.there st.apart (both_use uses workers call.operation worker moment r.object target st.below st.machine st.machine_there))
