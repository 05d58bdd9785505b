-- Another's turn leaves a worker's call where it is: what is left of it is the same, and so is where the worker stands.
use Rattle.std.proofs.Common.{◌≡◌, ◌≢◌, ℕ, Bool, true, false, List, Option, Some, None, inl, inr, refl, sym, ap, ◌∙◌}
use Rattle.std.specs.Prelude.{ℤ, if◌then◌else◌}
use Rattle.script_calls.specs.declared.call.ComposedCall.TheVariants.{IfEqual, WaitFor, Go}
use Rattle.script_calls.specs.declared.call.Operation.{Operation}
use Rattle.script_calls.specs.declared.call.Operation.TheVariants as operations
use Rattle.sync_types.specs.declared.atomic_object.Number.{Number}
use Rattle.sync_types.specs.declared.atomic_object.Number.TheVariants.{Int64}
use Rattle.sync_types.specs.declared.lock_call.RwMutexCall.{RwMutexCall}
use Rattle.sync_types.specs.declared.lock_call.RwMutexCall.TheVariants as rw_calls
use Rattle.sync_types.specs.declared.wait_call.CondCall.TheVariants as cond_calls
use Rattle.sync_types.specs.declared.wait_call.WaitGroupCall.TheVariants as group_calls
use Rattle.script_calls.specs.declared.call.Reply.TheVariants as replies
use Rattle.sync_types.specs.declared.once_call.DoReply.TheVariants as do_replies
use Rattle.mutex_core.specs.MutexMachine as mutex
use Rattle.mutex_core.specs.Moves as mutex_moves
use Rattle.mutex_core.specs.declared.event.MutexEvent.{MutexEvent}
use Rattle.mutex_core.specs.declared.place.Place.{Place as MutexPlace}
use Rattle.mutex_core.specs.declared.place.Place.TheVariants as mutex_place
use Rattle.mutex_core.specs.declared.reply.MutexReply.{MutexReply}
use Rattle.mutex_core.specs.declared.reply.MutexReply.TheVariants as mutex_reply
use Rattle.mutex_core.specs.declared.reply.Unlocking.TheVariants as mutex_unlocking
use Rattle.rw_core.specs.RwMachine as rw
use Rattle.rw_core.specs.Moves as rw_moves
use Rattle.rw_core.specs.declared.event.RwEvent.{RwEvent}
use Rattle.rw_core.specs.declared.event.RwEvent.TheVariants as rw_event
use Rattle.rw_core.specs.declared.place.Place.{Place as RwPlace}
use Rattle.rw_core.specs.declared.place.Place.TheVariants as rw_place
use Rattle.wait_cores.specs.NotifyMachine as notify
use Rattle.wait_cores.specs.NotifyStanding.{has_ticket}
use Rattle.wait_cores.specs.GroupMachine as group
use Rattle.wait_cores.specs.OnceMachine as once
use Rattle.sema_core.specs.SemaMachine as sema
use Rattle.sema_core.specs.SemaStages.{sema_event, sema_meaning}
use Rattle.flight_core.specs.FlightMachine as flight
use Rattle.flight_core.specs.FlightStages.{flight_event, flight_meaning}
use Rattle.flight_core.specs.FlightStanding as flight_standing
use Rattle.wait_cores.specs.OnceStanding as once_standing
use Rattle.protocols.specs.CondStages.{cond_event, cond_meaning}
use Rattle.protocols.specs.GroupStages.{group_event, group_meaning}
use Rattle.protocols.specs.MutexStages.{mutex_event, mutex_meaning}
use Rattle.protocols.specs.OnceStages.{once_event, once_meaning}
use Rattle.protocols.specs.RwMutexStages as rw_stages
use Rattle.protocols.specs.declared.mutex.MutexStage.{MutexStage}
use Rattle.protocols.specs.declared.step.Step.{Step}
use Rattle.run_record.specs.AtomicKind.{adds}
use Rattle.run_record.specs.Objects.{atomic_number}
use Rattle.run_record.specs.CondKind.{cond_call}
use Rattle.run_record.specs.FlightKind.{flight_part, fly_call}
use Rattle.run_record.specs.OnceKind.{do_call, failure}
use Rattle.run_record.specs.Parts.{returns, stages}
use Rattle.run_record.specs.Record.{object_number}
use Rattle.run_record.specs.Tests.{wait_for_call}
use Rattle.run_record.specs.declared.entered.ObjectEvent.TheVariants as events
use Rattle.run_record.specs.declared.entered.ObjectReply.TheVariants as answered
use Rattle.workload.specs.Keys.{keys_in, key_number}
use Rattle.workload.specs.Plan.{Plan}
use Rattle.step_runner.specs.declared.turns.object_state.ObjectState.{ObjectState}
use Rattle.step_runner.specs.declared.turns.object_state.ObjectState.TheVariants as states
use Rattle.step_runner.specs.Due.{mutex_due, rw_due, group_turn, group_behind, sema_turn, sema_behind, cond_due, once_due, flight_due}
use Rattle.step_runner.specs.Objects.{IsMachineOf}
use Rattle.step_runner.specs.Stages.{make}
use Rattle.step_runner.specs.TurnAtObjects.{once_made, flight_made, turn_on, turn_on_both}
use Rattle.step_runner.specs.Left.{mutex_waits, rw_waits, mutex_left, rw_left, group_left, sema_left, cond_left, once_left, flight_left, left_on, left_on_both}
use Rattle.step_runner.specs.Within.{IsIdle, StandsAtRw, StandsAtOnce, StandsOn, StandsOnBoth}
use Rattle.step_runner.specs.MachinesStand.{MutexStands, OnceStands}
use Rattle.step_runner.proofs.SpellingLaws.{Laws}
use Rattle.step_runner.proofs.Refuted.{no}
use Rattle.step_runner.proofs.RwSides.{reads_after, writes_after, ApartFor}
use Rattle.step_runner.proofs.TurnOwn.{Pair}

-- ---- what another's event leaves as it was

-- what is so behind whatever stage is due
made_kept : {S E R G O : Type 0} (next : S → ℕ → E → S × R) (event_of : G → ℕ → E) (meaning : G → R → Step G O) (by moment : ℕ) (P : S → Type 0) (due : Option G) (s : S) → P s → ((e : E) → P (next s by e).0) → P (make next event_of meaning by moment due s).0
made_kept next event_of meaning by moment P None s is each = is
made_kept next event_of meaning by moment P (Some stage) s is each = each (event_of stage moment)

mutex_told : (x by : ℕ) (r : MutexReply) → mutex_moves.tells x r ≡ true → mutex_waits (mutex_moves.place_after x by mutex_place.Waiting r) ≡ true
mutex_told x by (mutex_reply.Unlocked (mutex_unlocking.Woke ticket)) told = ap (λ (b : Bool). mutex_waits (if b then mutex_place.Woken else mutex_place.Waiting)) told
mutex_told x by (mutex_reply.Unlocked (mutex_unlocking.Handed ticket)) told = ap (λ (b : Bool). mutex_waits (if b then mutex_place.Handed else mutex_place.Waiting)) told
mutex_told x by r told = no told

mutex_same : MutexStands → (m : mutex.State) (x by : ℕ) (e : MutexEvent) → mutex.IsValid m → x ≢ by → mutex_waits (mutex.place_of (mutex.next m by e).0 x) ≡ mutex_waits (mutex.place_of m x)
mutex_same law m x by e valid apart = by_test (mutex_moves.tells x (mutex.next m by e).1) refl
  where
    by_test : (b : Bool) → mutex_moves.tells x (mutex.next m by e).1 ≡ b → mutex_waits (mutex.place_of (mutex.next m by e).0 x) ≡ mutex_waits (mutex.place_of m x)
    by_test true told =
        let at = (law.told m x by e valid told).1 in
        ap mutex_waits (law.moved m x by e valid ∙ ap (λ (p : MutexPlace). mutex_moves.place_after x by p (mutex.next m by e).1) at) ∙ mutex_told x by (mutex.next m by e).1 told ∙ sym (ap mutex_waits at)
    by_test false told = ap mutex_waits (law.unmoved m x by e valid apart told)

pub waits_out : (p : MutexPlace) → mutex_waits p ≡ false → p ≡ mutex_place.Out
waits_out mutex_place.Out is = refl
waits_out mutex_place.Waiting is = no (sym is)
waits_out mutex_place.Woken is = no (sym is)
waits_out mutex_place.Handed is = no (sym is)

rw_same : (e : RwEvent) (p q : RwPlace) → rw_moves.MovesOther e p q → rw_waits q ≡ rw_waits p
rw_same rw_event.ReadArrive p q moves = ap rw_waits moves
rw_same rw_event.ReadTry p q moves = ap rw_waits moves
rw_same (rw_event.WriteArrive now) p q moves = ap rw_waits moves
rw_same rw_event.WriteTry p q moves = ap rw_waits moves
rw_same (rw_event.WriteWoken now) p q moves = ap rw_waits moves
rw_same rw_event.Leave p q moves = ap rw_waits moves
rw_same rw_event.ReadUnlock rw_place.Waiting q moves = elim moves [
  | inl same ↦ ap rw_waits same
  | inr granted ↦ ap rw_waits granted
]
rw_same rw_event.ReadUnlock rw_place.Out q moves = ap rw_waits moves
rw_same rw_event.ReadUnlock rw_place.Queued q moves = ap rw_waits moves
rw_same rw_event.ReadUnlock rw_place.Woken q moves = ap rw_waits moves
rw_same rw_event.ReadUnlock rw_place.Handed q moves = ap rw_waits moves
rw_same rw_event.ReadUnlock rw_place.Granted q moves = ap rw_waits moves
rw_same rw_event.ReadUnlock rw_place.Admitted q moves = ap rw_waits moves
rw_same rw_event.WriteUnlock rw_place.Queued q moves = elim moves [
  | inl same ↦ ap rw_waits same
  | inr told ↦ elim told [
    | inl woken ↦ ap rw_waits woken
    | inr rest ↦ elim rest [
      | inl handed ↦ ap rw_waits handed
      | inr admitted ↦ ap rw_waits admitted
    ]
  ]
]
rw_same rw_event.WriteUnlock rw_place.Out q moves = ap rw_waits moves
rw_same rw_event.WriteUnlock rw_place.Waiting q moves = ap rw_waits moves
rw_same rw_event.WriteUnlock rw_place.Woken q moves = ap rw_waits moves
rw_same rw_event.WriteUnlock rw_place.Handed q moves = ap rw_waits moves
rw_same rw_event.WriteUnlock rw_place.Granted q moves = ap rw_waits moves
rw_same rw_event.WriteUnlock rw_place.Admitted q moves = ap rw_waits moves

-- ---- an object that is the same to a worker

-- what is left of a call depends on no more
abbrev pub Same : ℕ → ObjectState → ObjectState → Type 0
Same x (states.Map m) (states.Map n) = Unit {0}
Same x (states.Atomic m) (states.Atomic n) = Unit {0}
Same x (states.Mutex m) (states.Mutex n) = mutex_waits (mutex.place_of n x) ≡ mutex_waits (mutex.place_of m x)
Same x (states.RwMutex m) (states.RwMutex n) = (rw_waits (rw.place_of n x) ≡ rw_waits (rw.place_of m x)) × ((call : RwMutexCall) → StandsAtRw call x m → StandsAtRw call x n)
Same x (states.Cond m place) (states.Cond n other) = (has_ticket n x ≡ has_ticket m x) × (other ≡ place)
Same x (states.WaitGroup m first) (states.WaitGroup n other) = (group_behind n x ≡ group_behind m x) × (other ≡ first)
Same x (states.Once m place delta) (states.Once n other amount) = ((once_standing.runs_at n x ≡ once_standing.runs_at m x) × (once_standing.waits_at n x ≡ once_standing.waits_at m x)) × ((other ≡ place) × (amount ≡ delta))
Same x (states.OnceFunc m code) (states.OnceFunc n other) = ((once_standing.runs_at n x ≡ once_standing.runs_at m x) × (once_standing.waits_at n x ≡ once_standing.waits_at m x)) × (other ≡ code)
Same x (states.OnceValue m value) (states.OnceValue n other) = ((once_standing.runs_at n x ≡ once_standing.runs_at m x) × (once_standing.waits_at n x ≡ once_standing.waits_at m x)) × (other ≡ value)
Same x (states.Pool m) (states.Pool n) = Unit {0}
Same x (states.Sema m size) (states.Sema n other) = (sema_behind n x ≡ sema_behind m x) × (other ≡ size)
Same x (states.Flight m keys place delta) (states.Flight n later other amount) = (flight_standing.stands_at n x ≡ flight_standing.stands_at m x) × ((other ≡ place) × (amount ≡ delta))
Same x (states.Var m) (states.Var n) = Unit {0}
Same x o n = ⊥

pub same_self : (x : ℕ) (o : ObjectState) → Same x o o
same_self x (states.Map m) = tt
same_self x (states.Atomic m) = tt
same_self x (states.Mutex m) = refl
same_self x (states.RwMutex m) = (refl, λ call stands. stands)
same_self x (states.Cond m place) = (refl, refl)
same_self x (states.WaitGroup m first) = (refl, refl)
same_self x (states.Once m place delta) = ((refl, refl), (refl, refl))
same_self x (states.OnceFunc m code) = ((refl, refl), refl)
same_self x (states.OnceValue m value) = ((refl, refl), refl)
same_self x (states.Pool m) = tt
same_self x (states.Sema m size) = (refl, refl)
same_self x (states.Flight m keys place delta) = (refl, (refl, refl))
same_self x (states.Var m) = tt

-- ---- another's turn

module _ (laws : Laws) (x by moment : ℕ) (apart : x ≢ by) where
  reads_apart : (e : RwEvent) → ApartFor e x by
  reads_apart rw_event.ReadArrive = tt
  reads_apart rw_event.ReadTry = tt
  reads_apart rw_event.ReadUnlock = tt
  reads_apart rw_event.Leave = tt
  reads_apart (rw_event.WriteArrive now) = apart
  reads_apart rw_event.WriteTry = apart
  reads_apart (rw_event.WriteWoken now) = apart
  reads_apart rw_event.WriteUnlock = apart

  sides : (m : rw.State) (e : RwEvent) → rw.IsValid m → (call : RwMutexCall) → StandsAtRw call x m → StandsAtRw call x (rw.next m by e).0
  sides m e valid rw_calls.Lock stands = reads_after x by e m (λ is. apart) stands
  sides m e valid rw_calls.RLock stands = writes_after laws.machines.mutexes x by e m (reads_apart e) valid.inner stands
  sides m e valid rw_calls.Unlock stands = tt
  sides m e valid rw_calls.TryLock stands = tt
  sides m e valid rw_calls.RUnlock stands = tt
  sides m e valid rw_calls.TryRLock stands = tt

  once_same : {T : Type 0} → OnceStands T → (value : T) (o : once.OnceState T)
      → let made = (once_made by moment value o).0 in (once_standing.runs_at made x ≡ once_standing.runs_at o x) × (once_standing.waits_at made x ≡ once_standing.waits_at o x)
  once_same law value o =
      made_kept once.next once_event once_meaning by moment (λ n. (once_standing.runs_at n x ≡ once_standing.runs_at o x) × (once_standing.waits_at n x ≡ once_standing.waits_at o x)) (once_due value (once_standing.runs_at o by) (once.place_of o by)) o (refl, refl)
      (λ e. (law.others_run o x by e apart, law.others_wait o x by e apart))

  mutex_made_same : (due : Option MutexStage) (m : mutex.State) → mutex.IsValid m → mutex_waits (mutex.place_of (make mutex.next mutex_event mutex_meaning by moment due m).0 x) ≡ mutex_waits (mutex.place_of m x)
  mutex_made_same due m valid = made_kept mutex.next mutex_event mutex_meaning by moment (λ n. mutex_waits (mutex.place_of n x) ≡ mutex_waits (mutex.place_of m x)) due m refl (λ e. mutex_same laws.machines.mutexes m x by e valid apart)

  pub turn_same : (workers : ℕ) (operation : Operation) (o : ObjectState) → IsMachineOf workers o → Same x o (turn_on operation by moment o).0
  turn_same workers (operations.Map call) (states.Map m) is = tt
  turn_same workers operations.Range (states.Map m) is = tt
  turn_same workers (operations.Atomic call) (states.Atomic number) is = tt
  turn_same workers (operations.Composed (IfEqual value passes)) (states.Atomic number) is = tt
  turn_same workers (operations.Mutex call) (states.Mutex m) is = mutex_made_same (mutex_due call (mutex.place_of m by)) m is.0
  turn_same workers (operations.RwMutex call) (states.RwMutex m) is =
      made_kept rw.next rw_stages.rw_event rw_stages.rw_meaning by moment (λ n. (rw_waits (rw.place_of n x) ≡ rw_waits (rw.place_of m x)) × ((call : RwMutexCall) → StandsAtRw call x m → StandsAtRw call x n)) (rw_due call (rw.place_of m by)) m
      (refl, λ call stands. stands) (λ e. (rw_same e (rw.place_of m x) (rw.place_of (rw.next m by e).0 x) (laws.machines.rw_mutexes.others m x by e is.0 apart), sides m e is.0))
  turn_same workers (operations.WaitGroup call) (states.WaitGroup g first) is =
      (made_kept group.next group_event group_meaning by moment (λ n. group_behind n x ≡ group_behind g x) (group_turn call g by) g refl (λ e. laws.machines.groups.others g x by e apart), refl)
  turn_same workers (operations.Sema call) (states.Sema s size) is =
      (made_kept sema.next sema_event sema_meaning by moment (λ n. sema_behind n x ≡ sema_behind s x) (sema_turn call s by) s refl (λ e. laws.machines.semas.others s x by e apart), refl)
  turn_same workers operations.OnceFunc (states.OnceFunc o code) is = (once_same laws.machines.giving code o, refl)
  turn_same workers operations.OnceValue (states.OnceValue o value) is = (once_same laws.machines.giving value o, refl)
  turn_same workers (operations.Pool call) (states.Pool p) is = tt
  turn_same workers (operations.Var call) (states.Var held) is = tt
  turn_same workers operation o is = same_self x o

  sum_same : (o : once.OnceState ℤ) (place : ℕ) (delta : ℤ) (number : Number) → let new = (turn_on_both operations.Once by moment (states.Once o place delta) (states.Atomic number)).0 in Same x (states.Once o place delta) new.0 × Same x (states.Atomic number) new.1
  sum_same o place delta (Int64 held) = ((once_same laws.machines.adding _ o, (refl, refl)), tt)
  sum_same o place delta number = (same_self x (states.Once o place delta), tt)

  flight_same : (key : ℕ) (value : ℤ) (f : flight.FlightState) → flight_standing.stands_at (flight_made by moment key value f).0 x ≡ flight_standing.stands_at f x
  flight_same key value f =
      made_kept flight.next flight_event flight_meaning by moment (λ n. flight_standing.stands_at n x ≡ flight_standing.stands_at f x) (flight_due key value (flight.place_of f by)) f refl (λ e. laws.machines.flights.others f x by e apart)

  fly_same : (key : List ℕ) (f : flight.FlightState) (keys : List (List ℕ)) (place : ℕ) (delta : ℤ) (number : Number)
      → let new = (turn_on_both (operations.Fly key) by moment (states.Flight f keys place delta) (states.Atomic number)).0 in Same x (states.Flight f keys place delta) new.0 × Same x (states.Atomic number) new.1
  fly_same key f keys place delta (Int64 held) = ((flight_same (key_number keys key) _ f, (refl, refl)), tt)
  fly_same key f keys place delta number = (same_self x (states.Flight f keys place delta), tt)

  pub both_same : (workers : ℕ) (operation : Operation) (o target : ObjectState) → IsMachineOf workers target → let new = (turn_on_both operation by moment o target).0 in Same x o new.0 × Same x target new.1
  both_same workers (operations.Cond call) (states.Cond c place) (states.Mutex m) is =
      let due = cond_due call (mutex.place_of m by) (notify.place_of c by) in
      ((made_kept notify.next cond_event cond_meaning by moment (λ n. has_ticket n x ≡ has_ticket c x) due.0 c refl (λ e. laws.machines.conds.others c x by e apart), refl), mutex_made_same due.1 m is.0)
  both_same workers operations.Once (states.Once o place delta) (states.Atomic number) is = sum_same o place delta number
  both_same workers (operations.Fly key) (states.Flight f keys place delta) (states.Atomic number) is = fly_same key f keys place delta number
  both_same workers operation o target is = (same_self x o, same_self x target)

-- ---- what that leaves of a worker's call

module _ (plan : Plan) (x before place : ℕ) where
  pub left_same : (o n : ObjectState) (operation : Operation) → Same x o n → left_on plan x before place operation n ≡ left_on plan x before place operation o
  left_same (states.Map m) (states.Map n) (operations.Map call) same = refl
  left_same (states.Map m) (states.Map n) operation same = refl
  left_same (states.Atomic m) (states.Atomic n) (operations.Atomic call) same = refl
  left_same (states.Atomic m) (states.Atomic n) operation same = refl
  left_same (states.Mutex m) (states.Mutex n) (operations.Mutex call) same = ap (mutex_left (object_number place) call) same
  left_same (states.Mutex m) (states.Mutex n) operation same = refl
  left_same (states.RwMutex m) (states.RwMutex n) (operations.RwMutex call) same = ap (rw_left (object_number place) call) same.0
  left_same (states.RwMutex m) (states.RwMutex n) operation same = refl
  left_same (states.Cond m at) (states.Cond n other) (operations.Cond call) same = ap (λ (k : ℕ). cond_call (object_number place) (object_number k) call) same.1
  left_same (states.Cond m at) (states.Cond n other) (operations.Composed (WaitFor atomic value tries)) same =
      ap (λ (k : ℕ). wait_for_call (object_number place) (object_number k) (atomic_number plan.objects atomic) value tries) same.1
  left_same (states.Cond m at) (states.Cond n other) operation same = refl
  left_same (states.WaitGroup m first) (states.WaitGroup n other) (operations.WaitGroup call) same = ap (group_left (object_number place) call) same.0
  left_same (states.WaitGroup m first) (states.WaitGroup n other) (operations.Composed (Go started)) same = refl
  left_same (states.WaitGroup m first) (states.WaitGroup n other) operation same = refl
  left_same (states.Once m at delta) (states.Once n other amount) operations.Once same = λ i. do_call (object_number place) (atomic_number plan.objects (same.1.0 i)) (same.1.1 i)
  left_same (states.Once m at delta) (states.Once n other amount) operation same = refl
  left_same (states.OnceFunc m code) (states.OnceFunc n other) operations.OnceFunc same =
      λ i. once_left (stages events.OnceFunc answered.OnceFunc once_event once_meaning (object_number place)) (returns (same.1 i)) (λ kept. replies.OnceFunc (failure kept)) (λ kept. replies.OnceFunc (failure kept)) (same.0.0 i) (same.0.1 i)
  left_same (states.OnceFunc m code) (states.OnceFunc n other) operation same = refl
  left_same (states.OnceValue m value) (states.OnceValue n other) operations.OnceValue same =
      λ i. once_left (stages events.OnceValue answered.OnceValue once_event once_meaning (object_number place)) (returns (same.1 i)) replies.OnceValue replies.OnceValue (same.0.0 i) (same.0.1 i)
  left_same (states.OnceValue m value) (states.OnceValue n other) operation same = refl
  left_same (states.Pool m) (states.Pool n) (operations.Pool call) same = refl
  left_same (states.Pool m) (states.Pool n) operation same = refl
  left_same (states.Sema m size) (states.Sema n other) (operations.Sema call) same = ap (sema_left (object_number place) call) same.0
  left_same (states.Sema m size) (states.Sema n other) operation same = refl
  left_same (states.Flight m keys at delta) (states.Flight n later other amount) (operations.Fly key) same =
      λ i. fly_call (object_number place) (atomic_number plan.objects (same.1.0 i)) (same.1.1 i) (key_number (keys_in plan.scripts) key)
  left_same (states.Flight m keys at delta) (states.Flight n later other amount) operation same = refl
  left_same (states.Var m) (states.Var n) (operations.Var call) same = refl
  left_same (states.Var m) (states.Var n) operation same = refl
  left_same o n operation same = absurd same

  pub left_both_same : (other : ℕ) (operation : Operation) (o target n t : ObjectState) → Pair operation o target → Same x o n → Same x target t
      → left_on_both plan x before place other operation n t ≡ left_on_both plan x before place other operation o target
  left_both_same other (operations.Cond call) (states.Cond c at) (states.Mutex m) (states.Cond d to) (states.Mutex k) pair one two = λ i. cond_left (object_number place) (object_number other) call (one.0 i) (two i)
  left_both_same other (operations.Cond call) (states.Cond c at) (states.Mutex m) (states.Cond d to) t pair one two = absurd two
  left_both_same other (operations.Cond call) (states.Cond c at) (states.Mutex m) n t pair one two = absurd one
  left_both_same other operations.Once (states.Once o at delta) (states.Atomic (Int64 held)) (states.Once p to amount) (states.Atomic k) pair one two =
      λ i. once_left (stages events.Once answered.Once once_event once_meaning (object_number place)) (adds (atomic_number plan.objects other) (one.1.1 i)) (λ sum. replies.Once (do_replies.Ran sum)) (λ kept. replies.Once do_replies.Done) (one.0.0 i) (one.0.1 i)
  left_both_same other operations.Once (states.Once o at delta) (states.Atomic (Int64 held)) (states.Once p to amount) t pair one two = absurd two
  left_both_same other operations.Once (states.Once o at delta) (states.Atomic (Int64 held)) n t pair one two = absurd one
  left_both_same other (operations.Fly key) (states.Flight f keys at delta) (states.Atomic (Int64 held)) (states.Flight g later to amount) (states.Atomic k) pair one two =
      λ i. flight_left (flight_part (object_number place)) (adds (atomic_number plan.objects other) (one.1.1 i)) (key_number (keys_in plan.scripts) key) (one.0 i)
  left_both_same other (operations.Fly key) (states.Flight f keys at delta) (states.Atomic (Int64 held)) (states.Flight g later to amount) t pair one two = absurd two
  left_both_same other (operations.Fly key) (states.Flight f keys at delta) (states.Atomic (Int64 held)) n t pair one two = absurd one
  left_both_same other operation o target n t pair one two = absurd pair

-- ---- where the worker stands

once_stands : {T : Type 0} (x : ℕ) (o n : once.OnceState T) → (once_standing.runs_at n x ≡ once_standing.runs_at o x) × (once_standing.waits_at n x ≡ once_standing.waits_at o x) → StandsAtOnce x o → StandsAtOnce x n
once_stands x o n same stands = λ is. same.1 ∙ stands (sym same.0 ∙ is)

pub idle_same : (x : ℕ) (o n : ObjectState) → Same x o n → IsIdle x o → IsIdle x n
idle_same x (states.Map m) (states.Map n) same idle = tt
idle_same x (states.Atomic m) (states.Atomic n) same idle = tt
idle_same x (states.Mutex m) (states.Mutex n) same idle = tt
idle_same x (states.RwMutex m) (states.RwMutex n) same idle = tt
idle_same x (states.Cond m at) (states.Cond n other) same idle = same.0 ∙ idle
idle_same x (states.WaitGroup m first) (states.WaitGroup n other) same idle = same.0 ∙ idle
idle_same x (states.Once m at delta) (states.Once n other amount) same idle = (same.0.1 ∙ idle.0, same.0.0 ∙ idle.1)
idle_same x (states.OnceFunc m code) (states.OnceFunc n other) same idle = (same.0.1 ∙ idle.0, same.0.0 ∙ idle.1)
idle_same x (states.OnceValue m value) (states.OnceValue n other) same idle = (same.0.1 ∙ idle.0, same.0.0 ∙ idle.1)
idle_same x (states.Pool m) (states.Pool n) same idle = tt
idle_same x (states.Sema m size) (states.Sema n other) same idle = same.0 ∙ idle
idle_same x (states.Flight m keys at delta) (states.Flight n later other amount) same idle = same.0 ∙ idle
idle_same x (states.Var m) (states.Var n) same idle = tt
idle_same x o n same idle = absurd same

pub stands_same : (x : ℕ) (o n : ObjectState) (operation : Operation) → Same x o n → StandsOn operation x o → StandsOn operation x n
stands_same x (states.Map m) (states.Map n) (operations.Map call) same stands = tt
stands_same x (states.Map m) (states.Map n) operation same stands = tt
stands_same x (states.Atomic m) (states.Atomic n) (operations.Map call) same stands = tt
stands_same x (states.Atomic m) (states.Atomic n) operation same stands = tt
stands_same x (states.Mutex m) (states.Mutex n) (operations.Map call) same stands = tt
stands_same x (states.Mutex m) (states.Mutex n) operation same stands = tt
stands_same x (states.RwMutex m) (states.RwMutex n) (operations.RwMutex call) same stands = same.1 call stands
stands_same x (states.RwMutex m) (states.RwMutex n) operation same stands = tt
stands_same x (states.Cond m at) (states.Cond n other) (operations.Map call) same stands = same.0 ∙ stands
stands_same x (states.Cond m at) (states.Cond n other) operation same stands = same.0 ∙ stands
stands_same x (states.WaitGroup m first) (states.WaitGroup n other) (operations.WaitGroup group_calls.Wait) same stands = tt
stands_same x (states.WaitGroup m first) (states.WaitGroup n other) (operations.WaitGroup call) same stands = same.0 ∙ stands
stands_same x (states.WaitGroup m first) (states.WaitGroup n other) operation same stands = same.0 ∙ stands
stands_same x (states.Once m at delta) (states.Once n other amount) (operations.Map call) same stands = (same.0.1 ∙ stands.0, same.0.0 ∙ stands.1)
stands_same x (states.Once m at delta) (states.Once n other amount) operation same stands = (same.0.1 ∙ stands.0, same.0.0 ∙ stands.1)
stands_same x (states.OnceFunc m code) (states.OnceFunc n other) operations.OnceFunc same stands = once_stands x m n same.0 stands
stands_same x (states.OnceFunc m code) (states.OnceFunc n other) operation same stands = (same.0.1 ∙ stands.0, same.0.0 ∙ stands.1)
stands_same x (states.OnceValue m value) (states.OnceValue n other) operations.OnceValue same stands = once_stands x m n same.0 stands
stands_same x (states.OnceValue m value) (states.OnceValue n other) operation same stands = (same.0.1 ∙ stands.0, same.0.0 ∙ stands.1)
stands_same x (states.Pool m) (states.Pool n) (operations.Map call) same stands = tt
stands_same x (states.Pool m) (states.Pool n) operation same stands = tt
stands_same x (states.Sema m size) (states.Sema n other) (operations.Sema call) same stands = tt
stands_same x (states.Sema m size) (states.Sema n other) operation same stands = same.0 ∙ stands
stands_same x (states.Flight m keys at delta) (states.Flight n later other amount) (operations.Map call) same stands = same.0 ∙ stands
stands_same x (states.Flight m keys at delta) (states.Flight n later other amount) operation same stands = same.0 ∙ stands
stands_same x (states.Var m) (states.Var n) (operations.Map call) same stands = tt
stands_same x (states.Var m) (states.Var n) operation same stands = tt
stands_same x o n operation same stands = absurd same

pub both_stands_same : (x : ℕ) (operation : Operation) (o target n t : ObjectState) → Pair operation o target → Same x o n → Same x target t → StandsOnBoth operation x o target → StandsOnBoth operation x n t
both_stands_same x (operations.Cond cond_calls.Wait) (states.Cond c at) (states.Mutex m) (states.Cond d to) (states.Mutex k) pair one two stands = λ has. waits_out (mutex.place_of k x) (two ∙ ap mutex_waits (stands (sym one.0 ∙ has)))
both_stands_same x (operations.Cond cond_calls.Signal) (states.Cond c at) (states.Mutex m) (states.Cond d to) (states.Mutex k) pair one two stands = one.0 ∙ stands
both_stands_same x (operations.Cond cond_calls.Broadcast) (states.Cond c at) (states.Mutex m) (states.Cond d to) (states.Mutex k) pair one two stands = one.0 ∙ stands
both_stands_same x (operations.Cond call) (states.Cond c at) (states.Mutex m) (states.Cond d to) t pair one two stands = absurd two
both_stands_same x (operations.Cond call) (states.Cond c at) (states.Mutex m) n t pair one two stands = absurd one
both_stands_same x operations.Once (states.Once o at delta) (states.Atomic (Int64 held)) (states.Once p to amount) (states.Atomic k) pair one two stands = once_stands x o p one.0 stands
both_stands_same x operations.Once (states.Once o at delta) (states.Atomic (Int64 held)) (states.Once p to amount) t pair one two stands = absurd two
both_stands_same x operations.Once (states.Once o at delta) (states.Atomic (Int64 held)) n t pair one two stands = absurd one
both_stands_same x (operations.Fly key) (states.Flight f keys at delta) (states.Atomic (Int64 held)) (states.Flight g later to amount) (states.Atomic k) pair one two stands = tt
both_stands_same x (operations.Fly key) (states.Flight f keys at delta) (states.Atomic (Int64 held)) (states.Flight g later to amount) t pair one two stands = absurd two
both_stands_same x (operations.Fly key) (states.Flight f keys at delta) (states.Atomic (Int64 held)) n t pair one two stands = absurd one
both_stands_same x operation o target n t pair one two stands = absurd pair
