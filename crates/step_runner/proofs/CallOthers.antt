-- Another's turn takes nothing from what is left of a worker's call, and only an unlock tells it to go on.
use Rattle.std.proofs.Common.{◌≡◌, ◌≢◌, ℕ, ◌≤◌, inl, inr, Bool, true, false, List, [], ◌++◌, Option, Some, None, refl, sym, ap, ◌∙◌, arith}
use Rattle.std.specs.Prelude.{ℤ, ◌||◌, if◌then◌else◌, is_some}
use Rattle.std.specs.Int.{w64, int_wrapping_add}
use Rattle.sync_types.specs.declared.atomic_object.Number.{Number}
use Rattle.sync_types.specs.declared.atomic_object.Number.TheVariants.{Int64}
use Rattle.script_calls.specs.declared.call.ComposedCall.TheVariants.{IfEqual}
use Rattle.script_calls.specs.declared.call.Operation.{Operation}
use Rattle.script_calls.specs.declared.call.Operation.TheVariants as operations
use Rattle.mutex_core.specs.MutexMachine as mutex
use Rattle.mutex_core.specs.Moves as mutex_moves
use Rattle.mutex_core.specs.declared.event.MutexEvent.{MutexEvent}
use Rattle.mutex_core.specs.declared.place.Place.{Place as MutexPlace}
use Rattle.mutex_core.specs.declared.place.Place.TheVariants as mutex_place
use Rattle.mutex_core.specs.declared.reply.MutexReply.{MutexReply}
use Rattle.mutex_core.specs.declared.reply.MutexReply.TheVariants as mutex_reply
use Rattle.mutex_core.specs.declared.reply.Unlocking.TheVariants as mutex_unlocking
use Rattle.rw_core.specs.RwMachine as rw
use Rattle.rw_core.specs.Moves as rw_moves
use Rattle.rw_core.specs.declared.event.RwEvent.{RwEvent}
use Rattle.rw_core.specs.declared.event.RwEvent.TheVariants as rw_event
use Rattle.rw_core.specs.declared.place.Place.{Place as RwPlace}
use Rattle.rw_core.specs.declared.place.Place.TheVariants as rw_place
use Rattle.rw_core.specs.declared.reply.RwReply.{RwReply}
use Rattle.wait_cores.specs.NotifyMachine as notify
use Rattle.wait_cores.specs.NotifyStanding as notify_standing
use Rattle.wait_cores.specs.GroupMachine as group
use Rattle.wait_cores.specs.OnceMachine as once
use Rattle.wait_cores.specs.OnceStanding as once_standing
use Rattle.protocols.specs.CondStages.{cond_event, cond_meaning}
use Rattle.protocols.specs.GroupStages.{group_event, group_meaning}
use Rattle.protocols.specs.declared.wait_group.GroupStage.{GroupStage}
use Rattle.protocols.specs.MutexStages as mutex_stages
use Rattle.protocols.specs.OnceStages.{once_event, once_meaning}
use Rattle.protocols.specs.RwMutexStages as rw_stages
use Rattle.protocols.specs.declared.cond.CondStage.{CondStage}
use Rattle.protocols.specs.declared.mutex.MutexStage.{MutexStage}
use Rattle.protocols.specs.declared.rw_mutex.RwMutexStage.{RwMutexStage}
use Rattle.run_record.specs.declared.entered.ObjectEvent.TheVariants as events
use Rattle.run_record.specs.declared.entered.ObjectReply.TheVariants as answered
use Rattle.sema_core.specs.SemaMachine as sema
use Rattle.sema_core.specs.SemaStages.{sema_event, sema_meaning}
use Rattle.flight_core.specs.FlightMachine as flight
use Rattle.flight_core.specs.FlightStages.{flight_event, flight_meaning}
use Rattle.flight_core.specs.FlightStanding as flight_standing
use Rattle.sema_core.specs.declared.calls.SemaStage.{SemaStage}
use Rattle.workload.specs.Keys.{key_number}
use Rattle.step_runner.specs.declared.turns.object_state.ObjectState.{ObjectState}
use Rattle.step_runner.specs.declared.turns.object_state.ObjectState.TheVariants as states
use Rattle.step_runner.specs.TurnsLeft.{mutex_left, rw_left, once_left, left_at, mutex_told, rw_told, told_at, flight_left}
use Rattle.step_runner.specs.Due.{mutex_due, rw_due, group_turn, group_behind, cond_due, once_due, sema_turn, sema_behind, flight_due}
use Rattle.step_runner.specs.declared.turns.item.Deed.TheVariants as deeds
use Rattle.step_runner.specs.declared.turns.item.Item.{Item}
use Rattle.step_runner.specs.Items.{stage_items, items_on, items_on_both, is_unlock, unlocks}
use Rattle.step_runner.specs.Objects.{IsMachineOf}
use Rattle.step_runner.specs.Stages.{make}
use Rattle.step_runner.specs.TurnAtObjects.{once_made, turn_on, turn_on_both, flight_made}
use Rattle.step_runner.proofs.Makes.{make_moves}
use Rattle.step_runner.specs.MachinesStand.{MutexStands, RwStands, OnceStands, MachinesStand, FlightStands}
use Rattle.step_runner.proofs.Refuted.{no}

-- ---- at one object

-- no more is left than before, and only an unlock tells the worker
abbrev pub Eases : ℕ → ObjectState → ObjectState → List Item → Type 0
Eases x old new made = (left_at x new ≤ left_at x old) × (told_at x old ≡ false → told_at x new ≡ true → unlocks made ≡ true)

pub same_eases : (x : ℕ) (o : ObjectState) (made : List Item) → Eases x o o made
same_eases x o made = (omega arith, λ untold told. no (sym untold ∙ told))

-- a mutex tells who waits there, which takes nothing
told_waiting : (x by : ℕ) (r : MutexReply) → mutex_moves.tells x r ≡ true → mutex_left (mutex_moves.place_after x by mutex_place.Waiting r) ≡ 0
told_waiting x by (mutex_reply.Unlocked (mutex_unlocking.Woke ticket)) e = ap (λ (b : Bool). mutex_left (if b then mutex_place.Woken else mutex_place.Waiting)) e
told_waiting x by (mutex_reply.Unlocked (mutex_unlocking.Handed ticket)) e = ap (λ (b : Bool). mutex_left (if b then mutex_place.Handed else mutex_place.Waiting)) e
told_waiting x by (mutex_reply.Unlocked mutex_unlocking.Free) e = no e
told_waiting x by (mutex_reply.Unlocked (mutex_unlocking.Misuse misuse)) e = no e
told_waiting x by (mutex_reply.Arrived arrival) e = no e
told_waiting x by (mutex_reply.Tried acquired) e = no e
told_waiting x by (mutex_reply.Resumed resumption) e = no e
told_waiting x by mutex_reply.Still e = no e

mutex_eases : MutexStands → (x by moment object : ℕ) (stage : MutexStage) (m : mutex.State) → mutex.IsValid m → x ≢ by
    → Eases x (states.Mutex m) (states.Mutex (mutex.next m by (mutex_stages.mutex_event stage moment)).0) (stage_items events.Mutex answered.Mutex mutex.next mutex_stages.mutex_event by moment object (Some stage) m)
mutex_eases law x by moment object stage m valid apart = by_test (mutex_moves.tells x (mutex.next m by e).1) refl
  where
    e : MutexEvent
    e = mutex_stages.mutex_event stage moment

    by_test : (b : Bool) → mutex_moves.tells x (mutex.next m by e).1 ≡ b
        → Eases x (states.Mutex m) (states.Mutex (mutex.next m by e).0) (stage_items events.Mutex answered.Mutex mutex.next mutex_stages.mutex_event by moment object (Some stage) m)
    by_test true told =
        let was = law.told m x by e valid told in
        let zero : mutex_left (mutex.place_of (mutex.next m by e).0 x) ≡ 0 =
        ap mutex_left (law.moved m x by e valid) ∙ ap (λ (p : MutexPlace). mutex_left (mutex_moves.place_after x by p (mutex.next m by e).1)) was.1 ∙ told_waiting x by (mutex.next m by e).1 told in
        (omega (arith, zero), λ untold now. ap (λ (f : MutexEvent). is_unlock (deeds.Entered (events.Mutex f) (answered.Mutex (mutex.next m by e).1)) || false) was.0)
    by_test false told =
        let same = law.unmoved m x by e valid apart told in
        (omega (arith, ap mutex_left same), λ untold now. no (sym untold ∙ (sym (ap mutex_told same) ∙ now)))

mutex_due_eases : MutexStands → (x by moment object : ℕ) (due : Option MutexStage) (m : mutex.State) → mutex.IsValid m → x ≢ by
    → Eases x (states.Mutex m) (states.Mutex (make mutex.next mutex_stages.mutex_event mutex_stages.mutex_meaning by moment due m).0) (stage_items events.Mutex answered.Mutex mutex.next mutex_stages.mutex_event by moment object due m)
mutex_due_eases law x by moment object None m valid apart = same_eases x (states.Mutex m) []
mutex_due_eases law x by moment object (Some stage) m valid apart = mutex_eases law x by moment object stage m valid apart

-- by the table of moves
abbrev RwEases : RwEvent → RwReply → RwPlace → RwPlace → Type 0
RwEases e r p q = (rw_left q ≤ rw_left p) × (rw_told p ≡ false → rw_told q ≡ true → is_unlock (deeds.Entered (events.RwMutex e) (answered.RwMutex r)) || false ≡ true)

rw_same : (e : RwEvent) (r : RwReply) (p q : RwPlace) → q ≡ p → RwEases e r p q
rw_same e r p q same = (omega (arith, ap rw_left same), λ untold told. no (sym untold ∙ (sym (ap rw_told same) ∙ told)))

-- one that was admitted or granted isn't told
rw_less : (e : RwEvent) (r : RwReply) (p q : RwPlace) → rw_left q ≡ 0 → rw_told q ≡ false → RwEases e r p q
rw_less e r p q less untold = (omega (arith, less), λ was told. no (sym untold ∙ told))

rw_tells : (r : RwReply) (q : RwPlace) → rw_left q ≡ 1 → RwEases rw_event.WriteUnlock r rw_place.Queued q
rw_tells r q one = (omega (arith, one), λ was told. refl)

rw_eases : (e : RwEvent) (r : RwReply) (p q : RwPlace) → rw_moves.MovesOther e p q → RwEases e r p q
rw_eases rw_event.ReadArrive r p q moves = rw_same rw_event.ReadArrive r p q moves
rw_eases rw_event.ReadTry r p q moves = rw_same rw_event.ReadTry r p q moves
rw_eases (rw_event.WriteArrive now) r p q moves = rw_same (rw_event.WriteArrive now) r p q moves
rw_eases rw_event.WriteTry r p q moves = rw_same rw_event.WriteTry r p q moves
rw_eases (rw_event.WriteWoken now) r p q moves = rw_same (rw_event.WriteWoken now) r p q moves
rw_eases rw_event.Leave r p q moves = rw_same rw_event.Leave r p q moves
rw_eases rw_event.ReadUnlock r rw_place.Waiting q moves = elim moves [
  | inl same ↦ rw_same rw_event.ReadUnlock r rw_place.Waiting q same
  | inr granted ↦ rw_less rw_event.ReadUnlock r rw_place.Waiting q (ap rw_left granted) (ap rw_told granted)
]
rw_eases rw_event.ReadUnlock r rw_place.Out q moves = rw_same rw_event.ReadUnlock r rw_place.Out q moves
rw_eases rw_event.ReadUnlock r rw_place.Queued q moves = rw_same rw_event.ReadUnlock r rw_place.Queued q moves
rw_eases rw_event.ReadUnlock r rw_place.Woken q moves = rw_same rw_event.ReadUnlock r rw_place.Woken q moves
rw_eases rw_event.ReadUnlock r rw_place.Handed q moves = rw_same rw_event.ReadUnlock r rw_place.Handed q moves
rw_eases rw_event.ReadUnlock r rw_place.Granted q moves = rw_same rw_event.ReadUnlock r rw_place.Granted q moves
rw_eases rw_event.ReadUnlock r rw_place.Admitted q moves = rw_same rw_event.ReadUnlock r rw_place.Admitted q moves
rw_eases rw_event.WriteUnlock r rw_place.Queued q moves = elim moves [
  | inl same ↦ rw_tells r q (ap rw_left same)
  | inr told ↦ elim told [
    | inl woken ↦ rw_tells r q (ap rw_left woken)
    | inr rest ↦ elim rest [
      | inl handed ↦ rw_tells r q (ap rw_left handed)
      | inr admitted ↦ rw_less rw_event.WriteUnlock r rw_place.Queued q (ap rw_left admitted) (ap rw_told admitted)
    ]
  ]
]
rw_eases rw_event.WriteUnlock r rw_place.Out q moves = rw_same rw_event.WriteUnlock r rw_place.Out q moves
rw_eases rw_event.WriteUnlock r rw_place.Waiting q moves = rw_same rw_event.WriteUnlock r rw_place.Waiting q moves
rw_eases rw_event.WriteUnlock r rw_place.Woken q moves = rw_same rw_event.WriteUnlock r rw_place.Woken q moves
rw_eases rw_event.WriteUnlock r rw_place.Handed q moves = rw_same rw_event.WriteUnlock r rw_place.Handed q moves
rw_eases rw_event.WriteUnlock r rw_place.Granted q moves = rw_same rw_event.WriteUnlock r rw_place.Granted q moves
rw_eases rw_event.WriteUnlock r rw_place.Admitted q moves = rw_same rw_event.WriteUnlock r rw_place.Admitted q moves

rw_due_eases : RwStands → (x by moment object : ℕ) (due : Option RwMutexStage) (m : rw.State) → rw.IsValid m → x ≢ by
    → Eases x (states.RwMutex m) (states.RwMutex (make rw.next rw_stages.rw_event rw_stages.rw_meaning by moment due m).0) (stage_items events.RwMutex answered.RwMutex rw.next rw_stages.rw_event by moment object due m)
rw_due_eases law x by moment object None m valid apart = same_eases x (states.RwMutex m) []
rw_due_eases law x by moment object (Some stage) m valid apart =
    let e = rw_stages.rw_event stage moment in
    rw_eases e (rw.next m by e).1 (rw.place_of m x) (rw.place_of (rw.next m by e).0 x) (law.others m x by e valid apart)

once_same : {T : Type 0} → OnceStands T → (x by moment : ℕ) (value : T) (o : once.OnceState T) → x ≢ by → once_left (once_made by moment value o).0 x ≡ once_left o x
once_same {T = T} law x by moment value o apart =
    make_moves once.next once_event once_meaning by moment (λ (n : once.OnceState T). once_left n x ≡ once_left o x) (once_due value (once_standing.runs_at o by) (once.place_of o by)) o refl
    (λ e. λ i. if law.others_wait o x by e apart i || law.others_run o x by e apart i then 0 else 1)

pub turn_eases : MachinesStand → (workers x by moment object : ℕ) (operation : Operation) (o : ObjectState) → IsMachineOf workers o → x ≢ by → Eases x o (turn_on operation by moment o).0 (items_on operation by moment object o)
turn_eases laws workers x by moment object (operations.Map call) (states.Map m) is apart = (omega arith, λ was told. no told)
turn_eases laws workers x by moment object operations.Range (states.Map m) is apart = (omega arith, λ was told. no told)
turn_eases laws workers x by moment object (operations.Atomic call) (states.Atomic number) is apart = (omega arith, λ was told. no told)
turn_eases laws workers x by moment object (operations.Composed (IfEqual value passes)) (states.Atomic number) is apart = (omega arith, λ was told. no told)
turn_eases laws workers x by moment object (operations.Mutex call) (states.Mutex m) is apart = mutex_due_eases laws.mutexes x by moment object (mutex_due call (mutex.place_of m by)) m is.0 apart
turn_eases laws workers x by moment object (operations.RwMutex call) (states.RwMutex m) is apart = rw_due_eases laws.rw_mutexes x by moment object (rw_due call (rw.place_of m by)) m is.0 apart
turn_eases laws workers x by moment object (operations.WaitGroup call) (states.WaitGroup g first) is apart = (
  omega (
    arith,
    ap {B = ℕ} (λ (behind : Option GroupStage). if is_some behind then 0 else 1)
        (make_moves group.next group_event group_meaning by moment (λ n. group_behind n x ≡ group_behind g x) (group_turn call g by) g refl (λ e. laws.groups.others g x by e apart)),
  ),
  λ was told. no told,
)
turn_eases laws workers x by moment object (operations.Sema call) (states.Sema s size) is apart = (
  omega (
    arith,
    ap {B = ℕ} (λ (behind : Option SemaStage). if is_some behind then 0 else 1)
        (make_moves sema.next sema_event sema_meaning by moment (λ n. sema_behind n x ≡ sema_behind s x) (sema_turn call s by) s refl (λ e. laws.semas.others s x by e apart)),
  ),
  λ was told. no told,
)
turn_eases laws workers x by moment object operations.OnceFunc (states.OnceFunc o code) is apart = (omega (arith, once_same laws.giving x by moment code o apart), λ was told. no told)
turn_eases laws workers x by moment object operations.OnceValue (states.OnceValue o value) is apart = (omega (arith, once_same laws.giving x by moment value o apart), λ was told. no told)
turn_eases laws workers x by moment object (operations.Pool call) (states.Pool p) is apart = (omega arith, λ was told. no told)
turn_eases laws workers x by moment object (operations.Var call) (states.Var held) is apart = (omega arith, λ was told. no told)
turn_eases laws workers x by moment object operation o is apart = (omega arith, λ untold told. no (sym untold ∙ told))

-- ---- at two objects

abbrev BothEase : ℕ → ObjectState → ObjectState → ObjectState × ObjectState → List Item → Type 0
BothEase x o target new made = Eases x o new.0 made × Eases x target new.1 made

-- an unlock behind what is made at a cond
behind_cond : (by moment object : ℕ) (due : Option CondStage) (c : notify.NotifyState) (made : List Item) → unlocks made ≡ true → unlocks (stage_items events.Cond answered.Cond notify.next cond_event by moment object due c ++ made) ≡ true
behind_cond by moment object None c made is = is
behind_cond by moment object (Some stage) c made is = is

sum_eases : OnceStands ℤ → (x by moment object other : ℕ) (o : once.OnceState ℤ) (place : ℕ) (delta : ℤ) (number : Number) → x ≢ by
    → BothEase x (states.Once o place delta) (states.Atomic number) (turn_on_both operations.Once by moment (states.Once o place delta) (states.Atomic number)).0 (items_on_both operations.Once by moment object other (states.Once o place delta) (states.Atomic number))
sum_eases law x by moment object other o place delta (Int64 held) apart =
    ((omega (arith, once_same law x by moment (int_wrapping_add w64 held delta) o apart), λ was told. no told), (omega arith, λ was told. no told))
sum_eases law x by moment object other o place delta number apart = ((omega arith, λ untold told. no (sym untold ∙ told)), (omega arith, λ untold told. no (sym untold ∙ told)))

flight_same : FlightStands → (x by moment key : ℕ) (value : ℤ) (f : flight.FlightState) → x ≢ by → flight_standing.stands_at (flight_made by moment key value f).0 x ≡ flight_standing.stands_at f x
flight_same law x by moment key value f apart =
    make_moves flight.next flight_event flight_meaning by moment (λ n. flight_standing.stands_at n x ≡ flight_standing.stands_at f x) (flight_due key value (flight.place_of f by)) f refl (λ e. law.others f x by e apart)

fly_eases : FlightStands → (x by moment object other : ℕ) (key : List ℕ) (f : flight.FlightState) (keys : List (List ℕ)) (place : ℕ) (delta : ℤ) (number : Number) → x ≢ by
    → BothEase x (states.Flight f keys place delta) (states.Atomic number) (turn_on_both (operations.Fly key) by moment (states.Flight f keys place delta) (states.Atomic number)).0 (items_on_both (operations.Fly key) by moment object other (states.Flight f keys place delta) (states.Atomic number))
fly_eases law x by moment object other key f keys place delta (Int64 held) apart =
    ((omega (arith, ap flight_left (flight_same law x by moment (key_number keys key) (int_wrapping_add w64 held delta) f apart)), λ was told. no told), (omega arith, λ was told. no told))
fly_eases law x by moment object other key f keys place delta number apart = ((omega arith, λ untold told. no (sym untold ∙ told)), (omega arith, λ untold told. no (sym untold ∙ told)))

pub both_ease : MachinesStand → (workers x by moment object other : ℕ) (operation : Operation) (o target : ObjectState) → IsMachineOf workers target → x ≢ by
    → BothEase x o target (turn_on_both operation by moment o target).0 (items_on_both operation by moment object other o target)
both_ease laws workers x by moment object other (operations.Cond call) (states.Cond c place) (states.Mutex m) is apart =
    let due = cond_due call (mutex.place_of m by) (notify.place_of c by) in
    let eases = mutex_due_eases laws.mutexes x by moment other due.1 m is.0 apart in (
      (
        omega (
          arith,
          ap {B = ℕ} (λ (b : Bool). if b then 0 else 1)
              (make_moves notify.next cond_event cond_meaning by moment (λ n. notify_standing.has_ticket n x ≡ notify_standing.has_ticket c x) due.0 c refl (λ e. laws.conds.others c x by e apart)),
        ),
        λ was told. no told,
      ),
      (eases.0, λ was told. behind_cond by moment object due.0 c (stage_items events.Mutex answered.Mutex mutex.next mutex_stages.mutex_event by moment other due.1 m) (eases.1 was told)),
    )
both_ease laws workers x by moment object other operations.Once (states.Once o place delta) (states.Atomic number) is apart = sum_eases laws.adding x by moment object other o place delta number apart
both_ease laws workers x by moment object other (operations.Fly key) (states.Flight f keys place delta) (states.Atomic number) is apart = fly_eases laws.flights x by moment object other key f keys place delta number apart
both_ease laws workers x by moment object other operation o target is apart = ((omega arith, λ untold told. no (sym untold ∙ told)), (omega arith, λ untold told. no (sym untold ∙ told)))
