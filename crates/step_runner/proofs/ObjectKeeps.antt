-- A turn leaves an object of its kind, and a machine valid.
use Rattle.std.proofs.Common.{◌≡◌, ◌≢◌, ℕ, Bool, true, false, eqb, List, map, set, Option, Some, refl, sym, ap, ◌∙◌, subst}
use Rattle.std.proofs.lemmas.Bool.{eqb-true, eqb-false}
use Rattle.std.specs.Prelude.{ℤ, slice_get, Result, Ok}
use Rattle.std.specs.Int.{w64, int_wrapping_add}
use Rattle.std.proofs.lemmas.Option.{get_or_from_slice_get}
use Rattle.std.proofs.Math.Seq.{map-set_same}
use Rattle.sync_types.specs.declared.atomic_object.Number.{Number}
use Rattle.sync_types.specs.declared.atomic_object.Number.TheVariants.{Int64}
use Rattle.script_calls.specs.declared.call.Call.{Call}
use Rattle.script_calls.specs.declared.call.ComposedCall.TheVariants.{IfEqual}
use Rattle.script_calls.specs.declared.call.Operation.{Operation}
use Rattle.script_calls.specs.declared.call.Operation.TheVariants as operations
use Rattle.mutex_core.specs.MutexMachine as mutex
use Rattle.rw_core.specs.RwMachine as rw
use Rattle.wait_cores.specs.NotifyMachine as notify
use Rattle.wait_cores.specs.GroupMachine as group
use Rattle.wait_cores.specs.OnceMachine as once
use Rattle.sema_core.specs.SemaMachine as sema
use Rattle.sema_core.specs.SemaStages.{sema_event, sema_meaning}
use Rattle.flight_core.specs.FlightMachine as flight
use Rattle.flight_core.specs.FlightStages.{flight_event, flight_meaning}
use Rattle.flight_core.specs.declared.calls.FlightOutcome.{FlightOutcome}
use Rattle.flight_core.specs.declared.calls.FlightOutcome.TheVariants.{Landed}
use Rattle.protocols.specs.declared.cond.CondStage.{CondStage}
use Rattle.protocols.specs.CondStages.{cond_event, cond_meaning}
use Rattle.protocols.specs.MutexStages.{mutex_event, mutex_meaning}
use Rattle.protocols.specs.declared.mutex.MutexStage.{MutexStage}
use Rattle.protocols.specs.declared.once.OnceOutcome.{OnceOutcome}
use Rattle.protocols.specs.declared.once.OnceOutcome.TheVariants.{Ended}
use Rattle.workload.specs.declared.object.ObjectKind.{ObjectKind}
use Rattle.workload.specs.declared.object.ObjectKind.TheVariants as kinds
use Rattle.workload.specs.Keys.{key_number}
use Rattle.workload.specs.Plan.{has_call, is_target, reference_of}
use Rattle.step_runner.specs.declared.turns.answer.Answer.{Answer}
use Rattle.step_runner.specs.declared.turns.object_state.ObjectState.{ObjectState}
use Rattle.step_runner.specs.declared.turns.object_state.ObjectState.TheVariants as states
use Rattle.step_runner.specs.Objects.{kind_of, IsMachineOf, EachAt}
use Rattle.step_runner.specs.Due.{mutex_due, rw_due, group_due, sema_due, cond_due, flight_due}
use Rattle.step_runner.specs.Ready.{IsReady}
use Rattle.step_runner.specs.Stages.{make}
use Rattle.step_runner.specs.TurnAtObjects.{once_made, number_after, flight_made, number_landed, turn_on, turn_on_both, turn_at}
use Rattle.step_runner.proofs.AtObjects.{at_ready, each_set}
use Rattle.step_runner.proofs.AtomicTypes.{after_type}
use Rattle.step_runner.proofs.MachineLaws.{OnceLaw, Laws}
use Rattle.step_runner.proofs.SpeltAtObjects.{set_there}
use Rattle.step_runner.proofs.Makes.{make_keeps, mutex_keeps, rw_keeps, group_keeps, cond_keeps, once_keeps, pool_keeps}
use Rattle.step_runner.proofs.Writes.{get_other}

pub record Keeps (workers : ℕ) (old new : ObjectState) : Type 0 where
  pub kind : kind_of new ≡ kind_of old
  pub machine : IsMachineOf workers old → IsMachineOf workers new

same : (workers : ℕ) (object : ObjectState) → Keeps workers object object
same workers object = record { kind = refl; machine = λ h. h }

-- ---- any object that refers to no other

once_callers : {T : Type 0} → OnceLaw T → (workers worker moment : ℕ) (value : T) (o : once.OnceState T) → once.callers_of o ≡ workers → once.callers_of (once_made worker moment value o).0 ≡ workers
once_callers law workers worker moment value o = once_keeps worker moment (λ o. once.callers_of o ≡ workers) (λ o e is. law o worker e ∙ is) value o

mutex_machine : Laws → (workers worker moment : ℕ) (due : Option MutexStage) (m : mutex.State) → IsMachineOf workers (states.Mutex m) → IsMachineOf workers (states.Mutex (make mutex.next mutex_event mutex_meaning worker moment due m).0)
mutex_machine laws workers worker moment = mutex_keeps worker moment (λ m. IsMachineOf workers (states.Mutex m)) (λ m e h. (laws.mutexes.goes_on m worker e h.0, laws.mutexes.same_callers m worker e ∙ h.1))

turn_keeps : Laws → (workers : ℕ) (operation : Operation) (worker moment : ℕ) (o : ObjectState) → has_call (kind_of o) operation ≡ true → Keeps workers o (turn_on operation worker moment o).0
turn_keeps laws workers (operations.Map call) worker moment (states.Map m) has = record { kind = refl; machine = λ h. h }
turn_keeps laws workers operations.Range worker moment (states.Map m) has = same workers (states.Map m)
turn_keeps laws workers (operations.Atomic call) worker moment (states.Atomic number) has = record { kind = ap (λ kind. kinds.Atomic kind) (after_type call number has); machine = λ h. h }
turn_keeps laws workers (operations.Composed (IfEqual value passes)) worker moment (states.Atomic number) has = same workers (states.Atomic number)
turn_keeps laws workers (operations.Var call) worker moment (states.Var held) has = record { kind = refl; machine = λ h. h }
turn_keeps laws workers (operations.Mutex call) worker moment (states.Mutex m) has = record {
  kind = refl;
  machine = mutex_machine laws workers worker moment (mutex_due call (mutex.place_of m worker)) m;
}
turn_keeps laws workers (operations.RwMutex call) worker moment (states.RwMutex m) has = record {
  kind = refl;
  machine = rw_keeps worker moment (λ m. IsMachineOf workers (states.RwMutex m)) (λ m e h. (laws.rw_mutexes.goes_on m worker e h.0, laws.rw_mutexes.same_callers m worker e ∙ h.1)) (rw_due call (rw.place_of m worker)) m;
}
turn_keeps laws workers (operations.WaitGroup call) worker moment (states.WaitGroup g first) has =
    record { kind = refl; machine = group_keeps worker moment (λ g. group.callers_of g ≡ workers) (λ g e h. laws.groups g worker e ∙ h) (group_due call (group.place_of g worker)) g }
turn_keeps laws workers (operations.Sema call) worker moment (states.Sema s size) has =
    record { kind = refl; machine = make_keeps sema.next sema_event sema_meaning worker moment (λ s. sema.callers_of s ≡ workers) (λ s e h. laws.semas s worker e ∙ h) (sema_due call (sema.place_of s worker)) s }
turn_keeps laws workers operations.OnceFunc worker moment (states.OnceFunc o code) has = record { kind = refl; machine = once_callers laws.giving workers worker moment code o }
turn_keeps laws workers operations.OnceValue worker moment (states.OnceValue o value) has = record { kind = refl; machine = once_callers laws.giving workers worker moment value o }
turn_keeps laws workers (operations.Pool call) worker moment (states.Pool p) has =
    record { kind = refl; machine = pool_keeps worker moment (λ p. IsMachineOf workers (states.Pool p)) (λ p e h. laws.pools p worker workers e h.0 h.1) call p }
turn_keeps laws workers operation worker moment o has = same workers o

-- ---- an object and the one to which it refers

record KeepsBoth (workers : ℕ) (old target : ObjectState) (new : ObjectState × ObjectState) : Type 0 where
  pub first : Keeps workers old new.0
  pub second : Keeps workers target new.1

both_same : (workers : ℕ) (object target : ObjectState) → KeepsBoth workers object target (object, target)
both_same workers object target = record { first = same workers object; second = same workers target }

list_keeps : Laws → (workers worker moment place : ℕ) (due : Option CondStage) (c : notify.NotifyState) → Keeps workers (states.Cond c place) (states.Cond (make notify.next cond_event cond_meaning worker moment due c).0 place)
list_keeps laws workers worker moment place due c =
    record { kind = refl; machine = cond_keeps worker moment (λ c. notify.callers_of c ≡ workers) (λ c e is. laws.conds c worker e ∙ is) due c }

-- what is so of the number and of the sum is so of the number behind the turn
pub number_any : (P : Number → Type 0) (r : Result (OnceOutcome ℤ) Answer) (new old : Number) → P new → P old → P (number_after r new old)
number_any P (Ok Ended) new old is was = is
number_any P other new old is was = was

sum_keeps : Laws → (workers worker moment : ℕ) (o : once.OnceState ℤ) (place : ℕ) (delta : ℤ) (number : Number)
    → KeepsBoth workers (states.Once o place delta) (states.Atomic number) (turn_on_both operations.Once worker moment (states.Once o place delta) (states.Atomic number)).0
sum_keeps laws workers worker moment o place delta (Int64 held) =
    let sum = int_wrapping_add w64 held delta in
    record {
      first = record { kind = refl; machine = once_callers laws.adding workers worker moment sum o };
      second = number_any (λ number. Keeps workers (states.Atomic (Int64 held)) (states.Atomic number)) (once_made worker moment sum o).1 (Int64 sum) (Int64 held)
          (record { kind = refl; machine = λ h. h }) (same workers (states.Atomic (Int64 held)));
    }
sum_keeps laws workers worker moment o place delta number = both_same workers (states.Once o place delta) (states.Atomic number)

-- the same of the number of a group of flights
pub landed_any : (P : Number → Type 0) (r : Result FlightOutcome Answer) (new old : Number) → P new → P old → P (number_landed r new old)
landed_any P (Ok (Landed shared)) new old is was = is
landed_any P other new old is was = was

fly_keeps : Laws → (workers : ℕ) (key : List ℕ) (worker moment : ℕ) (f : flight.FlightState) (keys : List (List ℕ)) (place : ℕ) (delta : ℤ) (number : Number)
    → KeepsBoth workers (states.Flight f keys place delta) (states.Atomic number) (turn_on_both (operations.Fly key) worker moment (states.Flight f keys place delta) (states.Atomic number)).0
fly_keeps laws workers key worker moment f keys place delta (Int64 held) =
    let sum = int_wrapping_add w64 held delta in
    let due = flight_due (key_number keys key) sum (flight.place_of f worker) in
    record {
      first = record { kind = refl; machine = make_keeps flight.next flight_event flight_meaning worker moment (λ f. flight.callers_of f ≡ workers) (λ f e h. laws.flights f worker e ∙ h) due f };
      second = landed_any (λ number. Keeps workers (states.Atomic (Int64 held)) (states.Atomic number)) (flight_made worker moment (key_number keys key) sum f).1 (Int64 sum) (Int64 held)
          (record { kind = refl; machine = λ h. h }) (same workers (states.Atomic (Int64 held)));
    }
fly_keeps laws workers key worker moment f keys place delta number = both_same workers (states.Flight f keys place delta) (states.Atomic number)

both_keep : Laws → (workers : ℕ) (operation : Operation) (worker moment : ℕ) (o target : ObjectState) → KeepsBoth workers o target (turn_on_both operation worker moment o target).0
both_keep laws workers (operations.Cond call) worker moment (states.Cond c place) (states.Mutex m) =
    let due = cond_due call (mutex.place_of m worker) (notify.place_of c worker) in
    record { first = list_keeps laws workers worker moment place due.0 c; second = record { kind = refl; machine = mutex_machine laws workers worker moment due.1 m } }
both_keep laws workers operations.Once worker moment (states.Once o place delta) (states.Atomic number) = sum_keeps laws workers worker moment o place delta number
both_keep laws workers (operations.Fly key) worker moment (states.Flight f keys place delta) (states.Atomic number) = fly_keeps laws workers key worker moment f keys place delta number
both_keep laws workers operation worker moment o target = both_same workers o target

-- ---- all objects

kinds_set : (objects : List ObjectState) (place : ℕ) (object next : ObjectState) → slice_get objects place ≡ Some object → kind_of next ≡ kind_of object → map kind_of (set objects place next) ≡ map kind_of objects
kinds_set objects place object next at kind = map-set_same kind_of objects place next next (kind ∙ ap kind_of (sym (get_or_from_slice_get objects place object next at)))

-- the object that stands at a place behind the turn
abbrev pub KeptAt : ℕ → List ObjectState → ℕ → ObjectState → Type 0
KeptAt workers new place object = (next : ObjectState) × (slice_get new place ≡ Some next) × Keeps workers object next

kept_set : (workers : ℕ) (objects : List ObjectState) (place : ℕ) (object next : ObjectState) → slice_get objects place ≡ Some object → Keeps workers object next → EachAt (KeptAt workers (set objects place next)) objects
kept_set workers objects place object next at keeps k found there = by_place (eqb k place) refl
  where
    by_place : (b : Bool) → eqb k place ≡ b → KeptAt workers (set objects place next) k found
    by_place true is =
        let here : k ≡ place = eqb-true k place is in
        let both : Some object ≡ Some found = sym at ∙ ap (slice_get objects) (sym here) ∙ there in
        let one : object ≡ found = cc in
        (next, ap (slice_get (set objects place next)) here ∙ set_there objects place next object at, subst (λ (o : ObjectState). Keeps workers o next) one keeps)
    by_place false far = (found, get_other objects place k next found (eqb-false k place far) there, same workers found)

pub record ObjectsKeep (workers : ℕ) (old new : List ObjectState) : Type 0 where
  pub kinds : map kind_of new ≡ map kind_of old
  pub machines : EachAt (λ place. IsMachineOf workers) old → EachAt (λ place. IsMachineOf workers) new
  pub each : EachAt (KeptAt workers new) old

one_keeps : (workers : ℕ) (objects : List ObjectState) (place : ℕ) (object next : ObjectState) → slice_get objects place ≡ Some object → Keeps workers object next → ObjectsKeep workers objects (set objects place next)
one_keeps workers objects place object next at keeps = record {
  kinds = kinds_set objects place object next at keeps.kind;
  machines = λ all. each_set (λ place. IsMachineOf workers) objects place next all (keeps.machine (all place object at));
  each = kept_set workers objects place object next at keeps;
}

keeps_on : (workers : ℕ) (first middle last : ObjectState) → Keeps workers first middle → Keeps workers middle last → Keeps workers first last
keeps_on workers first middle last one two = record { kind = two.kind ∙ one.kind; machine = λ is. two.machine (one.machine is) }

two_keep : (workers : ℕ) (objects : List ObjectState) (place other : ℕ) (object target : ObjectState) (new : ObjectState × ObjectState) → slice_get objects place ≡ Some object → slice_get objects other ≡ Some target
    → other ≢ place → KeepsBoth workers object target new → ObjectsKeep workers objects (set (set objects place new.0) other new.1)
two_keep workers objects place other object target new at there apart keep =
    let first = one_keeps workers objects place object new.0 at keep.first in
    let second = one_keeps workers (set objects place new.0) other target new.1 (get_other objects place other new.0 target apart there) keep.second in
    record {
      kinds = second.kinds ∙ first.kinds;
      machines = λ all. second.machines (first.machines all);
      each = λ k o found.
          let middle = first.each k o found in
          let last = second.each k middle.0 middle.1 in
          (last.0, last.1, keeps_on workers o middle.0 last.0 middle.2 last.2);
    }

pub turn_keep : Laws → (workers worker : ℕ) (call : Call) (moment : ℕ) (objects : List ObjectState) → IsReady workers worker call objects → ObjectsKeep workers objects (turn_at call worker moment objects).0
turn_keep laws workers worker call moment objects r = at_ready (λ x. ObjectsKeep workers objects x.0) workers worker call moment objects r
    (λ st. one_keeps workers objects call.object r.object (turn_on call.operation worker moment r.object).0 st.at (turn_keeps laws workers call.operation worker moment r.object st.has))
    (λ other target st. two_keep workers objects call.object other r.object target (turn_on_both call.operation worker moment r.object target).0 st.at st.there st.apart (both_keep laws workers call.operation worker moment r.object target))

-- what a call needs of its objects is so behind another call's turn
pub ready_kept : (workers worker : ℕ) (call : Call) (old new : List ObjectState) → ObjectsKeep workers old new → IsReady workers worker call old → IsReady workers worker call new
ready_kept workers worker call old new keep r =
    let here = keep.each call.object r.object r.there in
    record {
      object = here.0;
      there = here.1;
      has = subst (λ (kind : ObjectKind). has_call kind call.operation ≡ true) (sym here.2.kind) r.has;
      below = r.below;
      machine = here.2.machine r.machine;
      refers = λ place some.
          let t = r.refers place (sym (ap reference_of here.2.kind) ∙ some) in
          let there = keep.each place t.target t.there in
          record {
            target = there.0;
            there = there.1;
            is = subst (λ (kind : ObjectKind). is_target kind (kind_of there.0) ≡ true) (sym here.2.kind) (subst (λ (kind : ObjectKind). is_target (kind_of r.object) kind ≡ true) (sym there.2.kind) t.is);
            machine = there.2.machine t.machine;
          };
    }
