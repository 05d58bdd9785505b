-- What the laws of the machines say of where callers stand; and another's turn leaves a worker out.
use Rattle.std.proofs.Common.{◌≡◌, ◌≢◌, ℕ, Bool, true, false, List, Option, refl, sym, ◌∙◌, subst}
use Rattle.std.specs.Prelude.{ℤ}
use Rattle.std.specs.FinMap.{FinMap}
use Rattle.std.specs.Ordering.{nat_cmp}
use Rattle.std.specs.Cmp.Lexicographic.{slice_cmp}
use Rattle.sync_types.specs.Replies.{map_form, atomic_form}
use Rattle.sync_types.specs.SequentialMap.{map_reply}
use Rattle.sync_types.specs.SequentialAtomic.{atomic_reply}
use Rattle.sync_types.specs.declared.atomic_object.Number.{Number}
use Rattle.sync_types.specs.declared.atomic_object.Number.TheVariants.{Int64}
use Rattle.sync_types.specs.declared.atomic_object.AtomicCall.{AtomicCall}
use Rattle.script_calls.specs.declared.call.ComposedCall.TheVariants.{IfEqual}
use Rattle.script_calls.specs.declared.call.Operation.{Operation}
use Rattle.script_calls.specs.declared.call.Operation.TheVariants as operations
use Rattle.sync_types.specs.declared.map_object.MapCall.{MapCall}
use Rattle.mutex_core.specs.MutexMachine as mutex
use Rattle.mutex_core.specs.Moves as mutex_moves
use Rattle.mutex_core.specs.declared.event.MutexEvent.{MutexEvent}
use Rattle.mutex_core.specs.declared.place.Place.TheVariants as mutex_place
use Rattle.rw_core.specs.RwMachine as rw
use Rattle.rw_core.specs.Moves as rw_moves
use Rattle.rw_core.specs.declared.event.RwEvent.{RwEvent}
use Rattle.rw_core.specs.declared.event.RwEvent.TheVariants as rw_event
use Rattle.rw_core.specs.declared.place.Place.{Place as RwPlace}
use Rattle.rw_core.specs.declared.place.Place.TheVariants as rw_place
use Rattle.wait_cores.specs.NotifyMachine as notify
use Rattle.wait_cores.specs.OnceMachine as once
use Rattle.flight_core.specs.FlightMachine.{FlightState}
use Rattle.protocols.specs.MutexStages.{mutex_event as event_of, mutex_meaning}
use Rattle.protocols.specs.RwMutexStages.{rw_event as stage_event, rw_meaning}
use Rattle.protocols.specs.declared.mutex.MutexStage.{MutexStage}
use Rattle.step_runner.specs.declared.turns.object_state.ObjectState.{ObjectState}
use Rattle.step_runner.specs.declared.turns.object_state.ObjectState.TheVariants as states
use Rattle.step_runner.specs.Due.{mutex_due, rw_due, cond_due}
use Rattle.step_runner.specs.Objects.{IsMachineOf}
use Rattle.step_runner.specs.Stages.{make}
use Rattle.step_runner.specs.Stands.{IsOutAt}
use Rattle.step_runner.specs.TurnAtObjects.{turn_on, turn_on_both}
use Rattle.step_runner.specs.MachinesStand.{MutexStands, RwStands}
use Rattle.step_runner.proofs.Makes.{make_moves}

-- ---- what the laws of the machines say

pub record Forms : Type 0 where
  pub map : (call : MapCall (List ℕ)) (m : FinMap (slice_cmp nat_cmp) ℕ) → map_form call (map_reply call m) ≡ true
  pub atomic : (call : AtomicCall) (held : Number) → atomic_form call (atomic_reply call held) ≡ true

pub record Stands : Type 0 where
  pub mutexes : MutexStands
  pub rw_mutexes : RwStands
  pub forms : Forms

-- ---- another's turn leaves a worker out

-- who is out isn't told
pub untold : MutexStands → (m : mutex.State) (x by : ℕ) (e : MutexEvent) → mutex.IsValid m → mutex.place_of m x ≡ mutex_place.Out → mutex_moves.tells x (mutex.next m by e).1 ≡ false
untold law m x by e valid out = by_test (mutex_moves.tells x (mutex.next m by e).1) refl
  where
    by_test : (b : Bool) → mutex_moves.tells x (mutex.next m by e).1 ≡ b → b ≡ false
    by_test true told = let e : mutex_place.Out ≡ mutex_place.Waiting = sym out ∙ (law.told m x by e valid told).1 in cc
    by_test false told = refl

mutex_other : MutexStands → (m : mutex.State) (x by : ℕ) (e : MutexEvent) → mutex.IsValid m → x ≢ by → mutex.place_of m x ≡ mutex_place.Out → mutex.place_of (mutex.next m by e).0 x ≡ mutex_place.Out
mutex_other law m x by e valid apart out = law.unmoved m x by e valid apart (untold law m x by e valid out) ∙ out

-- by the table of moves, who is out stays out
out_stays : (e : RwEvent) (to : RwPlace) → rw_moves.MovesOther e rw_place.Out to → to ≡ rw_place.Out
out_stays rw_event.ReadArrive to moves = moves
out_stays rw_event.ReadTry to moves = moves
out_stays rw_event.ReadUnlock to moves = moves
out_stays (rw_event.WriteArrive now) to moves = moves
out_stays rw_event.WriteTry to moves = moves
out_stays (rw_event.WriteWoken now) to moves = moves
out_stays rw_event.WriteUnlock to moves = moves
out_stays rw_event.Leave to moves = moves

rw_other : RwStands → (m : rw.State) (x by : ℕ) (e : RwEvent) → rw.IsValid m → x ≢ by → rw.place_of m x ≡ rw_place.Out → rw.place_of (rw.next m by e).0 x ≡ rw_place.Out
rw_other law m x by e valid apart out = out_stays e (rw.place_of (rw.next m by e).0 x) (subst (λ (p : RwPlace). rw_moves.MovesOther e p (rw.place_of (rw.next m by e).0 x)) out (law.others m x by e valid apart))

-- whatever stage is due
mutex_made_other : MutexStands → (x by moment : ℕ) (due : Option MutexStage) (m : mutex.State) → mutex.IsValid m → x ≢ by → mutex.place_of m x ≡ mutex_place.Out → mutex.place_of (make mutex.next event_of mutex_meaning by moment due m).0 x ≡ mutex_place.Out
mutex_made_other law x by moment due m valid apart out =
    make_moves mutex.next event_of mutex_meaning by moment (λ n. mutex.place_of n x ≡ mutex_place.Out) due m out (λ e. mutex_other law m x by e valid apart out)

-- at an object of another kind nobody is
pub turn_other : Stands → (workers x by : ℕ) (operation : Operation) (moment : ℕ) (o : ObjectState) → IsMachineOf workers o → x ≢ by → IsOutAt x o → IsOutAt x (turn_on operation by moment o).0
turn_other laws workers x by (operations.Map call) moment (states.Map m) is apart out = tt
turn_other laws workers x by operations.Range moment (states.Map m) is apart out = tt
turn_other laws workers x by (operations.Atomic call) moment (states.Atomic number) is apart out = tt
turn_other laws workers x by (operations.Composed (IfEqual value passes)) moment (states.Atomic number) is apart out = tt
turn_other laws workers x by (operations.Mutex call) moment (states.Mutex m) is apart out = mutex_made_other laws.mutexes x by moment (mutex_due call (mutex.place_of m by)) m is.0 apart out
turn_other laws workers x by (operations.RwMutex call) moment (states.RwMutex m) is apart out =
    make_moves rw.next stage_event rw_meaning by moment (λ n. rw.place_of n x ≡ rw_place.Out) (rw_due call (rw.place_of m by)) m out (λ e. rw_other laws.rw_mutexes m x by e is.0 apart out)
turn_other laws workers x by (operations.WaitGroup call) moment (states.WaitGroup g first) is apart out = tt
turn_other laws workers x by (operations.Sema call) moment (states.Sema s size) is apart out = tt
turn_other laws workers x by operations.OnceFunc moment (states.OnceFunc o code) is apart out = tt
turn_other laws workers x by operations.OnceValue moment (states.OnceValue o value) is apart out = tt
turn_other laws workers x by (operations.Pool call) moment (states.Pool p) is apart out = tt
turn_other laws workers x by (operations.Var call) moment (states.Var held) is apart out = tt
turn_other laws workers x by operation moment o is apart out = out

-- of two objects, each by itself
sum_other : (x by moment : ℕ) (o : once.OnceState ℤ) (place : ℕ) (delta : ℤ) (number : Number) → let new = (turn_on_both operations.Once by moment (states.Once o place delta) (states.Atomic number)).0 in IsOutAt x new.0 × IsOutAt x new.1
sum_other x by moment o place delta (Int64 held) = (tt, tt)
sum_other x by moment o place delta number = (tt, tt)

fly_other : (x by moment : ℕ) (key : List ℕ) (f : FlightState) (keys : List (List ℕ)) (place : ℕ) (delta : ℤ) (number : Number)
    → let new = (turn_on_both (operations.Fly key) by moment (states.Flight f keys place delta) (states.Atomic number)).0 in IsOutAt x new.0 × IsOutAt x new.1
fly_other x by moment key f keys place delta (Int64 held) = (tt, tt)
fly_other x by moment key f keys place delta number = (tt, tt)

pub both_other : Stands → (workers x by : ℕ) (operation : Operation) (moment : ℕ) (o target : ObjectState) → IsMachineOf workers target → x ≢ by → let new = (turn_on_both operation by moment o target).0 in (IsOutAt x o → IsOutAt x new.0) × (IsOutAt x target → IsOutAt x new.1)
both_other laws workers x by (operations.Cond call) moment (states.Cond c place) (states.Mutex m) is apart =
    (λ out. tt, λ out. mutex_made_other laws.mutexes x by moment (cond_due call (mutex.place_of m by) (notify.place_of c by)).1 m is.0 apart out)
both_other laws workers x by operations.Once moment (states.Once o place delta) (states.Atomic number) is apart = let outs = sum_other x by moment o place delta number in (λ out. outs.0, λ out. outs.1)
both_other laws workers x by (operations.Fly key) moment (states.Flight f keys place delta) (states.Atomic number) is apart = let outs = fly_other x by moment key f keys place delta number in (λ out. outs.0, λ out. outs.1)
both_other laws workers x by operation moment o target is apart = (λ out. out, λ out. out)
