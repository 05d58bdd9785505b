-- An atomic stays in its type's range.
use Rattle.std.proofs.Common.{◌≡◌, ℕ, suc, ◌+◌, ◌-◌, ◌<◌, ◌%◌, ◌^◌, Bool, true, false, cond, nat_lt, List, set, refl, sym, subst, arith}
use Rattle.std.specs.Prelude.{ℤ, pos, negsuc}
use Rattle.std.specs.Int.{w64, cast_unsigned, cast_signed, int_wrapping_add}
use Rattle.std.proofs.lemmas.Bool.{ltb-false, lt-ltb}
use Rattle.sync_types.specs.SequentialAtomic.{zero_of, is_signed, is_of, is_atomic_call, atomic_after}
use Rattle.sync_types.specs.SequentialAtomic as atomics
use Rattle.sync_types.specs.declared.atomic_object.AtomicCall.{AtomicCall}
use Rattle.sync_types.specs.declared.atomic_object.AtomicKind.{AtomicKind}
use Rattle.sync_types.specs.declared.atomic_object.Number.{Number}
use Rattle.sync_types.specs.declared.atomic_object.Number.TheVariants.{Int64}
use Rattle.script_calls.specs.declared.call.Call.{Call}
use Rattle.script_calls.specs.declared.call.ComposedCall.TheVariants.{IfEqual}
use Rattle.script_calls.specs.declared.call.Operation.{Operation}
use Rattle.script_calls.specs.declared.call.Operation.TheVariants as operations
use Rattle.wait_cores.specs.OnceMachine as once
use Rattle.workload.specs.declared.object.ObjectKind.{ObjectKind}
use Rattle.workload.specs.declared.object.ObjectKind.TheVariants as kinds
use Rattle.workload.specs.Plan.{has_call}
use Rattle.flight_core.specs.FlightMachine as flight
use Rattle.workload.specs.Keys.{key_number}
use Rattle.step_runner.specs.declared.turns.answer.Answer.{Answer}
use Rattle.step_runner.specs.declared.turns.object_state.ObjectState.{ObjectState}
use Rattle.step_runner.specs.declared.turns.object_state.ObjectState.TheVariants as states
use Rattle.step_runner.specs.AtomicRange.{IsInRange}
use Rattle.step_runner.specs.Objects.{new_object, kind_of, EachAt}
use Rattle.step_runner.specs.Ready.{IsReady}
use Rattle.step_runner.specs.TurnAtObjects.{once_made, turn_on, turn_on_both, turn_at, flight_made}
use Rattle.step_runner.proofs.AtObjects.{each_set, at_ready}
use Rattle.step_runner.proofs.AtomicTypes.{after_type, zero_type}
use Rattle.step_runner.proofs.ObjectKeeps.{number_any, landed_any}

-- what is known of the one-thread atomic
abbrev pub BeginsInRange : Type 0
BeginsInRange = (kind : AtomicKind) → is_of kind (zero_of kind) ≡ true

abbrev pub StaysInRange : Type 0
StaysInRange = (kind : AtomicKind) (call : AtomicCall) (held : Number) → is_of kind held ≡ true → is_atomic_call kind call ≡ true → is_of kind (atomic_after call held) ≡ true

-- no other call changes an atomic
turn_on_stays : StaysInRange → (operation : Operation) (worker moment : ℕ) (o : ObjectState) → has_call (kind_of o) operation ≡ true → IsInRange o → IsInRange (turn_on operation worker moment o).0
turn_on_stays law (operations.Atomic call) worker moment (states.Atomic held) has is =
    subst (λ (kind : AtomicKind). is_of kind (atomic_after call held) ≡ true) (sym (after_type call held has)) (law (atomics.kind_of held) call held is has)
turn_on_stays law (operations.Map call) worker moment (states.Map m) has is = tt
turn_on_stays law (operations.Composed (IfEqual value passes)) worker moment (states.Atomic held) has is = is
turn_on_stays law operations.Range worker moment (states.Map m) has is = tt
turn_on_stays law (operations.Mutex call) worker moment (states.Mutex m) has is = tt
turn_on_stays law (operations.RwMutex call) worker moment (states.RwMutex m) has is = tt
turn_on_stays law (operations.WaitGroup call) worker moment (states.WaitGroup g first) has is = tt
turn_on_stays law (operations.Sema call) worker moment (states.Sema s size) has is = tt
turn_on_stays law operations.OnceFunc worker moment (states.OnceFunc o code) has is = tt
turn_on_stays law operations.OnceValue worker moment (states.OnceValue o value) has is = tt
turn_on_stays law (operations.Pool call) worker moment (states.Pool p) has is = tt
turn_on_stays law (operations.Var call) worker moment (states.Var held) has is = tt
turn_on_stays law operation worker moment o has is = is

-- ---- the sum of a once

signed_by : (half n : ℕ) (b : Bool) → nat_lt n half ≡ b → n < half + half → is_signed half (cond b (pos n) (negsuc (half + half - suc n))) ≡ true
signed_by half n true e lt = e
signed_by half n false e lt = lt-ltb (half + half - suc n) half (omega (arith, ltb-false n half e))

signed_64 : (n : ℕ) → n < 2 ^ 64 → is_signed (2 ^ 63) (cast_signed w64 n) ≡ true
signed_64 n lt = signed_by (2 ^ 63) n (nat_lt n (2 ^ 63)) refl lt

-- a sum that wraps is in range, whatever is added
sum_in_range : (a b : ℤ) → is_signed (2 ^ 63) (int_wrapping_add w64 a b) ≡ true
sum_in_range a b = signed_64 ((cast_unsigned w64 a + cast_unsigned w64 b) % 2 ^ 64) (omega arith)

abbrev BothStay : (ObjectState × ObjectState) × Answer → Type 0
BothStay step = IsInRange step.0.0 × IsInRange step.0.1

sum_stays : (worker moment : ℕ) (o : once.OnceState ℤ) (place : ℕ) (delta : ℤ) (number : Number) → IsInRange (states.Atomic number) → BothStay (turn_on_both operations.Once worker moment (states.Once o place delta) (states.Atomic number))
sum_stays worker moment o place delta (Int64 held) was =
    let sum = int_wrapping_add w64 held delta in
    (tt, number_any (λ number. IsInRange (states.Atomic number)) (once_made worker moment sum o).1 (Int64 sum) (Int64 held) (sum_in_range held delta) was)
sum_stays worker moment o place delta number was = (tt, was)

fly_stays : (key : List ℕ) (worker moment : ℕ) (f : flight.FlightState) (keys : List (List ℕ)) (place : ℕ) (delta : ℤ) (number : Number) → IsInRange (states.Atomic number)
    → BothStay (turn_on_both (operations.Fly key) worker moment (states.Flight f keys place delta) (states.Atomic number))
fly_stays key worker moment f keys place delta (Int64 held) was =
    let sum = int_wrapping_add w64 held delta in
    (tt, landed_any (λ number. IsInRange (states.Atomic number)) (flight_made worker moment (key_number keys key) sum f).1 (Int64 sum) (Int64 held) (sum_in_range held delta) was)
fly_stays key worker moment f keys place delta number was = (tt, was)

both_stay : (operation : Operation) (worker moment : ℕ) (o target : ObjectState) → IsInRange o → IsInRange target → BothStay (turn_on_both operation worker moment o target)
both_stay (operations.Cond call) worker moment (states.Cond c place) (states.Mutex m) is was = (tt, tt)
both_stay operations.Once worker moment (states.Once o place delta) (states.Atomic number) is was = sum_stays worker moment o place delta number was
both_stay (operations.Fly key) worker moment (states.Flight f keys place delta) (states.Atomic number) is was = fly_stays key worker moment f keys place delta number was
both_stay operation worker moment o target is was = (is, was)

-- ---- all objects

pub at_stays : StaysInRange → (workers worker : ℕ) (call : Call) (moment : ℕ) (objects : List ObjectState) → IsReady workers worker call objects → EachAt (λ place. IsInRange) objects → EachAt (λ place. IsInRange) (turn_at call worker moment objects).0
at_stays law workers worker call moment objects r are = at_ready (λ x. EachAt (λ place. IsInRange) x.0) workers worker call moment objects r
    (λ st. each_set (λ place. IsInRange) objects call.object (turn_on call.operation worker moment r.object).0 are (turn_on_stays law call.operation worker moment r.object st.has (are call.object r.object st.at)))
    (λ other target st.
    let new = turn_on_both call.operation worker moment r.object target in
    let stay = both_stay call.operation worker moment r.object target (are call.object r.object st.at) (are other target st.there) in
    each_set (λ place. IsInRange) (set objects call.object new.0.0) other new.0.1 (each_set (λ place. IsInRange) objects call.object new.0.0 are stay.0) stay.1)

pub new_range : BeginsInRange → (workers room : ℕ) (keys : List (List ℕ)) (kind : ObjectKind) → IsInRange (new_object workers room keys kind)
new_range law workers room keys (kinds.Atomic kind) = subst (λ (type : AtomicKind). is_of type (zero_of kind) ≡ true) (sym (zero_type kind)) (law kind)
new_range law workers room keys kind = tt
