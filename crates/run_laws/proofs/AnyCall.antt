-- That each call but a range is spelt in one way: a line for each operation of each kind of object. An object of another kind has no such call.
use Rattle.std.proofs.Common.{◌≡◌, ℕ, zero, suc, Bool, true, false, Option, Some, None, List, [], ◌∷◌, map, slice_get, refl, subst}
use Rattle.std.specs.Prelude.{◌&&◌}
use Rattle.std.specs.List.{list_all}
use Rattle.std.proofs.lemmas.Bool.{false≢true}
use Rattle.std.proofs.lemmas.Option.{none-some, same_Some}
use Rattle.script_calls.specs.declared.call.Call.{Call}
use Rattle.script_calls.specs.declared.call.ComposedCall.TheVariants.{IfEqual, WaitFor, Go}
use Rattle.script_calls.specs.declared.call.Operation.{Operation}
use Rattle.script_calls.specs.declared.call.Operation.TheVariants as operations
use Rattle.workload.specs.declared.object.ObjectKind.{ObjectKind}
use Rattle.workload.specs.declared.object.ObjectKind.TheVariants as kinds
use Rattle.workload.specs.declared.object.ObjectLine.{ObjectLine}
use Rattle.workload.specs.Keys.{keys_in, key_number}
use Rattle.workload.specs.Plan.{Plan}
use Rattle.run_record.specs.Lines.{SpeltCall}
use Rattle.run_record.specs.Calls.{SpellsCall, call_at, call_on}
use Rattle.run_record.specs.Objects.{map_number, atomic_number, first_part, starts_number}
use Rattle.run_record.specs.Record.{object_number}
use Rattle.run_laws.specs.NoRanges.{is_no_range}
use Rattle.run_laws.specs.OneSpelling.{IsCertain}
use Rattle.run_laws.proofs.CallsOneWay.{map_certain, atomic_certain, if_equal_certain, wait_for_certain, mutex_certain, rw_mutex_certain, cond_certain, wait_group_certain, go_certain, do_certain, func_certain, value_certain, pool_certain, sema_certain, fly_certain}
use Rattle.run_laws.proofs.LinesOneWay.{AreCertain}
use Rattle.run_laws.proofs.OneWay.{never_certain}
use Rattle.run_laws.proofs.WritesOneWay.{LocksEnd}
use Rattle.run_laws.proofs.PlainCalls.{list_all_at}

module _ (law : LocksEnd) (plan : Plan) (worker before place : ℕ) where
  on_kind : (kind : ObjectKind) (operation : Operation) → is_no_range operation ≡ true → IsCertain (call_on plan worker before place kind operation)
  on_kind kinds.Map (operations.Map of) none = map_certain (keys_in plan.scripts) (map_number plan.objects place) of
  on_kind kinds.Map operations.Range none = absurd (false≢true none)
  on_kind (kinds.Atomic type) (operations.Atomic of) none = atomic_certain (atomic_number plan.objects place) of
  on_kind (kinds.Atomic type) (operations.Composed (IfEqual value passes)) none = if_equal_certain (atomic_number plan.objects place) value
  on_kind kinds.Mutex (operations.Mutex of) none = mutex_certain (object_number place) of
  on_kind kinds.RwMutex (operations.RwMutex of) none = rw_mutex_certain law (object_number place) of
  on_kind (kinds.Cond mutex) (operations.Cond of) none = cond_certain (object_number place) (object_number mutex) of
  on_kind (kinds.Cond mutex) (operations.Composed (WaitFor atomic value tries)) none = wait_for_certain (object_number place) (object_number mutex) (atomic_number plan.objects atomic) value tries
  on_kind (kinds.WaitGroup start) (operations.WaitGroup of) none = wait_group_certain (object_number place) of
  on_kind (kinds.WaitGroup start) (operations.Composed (Go started)) none = go_certain (object_number place) (starts_number plan) started
  on_kind (kinds.Once atomic delta) operations.Once none = do_certain (object_number place) (atomic_number plan.objects atomic) delta
  on_kind (kinds.OnceFunc code) operations.OnceFunc none = func_certain (object_number place) code
  on_kind (kinds.OnceValue value) operations.OnceValue none = value_certain (object_number place) value
  on_kind kinds.Pool (operations.Pool of) none = pool_certain plan.workers worker (first_part plan place) of
  on_kind (kinds.Sema size) (operations.Sema of) none = sema_certain (object_number place) of
  on_kind (kinds.Flight atomic delta) (operations.Fly key) none = fly_certain (object_number place) (atomic_number plan.objects atomic) delta (key_number (keys_in plan.scripts) key)
  on_kind kind operation none = never_certain

  on_object : (object : Option ObjectLine) (operation : Operation) → is_no_range operation ≡ true → IsCertain (call_at plan worker before place object operation)
  on_object None operation none = never_certain
  on_object (Some object) operation none = on_kind object.kind operation none

pub any_certain : LocksEnd → (plan : Plan) (worker before : ℕ) (call : Call) → is_no_range call.operation ≡ true → IsCertain (SpellsCall plan worker before call)
any_certain law plan worker before call none = on_object law plan worker before call.object (slice_get plan.objects call.object) call.operation none

pub all_certain : LocksEnd → (plan : Plan) (worker : ℕ) (script : List Call) → list_all (λ (call : Call). is_no_range call.operation) script ≡ true → AreCertain plan worker script
all_certain law plan worker script none i before call at = any_certain law plan worker before call (list_all_at (λ (c : Call). is_no_range c.operation) script i call none at)

all_later : (s : SpeltCall) (spelt : List SpeltCall) → list_all (λ (call : SpeltCall). is_no_range call.call.operation) (s ∷ spelt) ≡ true → list_all (λ (call : SpeltCall). is_no_range call.call.operation) spelt ≡ true
all_later s spelt none = by_first (is_no_range s.call.operation) none where
  by_first : (b : Bool) → (b && list_all (λ (call : SpeltCall). is_no_range call.call.operation) spelt) ≡ true → list_all (λ (call : SpeltCall). is_no_range call.call.operation) spelt ≡ true
  by_first true all = all
  by_first false all = absurd (false≢true all)

pub certain_calls : LocksEnd → (plan : Plan) (worker : ℕ) (spelt : List SpeltCall) → list_all (λ (call : SpeltCall). is_no_range call.call.operation) spelt ≡ true → AreCertain plan worker (map (λ (call : SpeltCall). call.call) spelt)
certain_calls law plan worker [] none i before call at = absurd (none-some call at)
certain_calls law plan worker (s ∷ spelt) none zero before call at = any_certain law plan worker before call (subst (λ (c : Call). is_no_range c.operation ≡ true) (same_Some s.call call at) (list_all_at (λ (c : SpeltCall). is_no_range c.call.operation) (s ∷ spelt) 0 s none refl))
certain_calls law plan worker (s ∷ spelt) none (suc i) before call at = certain_calls law plan worker spelt (all_later s spelt none) i before call at
