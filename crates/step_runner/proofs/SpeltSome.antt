-- Each call is spelt by some items.
use Rattle.std.proofs.Common.{◌≡◌, ◌≢◌, ℕ, ℤ, zero, suc, ◌*◌, ◌<◌, List, [], ◌∷◌, ◌++◌, map, Option, Some, None, refl, sym, ◌∙◌, arith}
use Rattle.std.specs.Prelude.{slice_get}
use Rattle.std.specs.List.{range_with_len}
use Rattle.sync_model.specs.declared.item.SharedCall.{SharedCall}
use Rattle.sync_model.specs.declared.item.SharedReply.{SharedReply}
use Rattle.protocols.specs.Spelling.{CallAnswer}
use Rattle.protocols.specs.declared.step.Step.{Step}
use Rattle.pool_core.specs.Looks.{look}
use Rattle.script_calls.specs.declared.call.Call.{Call}
use Rattle.script_calls.specs.declared.call.ComposedCall.TheVariants.{IfEqual, WaitFor, Go}
use Rattle.script_calls.specs.declared.call.Operation.{Operation}
use Rattle.script_calls.specs.declared.call.Operation.TheVariants as operations
use Rattle.sync_types.specs.declared.atomic_object.AtomicCall.{AtomicCall}
use Rattle.sync_types.specs.declared.atomic_object.AtomicKind.{AtomicKind}
use Rattle.sync_types.specs.declared.atomic_object.Number.{Number}
use Rattle.sync_types.specs.declared.lock_call.RwMutexCall.{RwMutexCall}
use Rattle.sync_types.specs.declared.lock_call.RwMutexCall.TheVariants as rw_calls
use Rattle.sync_types.specs.declared.pool_call.PoolCall.TheVariants as pool_calls
use Rattle.sync_types.specs.declared.wait_call.CondCall.TheVariants as cond_calls
use Rattle.sync_types.specs.declared.wait_call.WaitGroupCall.TheVariants as group_calls
use Rattle.workload.specs.declared.object.ObjectKind.{ObjectKind}
use Rattle.workload.specs.declared.object.ObjectKind.TheVariants as kinds
use Rattle.workload.specs.declared.object.ObjectLine.{ObjectLine}
use Rattle.workload.specs.Plan.{Plan, reference_of}
use Rattle.run_record.specs.declared.entered.ObjectEvent.{ObjectEvent}
use Rattle.run_record.specs.declared.entered.ObjectReply.{ObjectReply}
use Rattle.run_record.specs.declared.made.Made.{Made}
use Rattle.run_record.specs.declared.made.Made.TheVariants.{Shared}
use Rattle.run_record.specs.AtomicKind.{atomic_call}
use Rattle.run_record.specs.Calls.{call_on, call_at, SpellsCall}
use Rattle.run_record.specs.Parts.{Part, and_then, read_as, stages, Places}
use Rattle.run_record.specs.PoolKind.{found_by, swept_by}
use Rattle.run_record.specs.RwMutexKind.{write_part, rw_part}
use Rattle.run_record.specs.Tests.{tests, waits_for}
use Rattle.step_runner.specs.declared.turns.object_state.ObjectState.{ObjectState}
use Rattle.step_runner.specs.declared.turns.object_state.ObjectState.TheVariants as states
use Rattle.step_runner.specs.Left.{left_on, left_beside, left_by, left_found}
use Rattle.step_runner.specs.Objects.{kind_of}
use Rattle.step_runner.specs.StandsWithin.{left_within}
use Rattle.step_runner.specs.TurnWithin.{done_on}

-- ---- parts

-- whatever spells the part, there are items
abbrev pub Makes : {O : Type 0} → Part O → Type 0
Makes {O = O} part = (items : List Made) (answer : CallAnswer O) → part items answer → items ≢ []

first_none : (earlier later : List Made) → earlier ++ later ≡ [] → earlier ≡ []
first_none [] later none = refl
first_none (x ∷ earlier) later none = absurd cc

read_makes : {O P : Type 0} (f : O → P) (part : Part O) → Makes part → Makes (read_as f part)
read_makes f part makes items answer (given, spelt, read) = makes items given spelt

then_makes : {O P : Type 0} (first : Part O) (next : O → Part P) → Makes first → Makes (and_then first next)
then_makes first next makes items answer (earlier, later, given, is, spelt, rest) none = makes earlier given spelt (first_none earlier later (sym is ∙ none))

placed : (call : SharedCall × SharedReply) (calls : List (SharedCall × SharedReply)) (items : List Made) → Places (call ∷ calls) items → items ≢ []
placed call calls items ([], is, are) none = absurd cc
placed call calls items (x ∷ made, is, are) none = let clash : Shared x ∷ map Shared made ≡ [] = sym is ∙ none in cc

stages_make : {E R G O : Type 0} (event : E → ObjectEvent) (reply : R → ObjectReply) (event_of : G → ℕ → E) (meaning : G → R → Step G O) (object : ℕ) (stage : G) → Makes (stages event reply event_of meaning object stage)
stages_make event reply event_of meaning object stage items answer ([], is, spelt) none = spelt
stages_make event reply event_of meaning object stage items answer (entry ∷ entries, is, spelt) none = let e = sym is ∙ none in cc

-- ---- calls

atomic_makes : (a : ℕ) (call : AtomicCall) → Makes (atomic_call a call)
atomic_makes a call items answer (reply, places, answered) = placed _ [] items places

tests_make : (a : ℕ) (value : Number) → Makes (tests a value)
tests_make a value = read_makes _ (atomic_call a _) (atomic_makes a _)

waits_make : (cond mutex a : ℕ) (value : Number) (tries : ℕ) → Makes (waits_for cond mutex a value tries)
waits_make cond mutex a value zero = tests_make a value
waits_make cond mutex a value (suc tries) = then_makes (tests a value) _ (tests_make a value)

write_makes : (object : ℕ) → Makes (write_part object)
write_makes object items answer ([], is, ([], same, spelt)) none = spelt
write_makes object items answer ([], is, (deed ∷ spelt, same, spells)) none = cc
write_makes object items answer (entry ∷ entries, is, spelt) none = let e = sym is ∙ none in cc

rw_makes : (object : ℕ) (call : RwMutexCall) → Makes (rw_part object call)
rw_makes object rw_calls.Lock = write_makes object
rw_makes object rw_calls.Unlock = stages_make _ _ _ _ _ _
rw_makes object rw_calls.TryLock = stages_make _ _ _ _ _ _
rw_makes object rw_calls.RLock = stages_make _ _ _ _ _ _
rw_makes object rw_calls.RUnlock = stages_make _ _ _ _ _ _
rw_makes object rw_calls.TryRLock = stages_make _ _ _ _ _ _

-- a pool's calls are made by a worker that is there
module _ (workers worker first : ℕ) (below : worker < workers) where
  swept : (n : ℕ) → worker < n → Makes (swept_by first (range_with_len 0 n))
  swept zero below = absurd (omega (arith, below))
  swept (suc n) below = then_makes _ _ (stages_make _ _ _ _ _ _)

  looked : (n : ℕ) → worker < n → Makes (found_by worker first (map (look workers worker) (range_with_len 0 (2 * n))))
  looked n below = by_count (2 * n) (omega (arith, below))
    where
      by_count : (count : ℕ) → 0 < count → Makes (found_by worker first (map (look workers worker) (range_with_len 0 count)))
      by_count zero some = absurd (omega (arith, some))
      by_count (suc count) some = then_makes _ _ (stages_make _ _ _ _ _ _)

module _ (plan : Plan) (worker before place : ℕ) (below : worker < plan.workers) where
  abbrev SomeOn : ObjectKind → Operation → Type 0
  SomeOn kind operation = Makes (call_on plan worker before place kind operation)

  on_map : (operation : Operation) → SomeOn kinds.Map operation
  on_map (operations.Map call) items answer (reply, places, answered) = placed _ [] items places
  on_map operations.Range items answer (shown, pairs, places, sorted, answered) = placed _ _ items places
  on_map operation items answer never = absurd never

  on_atomic : (type : AtomicKind) (operation : Operation) → SomeOn (kinds.Atomic type) operation
  on_atomic type (operations.Atomic call) = atomic_makes _ call
  on_atomic type (operations.Composed (IfEqual value passes)) = read_makes _ _ (tests_make _ value)
  on_atomic type operation = λ items answer never. absurd never

  on_cond : (mutex : ℕ) (operation : Operation) → SomeOn (kinds.Cond mutex) operation
  on_cond mutex (operations.Cond cond_calls.Wait) = then_makes _ _ (stages_make _ _ _ _ _ _)
  on_cond mutex (operations.Cond cond_calls.Signal) = read_makes _ _ (stages_make _ _ _ _ _ _)
  on_cond mutex (operations.Cond cond_calls.Broadcast) = read_makes _ _ (stages_make _ _ _ _ _ _)
  on_cond mutex (operations.Composed (WaitFor atomic value tries)) = read_makes _ _ (waits_make _ _ _ value tries)
  on_cond mutex operation = λ items answer never. absurd never

  on_group : (start : ℕ) (operation : Operation) → SomeOn (kinds.WaitGroup start) operation
  on_group start (operations.WaitGroup call) = read_makes _ _ (stages_make _ _ _ _ _ _)
  on_group start (operations.Composed (Go started)) = then_makes _ _ (read_makes _ _ (stages_make _ _ _ _ _ _))
  on_group start operation = λ items answer never. absurd never

  on_pool : (operation : Operation) → SomeOn kinds.Pool operation
  on_pool (operations.Pool (pool_calls.Put item)) = read_makes _ _ (stages_make _ _ _ _ _ _)
  on_pool (operations.Pool pool_calls.Get) = looked plan.workers worker _ below plan.workers below
  on_pool (operations.Pool pool_calls.Sweep) = swept plan.workers worker _ below plan.workers below
  on_pool operation = λ items answer never. absurd never

  on_mutex : (operation : Operation) → SomeOn kinds.Mutex operation
  on_mutex (operations.Mutex call) = read_makes _ _ (stages_make _ _ _ _ _ _)
  on_mutex operation = λ items answer never. absurd never

  on_rw : (operation : Operation) → SomeOn kinds.RwMutex operation
  on_rw (operations.RwMutex call) = read_makes _ _ (rw_makes _ call)
  on_rw operation = λ items answer never. absurd never

  on_once : (atomic : ℕ) (delta : ℤ) (operation : Operation) → SomeOn (kinds.Once atomic delta) operation
  on_once atomic delta operations.Once = then_makes _ _ (stages_make _ _ _ _ _ _)
  on_once atomic delta operation = λ items answer never. absurd never

  on_sema : (size : ℕ) (operation : Operation) → SomeOn (kinds.Sema size) operation
  on_sema size (operations.Sema call) = read_makes _ _ (stages_make _ _ _ _ _ _)
  on_sema size operation = λ items answer never. absurd never

  on_flight : (atomic : ℕ) (delta : ℤ) (operation : Operation) → SomeOn (kinds.Flight atomic delta) operation
  on_flight atomic delta (operations.Fly key) = then_makes _ _ (stages_make _ _ _ _ _ _)
  on_flight atomic delta operation = λ items answer never. absurd never

  on_func : (code : ℕ) (operation : Operation) → SomeOn (kinds.OnceFunc code) operation
  on_func code operations.OnceFunc = then_makes _ _ (stages_make _ _ _ _ _ _)
  on_func code operation = λ items answer never. absurd never

  on_value : (value : ℕ) (operation : Operation) → SomeOn (kinds.OnceValue value) operation
  on_value value operations.OnceValue = then_makes _ _ (stages_make _ _ _ _ _ _)
  on_value value operation = λ items answer never. absurd never

  on_kind : (kind : ObjectKind) (operation : Operation) → SomeOn kind operation
  on_kind kinds.Map operation = on_map operation
  on_kind (kinds.Atomic type) operation = on_atomic type operation
  on_kind kinds.Mutex operation = on_mutex operation
  on_kind kinds.RwMutex operation = on_rw operation
  on_kind (kinds.Cond mutex) operation = on_cond mutex operation
  on_kind (kinds.WaitGroup start) operation = on_group start operation
  on_kind (kinds.Once atomic delta) operation = on_once atomic delta operation
  on_kind (kinds.OnceFunc code) operation = on_func code operation
  on_kind (kinds.OnceValue value) operation = on_value value operation
  on_kind kinds.Pool operation = on_pool operation
  on_kind (kinds.Sema size) operation = on_sema size operation
  on_kind (kinds.Flight atomic delta) operation = on_flight atomic delta operation
  on_kind kinds.Var operation = λ items answer never. absurd never

  at_line : (o : Option ObjectLine) (operation : Operation) → Makes (call_at plan worker before place o operation)
  at_line None operation = λ items answer never. absurd never
  at_line (Some line) operation = on_kind line.kind operation

-- a call of a worker that is there is spelt by some items
pub some_spell : (plan : Plan) (worker before : ℕ) (call : Call) → worker < plan.workers → Makes (SpellsCall plan worker before call)
some_spell plan worker before call below = at_line plan worker before call.object below (slice_get plan.objects call.object) call.operation

-- ---- what is left of a `done`

module _ (plan : Plan) (worker before group : ℕ) (objects : List ObjectState) where
  abbrev done : Operation
  done = operations.WaitGroup group_calls.Done

  left_beside_none : (o : ObjectState) (other : ℕ) (target : Option ObjectState) → Makes (left_beside plan worker before (done_on group) other o target)
  left_beside_none o other None items answer never = absurd never
  left_beside_none o other (Some target) items answer never = absurd never

  left_on_some : (o : ObjectState) → Makes (left_on plan worker before group done o)
  left_on_some (states.WaitGroup g first) = read_makes _ _ (stages_make _ _ _ _ _ _)
  left_on_some o = λ items answer never. absurd never

  left_by_some : (reference : Option ℕ) (o : ObjectState) → Makes (left_by plan worker before (done_on group) reference objects o)
  left_by_some None o = left_on_some o
  left_by_some (Some other) o = left_beside_none o other (slice_get objects other)

  left_found_some : (o : Option ObjectState) → Makes (left_found plan worker before (done_on group) o objects)
  left_found_some None = λ items answer never. absurd never
  left_found_some (Some o) = left_by_some (reference_of (kind_of o)) o

  pub some_left : (begun : ℕ) → Makes (left_within plan worker before (done_on group) objects begun)
  some_left begun = left_found_some (slice_get objects group)
