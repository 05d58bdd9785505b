-- That each call of a workload without plain variables begins in a list that has nothing more: no list is wrong before it has an item.
use Rattle.std.proofs.Common.{◌≡◌, ◌∙◌, ℕ, zero, suc, Bool, true, false, ◌||◌, cond, List, [], ◌∷◌, get_or, slice_get, Option, Some, None, refl, sym, ap}
use Rattle.std.proofs.lemmas.Bool.{and_parts, false≢true}
use Rattle.std.specs.List.{list_all, list_any, range_with_len}
use Rattle.script_calls.specs.declared.call.Call.{Call}
use Rattle.script_calls.specs.declared.call.ComposedCall.TheVariants.{IfEqual, WaitFor, Go}
use Rattle.script_calls.specs.declared.call.Operation.{Operation}
use Rattle.script_calls.specs.declared.call.Operation.TheVariants as operations
use Rattle.script_calls.specs.Starts.{group_of}
use Rattle.sync_types.specs.declared.lock_call.RwMutexCall.{RwMutexCall}
use Rattle.sync_types.specs.declared.lock_call.RwMutexCall.TheVariants as rw_calls
use Rattle.sync_types.specs.declared.atomic_object.Number.{Number}
use Rattle.sync_types.specs.declared.pool_call.PoolCall.{PoolCall}
use Rattle.sync_types.specs.declared.pool_call.PoolCall.TheVariants as pool_calls
use Rattle.sync_types.specs.declared.wait_call.CondCall.{CondCall}
use Rattle.sync_types.specs.declared.wait_call.CondCall.TheVariants as cond_calls
use Rattle.pool_core.specs.declared.pool_event.PoolEvent.{PoolEvent}
use Rattle.workload.specs.declared.object.ObjectKind.{ObjectKind}
use Rattle.workload.specs.declared.object.ObjectKind.TheVariants as kinds
use Rattle.workload.specs.declared.object.ObjectLine.{ObjectLine}
use Rattle.workload.specs.Dialect.{has_variables, is_variable}
use Rattle.workload.specs.Plan.{Plan, has_among, has_dormant, is_dormant, is_on, is_valid}
use Rattle.run_record.specs.Objects.{atomic_number, first_part, starts_number}
use Rattle.run_record.specs.PoolKind.{looks_of}
use Rattle.run_record.specs.Record.{object_number}
use Rattle.run_cuts.specs.CallCuts.{at_cut, call_cut, on_cut}
use Rattle.run_cuts.specs.CondCuts.{cond_cut}
use Rattle.run_cuts.specs.Cuts.{Cutter, returns_cut, then_cut, wrong}
use Rattle.run_cuts.specs.PoolCuts.{found_by_cut, pool_cut, swept_by_cut}
use Rattle.run_cuts.specs.RwMutexCuts.{rw_mutex_cut}
use Rattle.run_cuts.specs.StartsCuts.{closing_cut, done_cut, done_under_cut, end_cut}
use Rattle.run_cuts.specs.WaitForCuts.{wait_for_cut}
use Rattle.run_cuts.proofs.CutLemmas.{whole_wrong, within_wrong}

-- a list that has nothing more may begin with the part
abbrev pub Begins : {O : Type 0} → Cutter O → Type 0
Begins {O} cut = cut [] ≡ wrong → ⊥

looks_begin : (worker first : ℕ) (looks : List (PoolEvent ℕ)) → Begins (found_by_cut worker first looks)
looks_begin worker first [] e = whole_wrong _ _ _ e
looks_begin worker first (look ∷ looks) e = within_wrong e

sweeps_begin : (first : ℕ) (parts : List ℕ) → Begins (swept_by_cut first parts)
sweeps_begin first [] e = whole_wrong _ _ _ e
sweeps_begin first (part ∷ parts) e = within_wrong e

pool_begins : (workers worker first : ℕ) (call : PoolCall) → Begins (pool_cut workers worker first call)
pool_begins workers worker first (pool_calls.Put item) e = within_wrong e
pool_begins workers worker first pool_calls.Get e = looks_begin worker first (looks_of workers worker) e
pool_begins workers worker first pool_calls.Sweep e = sweeps_begin first (range_with_len 0 workers) e

cond_begins : (cond mutex : ℕ) (call : CondCall) → Begins (cond_cut cond mutex call)
cond_begins cond mutex cond_calls.Wait e = within_wrong e
cond_begins cond mutex cond_calls.Signal e = within_wrong e
cond_begins cond mutex cond_calls.Broadcast e = within_wrong e

wait_for_begins : (cond mutex a : ℕ) (value : Number) (tries : ℕ) → Begins (wait_for_cut cond mutex a value tries)
wait_for_begins cond mutex a value zero e = within_wrong e
wait_for_begins cond mutex a value (suc tries) e = within_wrong e

rw_begins : (object : ℕ) (call : RwMutexCall) → Begins (rw_mutex_cut object call)
rw_begins object rw_calls.Lock e = within_wrong e
rw_begins object call e = within_wrong e

module _ (plan : Plan) where
  on_begins : (worker before place : ℕ) (kind : ObjectKind) (operation : Operation) → is_variable kind ≡ false → has_among plan.objects kind operation ≡ true → Begins (on_cut plan worker before place kind operation)
  on_begins worker before place kinds.Map (operations.Map call) plain has e = within_wrong e
  on_begins worker before place kinds.Map operations.Range plain has e = within_wrong e
  on_begins worker before place (kinds.Atomic type) (operations.Atomic call) plain has e = within_wrong e
  on_begins worker before place (kinds.Atomic type) (operations.Composed (IfEqual value passes)) plain has e = within_wrong e
  on_begins worker before place kinds.Mutex (operations.Mutex call) plain has e = within_wrong e
  on_begins worker before place kinds.RwMutex (operations.RwMutex call) plain has e = rw_begins (object_number place) call e
  on_begins worker before place (kinds.Cond mutex) (operations.Cond call) plain has e = cond_begins (object_number place) (object_number mutex) call e
  on_begins worker before place (kinds.Cond mutex) (operations.Composed (WaitFor atomic value tries)) plain has e =
      wait_for_begins (object_number place) (object_number mutex) (atomic_number plan.objects atomic) value tries e
  on_begins worker before place (kinds.WaitGroup start) (operations.WaitGroup call) plain has e = within_wrong e
  on_begins worker before place (kinds.WaitGroup start) (operations.Composed (Go started)) plain has e = within_wrong e
  on_begins worker before place (kinds.Once atomic delta) operations.Once plain has e = within_wrong e
  on_begins worker before place (kinds.OnceFunc code) operations.OnceFunc plain has e = within_wrong e
  on_begins worker before place (kinds.OnceValue value) operations.OnceValue plain has e = within_wrong e
  on_begins worker before place kinds.Pool (operations.Pool call) plain has e = pool_begins plan.workers worker (first_part plan place) call e
  on_begins worker before place (kinds.Sema size) (operations.Sema call) plain has e = within_wrong e
  on_begins worker before place (kinds.Flight atomic delta) (operations.Fly key) plain has e = within_wrong e
  on_begins worker before place kinds.Var operation plain has e = false≢true (sym plain)
  on_begins worker before place kind operation plain has e = false≢true has

  no_variable : (objects : List ObjectLine) (place : ℕ) (object : ObjectLine) → list_any (λ (o : ObjectLine). is_variable o.kind) objects ≡ false → slice_get objects place ≡ Some object → is_variable object.kind ≡ false
  no_variable [] place object none at = absurd cc
  no_variable (first ∷ objects) zero object none at = by first object (is_variable first.kind) refl none (let same : first ≡ object = cc in same) where
    by : (first object : ObjectLine) (b : Bool) → is_variable first.kind ≡ b → list_any (λ (o : ObjectLine). is_variable o.kind) (first ∷ objects) ≡ false → first ≡ object → is_variable object.kind ≡ false
    by first object true is none same = absurd (false≢true (sym none ∙ ap (λ (b : Bool). b || list_any (λ (o : ObjectLine). is_variable o.kind) objects) is))
    by first object false is none same = ap (λ (o : ObjectLine). is_variable o.kind) (sym same) ∙ is
  no_variable (first ∷ objects) (suc place) object none at = no_variable objects place object (later (is_variable first.kind) (list_any (λ (o : ObjectLine). is_variable o.kind) objects) none) at where
    later : (a b : Bool) → (a || b) ≡ false → b ≡ false
    later true b e = absurd (false≢true (sym e))
    later false b e = e

  pub call_begins : (worker before : ℕ) (call : Call) → has_variables plan ≡ false → is_on plan.objects (slice_get plan.objects call.object) call ≡ true → Begins (call_cut plan worker before call)
  call_begins worker before call none on = by (slice_get plan.objects call.object) refl on where
    by : (found : Option ObjectLine) → slice_get plan.objects call.object ≡ found → is_on plan.objects found call ≡ true → Begins (at_cut plan worker before call.object found call.operation)
    by None at on e = false≢true on
    by (Some object) at on e = on_begins worker before call.object object.kind call.operation (no_variable plan.objects call.object object none at) on e

  pub closing_begins : (worker : ℕ) → Begins (closing_cut plan worker)
  closing_begins worker = by (has_dormant plan) where
    under : (group : Option ℕ) → Begins (then_cut (done_under_cut group) (λ done. end_cut (starts_number plan)))
    under None e = within_wrong e
    under (Some group) e = within_wrong e

    done : (b : Bool) → Begins (then_cut (cond b (done_under_cut (group_of worker plan.scripts)) (returns_cut tt)) (λ done. end_cut (starts_number plan)))
    done true e = under (group_of worker plan.scripts) e
    done false e = within_wrong e

    by : (b : Bool) → Begins (cond b (then_cut (done_cut plan worker) (λ done. end_cut (starts_number plan))) (returns_cut tt))
    by true e = done (is_dormant plan worker) e
    by false e = whole_wrong _ _ _ e

  -- each call of the script of a worker
  pub script_is_on : (worker : ℕ) → is_valid plan ≡ true → list_all (λ (call : Call). is_on plan.objects (slice_get plan.objects call.object) call) (get_or plan.scripts worker []) ≡ true
  script_is_on worker valid = among plan.scripts worker (and_parts _ _ (and_parts _ _ valid).1).0 where
    among : (scripts : List (List Call)) (worker : ℕ) → list_all (list_all (λ (call : Call). is_on plan.objects (slice_get plan.objects call.object) call)) scripts ≡ true
        → list_all (λ (call : Call). is_on plan.objects (slice_get plan.objects call.object) call) (get_or scripts worker []) ≡ true
    among [] worker all = refl
    among (script ∷ scripts) zero all = (and_parts _ _ all).0
    among (script ∷ scripts) (suc worker) all = among scripts worker (and_parts _ _ all).1
