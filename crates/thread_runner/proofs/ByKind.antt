-- Calls of a script, by the kind of their object.
use Rattle.std.proofs.Common.{◌≡◌, ℕ, List, true, false, Option, Some, None, slice_get, refl, sym, ap, ◌∙◌, subst}
use Rattle.std.specs.Prelude.{IfSome}
use Rattle.std.specs.Option.{option_map_or}
use Rattle.std.proofs.lemmas.Bool.{false≢true}
use Rattle.std.proofs.lemmas.Option.{same_Some}
use Rattle.sync_types.specs.declared.atomic_object.AtomicCall.{AtomicCall}
use Rattle.sync_types.specs.declared.atomic_object.AtomicKind.{AtomicKind}
use Rattle.sync_types.specs.declared.atomic_object.Number.{Number}
use Rattle.script_calls.specs.declared.call.Call.{Call}
use Rattle.script_calls.specs.declared.call.ComposedCall.{ComposedCall}
use Rattle.script_calls.specs.declared.call.ComposedCall.TheVariants.{IfEqual, WaitFor, Go}
use Rattle.script_calls.specs.declared.call.Operation.{Operation}
use Rattle.script_calls.specs.declared.call.Operation.TheVariants as operations
use Rattle.script_calls.specs.declared.call.Reply.{Reply}
use Rattle.script_calls.specs.declared.call.VarCall.{VarCall}
use Rattle.sync_types.specs.declared.map_object.MapCall.{MapCall}
use Rattle.sync_types.specs.declared.pool_call.PoolCall.{PoolCall}
use Rattle.protocols.specs.Spelling.{CallAnswer}
use Rattle.workload.specs.declared.object.ObjectKind.{ObjectKind}
use Rattle.workload.specs.declared.object.ObjectKind.TheVariants as kinds
use Rattle.workload.specs.Plan.{Plan, has_among, has_call, has_dormant, is_on, may_hold, starts_dormant}
use Rattle.workload.specs.declared.object.ObjectLine.{ObjectLine}
use Rattle.workload.specs.Dialect.{has_variables}
use Rattle.workload.specs.Draft.{is_access_operation}
use Rattle.workload.specs.Keys.{keys_in}
use Rattle.run_record.specs.AtomicKind.{atomic_call}
use Rattle.run_record.specs.MapKind.{map_call, range_call}
use Rattle.run_record.specs.Objects.{map_number, atomic_number, first_part, starts_number}
use Rattle.run_record.specs.PoolKind.{pool_call}
use Rattle.run_record.specs.Record.{object_number}
use Rattle.run_record.specs.StartsKind.{go_call}
use Rattle.run_record.specs.Tests.{if_equal_call, wait_for_call}
use Rattle.run_record.specs.Calls.{call_on, call_at, SpellsCall}
use Rattle.thread_objects.specs.Alone.{IsAlone}
use Rattle.thread_objects.specs.Catalog.{IsAt}
use Rattle.thread_objects.specs.Working.{Desk, Works}
use Rattle.thread_runner.proofs.WholeLines.{some_dormant}

-- a call that is on one object alone is one that this object has, whatever others there are
pub alone_has : (objects : List ObjectLine) (kind : ObjectKind) (operation : Operation) → IsAlone operation → has_among objects kind operation ≡ true → has_call kind operation ≡ true
alone_has objects (kinds.Cond mutex) (operations.Composed call) alone has = absurd alone
alone_has objects (kinds.WaitGroup start) (operations.Composed call) alone has = absurd alone
alone_has objects kind operation alone has = has

-- an atomic that may hold a number
atomic_kind : (value : Number) (kind : ObjectKind) → may_hold value kind ≡ true → (type : AtomicKind) × (kind ≡ kinds.Atomic type)
atomic_kind value (kinds.Atomic type) may = (type, refl)
atomic_kind value kind may = absurd (false≢true may)

atomic_line : (value : Number) (object : Option ObjectLine) → option_map_or (λ (o : ObjectLine). may_hold value o.kind) object false ≡ true → (type : AtomicKind) × (line : ObjectLine) × (object ≡ Some line) × (line.kind ≡ kinds.Atomic type)
atomic_line value None may = absurd (false≢true may)
atomic_line value (Some line) may = let is = atomic_kind value line.kind may in (is.0, line, refl, is.1)

module _ (plan : Plan) where
  -- an object that has a pool's call is a pool
  pool_kind : (kind : ObjectKind) (call : PoolCall) → has_among plan.objects kind (operations.Pool call) ≡ true → kind ≡ kinds.Pool
  pool_kind kinds.Pool call has = refl
  pool_kind kind call has = absurd (false≢true has)

  pub of_pool : (kind : ObjectKind) (operation : Operation) (call : PoolCall) → has_among plan.objects kind operation ≡ true → operation ≡ operations.Pool call → kind ≡ kinds.Pool
  of_pool kind operation call has is = pool_kind kind call (ap (λ (o : Operation). has_among plan.objects kind o) (sym is) ∙ has)

  -- a workload without variables has no object that is read or written
  pub no_variable : ((place : ℕ) (object : ObjectLine) (operation : Operation) → has_variables plan ≡ false → slice_get plan.objects place ≡ Some object → has_among plan.objects object.kind operation ≡ true → is_access_operation operation ≡ false)
      → (place : ℕ) (kind : ObjectKind) (operation : Operation) (call : VarCall) → has_variables plan ≡ false → IsAt plan place kind → has_among plan.objects kind operation ≡ true → operation ≡ operations.Var call → ⊥
  no_variable law place kind operation call none at has is =
      false≢true (sym (law place at.0 operation none at.1 (subst (λ (k : ObjectKind). has_among plan.objects k operation ≡ true) (sym at.2) has)) ∙ ap is_access_operation is)

  -- an object that has an atomic's call is an atomic
  pub atomic_type : (kind : ObjectKind) (call : AtomicCall) → has_among plan.objects kind (operations.Atomic call) ≡ true → (type : AtomicKind) × (kind ≡ kinds.Atomic type)
  atomic_type (kinds.Atomic type) call has = (type, refl)
  atomic_type kind call has = absurd (false≢true has)

  -- so is one that has an `ifeq`
  if_equal_type : (kind : ObjectKind) (value : Number) (passes : ℕ) → has_among plan.objects kind (operations.Composed (IfEqual value passes)) ≡ true → (type : AtomicKind) × (kind ≡ kinds.Atomic type)
  if_equal_type (kinds.Atomic type) value passes has = (type, refl)
  if_equal_type kind value passes has = absurd (false≢true has)

  -- one that has a `waitfor` is a cond, and what the call names is an atomic
  wait_for_kind : (kind : ObjectKind) (atomic : ℕ) (value : Number) (tries : ℕ) → has_among plan.objects kind (operations.Composed (WaitFor atomic value tries)) ≡ true
      → ((mutex : ℕ) × (kind ≡ kinds.Cond mutex)) × ((type : AtomicKind) × IsAt plan atomic (kinds.Atomic type))
  wait_for_kind (kinds.Cond mutex) atomic value tries has = let is = atomic_line value (slice_get plan.objects atomic) has in ((mutex, refl), (is.0, (is.1, is.2, is.3)))
  wait_for_kind kind atomic value tries has = absurd (false≢true has)

  -- one that has a `go` is a wait group
  pub go_kind : (kind : ObjectKind) (started : ℕ) → has_among plan.objects kind (operations.Composed (Go started)) ≡ true → (start : ℕ) × (kind ≡ kinds.WaitGroup start)
  go_kind (kinds.WaitGroup start) started has = (start, refl)
  go_kind kind started has = absurd (false≢true has)

  module _ (kind : ObjectKind) (call : ComposedCall) (has : has_among plan.objects kind (operations.Composed call) ≡ true) where
    -- the object has the call, under its own name
    has_composed : (own : ComposedCall) → call ≡ own → has_among plan.objects kind (operations.Composed own) ≡ true
    has_composed own is = ap (λ (c : ComposedCall). has_among plan.objects kind (operations.Composed c)) (sym is) ∙ has

    pub tested_type : (value : Number) (passes : ℕ) → call ≡ IfEqual value passes → (type : AtomicKind) × (kind ≡ kinds.Atomic type)
    tested_type value passes is = if_equal_type kind value passes (has_composed (IfEqual value passes) is)

    pub tested_at : (place : ℕ) (value : Number) (passes : ℕ) → call ≡ IfEqual value passes → IsAt plan place kind → (type : AtomicKind) × IsAt plan place (kinds.Atomic type)
    tested_at place value passes is at = let type = tested_type value passes is in (type.0, subst (λ (k : ObjectKind). IsAt plan place k) type.1 at)

    pub awaits_at : (atomic : ℕ) (value : Number) (tries : ℕ) → call ≡ WaitFor atomic value tries → ((mutex : ℕ) × (kind ≡ kinds.Cond mutex)) × ((type : AtomicKind) × IsAt plan atomic (kinds.Atomic type))
    awaits_at atomic value tries is = wait_for_kind kind atomic value tries (has_composed (WaitFor atomic value tries) is)

    pub group_here : (started : ℕ) → call ≡ Go started → (start : ℕ) × (kind ≡ kinds.WaitGroup start)
    group_here started is = go_kind kind started (has_composed (Go started) is)

  -- where a call starts a worker, some wait to be started
  pub some_wait : (call : ComposedCall) (started : ℕ) → call ≡ Go started → starts_dormant plan.dormant (operations.Composed call) ≡ true → has_dormant plan ≡ true
  some_wait call started is dormant = some_dormant plan.dormant started (ap (λ (c : ComposedCall). starts_dormant plan.dormant (operations.Composed c)) (sym is) ∙ dormant)

module _ (plan : Plan) (worker before place : ℕ) (old new : Desk) (answer : CallAnswer (Reply ℕ)) where
  abbrev MadeOn : ObjectKind → Operation → Type 0
  MadeOn kind operation = Works (call_on plan worker before place kind operation) old answer new

  map_made : (kind : ObjectKind) (call : MapCall (List ℕ)) → Works (map_call (keys_in plan.scripts) (map_number plan.objects place) call) old answer new → has_among plan.objects kind (operations.Map call) ≡ true → MadeOn kind (operations.Map call)
  map_made kinds.Map call works has = works
  map_made kind call works has = absurd (false≢true has)

  atomic_made : (kind : ObjectKind) (call : AtomicCall) → Works (atomic_call (atomic_number plan.objects place) call) old answer new → (type : AtomicKind) → kind ≡ kinds.Atomic type → MadeOn kind (operations.Atomic call)
  atomic_made kind call works type is = subst (λ (k : ObjectKind). MadeOn k (operations.Atomic call)) (sym is) works

  range_made : (kind : ObjectKind) → Works (range_call (keys_in plan.scripts) (map_number plan.objects place) before) old answer new → has_among plan.objects kind operations.Range ≡ true → MadeOn kind operations.Range
  range_made kinds.Map works has = works
  range_made kind works has = absurd (false≢true has)

  pool_made : (kind : ObjectKind) (call : PoolCall) → Works (pool_call plan.workers worker (first_part plan place) call) old answer new → has_among plan.objects kind (operations.Pool call) ≡ true → MadeOn kind (operations.Pool call)
  pool_made kinds.Pool call works has = works
  pool_made kind call works has = absurd (false≢true has)

  -- calls that are made of others, by their own names
  pub if_equal_made : (kind : ObjectKind) (call : ComposedCall) (value : Number) (passes : ℕ) → call ≡ IfEqual value passes → (type : AtomicKind) → kind ≡ kinds.Atomic type
      → Works (if_equal_call (atomic_number plan.objects place) value) old answer new → MadeOn kind (operations.Composed call)
  if_equal_made kind call value passes is type at works =
      subst (λ (c : ComposedCall). MadeOn kind (operations.Composed c)) (sym is) (subst (λ (k : ObjectKind). MadeOn k (operations.Composed (IfEqual value passes))) (sym at) works)

  pub wait_for_made : (kind : ObjectKind) (call : ComposedCall) (atomic : ℕ) (value : Number) (tries : ℕ) → call ≡ WaitFor atomic value tries → (mutex : ℕ) → kind ≡ kinds.Cond mutex
      → Works (wait_for_call (object_number place) (object_number mutex) (atomic_number plan.objects atomic) value tries) old answer new → MadeOn kind (operations.Composed call)
  wait_for_made kind call atomic value tries is mutex at works =
      subst (λ (c : ComposedCall). MadeOn kind (operations.Composed c)) (sym is) (subst (λ (k : ObjectKind). MadeOn k (operations.Composed (WaitFor atomic value tries))) (sym at) works)

  pub go_made : (kind : ObjectKind) (call : ComposedCall) (started : ℕ) → call ≡ Go started → (start : ℕ) → kind ≡ kinds.WaitGroup start
      → Works (go_call (object_number place) (starts_number plan) started) old answer new → MadeOn kind (operations.Composed call)
  go_made kind call started is start at works =
      subst (λ (c : ComposedCall). MadeOn kind (operations.Composed c)) (sym is) (subst (λ (k : ObjectKind). MadeOn k (operations.Composed (Go started))) (sym at) works)

  module _ (kind : ObjectKind) (operation : Operation) (has : has_among plan.objects kind operation ≡ true) where
    -- the object has the operation, under its own name
    has_own : (own : Operation) → operation ≡ own → has_among plan.objects kind own ≡ true
    has_own own is = ap (λ (o : Operation). has_among plan.objects kind o) (sym is) ∙ has

    pub on_map : (call : MapCall (List ℕ)) → operation ≡ operations.Map call → Works (map_call (keys_in plan.scripts) (map_number plan.objects place) call) old answer new → MadeOn kind operation
    on_map call is works = subst (λ (o : Operation). MadeOn kind o) (sym is) (map_made kind call works (has_own (operations.Map call) is))

    pub on_atomic : (call : AtomicCall) → operation ≡ operations.Atomic call → Works (atomic_call (atomic_number plan.objects place) call) old answer new → MadeOn kind operation
    on_atomic call is works = let type = atomic_type plan kind call (has_own (operations.Atomic call) is) in subst (λ (o : Operation). MadeOn kind o) (sym is) (atomic_made kind call works type.0 type.1)

    pub on_composed : (call : ComposedCall) → operation ≡ operations.Composed call → MadeOn kind (operations.Composed call) → MadeOn kind operation
    on_composed call is works = subst (λ (o : Operation). MadeOn kind o) (sym is) works

    pub on_range : operation ≡ operations.Range → Works (range_call (keys_in plan.scripts) (map_number plan.objects place) before) old answer new → MadeOn kind operation
    on_range is works = subst (λ (o : Operation). MadeOn kind o) (sym is) (range_made kind works (has_own operations.Range is))

    -- a call on so many parts, from this object on, which are the pool's
    pub on_pool : (call : PoolCall) (workers first : ℕ) → plan.workers ≡ workers → first ≡ first_part plan place → operation ≡ operations.Pool call → Works (pool_call workers worker first call) old answer new → MadeOn kind operation
    on_pool call workers first all from is works =
        let whole = subst (λ (n : ℕ). Works (pool_call n worker (first_part plan place) call) old answer new) (sym all) (subst (λ (n : ℕ). Works (pool_call workers worker n call) old answer new) from works) in
        subst (λ (o : Operation). MadeOn kind o) (sym is) (pool_made kind call whole (has_own (operations.Pool call) is))

module _ (objects : List ObjectLine) where
  -- the object of a call that is on one
  on_line : (object : Option ObjectLine) (call : Call) → is_on objects object call ≡ true → (line : ObjectLine) × (object ≡ Some line) × (has_among objects line.kind call.operation ≡ true)
  on_line None call on = absurd (false≢true on)
  on_line (Some line) call on = (line, refl, on)

  pub line_of : (call : Call) → is_on objects (slice_get objects call.object) call ≡ true → (line : ObjectLine) × (slice_get objects call.object ≡ Some line) × (has_among objects line.kind call.operation ≡ true)
  line_of call on = on_line (slice_get objects call.object) call on

module _ (plan : Plan) (worker before : ℕ) (call : Call) (kind : ObjectKind) (is : IsAt plan call.object kind) where
  -- the object of a call has it
  pub kind_has : is_on plan.objects (slice_get plan.objects call.object) call ≡ true → has_among plan.objects kind call.operation ≡ true
  kind_has on =
      let line = line_of plan.objects call on in
      ap (λ (k : ObjectKind). has_among plan.objects k call.operation) (sym is.2) ∙ ap (λ (l : ObjectLine). has_among plan.objects l.kind call.operation) (same_Some is.0 line.0 (sym is.1 ∙ line.1)) ∙ line.2

  module _ (old new : Desk) where
    spells : (answer : CallAnswer (Reply ℕ)) → Works (call_on plan worker before call.object kind call.operation) old answer new → Works (SpellsCall plan worker before call) old answer new
    spells answer works =
        subst (λ (o : Option ObjectLine). Works (call_at plan worker before call.object o call.operation) old answer new) (sym is.1)
        (subst (λ (k : ObjectKind). Works (call_on plan worker before call.object k call.operation) old answer new) (sym is.2) works)

    -- a call on its object is the script's call
    pub spells_if : (result : Option (CallAnswer (Reply ℕ))) → IfSome result (λ answer. Works (call_on plan worker before call.object kind call.operation) old answer new) → IfSome result (λ answer. Works (SpellsCall plan worker before call) old answer new)
    spells_if None made = made
    spells_if (Some answer) made = spells answer made
