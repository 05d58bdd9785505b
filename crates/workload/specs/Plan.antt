-- What a workload is: its workers, its objects, each worker's script, and a schedule.
use Rattle.std.specs.Prelude.{ℕ, ℤ, pos, negsuc, Bool, true, false, ◌&&◌, nat_lt, nat_le, ◌==◌, List, length, Option, Some, None, slice_get, get_or}
use Rattle.std.specs.Option.{option_map_or}
use Rattle.std.specs.List.{list_all, list_any}
use Rattle.script_calls.specs.declared.call.Call.{Call}
use Rattle.script_calls.specs.declared.call.ComposedCall.TheVariants.{IfEqual, WaitFor, Go}
use Rattle.script_calls.specs.declared.call.Operation.{Operation}
use Rattle.script_calls.specs.declared.call.Operation.TheVariants as operations
use Rattle.script_calls.specs.Starts.{started_by}
use Rattle.sync_types.specs.declared.atomic_object.AtomicKind.TheVariants as types
use Rattle.sync_types.specs.declared.atomic_object.Number.{Number}
use Rattle.sync_types.specs.SequentialAtomic.{is_of, is_atomic_call}
use Rattle.workload.specs.declared.limits.TheConstants.{MAX_AMOUNT}
use Rattle.workload.specs.declared.object.ObjectKind.{ObjectKind}
use Rattle.workload.specs.declared.object.ObjectKind.TheVariants as kinds
use Rattle.workload.specs.declared.object.ObjectWord.{ObjectWord}
use Rattle.workload.specs.declared.object.ObjectWord.TheVariants as words
use Rattle.workload.specs.declared.object.ObjectLine.{ObjectLine}
use Rattle.workload.specs.declared.turn.Turn.{Turn}
use Rattle.workload.specs.declared.turn.Turn.TheVariants as turns
use Rattle.workload.specs.CallWords.{sema_weight}
use Rattle.workload.specs.NumberWords.{is_weight}

pub record Plan : Type 0 where
  pub workers : ℕ
  pub objects : List ObjectLine  -- in order of declaration
  pub dormant : List Bool  -- for each worker, whether it waits to be started
  pub scripts : List (List Call)  -- one for each worker
  pub schedule : List Turn

-- whether the worker waits to be started, and whether any does
abbrev pub is_dormant : Plan → ℕ → Bool
is_dormant plan worker = get_or plan.dormant worker false

abbrev pub has_dormant : Plan → Bool
has_dormant plan = list_any (λ waits. waits) plan.dormant

-- the word of an object's line
abbrev pub word_of : ObjectKind → ObjectWord
word_of kinds.Map = words.Map
word_of (kinds.Atomic kind) = words.Atomic kind
word_of kinds.Mutex = words.Mutex
word_of kinds.RwMutex = words.RwMutex
word_of (kinds.Cond mutex) = words.Cond
word_of (kinds.WaitGroup start) = words.WaitGroup
word_of (kinds.Once atomic delta) = words.Once
word_of (kinds.OnceFunc code) = words.OnceFunc
word_of (kinds.OnceValue value) = words.OnceValue
word_of kinds.Pool = words.Pool
word_of (kinds.Sema size) = words.Sema
word_of (kinds.Flight atomic delta) = words.Flight
word_of kinds.Var = words.Var

-- the place of the object to which an object refers
abbrev pub reference_of : ObjectKind → Option ℕ
reference_of (kinds.Cond mutex) = Some mutex
reference_of (kinds.Once atomic delta) = Some atomic
reference_of (kinds.Flight atomic delta) = Some atomic
reference_of kind = None

-- whether an object may refer to an object of this kind: a cond to a mutex, a once and a group of flights to an int64
abbrev pub is_target : ObjectKind → ObjectKind → Bool
is_target (kinds.Cond mutex) kinds.Mutex = true
is_target (kinds.Once atomic delta) (kinds.Atomic types.Int64) = true
is_target (kinds.Flight atomic delta) (kinds.Atomic types.Int64) = true
is_target kind target = false

-- whether the object to which an object refers is among these, and is one that it may refer to
abbrev pub refers : List ObjectLine → ObjectKind → Bool
refers objects kind = option_map_or (λ place. option_map_or (λ object. is_target kind object.kind) (slice_get objects place) false) (reference_of kind) true

-- whether an amount is from -10,000 to 10,000
abbrev pub is_amount : ℤ → Bool
is_amount (pos n) = nat_le n MAX_AMOUNT
is_amount (negsuc n) = nat_lt n MAX_AMOUNT

-- whether all objects of this word have the operation: an atomic's operands are of its type, and in its range
abbrev pub has_operation : ObjectWord → Operation → Bool
has_operation words.Map (operations.Map call) = true
has_operation words.Map operations.Range = true
has_operation (words.Atomic kind) (operations.Atomic call) = is_atomic_call kind call
has_operation words.Mutex (operations.Mutex call) = true
has_operation words.RwMutex (operations.RwMutex call) = true
has_operation words.Cond (operations.Cond call) = true
has_operation words.WaitGroup (operations.WaitGroup call) = true
has_operation words.Once operations.Once = true
has_operation words.OnceFunc operations.OnceFunc = true
has_operation words.OnceValue operations.OnceValue = true
has_operation words.Pool (operations.Pool call) = true
has_operation words.Flight (operations.Fly key) = true
has_operation words.Var (operations.Var call) = true
has_operation (words.Atomic kind) (operations.Composed (IfEqual value passes)) = is_of kind value
has_operation word operation = false

-- whether an object of this kind has it, whatever other objects there are: a semaphore those of weights up to its size
abbrev pub has_call : ObjectKind → Operation → Bool
has_call (kinds.Sema size) (operations.Sema call) = is_weight size (sema_weight call)
has_call kind operation = has_operation (word_of kind) operation

-- the place of a second object that an operation names: the atomic that a `waitfor` loads
abbrev pub second_of : Operation → Option ℕ
second_of (operations.Composed (WaitFor atomic value tries)) = Some atomic
second_of operation = None

-- whether an object is an atomic that may hold the number
abbrev pub may_hold : Number → ObjectKind → Bool
may_hold value (kinds.Atomic kind) = is_of kind value
may_hold value kind = false

-- whether an object of this kind, among these objects, has the operation: a cond has a `waitfor` of an atomic that may hold its value, and a wait group a `go`
abbrev pub has_among : List ObjectLine → ObjectKind → Operation → Bool
has_among objects (kinds.Cond mutex) (operations.Composed (WaitFor atomic value tries)) = option_map_or (λ object. may_hold value object.kind) (slice_get objects atomic) false
has_among objects (kinds.WaitGroup start) (operations.Composed (Go worker)) = true
has_among objects kind operation = has_call kind operation

-- whether a call is on an object that is there and has it
abbrev pub is_on : List ObjectLine → Option ObjectLine → Call → Bool
is_on objects None call = false
is_on objects (Some object) call = has_among objects object.kind call.operation

-- whether the worker that an operation starts, if it starts one, waits to be started
abbrev pub starts_dormant : List Bool → Operation → Bool
starts_dormant dormant operation = option_map_or (λ worker. get_or dormant worker false) (started_by operation) true

-- whether a turn is that of a worker that is there
abbrev pub is_turn : ℕ → Turn → Bool
is_turn workers (turns.Worker worker) = nat_lt worker workers
is_turn workers (turns.Moment moment) = true

-- each place and number in a plan is in range, and what objects refer to is of the right kind
abbrev pub is_valid : Plan → Bool
is_valid plan =
    (length plan.scripts == plan.workers)
    && (list_all (list_all (λ call. is_on plan.objects (slice_get plan.objects call.object) call)) plan.scripts
    && (list_all (is_turn plan.workers) plan.schedule
    && (list_all (λ object. refers plan.objects object.kind) plan.objects
    && ((length plan.dormant == plan.workers)
    && list_all (list_all (λ call. starts_dormant plan.dormant call.operation)) plan.scripts))))
