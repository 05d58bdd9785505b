-- What the lines of a text say so far, and which line may follow them.
use Rattle.std.specs.Prelude.{ℕ, Bool, true, false, ◌&&◌, ◌+◌, not, cond, nat_lt, nat_le, ◌==◌, List, [], ◌∷◌, ◌++◌, length, Option, Some, None, is_some, set, get_or, count_by, sum_by, replicate}
use Rattle.std.specs.List.{list_all, list_any, flat_map}
use Rattle.std.specs.Option.{option_map_or, option_to_list}
use Rattle.std.specs.Str.{bytes_eq}
use Rattle.sync_types.specs.Name.{is_name}
use Rattle.script_calls.specs.declared.call.Call.{Call}
use Rattle.script_calls.specs.declared.call.ComposedCall.{ComposedCall}
use Rattle.script_calls.specs.declared.call.ComposedCall.TheVariants.{IfEqual, WaitFor, Go}
use Rattle.script_calls.specs.declared.call.Operation.{Operation}
use Rattle.script_calls.specs.declared.call.Operation.TheVariants as operations
use Rattle.script_calls.specs.Starts.{started_by, start_count}
use Rattle.sync_types.specs.declared.map_object.MapCall.{MapCall}
use Rattle.sync_types.specs.declared.wait_call.WaitGroupCall.{WaitGroupCall}
use Rattle.sync_types.specs.declared.wait_call.WaitGroupCall.TheVariants as group_calls
use Rattle.sync_types.specs.declared.pool_call.PoolCall.{PoolCall}
use Rattle.sync_types.specs.declared.pool_call.PoolCall.TheVariants as pool_calls
use Rattle.script_calls.specs.declared.call.VarCall.{VarCall}
use Rattle.script_calls.specs.declared.call.VarCall.TheVariants as var_calls
use Rattle.sync_types.specs.SequentialMap.{map_key}
use Rattle.workload.specs.declared.limits.TheConstants.{MAX_ACCESSES, MAX_ALL_TRIES, MAX_AMOUNT, MAX_ATOMICS, MAX_CALLS, MAX_CODE, MAX_KEYS, MAX_MAPS, MAX_OTHERS, MAX_RANGES, MAX_SIZE, MAX_TURNS, MAX_WORKERS}
use Rattle.sync_types.specs.declared.value.TheConstants.{MAX_VALUE}
use Rattle.workload.specs.declared.object.ObjectKind.{ObjectKind}
use Rattle.workload.specs.declared.object.ObjectKind.TheVariants as kinds
use Rattle.workload.specs.declared.object.ObjectWord.{ObjectWord}
use Rattle.workload.specs.declared.object.ObjectWord.TheVariants as words
use Rattle.workload.specs.declared.object.ObjectLine.{ObjectLine}
use Rattle.workload.specs.declared.object.Declared.{Declared}
use Rattle.workload.specs.declared.line.Line.{Line}
use Rattle.workload.specs.declared.line.Line.TheVariants as lines
use Rattle.workload.specs.declared.turn.Turn.{Turn}
use Rattle.workload.specs.declared.turn.Turn.TheVariants as turns
use Rattle.workload.specs.Plan.{Plan, is_dormant, word_of, reference_of, second_of, is_target, is_amount, has_among}
use Rattle.workload.specs.CallWords.{map_values, sema_weight}
use Rattle.workload.specs.NumberWords.{is_passes, is_tries, is_weight}

-- the workload that the lines so far say, and the worker whose calls follow
pub record Draft : Type 0 where
  pub plan : Plan
  pub current : Option ℕ

-- the draft behind the first line
abbrev pub started : ℕ → Draft
started workers = record { plan = record { workers = workers; objects = []; dormant = replicate workers false; scripts = replicate workers []; schedule = [] }; current = None }

-- the script with one more call at its end
abbrev pub with_call : Option ℕ → Call → List (List Call) → List (List Call)
with_call None call scripts = scripts
with_call (Some worker) call scripts = set scripts worker (get_or scripts worker [] ++ call ∷ [])

-- the draft with one more line
abbrev pub with_line : Draft → Line → Draft
with_line d (lines.Object object reference) = record d { plan = record d.plan { objects = d.plan.objects ++ object ∷ [] } }
with_line d (lines.Dormant worker) = record d { plan = record d.plan { dormant = set d.plan.dormant worker true } }
with_line d (lines.Worker worker) = record d { current = Some worker }
with_line d (lines.Schedule schedule) = record d { plan = record d.plan { schedule = d.plan.schedule ++ schedule } }
with_line d (lines.Call name second call) = record d { plan = record d.plan { scripts = with_call d.current call d.plan.scripts } }

-- the object of a name, where it is declared: its place and kind, counted from a place on
abbrev pub declared_from : ℕ → List ℕ → List ObjectLine → Option Declared
declared_from place name [] = None
declared_from place name (object ∷ objects) = cond (bytes_eq name object.name) (Some (record { place = place; kind = object.kind })) (declared_from (place + 1) name objects)

abbrev pub declared : Draft → List ℕ → Option Declared
declared d name = declared_from 0 name d.plan.objects

-- how many objects of a word a text may have
abbrev pub limit_of : ObjectWord → ℕ
limit_of words.Map = MAX_MAPS
limit_of (words.Atomic kind) = MAX_ATOMICS
limit_of word = MAX_OTHERS

-- the words whose objects count together: each with itself, and those of all atomics
abbrev pub count_together : ObjectWord → ObjectWord → Bool
count_together words.Map words.Map = true
count_together (words.Atomic kind) (words.Atomic other) = true
count_together words.Mutex words.Mutex = true
count_together words.RwMutex words.RwMutex = true
count_together words.Cond words.Cond = true
count_together words.WaitGroup words.WaitGroup = true
count_together words.Once words.Once = true
count_together words.OnceFunc words.OnceFunc = true
count_together words.OnceValue words.OnceValue = true
count_together words.Pool words.Pool = true
count_together words.Sema words.Sema = true
count_together words.Flight words.Flight = true
count_together words.Var words.Var = true
count_together word other = false

abbrev pub count_of : ObjectWord → List ObjectLine → ℕ
count_of word objects = count_by (λ object. count_together word (word_of object.kind)) objects

-- the key of an operation, if it has one
abbrev pub operation_keys : Operation → List (List ℕ)
operation_keys (operations.Map call) = option_to_list (map_key call)
operation_keys (operations.Fly key) = key ∷ []
operation_keys operation = []

-- the key of a call, if it has one
abbrev pub keys_of : Call → List (List ℕ)
keys_of call = operation_keys call.operation

-- the keys of all calls
abbrev pub all_keys : List (List Call) → List (List ℕ)
all_keys scripts = flat_map (flat_map keys_of) scripts

-- how many different names a list has
abbrev pub distinct_count : List (List ℕ) → ℕ
distinct_count [] = 0
distinct_count (name ∷ names) = cond (list_any (bytes_eq name) names) (distinct_count names) (distinct_count names + 1)

-- how many different keys the calls have, with those of one more call
abbrev pub key_count : List (List Call) → List (List ℕ) → ℕ
key_count scripts more = distinct_count (more ++ all_keys scripts)

-- how many calls there are, all workers together
abbrev pub call_count : List (List Call) → ℕ
call_count scripts = sum_by length scripts

-- whether an operation is `range`
abbrev pub is_range_operation : Operation → Bool
is_range_operation operations.Range = true
is_range_operation operation = false

-- whether it is a `range` call
abbrev pub is_range : Call → Bool
is_range call = is_range_operation call.operation

-- how many `range` calls there are, all workers together
abbrev pub range_count : List (List Call) → ℕ
range_count scripts = sum_by (count_by is_range) scripts

-- how many waits an operation may make
abbrev pub tries_of : Operation → ℕ
tries_of (operations.Composed (WaitFor atomic value tries)) = tries
tries_of operation = 0

-- how many waits all calls may make, all workers together
abbrev pub try_count : List (List Call) → ℕ
try_count scripts = sum_by (sum_by (λ call. tries_of call.operation)) scripts

-- whether an operation reads or writes a plain variable
abbrev pub is_access_operation : Operation → Bool
is_access_operation (operations.Var call) = true
is_access_operation operation = false

abbrev pub is_access : Call → Bool
is_access call = is_access_operation call.operation

-- how many reads and writes there are, all workers together
abbrev pub access_count : List (List Call) → ℕ
access_count scripts = sum_by (count_by is_access) scripts

-- whether a value of a map is in range
abbrev pub is_value : ℕ → Bool
is_value value = nat_le value MAX_VALUE

-- whether the key and the values of a call are in range
abbrev pub is_map_call : MapCall (List ℕ) → Bool
is_map_call call = list_all is_name (option_to_list (map_key call)) && list_all is_value (map_values call)

-- whether the amount of a call is in range
abbrev pub is_group_call : WaitGroupCall → Bool
is_group_call (group_calls.Add delta) = is_amount delta
is_group_call call = true

-- whether the item of a call is in range
abbrev pub is_pool_call : PoolCall → Bool
is_pool_call (pool_calls.Put item) = is_value item
is_pool_call call = true

-- whether the value that is written is in range
abbrev pub is_var_call : VarCall → Bool
is_var_call (var_calls.Write value) = is_value value
is_var_call call = true

-- whether the number of calls that a call passes over, of waits that it may make, or of the worker that it starts, is in range
abbrev pub is_composed_call : ComposedCall → Bool
is_composed_call (IfEqual value passes) = is_passes passes
is_composed_call (WaitFor atomic value tries) = is_tries tries
is_composed_call (Go worker) = nat_lt worker MAX_WORKERS

-- the same of any operation; of an atomic's numbers the kind of the object says it
abbrev pub is_operation : Operation → Bool
is_operation (operations.Map call) = is_map_call call
is_operation (operations.WaitGroup call) = is_group_call call
is_operation (operations.Pool call) = is_pool_call call
is_operation (operations.Sema call) = is_weight MAX_SIZE (sema_weight call)
is_operation (operations.Fly key) = is_name key
is_operation (operations.Var call) = is_var_call call
is_operation (operations.Composed call) = is_composed_call call
is_operation operation = true

abbrev pub is_call : Call → Bool
is_call call = is_operation call.operation

-- whether the numbers of an object are in range
abbrev pub is_kind : ObjectKind → Bool
is_kind (kinds.WaitGroup start) = nat_le start MAX_AMOUNT
is_kind (kinds.Once atomic delta) = is_amount delta
is_kind (kinds.Sema size) = is_weight MAX_SIZE size
is_kind (kinds.Flight atomic delta) = is_amount delta
is_kind (kinds.OnceFunc code) = nat_le code MAX_CODE
is_kind (kinds.OnceValue value) = is_value value
is_kind kind = true

-- whether an object refers to the one that was found
abbrev pub is_reference : ObjectKind → Option Declared → Bool
is_reference kind None = false
is_reference kind (Some found) = option_map_or (λ place. found.place == place) (reference_of kind) false && is_target kind found.kind

-- whether the name, or none, is that of the object to which an object refers
abbrev pub names_reference : Draft → ObjectKind → Option (List ℕ) → Bool
names_reference d kind None = not (is_some (reference_of kind))
names_reference d kind (Some name) = is_name name && is_reference kind (declared d name)

-- whether the name is that of the call's object, which has the call among these objects
abbrev pub names_object : List ObjectLine → Option Declared → Call → Bool
names_object objects None call = false
names_object objects (Some found) call = (found.place == call.object) && has_among objects found.kind call.operation

-- whether the second name, or none, is that of the second object that an operation names
abbrev pub names_second : Draft → Operation → Option (List ℕ) → Bool
names_second d operation None = not (is_some (second_of operation))
names_second d operation (Some name) = is_name name && option_map_or (λ found. option_map_or (λ place. found.place == place) (second_of operation) false) (declared d name) false

-- whether the worker that an operation starts, if it starts one, waits to be started, and no call starts it yet
abbrev pub may_start : Draft → Operation → Bool
may_start d operation = option_map_or (λ worker. nat_lt worker d.plan.workers && (is_dormant d.plan worker && (start_count worker d.plan.scripts == 0))) (started_by operation) true

-- whether an item of a schedule is in range
abbrev pub is_item : ℕ → Turn → Bool
is_item workers (turns.Worker worker) = nat_lt worker workers
is_item workers (turns.Moment moment) = nat_le moment MAX_VALUE

-- whether the line may follow
abbrev pub may_follow : Draft → Line → Bool
may_follow d (lines.Object object reference) =
    is_name object.name && (not (is_some (declared d object.name)) && (names_reference d object.kind reference && (is_kind object.kind
    && nat_lt (count_of (word_of object.kind) d.plan.objects) (limit_of (word_of object.kind)))))
may_follow d (lines.Dormant worker) = nat_lt worker d.plan.workers && not (is_dormant d.plan worker)
may_follow d (lines.Worker worker) = nat_lt worker d.plan.workers
may_follow d (lines.Schedule schedule) =
    nat_lt 0 (length schedule) && (list_all (is_item d.plan.workers) schedule && nat_le (length d.plan.schedule + length schedule) MAX_TURNS)
may_follow d (lines.Call name second call) =
    is_some d.current && (is_name name && (names_object d.plan.objects (declared d name) call && (names_second d call.operation second && (is_call call && (may_start d call.operation
    && (nat_lt (call_count d.plan.scripts) MAX_CALLS && (nat_le (key_count d.plan.scripts (keys_of call)) MAX_KEYS
    && (nat_le (range_count d.plan.scripts + count_by is_range (call ∷ [])) MAX_RANGES
    && (nat_le (try_count d.plan.scripts + tries_of call.operation) MAX_ALL_TRIES
    && nat_le (access_count d.plan.scripts + count_by is_access (call ∷ [])) MAX_ACCESSES)))))))))
