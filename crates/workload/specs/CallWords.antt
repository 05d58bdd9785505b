-- How a call is spelled: its word, and its operands behind the object's name and that of a second object.
use Rattle.std.specs.Prelude.{ℕ, List, [], ◌∷◌, ◌++◌, map}
use Rattle.std.specs.Option.{option_to_list}
use Rattle.std.specs.Fmt.{decimal, signed_decimal}
use Rattle.script_calls.specs.declared.call.ComposedCall.{ComposedCall}
use Rattle.script_calls.specs.declared.call.ComposedCall.TheVariants.{IfEqual, WaitFor, Go}
use Rattle.script_calls.specs.declared.call.Operation.{Operation}
use Rattle.script_calls.specs.declared.call.Operation.TheVariants as operations
use Rattle.sync_types.specs.declared.map_object.MapCall.{MapCall}
use Rattle.sync_types.specs.declared.map_object.MapCall.TheVariants as map_calls
use Rattle.sync_types.specs.declared.atomic_object.Number.{Number}
use Rattle.sync_types.specs.declared.atomic_object.AtomicCall.{AtomicCall}
use Rattle.sync_types.specs.declared.atomic_object.AtomicCall.TheVariants as atomic_calls
use Rattle.sync_types.specs.declared.lock_call.MutexCall.{MutexCall}
use Rattle.sync_types.specs.declared.lock_call.MutexCall.TheVariants as mutex_calls
use Rattle.sync_types.specs.declared.lock_call.RwMutexCall.{RwMutexCall}
use Rattle.sync_types.specs.declared.lock_call.RwMutexCall.TheVariants as rw_mutex_calls
use Rattle.sync_types.specs.declared.wait_call.CondCall.{CondCall}
use Rattle.sync_types.specs.declared.wait_call.CondCall.TheVariants as cond_calls
use Rattle.sync_types.specs.declared.wait_call.WaitGroupCall.{WaitGroupCall}
use Rattle.sync_types.specs.declared.wait_call.WaitGroupCall.TheVariants as group_calls
use Rattle.sync_types.specs.declared.pool_call.PoolCall.{PoolCall}
use Rattle.sync_types.specs.declared.pool_call.PoolCall.TheVariants as pool_calls
use Rattle.sync_types.specs.declared.sema_call.SemaCall.{SemaCall}
use Rattle.sync_types.specs.declared.sema_call.SemaCall.TheVariants as sema_calls
use Rattle.script_calls.specs.declared.call.VarCall.{VarCall}
use Rattle.script_calls.specs.declared.call.VarCall.TheVariants as var_calls
use Rattle.sync_types.specs.SequentialMap.{map_key}
use Rattle.workload.specs.declared.keyword.Verb.{Verb}
use Rattle.workload.specs.declared.keyword.Verb.TheVariants as verbs
use Rattle.workload.specs.NumberWords.{number_word}

-- which call it is
abbrev pub map_verb : {K : Type 0} → MapCall K → Verb
map_verb (map_calls.Load key) = verbs.Load
map_verb (map_calls.Store key value) = verbs.Store
map_verb (map_calls.LoadOrStore key value) = verbs.LoadOrStore
map_verb (map_calls.LoadAndDelete key) = verbs.LoadAndDelete
map_verb (map_calls.Delete key) = verbs.Delete
map_verb (map_calls.Swap key value) = verbs.Swap
map_verb (map_calls.CompareAndSwap key old new) = verbs.CompareAndSwap
map_verb (map_calls.CompareAndDelete key old) = verbs.CompareAndDelete
map_verb map_calls.Clear = verbs.Clear

abbrev pub atomic_verb : AtomicCall → Verb
atomic_verb atomic_calls.Load = verbs.Load
atomic_verb (atomic_calls.Store value) = verbs.Store
atomic_verb (atomic_calls.Swap value) = verbs.Swap
atomic_verb (atomic_calls.Add operand) = verbs.Add
atomic_verb (atomic_calls.And operand) = verbs.And
atomic_verb (atomic_calls.Or operand) = verbs.Or
atomic_verb (atomic_calls.CompareAndSwap old new) = verbs.CompareAndSwap

abbrev pub mutex_verb : MutexCall → Verb
mutex_verb mutex_calls.Lock = verbs.Lock
mutex_verb mutex_calls.Unlock = verbs.Unlock
mutex_verb mutex_calls.TryLock = verbs.TryLock

abbrev pub rw_mutex_verb : RwMutexCall → Verb
rw_mutex_verb rw_mutex_calls.Lock = verbs.Lock
rw_mutex_verb rw_mutex_calls.Unlock = verbs.Unlock
rw_mutex_verb rw_mutex_calls.TryLock = verbs.TryLock
rw_mutex_verb rw_mutex_calls.RLock = verbs.RLock
rw_mutex_verb rw_mutex_calls.RUnlock = verbs.RUnlock
rw_mutex_verb rw_mutex_calls.TryRLock = verbs.TryRLock

abbrev pub cond_verb : CondCall → Verb
cond_verb cond_calls.Wait = verbs.Wait
cond_verb cond_calls.Signal = verbs.Signal
cond_verb cond_calls.Broadcast = verbs.Broadcast

abbrev pub group_verb : WaitGroupCall → Verb
group_verb (group_calls.Add delta) = verbs.Add
group_verb group_calls.Done = verbs.Done
group_verb group_calls.Wait = verbs.Wait

abbrev pub pool_verb : PoolCall → Verb
pool_verb (pool_calls.Put item) = verbs.Put
pool_verb pool_calls.Get = verbs.Get
pool_verb pool_calls.Sweep = verbs.Sweep

abbrev pub sema_verb : SemaCall → Verb
sema_verb (sema_calls.Acquire weight) = verbs.Acquire
sema_verb (sema_calls.TryAcquire weight) = verbs.TryAcquire
sema_verb (sema_calls.Release weight) = verbs.Release

abbrev pub var_verb : VarCall → Verb
var_verb var_calls.Read = verbs.Read
var_verb (var_calls.Write value) = verbs.Write

abbrev pub composed_verb : ComposedCall → Verb
composed_verb (IfEqual value passes) = verbs.IfEqual
composed_verb (WaitFor atomic value tries) = verbs.WaitFor
composed_verb (Go worker) = verbs.Go

abbrev pub verb_of : Operation → Verb
verb_of (operations.Map call) = map_verb call
verb_of operations.Range = verbs.Range
verb_of (operations.Atomic call) = atomic_verb call
verb_of (operations.Mutex call) = mutex_verb call
verb_of (operations.RwMutex call) = rw_mutex_verb call
verb_of (operations.Cond call) = cond_verb call
verb_of (operations.WaitGroup call) = group_verb call
verb_of operations.Once = verbs.Do
verb_of operations.OnceFunc = verbs.Call
verb_of operations.OnceValue = verbs.Value
verb_of (operations.Pool call) = pool_verb call
verb_of (operations.Sema call) = sema_verb call
verb_of (operations.Fly key) = verbs.Fly
verb_of (operations.Var call) = var_verb call
verb_of (operations.Composed call) = composed_verb call

-- the values of a call of a map, in order
abbrev pub map_values : {K : Type 0} → MapCall K → List ℕ
map_values (map_calls.Load key) = []
map_values (map_calls.Store key value) = value ∷ []
map_values (map_calls.LoadOrStore key value) = value ∷ []
map_values (map_calls.LoadAndDelete key) = []
map_values (map_calls.Delete key) = []
map_values (map_calls.Swap key value) = value ∷ []
map_values (map_calls.CompareAndSwap key old new) = old ∷ new ∷ []
map_values (map_calls.CompareAndDelete key old) = old ∷ []
map_values map_calls.Clear = []

-- the numbers of a call of an atomic, in order
abbrev pub atomic_numbers : AtomicCall → List Number
atomic_numbers atomic_calls.Load = []
atomic_numbers (atomic_calls.Store value) = value ∷ []
atomic_numbers (atomic_calls.Swap value) = value ∷ []
atomic_numbers (atomic_calls.Add operand) = operand ∷ []
atomic_numbers (atomic_calls.And operand) = operand ∷ []
atomic_numbers (atomic_calls.Or operand) = operand ∷ []
atomic_numbers (atomic_calls.CompareAndSwap old new) = old ∷ new ∷ []

-- the words behind the object's name: the key, and then values
abbrev pub map_operands : MapCall (List ℕ) → List (List ℕ)
map_operands call = option_to_list (map_key call) ++ map decimal (map_values call)

abbrev pub atomic_operands : AtomicCall → List (List ℕ)
atomic_operands call = map number_word (atomic_numbers call)

abbrev pub group_operands : WaitGroupCall → List (List ℕ)
group_operands (group_calls.Add delta) = signed_decimal delta ∷ []
group_operands group_calls.Done = []
group_operands group_calls.Wait = []

abbrev pub pool_operands : PoolCall → List (List ℕ)
pool_operands (pool_calls.Put item) = decimal item ∷ []
pool_operands pool_calls.Get = []
pool_operands pool_calls.Sweep = []

-- the weight of a call on a semaphore
abbrev pub sema_weight : SemaCall → ℕ
sema_weight (sema_calls.Acquire weight) = weight
sema_weight (sema_calls.TryAcquire weight) = weight
sema_weight (sema_calls.Release weight) = weight

abbrev pub var_operands : VarCall → List (List ℕ)
var_operands var_calls.Read = []
var_operands (var_calls.Write value) = decimal value ∷ []

abbrev pub composed_operands : ComposedCall → List (List ℕ)
composed_operands (IfEqual value passes) = number_word value ∷ decimal passes ∷ []
composed_operands (WaitFor atomic value tries) = number_word value ∷ decimal tries ∷ []
composed_operands (Go worker) = decimal worker ∷ []

abbrev pub operands_of : Operation → List (List ℕ)
operands_of (operations.Map call) = map_operands call
operands_of operations.Range = []
operands_of (operations.Atomic call) = atomic_operands call
operands_of (operations.Mutex call) = []
operands_of (operations.RwMutex call) = []
operands_of (operations.Cond call) = []
operands_of (operations.WaitGroup call) = group_operands call
operands_of operations.Once = []
operands_of operations.OnceFunc = []
operands_of operations.OnceValue = []
operands_of (operations.Pool call) = pool_operands call
operands_of (operations.Sema call) = decimal (sema_weight call) ∷ []
operands_of (operations.Fly key) = key ∷ []
operands_of (operations.Var call) = var_operands call
operands_of (operations.Composed call) = composed_operands call
