-- A call passes the checks of its form.
use Rattle.std.proofs.Common.{◌≡◌, ℕ, ◌+◌, ◌^◌, ◌<◌, Bool, true, false, ◌&&◌, List, [], ◌∷◌, ◌++◌, Option, Some, None, refl, sym, ap, subst, ◌∙◌, arith}
use Rattle.std.specs.Prelude.{nat_le, count_by}
use Rattle.std.specs.List.{list_all}
use Rattle.std.specs.Option.{option_to_list}
use Rattle.std.specs.Fmt.{decimal}
use Rattle.std.proofs.lemmas.Bool.{leb-true, ltb-true}
use Rattle.sync_types.specs.Name.{is_name}
use Rattle.script_calls.specs.declared.call.ComposedCall.{ComposedCall}
use Rattle.script_calls.specs.declared.call.ComposedCall.TheVariants.{IfEqual, WaitFor, Go}
use Rattle.script_calls.specs.declared.call.Operation.{Operation}
use Rattle.script_calls.specs.declared.call.Operation.TheVariants as operations
use Rattle.sync_types.specs.declared.map_object.MapCall.{MapCall}
use Rattle.sync_types.specs.declared.map_object.MapCall.TheVariants as map_calls
use Rattle.sync_types.specs.declared.atomic_object.AtomicKind.{AtomicKind}
use Rattle.sync_types.specs.declared.atomic_object.AtomicKind.TheVariants as types
use Rattle.sync_types.specs.declared.atomic_object.Number.{Number}
use Rattle.sync_types.specs.declared.atomic_object.AtomicCall.{AtomicCall}
use Rattle.sync_types.specs.declared.atomic_object.AtomicCall.TheVariants as atomic_calls
use Rattle.sync_types.specs.declared.wait_call.CondCall.{CondCall}
use Rattle.sync_types.specs.declared.wait_call.CondCall.TheVariants as cond_calls
use Rattle.sync_types.specs.declared.wait_call.WaitGroupCall.{WaitGroupCall}
use Rattle.sync_types.specs.declared.wait_call.WaitGroupCall.TheVariants as group_calls
use Rattle.sync_types.specs.declared.pool_call.PoolCall.{PoolCall}
use Rattle.sync_types.specs.declared.pool_call.PoolCall.TheVariants as pool_calls
use Rattle.sync_types.specs.declared.sema_call.SemaCall.{SemaCall}
use Rattle.sync_types.specs.declared.sema_call.SemaCall.TheVariants as sema_calls
use Rattle.script_calls.specs.declared.call.VarCall.{VarCall}
use Rattle.script_calls.specs.declared.call.VarCall.TheVariants as var_calls
use Rattle.sync_types.specs.declared.lock_call.MutexCall.{MutexCall}
use Rattle.sync_types.specs.declared.lock_call.MutexCall.TheVariants as mutex_calls
use Rattle.sync_types.specs.declared.lock_call.RwMutexCall.{RwMutexCall}
use Rattle.sync_types.specs.declared.lock_call.RwMutexCall.TheVariants as rw_mutex_calls
use Rattle.sync_types.specs.SequentialMap.{map_key}
use Rattle.sync_types.specs.SequentialAtomic.{has_bits, is_of, is_atomic_call}
use Rattle.sync_types.specs.declared.value.TheConstants.{MAX_VALUE}
use Rattle.workload.specs.declared.limits.TheConstants.{MAX_SIZE, MAX_WORKERS}
use Rattle.workload.specs.declared.object.ObjectKind.{ObjectKind}
use Rattle.workload.specs.declared.object.ObjectKind.TheVariants as kinds
use Rattle.workload.specs.declared.object.ObjectWord.TheVariants as object_words
use Rattle.workload.specs.declared.keyword.Keyword.TheVariants as keywords
use Rattle.workload.specs.declared.keyword.Operand.{Operand}
use Rattle.workload.specs.declared.keyword.Operand.TheVariants as operands
use Rattle.workload.specs.declared.keyword.Verb.{Verb}
use Rattle.workload.specs.declared.keyword.Verb.TheVariants as verbs
use Rattle.workload.specs.declared.reason.Reason.TheVariants.{WrongKind}
use Rattle.workload.specs.Plan.{word_of, has_call, has_among}
use Rattle.workload.specs.NumberWords.{number_word, number_of, is_number_to, is_tries, is_weight}
use Rattle.workload.specs.CallWords.{map_verb, map_operands, atomic_verb, atomic_operands, mutex_verb, rw_mutex_verb, cond_verb, group_verb, group_operands, pool_verb, pool_operands, sema_verb, sema_weight, var_verb, var_operands, composed_verb, composed_operands, verb_of, operands_of}
use Rattle.workload.specs.Draft.{Draft, operation_keys, tries_of, may_start, names_second, is_operation, is_map_call, is_group_call, is_pool_call, is_var_call, is_composed_call, is_value, is_range_operation, is_access_operation}
use Rattle.workload.specs.Dialect.{is_variable_word, is_x_sync_word}
use Rattle.workload.specs.Checks.{map_form, atomic_form, bits_form, mutex_form, rw_mutex_form, cond_form, group_form, pool_form, sema_form, var_form, form_of, first_failing, form_words, wait_for_words, call_form, ranges_in, accesses_in}
use Rattle.workload.proofs.Passing.{both}
use Rattle.workload.proofs.FirstFailing.{PassesWith}
use Rattle.workload.proofs.Numbers.{is_number-decimal, number_of-decimal}
use Rattle.workload.proofs.CallWords.{number_passes, amount_passes, passes_pass, tries_pass, tries_back, weight_pass, weight_small}
use Rattle.workload.proofs.Started.{start_parts}
use Rattle.workload.proofs.Awaits.{Awaits, awaits, alone_second, no_second}
use Rattle.workload.proofs.Refuted.{no}

pub value_passes : (n : ℕ) → nat_le n MAX_VALUE ≡ true → is_number_to MAX_VALUE (decimal n) ≡ true
value_passes n le =
    let small : n < 2 ^ 64 = omega (arith, leb-true n MAX_VALUE le) in
    rw (is_number-decimal n small, number_of-decimal n small, le) refl

-- the key of a call, and one value or two behind it
named : (k : List ℕ) (vs : List ℕ) → (list_all is_name (k ∷ []) && list_all is_value vs) ≡ true → is_name k ≡ true
named k vs h = (both (is_name k) true (both (list_all is_name (k ∷ [])) (list_all is_value vs) h).0).0

valued : (k : List ℕ) (v : ℕ) (vs : List ℕ) → (list_all is_name (k ∷ []) && list_all is_value (v ∷ vs)) ≡ true → (is_number_to MAX_VALUE (decimal v) ≡ true) × (list_all is_value vs ≡ true)
valued k v vs h =
    let values = both (is_value v) (list_all is_value vs) (both (list_all is_name (k ∷ [])) (list_all is_value (v ∷ vs)) h).1 in
    (value_passes v values.0, values.1)

map_passes : (d : Draft) (c : MapCall (List ℕ)) → is_map_call c ≡ true → PassesWith d (map_form (map_verb c)) (map_operands c) (option_to_list (map_key c)) 0
map_passes d (map_calls.Load k) h = (refl, refl, rw (named k [] h) refl)
map_passes d (map_calls.Store k v) h = (refl, refl, rw (named k (v ∷ []) h, (valued k v [] h).0) refl)
map_passes d (map_calls.LoadOrStore k v) h = (refl, refl, rw (named k (v ∷ []) h, (valued k v [] h).0) refl)
map_passes d (map_calls.LoadAndDelete k) h = (refl, refl, rw (named k [] h) refl)
map_passes d (map_calls.Delete k) h = (refl, refl, rw (named k [] h) refl)
map_passes d (map_calls.Swap k v) h = (refl, refl, rw (named k (v ∷ []) h, (valued k v [] h).0) refl)
map_passes d (map_calls.CompareAndSwap k v w) h =
    let first = valued k v (w ∷ []) h in
    let second = value_passes w (both (is_value w) true first.1).0 in
    (refl, refl, rw (named k (v ∷ w ∷ []) h, first.0, second) refl)
map_passes d (map_calls.CompareAndDelete k v) h = (refl, refl, rw (named k (v ∷ []) h, (valued k v [] h).0) refl)
map_passes d map_calls.Clear h = (refl, refl, refl)

bits_pass : (d : Draft) (k : AtomicKind) (v : Number) → (has_bits k && is_of k v) ≡ true → PassesWith d (bits_form k) (number_word v ∷ []) [] 0
bits_pass d types.Int32 v h = (refl, refl, rw (number_passes types.Int32 v h) refl)
bits_pass d types.Int64 v h = (refl, refl, rw (number_passes types.Int64 v h) refl)
bits_pass d types.Uint32 v h = (refl, refl, rw (number_passes types.Uint32 v h) refl)
bits_pass d types.Uint64 v h = (refl, refl, rw (number_passes types.Uint64 v h) refl)
bits_pass d types.Bool v h = absurd cc

atomic_passes : (d : Draft) (k : AtomicKind) (c : AtomicCall) → is_atomic_call k c ≡ true → PassesWith d (atomic_form k (atomic_verb c)) (atomic_operands c) [] 0
atomic_passes d k atomic_calls.Load h = (refl, refl, refl)
atomic_passes d k (atomic_calls.Store v) h = (refl, refl, rw (number_passes k v h) refl)
atomic_passes d k (atomic_calls.Swap v) h = (refl, refl, rw (number_passes k v h) refl)
atomic_passes d k (atomic_calls.Add v) h = bits_pass d k v h
atomic_passes d k (atomic_calls.And v) h = bits_pass d k v h
atomic_passes d k (atomic_calls.Or v) h = bits_pass d k v h
atomic_passes d k (atomic_calls.CompareAndSwap v w) h =
    let numbers = both (is_of k v) (is_of k w) h in
    (refl, refl, rw (number_passes k v numbers.0, number_passes k w numbers.1) refl)

mutex_passes : (d : Draft) (c : MutexCall) → PassesWith d (mutex_form (mutex_verb c)) [] [] 0
mutex_passes d mutex_calls.Lock = (refl, refl, refl)
mutex_passes d mutex_calls.Unlock = (refl, refl, refl)
mutex_passes d mutex_calls.TryLock = (refl, refl, refl)

rw_mutex_passes : (d : Draft) (c : RwMutexCall) → PassesWith d (rw_mutex_form (rw_mutex_verb c)) [] [] 0
rw_mutex_passes d rw_mutex_calls.Lock = (refl, refl, refl)
rw_mutex_passes d rw_mutex_calls.Unlock = (refl, refl, refl)
rw_mutex_passes d rw_mutex_calls.TryLock = (refl, refl, refl)
rw_mutex_passes d rw_mutex_calls.RLock = (refl, refl, refl)
rw_mutex_passes d rw_mutex_calls.RUnlock = (refl, refl, refl)
rw_mutex_passes d rw_mutex_calls.TryRLock = (refl, refl, refl)

cond_passes : (d : Draft) (c : CondCall) → PassesWith d (cond_form (cond_verb c)) [] [] 0
cond_passes d cond_calls.Wait = (refl, refl, refl)
cond_passes d cond_calls.Signal = (refl, refl, refl)
cond_passes d cond_calls.Broadcast = (refl, refl, refl)

group_passes : (d : Draft) (c : WaitGroupCall) → is_group_call c ≡ true → PassesWith d (group_form (group_verb c)) (group_operands c) [] 0
group_passes d (group_calls.Add z) h = (refl, refl, rw (amount_passes z h) refl)
group_passes d group_calls.Done h = (refl, refl, refl)
group_passes d group_calls.Wait h = (refl, refl, refl)

pool_passes : (d : Draft) (c : PoolCall) → is_pool_call c ≡ true → PassesWith d (pool_form (pool_verb c)) (pool_operands c) [] 0
pool_passes d (pool_calls.Put v) h = (refl, refl, rw (value_passes v h) refl)
pool_passes d pool_calls.Get h = (refl, refl, refl)
pool_passes d pool_calls.Sweep h = (refl, refl, refl)

sema_passes : (d : Draft) (size : ℕ) (c : SemaCall) → is_weight size (sema_weight c) ≡ true → is_weight MAX_SIZE (sema_weight c) ≡ true → PassesWith d (sema_form size (sema_verb c)) (decimal (sema_weight c) ∷ []) [] 0
sema_passes d size (sema_calls.Acquire w) on h = (refl, refl, rw (weight_pass size w on (weight_small w h)) refl)
sema_passes d size (sema_calls.TryAcquire w) on h = (refl, refl, rw (weight_pass size w on (weight_small w h)) refl)
sema_passes d size (sema_calls.Release w) on h = (refl, refl, rw (weight_pass size w on (weight_small w h)) refl)

var_passes : (d : Draft) (c : VarCall) → is_var_call c ≡ true → PassesWith d (var_form (var_verb c)) (var_operands c) [] 0
var_passes d var_calls.Read h = (refl, refl, refl)
var_passes d (var_calls.Write v) h = (refl, refl, rw (value_passes v h) refl)

composed_passes : (d : Draft) (k : AtomicKind) (c : ComposedCall) → has_call (kinds.Atomic k) (operations.Composed c) ≡ true → is_composed_call c ≡ true → PassesWith d (atomic_form k (composed_verb c)) (composed_operands c) [] 0
composed_passes d k (IfEqual v n) on h = (refl, refl, rw (number_passes k v on, passes_pass n h) refl)
composed_passes d k (WaitFor a v n) on h = no on
composed_passes d k (Go w) on h = no on

-- the operands of a call that an object has alone
abbrev pub alone_form : Verb → ObjectKind → Option (List Operand)
alone_form verb (kinds.Sema size) = sema_form size verb
alone_form verb kind = form_of verb (word_of kind)

-- an operation that an object of the kind has alone
alone_passes : (d : Draft) (kind : ObjectKind) (o : Operation) → has_call kind o ≡ true → is_operation o ≡ true → PassesWith d (alone_form (verb_of o) kind) (operands_of o) (operation_keys o) 0
alone_passes d kinds.Map (operations.Map c) on h = map_passes d c h
alone_passes d kinds.Map operations.Range on h = (refl, refl, refl)
alone_passes d (kinds.Atomic k) (operations.Atomic c) on h = atomic_passes d k c on
alone_passes d kinds.Mutex (operations.Mutex c) on h = mutex_passes d c
alone_passes d kinds.RwMutex (operations.RwMutex c) on h = rw_mutex_passes d c
alone_passes d (kinds.Cond m) (operations.Cond c) on h = cond_passes d c
alone_passes d (kinds.WaitGroup n) (operations.WaitGroup c) on h = group_passes d c h
alone_passes d (kinds.Once a z) operations.Once on h = (refl, refl, refl)
alone_passes d (kinds.OnceFunc n) operations.OnceFunc on h = (refl, refl, refl)
alone_passes d (kinds.OnceValue n) operations.OnceValue on h = (refl, refl, refl)
alone_passes d kinds.Pool (operations.Pool c) on h = pool_passes d c h
alone_passes d (kinds.Sema n) (operations.Sema c) on h = sema_passes d n c on h
alone_passes d (kinds.Flight a z) (operations.Fly k) on h = (refl, refl, rw h refl)
alone_passes d kinds.Var (operations.Var c) on h = var_passes d c h
alone_passes d (kinds.Atomic k) (operations.Composed c) on h = composed_passes d k c on h
alone_passes d kind c on h = no on

-- the form of a call hangs on the draft only where it is a `waitfor` of a cond or a `go` of a wait group
pub plain_form : (d : Draft) (verb : Verb) (kind : ObjectKind) (words : List (List ℕ)) → ((verb ≡ verbs.WaitFor) → (word_of kind ≡ object_words.Cond) → ⊥) → ((verb ≡ verbs.Go) → (word_of kind ≡ object_words.WaitGroup) → ⊥)
    → call_form d verb kind words ≡ alone_form verb kind
plain_form d verbs.WaitFor (kinds.Cond m) words no_wait no_go = absurd (no_wait refl refl)
plain_form d verbs.Go (kinds.WaitGroup n) words no_wait no_go = absurd (no_go refl refl)
plain_form d verb (kinds.Sema size) words no_wait no_go = refl
plain_form d verb kind words no_wait no_go = refl

-- objects that have one alone have neither
no_wait_form : (kind : ObjectKind) → alone_form verbs.WaitFor kind ≡ None
no_wait_form kinds.Map = refl
no_wait_form kind = refl

no_go_form : (kind : ObjectKind) → alone_form verbs.Go kind ≡ None
no_go_form kinds.Map = refl
no_go_form kind = refl

not_alone : (d : Draft) (kind : ObjectKind) (o : Operation) (verb : Verb) → has_call kind o ≡ true → is_operation o ≡ true → alone_form verb kind ≡ None → verb_of o ≡ verb → ⊥
not_alone d kind o verb on h none is =
    let form : alone_form (verb_of o) kind ≡ None = ap (λ (v : Verb). alone_form v kind) is ∙ none in
    let fails : first_failing (form_words d (alone_form (verb_of o) kind) (operands_of o)) ≡ Some WrongKind = ap (λ (f : Option (List Operand)). first_failing (form_words d f (operands_of o))) form in
    let passes = sym (alone_passes d kind o on h).2 ∙ fails in
    cc

alone_call : (d : Draft) (kind : ObjectKind) (second : Option (List ℕ)) (o : Operation) → has_call kind o ≡ true → names_second d o second ≡ true → is_operation o ≡ true
    → PassesWith d (call_form d (verb_of o) kind (option_to_list second ++ operands_of o)) (option_to_list second ++ operands_of o) (operation_keys o) (tries_of o)
alone_call d kind second o on named h =
    let alone = alone_second kind o on in
    let form =
    plain_form d (verb_of o) kind (operands_of o) (λ v w. not_alone d kind o verbs.WaitFor on h (no_wait_form kind) v) (λ v w. not_alone d kind o verbs.Go on h (no_go_form kind) v) in
    subst (λ (x : Option (List ℕ)). PassesWith d (call_form d (verb_of o) kind (option_to_list x ++ operands_of o)) (option_to_list x ++ operands_of o) (operation_keys o) (tries_of o)) (sym (no_second d o second alone.0 named))
    (subst (λ (f : Option (List Operand)). PassesWith d f (operands_of o) (operation_keys o) (tries_of o)) (sym form)
    (subst (λ (n : ℕ). PassesWith d (alone_form (verb_of o) kind) (operands_of o) (operation_keys o) n) (sym alone.1) (alone_passes d kind o on h)))

none_more : (n : ℕ) → n + 0 ≡ n
none_more n = omega arith

-- a `waitfor` of an atomic that may hold its value
wait_passes : (d : Draft) (a : ℕ) (v : Number) (n : ℕ) (second : Option (List ℕ)) → Awaits d a v second → is_tries n ≡ true
    → PassesWith d (Some (wait_for_words d (option_to_list second ++ number_word v ∷ decimal n ∷ []))) (option_to_list second ++ number_word v ∷ decimal n ∷ []) [] n
wait_passes d a v n second w h =
    subst (λ (x : Option (List ℕ)). PassesWith d (Some (wait_for_words d (option_to_list x ++ number_word v ∷ decimal n ∷ []))) (option_to_list x ++ number_word v ∷ decimal n ∷ []) [] n) (sym w.is)
    (rw w.found (refl, none_more (number_of (decimal n)) ∙ tries_back n h, rw (w.named, number_passes w.kind v w.fits, tries_pass n h) refl))

-- a `go` of a worker that may be started
go_passes : (d : Draft) (worker : ℕ) (second : Option (List ℕ)) → names_second d (operations.Composed (Go worker)) second ≡ true → may_start d (operations.Composed (Go worker)) ≡ true → is_composed_call (Go worker) ≡ true
    → PassesWith d (Some (operands.Worker ∷ [])) (option_to_list second ++ decimal worker ∷ []) [] 0
go_passes d worker second named may h =
    let m = start_parts d worker may in
    let small : worker < 2 ^ 64 = omega (arith, ltb-true worker MAX_WORKERS h) in
    subst (λ (x : Option (List ℕ)). PassesWith d (Some (operands.Worker ∷ [])) (option_to_list x ++ decimal worker ∷ []) [] 0) (sym (no_second d (operations.Composed (Go worker)) second refl named))
    (refl, refl, rw (is_number-decimal worker small, number_of-decimal worker small, m.inside, m.waits, m.new) refl)

-- a call that its object has among the others passes the checks of the words behind the object's name
pub call_passes : (d : Draft) (kind : ObjectKind) (second : Option (List ℕ)) (o : Operation) → has_among d.plan.objects kind o ≡ true → names_second d o second ≡ true → may_start d o ≡ true → is_operation o ≡ true
    → PassesWith d (call_form d (verb_of o) kind (option_to_list second ++ operands_of o)) (option_to_list second ++ operands_of o) (operation_keys o) (tries_of o)
call_passes d (kinds.Cond m) second (operations.Composed (WaitFor a v n)) on named may h = wait_passes d a v n second (awaits d a v n second on named) h
call_passes d (kinds.WaitGroup n) second (operations.Composed (Go w)) on named may h = go_passes d w second named may h
call_passes d kind second o on named may h = alone_call d kind second o on named h

-- whether an operation is one of a semaphore or of flights
abbrev pub is_x_sync_operation : Operation → Bool
is_x_sync_operation (operations.Sema call) = true
is_x_sync_operation (operations.Fly key) = true
is_x_sync_operation operation = false

-- the word of a call that is neither `range` nor of a plain variable, a semaphore or flights
abbrev IsOther : Verb → Type 0
IsOther verb = (0 ≡ ranges_in verb) × (0 ≡ accesses_in verb) × (false ≡ is_variable_word (keywords.Call verb)) × (false ≡ is_x_sync_word (keywords.Call verb))

-- the word of an operation says whether it is `range`, whether it reads or writes a plain variable, and whether it is one of a semaphore or of flights
counts_of : (o : Operation) → (count_by is_range_operation (o ∷ []) ≡ ranges_in (verb_of o)) × (count_by is_access_operation (o ∷ []) ≡ accesses_in (verb_of o))
    × (is_access_operation o ≡ is_variable_word (keywords.Call (verb_of o))) × (is_x_sync_operation o ≡ is_x_sync_word (keywords.Call (verb_of o)))
counts_of (operations.Map c) = other c
  where
    other : (c : MapCall (List ℕ)) → IsOther (map_verb c)
    other (map_calls.Load k) = (refl, refl, refl, refl)
    other (map_calls.Store k v) = (refl, refl, refl, refl)
    other (map_calls.LoadOrStore k v) = (refl, refl, refl, refl)
    other (map_calls.LoadAndDelete k) = (refl, refl, refl, refl)
    other (map_calls.Delete k) = (refl, refl, refl, refl)
    other (map_calls.Swap k v) = (refl, refl, refl, refl)
    other (map_calls.CompareAndSwap k v w) = (refl, refl, refl, refl)
    other (map_calls.CompareAndDelete k v) = (refl, refl, refl, refl)
    other map_calls.Clear = (refl, refl, refl, refl)
counts_of operations.Range = (refl, refl, refl, refl)
counts_of (operations.Atomic c) = other c
  where
    other : (c : AtomicCall) → IsOther (atomic_verb c)
    other atomic_calls.Load = (refl, refl, refl, refl)
    other (atomic_calls.Store v) = (refl, refl, refl, refl)
    other (atomic_calls.Swap v) = (refl, refl, refl, refl)
    other (atomic_calls.Add v) = (refl, refl, refl, refl)
    other (atomic_calls.And v) = (refl, refl, refl, refl)
    other (atomic_calls.Or v) = (refl, refl, refl, refl)
    other (atomic_calls.CompareAndSwap v w) = (refl, refl, refl, refl)
counts_of (operations.Mutex c) = other c
  where
    other : (c : MutexCall) → IsOther (mutex_verb c)
    other mutex_calls.Lock = (refl, refl, refl, refl)
    other mutex_calls.Unlock = (refl, refl, refl, refl)
    other mutex_calls.TryLock = (refl, refl, refl, refl)
counts_of (operations.RwMutex c) = other c
  where
    other : (c : RwMutexCall) → IsOther (rw_mutex_verb c)
    other rw_mutex_calls.Lock = (refl, refl, refl, refl)
    other rw_mutex_calls.Unlock = (refl, refl, refl, refl)
    other rw_mutex_calls.TryLock = (refl, refl, refl, refl)
    other rw_mutex_calls.RLock = (refl, refl, refl, refl)
    other rw_mutex_calls.RUnlock = (refl, refl, refl, refl)
    other rw_mutex_calls.TryRLock = (refl, refl, refl, refl)
counts_of (operations.Cond c) = other c
  where
    other : (c : CondCall) → IsOther (cond_verb c)
    other cond_calls.Wait = (refl, refl, refl, refl)
    other cond_calls.Signal = (refl, refl, refl, refl)
    other cond_calls.Broadcast = (refl, refl, refl, refl)
counts_of (operations.WaitGroup c) = other c
  where
    other : (c : WaitGroupCall) → IsOther (group_verb c)
    other (group_calls.Add z) = (refl, refl, refl, refl)
    other group_calls.Done = (refl, refl, refl, refl)
    other group_calls.Wait = (refl, refl, refl, refl)
counts_of operations.Once = (refl, refl, refl, refl)
counts_of operations.OnceFunc = (refl, refl, refl, refl)
counts_of operations.OnceValue = (refl, refl, refl, refl)
counts_of (operations.Pool c) = other c
  where
    other : (c : PoolCall) → IsOther (pool_verb c)
    other (pool_calls.Put v) = (refl, refl, refl, refl)
    other pool_calls.Get = (refl, refl, refl, refl)
    other pool_calls.Sweep = (refl, refl, refl, refl)
counts_of (operations.Sema (sema_calls.Acquire w)) = (refl, refl, refl, refl)
counts_of (operations.Sema (sema_calls.TryAcquire w)) = (refl, refl, refl, refl)
counts_of (operations.Sema (sema_calls.Release w)) = (refl, refl, refl, refl)
counts_of (operations.Fly k) = (refl, refl, refl, refl)
counts_of (operations.Var var_calls.Read) = (refl, refl, refl, refl)
counts_of (operations.Var (var_calls.Write value)) = (refl, refl, refl, refl)
counts_of (operations.Composed (IfEqual v n)) = (refl, refl, refl, refl)
counts_of (operations.Composed (WaitFor a v n)) = (refl, refl, refl, refl)
counts_of (operations.Composed (Go w)) = (refl, refl, refl, refl)

pub ranges_of : (o : Operation) → count_by is_range_operation (o ∷ []) ≡ ranges_in (verb_of o)
ranges_of o = (counts_of o).0

pub accesses_of : (o : Operation) → count_by is_access_operation (o ∷ []) ≡ accesses_in (verb_of o)
accesses_of o = (counts_of o).1

-- its word is one of plain variables where it reads or writes one
pub variables_of : (o : Operation) → is_access_operation o ≡ is_variable_word (keywords.Call (verb_of o))
variables_of o = (counts_of o).2

-- and one of semaphores or flights where it is on one
pub x_syncs_of : (o : Operation) → is_x_sync_operation o ≡ is_x_sync_word (keywords.Call (verb_of o))
x_syncs_of o = (counts_of o).3
