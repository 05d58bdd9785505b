-- Why a line is refused: its checks in their order, each with the reason where it fails.
use Rattle.std.specs.Prelude.{ℕ, Bool, true, false, ◌&&◌, ◌+◌, not, cond, nat_lt, nat_le, ◌==◌, List, [], ◌∷◌, ◌++◌, length, Option, Some, None, is_some}
use Rattle.std.specs.List.{flat_map}
use Rattle.std.specs.Option.{option_map_or}
use Rattle.std.specs.Str.{bytes_eq}
use Rattle.sync_types.specs.Name.{is_name}
use Rattle.script_calls.specs.Starts.{start_count}
use Rattle.sync_types.specs.declared.atomic_object.AtomicKind.{AtomicKind}
use Rattle.sync_types.specs.declared.atomic_object.AtomicKind.TheVariants as types
use Rattle.sync_types.specs.SequentialAtomic.{has_bits}
use Rattle.workload.specs.declared.limits.TheConstants.{MAX_ACCESSES, MAX_ALL_TRIES, MAX_AMOUNT, MAX_CALLS, MAX_CODE, MAX_KEYS, MAX_RANGES, MAX_SIZE, MAX_TURNS, MAX_WORKERS}
use Rattle.sync_types.specs.declared.value.TheConstants.{MAX_VALUE}
use Rattle.workload.specs.declared.keyword.Dialect.{Dialect}
use Rattle.workload.specs.declared.keyword.Keyword.{Keyword}
use Rattle.workload.specs.declared.keyword.Keyword.TheVariants as keywords
use Rattle.workload.specs.declared.keyword.Verb.{Verb}
use Rattle.workload.specs.declared.keyword.Verb.TheVariants as verbs
use Rattle.workload.specs.declared.keyword.Operand.{Operand}
use Rattle.workload.specs.declared.keyword.Operand.TheVariants as operands
use Rattle.workload.specs.declared.keyword.Parameter.{Parameter}
use Rattle.workload.specs.declared.keyword.Parameter.TheVariants as parameters
use Rattle.workload.specs.declared.object.ObjectKind.{ObjectKind}
use Rattle.workload.specs.declared.object.ObjectKind.TheVariants as kinds
use Rattle.workload.specs.declared.object.ObjectWord.{ObjectWord}
use Rattle.workload.specs.declared.object.ObjectWord.TheVariants as words
use Rattle.workload.specs.declared.object.Declared.{Declared}
use Rattle.workload.specs.declared.reason.Reason.{Reason}
use Rattle.workload.specs.declared.reason.Reason.TheVariants.{NoWorkersLine, LineTooLong, BadByte, UnknownWord, WrongNumberOfWords, BadName, NameTaken, UnknownName, WrongKind, BadNumber, NoSuchWorker, CallOutsideWorker, LimitReached, NotDormant}
use Rattle.workload.specs.Lines.{is_short, is_clean, words_of, is_significant}
use Rattle.workload.specs.KeywordWords.{keyword_word}
use Rattle.workload.specs.Dialect.{keyword_in}
use Rattle.workload.specs.Plan.{word_of, is_dormant}
use Rattle.workload.specs.NumberWords.{is_number, is_number_to, is_amount_word, is_passes_word, is_tries_word, is_weight_word, is_number_word, number_of}
use Rattle.workload.specs.Draft.{Draft, declared, limit_of, count_of, call_count, key_count, range_count, try_count, access_count}

-- whether a check passes, and the reason that it fails for
abbrev pub Check : Type 0
Check = Bool × Reason

-- the reason of the first check that fails
abbrev pub first_failing : List Check → Option Reason
first_failing [] = None
first_failing (check ∷ checks) = cond check.0 (first_failing checks) (Some check.1)

-- the operands of a call of a map, behind its name, where a map has the call
abbrev pub map_form : Verb → Option (List Operand)
map_form verbs.Load = Some (operands.Key ∷ [])
map_form verbs.Store = Some (operands.Key ∷ operands.Value ∷ [])
map_form verbs.LoadOrStore = Some (operands.Key ∷ operands.Value ∷ [])
map_form verbs.LoadAndDelete = Some (operands.Key ∷ [])
map_form verbs.Delete = Some (operands.Key ∷ [])
map_form verbs.Swap = Some (operands.Key ∷ operands.Value ∷ [])
map_form verbs.CompareAndSwap = Some (operands.Key ∷ operands.Value ∷ operands.Value ∷ [])
map_form verbs.CompareAndDelete = Some (operands.Key ∷ operands.Value ∷ [])
map_form verbs.Clear = Some []
map_form verbs.Range = Some []
map_form verb = None

-- one number of this type, where it is one that has bits
abbrev pub bits_form : AtomicKind → Option (List Operand)
bits_form kind = cond (has_bits kind) (Some (operands.Number kind ∷ [])) None

-- the operands of a call of an atomic of this type
abbrev pub atomic_form : AtomicKind → Verb → Option (List Operand)
atomic_form kind verbs.Load = Some []
atomic_form kind verbs.Store = Some (operands.Number kind ∷ [])
atomic_form kind verbs.Swap = Some (operands.Number kind ∷ [])
atomic_form kind verbs.Add = bits_form kind
atomic_form kind verbs.And = bits_form kind
atomic_form kind verbs.Or = bits_form kind
atomic_form kind verbs.CompareAndSwap = Some (operands.Number kind ∷ operands.Number kind ∷ [])
atomic_form kind verbs.IfEqual = Some (operands.Number kind ∷ operands.Passes ∷ [])
atomic_form kind verb = None

-- a call of a mutex has no operands
abbrev pub mutex_form : Verb → Option (List Operand)
mutex_form verbs.Lock = Some []
mutex_form verbs.Unlock = Some []
mutex_form verbs.TryLock = Some []
mutex_form verb = None

-- nor has one of a reader/writer mutex
abbrev pub rw_mutex_form : Verb → Option (List Operand)
rw_mutex_form verbs.Lock = Some []
rw_mutex_form verbs.Unlock = Some []
rw_mutex_form verbs.TryLock = Some []
rw_mutex_form verbs.RLock = Some []
rw_mutex_form verbs.RUnlock = Some []
rw_mutex_form verbs.TryRLock = Some []
rw_mutex_form verb = None

-- nor has one of a cond
abbrev pub cond_form : Verb → Option (List Operand)
cond_form verbs.Wait = Some []
cond_form verbs.Signal = Some []
cond_form verbs.Broadcast = Some []
cond_form verb = None

-- the operands of a call of a wait group
abbrev pub group_form : Verb → Option (List Operand)
group_form verbs.Add = Some (operands.Amount ∷ [])
group_form verbs.Done = Some []
group_form verbs.Wait = Some []
group_form verb = None

-- a once, and a function made by one, has one call
abbrev pub once_form : Verb → Option (List Operand)
once_form verbs.Do = Some []
once_form verb = None

abbrev pub once_func_form : Verb → Option (List Operand)
once_func_form verbs.Call = Some []
once_func_form verb = None

abbrev pub once_value_form : Verb → Option (List Operand)
once_value_form verbs.Value = Some []
once_value_form verb = None

-- the operands of a call of a pool
abbrev pub pool_form : Verb → Option (List Operand)
pool_form verbs.Put = Some (operands.Value ∷ [])
pool_form verbs.Get = Some []
pool_form verbs.Sweep = Some []
pool_form verb = None

-- the operands of a call of a semaphore of a size: a weight that it may have
abbrev pub sema_form : ℕ → Verb → Option (List Operand)
sema_form size verbs.Acquire = Some (operands.Weight size ∷ [])
sema_form size verbs.TryAcquire = Some (operands.Weight size ∷ [])
sema_form size verbs.Release = Some (operands.Weight size ∷ [])
sema_form size verb = None

-- the operands of a call of flights
abbrev pub flight_form : Verb → Option (List Operand)
flight_form verbs.Fly = Some (operands.Key ∷ [])
flight_form verb = None

-- the operands of a call of a plain variable
abbrev pub var_form : Verb → Option (List Operand)
var_form verbs.Read = Some []
var_form verbs.Write = Some (operands.Value ∷ [])
var_form verb = None

-- the operands of a call on an object of a word, where such objects have the call. Those of a semaphore hang on its size
abbrev pub form_of : Verb → ObjectWord → Option (List Operand)
form_of verb words.Map = map_form verb
form_of verb (words.Atomic kind) = atomic_form kind verb
form_of verb words.Mutex = mutex_form verb
form_of verb words.RwMutex = rw_mutex_form verb
form_of verb words.Cond = cond_form verb
form_of verb words.WaitGroup = group_form verb
form_of verb words.Once = once_form verb
form_of verb words.OnceFunc = once_func_form verb
form_of verb words.OnceValue = once_value_form verb
form_of verb words.Pool = pool_form verb
form_of verb words.Sema = None
form_of verb words.Flight = flight_form verb
form_of verb words.Var = var_form verb

-- the kinds of object to which a name may refer
abbrev pub is_mutex : ObjectKind → Bool
is_mutex kinds.Mutex = true
is_mutex kind = false

abbrev pub is_int64 : ObjectKind → Bool
is_int64 (kinds.Atomic types.Int64) = true
is_int64 kind = false

abbrev pub is_atomic : ObjectKind → Bool
is_atomic (kinds.Atomic kind) = true
is_atomic kind = false

-- a name of an object that is declared before, of a kind that passes the test
abbrev pub reference_checks : Draft → (ObjectKind → Bool) → List ℕ → List Check
reference_checks d test word =
    (is_name word, BadName) ∷ (is_some (declared d word), UnknownName) ∷ (option_map_or (λ found. test found.kind) (declared d word) false, WrongKind) ∷ []

-- The number that a `waitfor` waits for, by the kind of the object that its first operand names: one of the atomic's type. Any other kind is refused before
abbrev pub awaited_number : ObjectKind → Operand
awaited_number (kinds.Atomic kind) = operands.Number kind
awaited_number kind = operands.Value

-- the operands of a `waitfor` behind the cond's name, by the object that the first of them names: an atomic, a number of its type, and a number of waits
abbrev pub wait_for_form : Option Declared → List Operand
wait_for_form found = operands.Atomic ∷ option_map_or (λ object. awaited_number object.kind) found operands.Value ∷ operands.Tries ∷ []

-- by the words of the operands
abbrev pub wait_for_words : Draft → List (List ℕ) → List Operand
wait_for_words d [] = wait_for_form None
wait_for_words d (word ∷ words) = wait_for_form (declared d word)

-- The operands of a call on an object, where such objects have the call. Those of a `waitfor` hang on what the draft declares, and a `go` names a worker
abbrev pub call_form : Draft → Verb → ObjectKind → List (List ℕ) → Option (List Operand)
call_form d verbs.WaitFor (kinds.Cond mutex) behind = Some (wait_for_words d behind)
call_form d verbs.Go (kinds.WaitGroup start) behind = Some (operands.Worker ∷ [])
call_form d verb (kinds.Sema size) behind = sema_form size verb
call_form d verb kind behind = form_of verb (word_of kind)

-- the form of an operand
abbrev pub operand_check : Operand → List ℕ → Check
operand_check operands.Key word = (is_name word, BadName)
operand_check operands.Value word = (is_number_to MAX_VALUE word, BadNumber)
operand_check (operands.Number kind) word = (is_number_word kind word, BadNumber)
operand_check operands.Amount word = (is_amount_word word, BadNumber)
operand_check operands.Passes word = (is_passes_word word, BadNumber)
operand_check operands.Tries word = (is_tries_word word, BadNumber)
operand_check (operands.Weight most) word = (is_weight_word most word, BadNumber)
operand_check operands.Atomic word = (is_name word, BadName)
operand_check operands.Worker word = (is_number word, BadNumber)

-- the number of a worker of whom there are so many
abbrev pub worker_checks : ℕ → List ℕ → List Check
worker_checks workers word = (is_number word, BadNumber) ∷ (nat_lt (number_of word) workers, NoSuchWorker) ∷ []

-- a worker that waits to be started, and that no call starts yet
abbrev pub start_checks : Draft → List ℕ → List Check
start_checks d word = worker_checks d.plan.workers word ++ (is_dormant d.plan (number_of word), NotDormant) ∷ (start_count (number_of word) d.plan.scripts == 0, NameTaken) ∷ []

-- the operands from left to right; the name of an atomic is that of one that is declared before, and a worker is one that may be started
abbrev pub operand_checks : Draft → List Operand → List (List ℕ) → List Check
operand_checks d [] words = []
operand_checks d (form ∷ forms) [] = []
operand_checks d (operands.Atomic ∷ forms) (word ∷ words) = reference_checks d is_atomic word ++ operand_checks d forms words
operand_checks d (operands.Worker ∷ forms) (word ∷ words) = start_checks d word ++ operand_checks d forms words
operand_checks d (form ∷ forms) (word ∷ words) = operand_check form word ∷ operand_checks d forms words

-- the keys among the operands
abbrev pub key_operands : List Operand → List (List ℕ) → List (List ℕ)
key_operands [] words = []
key_operands (form ∷ forms) [] = []
key_operands (operands.Key ∷ forms) (word ∷ words) = word ∷ key_operands forms words
key_operands (form ∷ forms) (word ∷ words) = key_operands forms words

-- the count of the operands, and each of them from left to right
abbrev pub form_words : Draft → Option (List Operand) → List (List ℕ) → List Check
form_words d None words = (false, WrongKind) ∷ []
form_words d (Some form) words = (length words == length form, WrongNumberOfWords) ∷ operand_checks d form words

-- the keys among words of a form
abbrev pub keys_among : Option (List Operand) → List (List ℕ) → List (List ℕ)
keys_among None words = []
keys_among (Some form) words = key_operands form words

-- how many waits the operands say, all together
abbrev pub try_operands : List Operand → List (List ℕ) → ℕ
try_operands [] words = 0
try_operands (form ∷ forms) [] = 0
try_operands (operands.Tries ∷ forms) (word ∷ words) = number_of word + try_operands forms words
try_operands (form ∷ forms) (word ∷ words) = try_operands forms words

abbrev pub tries_among : Option (List Operand) → List (List ℕ) → ℕ
tries_among None words = 0
tries_among (Some form) words = try_operands form words

-- how many `range` calls a call of this word is
abbrev pub ranges_in : Verb → ℕ
ranges_in verbs.Range = 1
ranges_in verb = 0

-- how many reads and writes of plain variables
abbrev pub accesses_in : Verb → ℕ
accesses_in verbs.Read = 1
accesses_in verbs.Write = 1
accesses_in verb = 0

-- the limits on calls, of one more call with these keys, which is so many `range` calls, may make so many waits, and is so many reads and writes
abbrev pub limit_checks : Draft → List (List ℕ) → (ranges tries accesses : ℕ) → List Check
limit_checks d keys ranges tries accesses =
    (nat_lt (call_count d.plan.scripts) MAX_CALLS, LimitReached)
    ∷ (nat_le (key_count d.plan.scripts keys) MAX_KEYS, LimitReached)
    ∷ (nat_le (range_count d.plan.scripts + ranges) MAX_RANGES, LimitReached)
    ∷ (nat_le (try_count d.plan.scripts + tries) MAX_ALL_TRIES, LimitReached)
    ∷ (nat_le (access_count d.plan.scripts + accesses) MAX_ACCESSES, LimitReached) ∷ []

abbrev pub form_checks : Draft → Verb → Option (List Operand) → List (List ℕ) → List Check
form_checks d verb form words = form_words d form words ++ limit_checks d (keys_among form words) (ranges_in verb) (tries_among form words) (accesses_in verb)

abbrev pub object_checks : Draft → Option Declared → Verb → List (List ℕ) → List Check
object_checks d None verb words = (false, UnknownName) ∷ []
object_checks d (Some found) verb words = form_checks d verb (call_form d verb found.kind words) words

abbrev pub call_checks : Draft → Verb → List (List ℕ) → List Check
call_checks d verb [] = (is_some d.current, CallOutsideWorker) ∷ (false, WrongNumberOfWords) ∷ []
call_checks d verb (name ∷ words) =
    (is_some d.current, CallOutsideWorker) ∷ (is_name name, BadName) ∷ object_checks d (declared d name) verb words

-- what the line of an object has behind the object's name
abbrev pub parameters_of : ObjectWord → List Parameter
parameters_of words.Cond = parameters.Mutex ∷ []
parameters_of words.WaitGroup = parameters.Number MAX_AMOUNT ∷ []
parameters_of words.Once = parameters.Int64 ∷ parameters.Amount ∷ []
parameters_of words.Sema = parameters.Size ∷ []
parameters_of words.Flight = parameters.Int64 ∷ parameters.Amount ∷ []
parameters_of words.OnceFunc = parameters.Number MAX_CODE ∷ []
parameters_of words.OnceValue = parameters.Number MAX_VALUE ∷ []
parameters_of word = []

abbrev pub parameter_checks : Draft → Parameter → List ℕ → List Check
parameter_checks d parameters.Mutex word = reference_checks d is_mutex word
parameter_checks d parameters.Int64 word = reference_checks d is_int64 word
parameter_checks d (parameters.Number most) word = (is_number_to most word, BadNumber) ∷ []
parameter_checks d parameters.Amount word = (is_amount_word word, BadNumber) ∷ []
parameter_checks d parameters.Size word = (is_weight_word MAX_SIZE word, BadNumber) ∷ []

-- the words from left to right
abbrev pub parameters_checks : Draft → List Parameter → List (List ℕ) → List Check
parameters_checks d [] words = []
parameters_checks d (form ∷ forms) [] = []
parameters_checks d (form ∷ forms) (word ∷ words) = parameter_checks d form word ++ parameters_checks d forms words

-- the count of the words behind an object's name, and each of them from left to right
abbrev pub parameter_words : Draft → ObjectWord → List (List ℕ) → List Check
parameter_words d word words = (length words == length (parameters_of word), WrongNumberOfWords) ∷ parameters_checks d (parameters_of word) words

-- the checks of the line of an object
abbrev pub declaration_checks : Draft → ObjectWord → List (List ℕ) → List Check
declaration_checks d word [] = (false, WrongNumberOfWords) ∷ []
declaration_checks d word (name ∷ words) =
    (length words == length (parameters_of word), WrongNumberOfWords) ∷ (is_name name, BadName) ∷ (not (is_some (declared d name)), NameTaken)
    ∷ parameters_checks d (parameters_of word) words ++ (nat_lt (count_of word d.plan.objects) (limit_of word), LimitReached) ∷ []

-- a worker that no `dormant` line names yet
abbrev pub dormant_checks : Draft → List ℕ → List Check
dormant_checks d word = worker_checks d.plan.workers word ++ (not (is_dormant d.plan (number_of word)), NameTaken) ∷ []

-- an item of a schedule is a moment behind an `@`, or a worker's number
abbrev pub item_checks : ℕ → List ℕ → List Check
item_checks workers [] = (false, BadNumber) ∷ []
item_checks workers (byte ∷ bytes) = cond (byte == 64) ((is_number_to MAX_VALUE bytes, BadNumber) ∷ []) (worker_checks workers (byte ∷ bytes))

abbrev pub one_word : List (List ℕ) → (List ℕ → List Check) → List Check
one_word (word ∷ []) checks = checks word
one_word [] checks = (false, WrongNumberOfWords) ∷ []
one_word (word ∷ other ∷ words) checks = (false, WrongNumberOfWords) ∷ []

-- the checks of a line behind the first significant one
abbrev pub line_checks : Draft → Option Keyword → List (List ℕ) → List Check
line_checks d None words = (false, UnknownWord) ∷ []
line_checks d (Some keywords.Workers) words = (false, NameTaken) ∷ []
line_checks d (Some (keywords.Object word)) words = declaration_checks d word words
line_checks d (Some keywords.Dormant) words = one_word words (dormant_checks d)
line_checks d (Some keywords.Worker) words = one_word words (worker_checks d.plan.workers)
line_checks d (Some keywords.Schedule) words =
    (nat_lt 0 (length words), WrongNumberOfWords) ∷ flat_map (item_checks d.plan.workers) words ++ (nat_le (length d.plan.schedule + length words) MAX_TURNS, LimitReached) ∷ []
line_checks d (Some (keywords.Call verb)) words = call_checks d verb words

-- the checks of the first significant line
abbrev pub first_checks : List ℕ → List (List ℕ) → List Check
first_checks word words =
    (bytes_eq word (keyword_word keywords.Workers), NoWorkersLine) ∷ one_word words (λ number.
    (is_number_to MAX_WORKERS number && nat_lt 0 (number_of number), BadNumber) ∷ [])

-- the checks of the words of a line of a text of this dialect, by the draft that it follows, if it isn't the first
abbrev pub word_checks : Dialect → Option Draft → List (List ℕ) → List Check
word_checks dialect d [] = []
word_checks dialect None (word ∷ words) = first_checks word words
word_checks dialect (Some d) (word ∷ words) = line_checks d (keyword_in dialect word) words

-- the checks of a line: its bytes, and then its words where it says something
abbrev pub checks_of : Dialect → Option Draft → List ℕ → List Check
checks_of dialect d line =
    (is_short line, LineTooLong) ∷ (is_clean line, BadByte)
    ∷ cond (is_significant (words_of line)) (word_checks dialect d (words_of line)) []

-- why the line is refused, if it is
abbrev pub reason_of : Dialect → Option Draft → List ℕ → Option Reason
reason_of dialect d line = first_failing (checks_of dialect d line)
