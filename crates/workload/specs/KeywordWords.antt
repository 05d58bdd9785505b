-- The words that lines begin with: of objects, of calls, and of the others.
use Rattle.std.specs.Prelude.{ℕ, cond, List, [], ◌∷◌, ◌++◌, map, codes, Option, Some, None}
use Rattle.std.specs.Str.{bytes_eq}
use Rattle.sync_types.specs.declared.atomic_object.AtomicKind.TheVariants as types
use Rattle.workload.specs.declared.keyword.Keyword.{Keyword}
use Rattle.workload.specs.declared.keyword.Keyword.TheVariants as keywords
use Rattle.workload.specs.declared.keyword.Verb.{Verb}
use Rattle.workload.specs.declared.keyword.Verb.TheVariants as verbs
use Rattle.workload.specs.declared.object.ObjectWord.{ObjectWord}
use Rattle.workload.specs.declared.object.ObjectWord.TheVariants as words

-- the text of an object's word
abbrev pub object_word : ObjectWord → List ℕ
object_word words.Map = codes "map"
object_word (words.Atomic types.Int32) = codes "int32"
object_word (words.Atomic types.Int64) = codes "int64"
object_word (words.Atomic types.Uint32) = codes "uint32"
object_word (words.Atomic types.Uint64) = codes "uint64"
object_word (words.Atomic types.Bool) = codes "bool"
object_word words.Mutex = codes "mutex"
object_word words.RwMutex = codes "rwmutex"
object_word words.Cond = codes "cond"
object_word words.WaitGroup = codes "waitgroup"
object_word words.Once = codes "once"
object_word words.OnceFunc = codes "oncefunc"
object_word words.OnceValue = codes "oncevalue"
object_word words.Pool = codes "pool"
object_word words.Sema = codes "sema"
object_word words.Flight = codes "flight"
object_word words.Var = codes "var"

-- the word of a call
abbrev pub verb_word : Verb → List ℕ
verb_word verbs.Load = codes "load"
verb_word verbs.Store = codes "store"
verb_word verbs.LoadOrStore = codes "los"
verb_word verbs.LoadAndDelete = codes "lad"
verb_word verbs.Delete = codes "delete"
verb_word verbs.Swap = codes "swap"
verb_word verbs.CompareAndSwap = codes "cas"
verb_word verbs.CompareAndDelete = codes "cad"
verb_word verbs.Clear = codes "clear"
verb_word verbs.Range = codes "range"
verb_word verbs.Add = codes "add"
verb_word verbs.And = codes "and"
verb_word verbs.Or = codes "or"
verb_word verbs.Lock = codes "lock"
verb_word verbs.Unlock = codes "unlock"
verb_word verbs.TryLock = codes "trylock"
verb_word verbs.RLock = codes "rlock"
verb_word verbs.RUnlock = codes "runlock"
verb_word verbs.TryRLock = codes "tryrlock"
verb_word verbs.Wait = codes "wait"
verb_word verbs.Signal = codes "signal"
verb_word verbs.Broadcast = codes "broadcast"
verb_word verbs.Done = codes "done"
verb_word verbs.Do = codes "do"
verb_word verbs.Call = codes "call"
verb_word verbs.Value = codes "value"
verb_word verbs.Put = codes "put"
verb_word verbs.Get = codes "get"
verb_word verbs.Sweep = codes "sweep"
verb_word verbs.IfEqual = codes "ifeq"
verb_word verbs.WaitFor = codes "waitfor"
verb_word verbs.Go = codes "go"
verb_word verbs.Acquire = codes "acquire"
verb_word verbs.TryAcquire = codes "tryacquire"
verb_word verbs.Release = codes "release"
verb_word verbs.Fly = codes "fly"
verb_word verbs.Read = codes "read"
verb_word verbs.Write = codes "write"

-- the word that a line begins with
abbrev pub keyword_word : Keyword → List ℕ
keyword_word keywords.Workers = codes "workers"
keyword_word (keywords.Object word) = object_word word
keyword_word keywords.Dormant = codes "dormant"
keyword_word keywords.Worker = codes "worker"
keyword_word keywords.Schedule = codes "schedule"
keyword_word (keywords.Call verb) = verb_word verb

-- the objects' words
abbrev pub object_words : List ObjectWord
object_words =
    words.Map ∷ words.Atomic types.Int32 ∷ words.Atomic types.Int64 ∷ words.Atomic types.Uint32 ∷ words.Atomic types.Uint64 ∷ words.Atomic types.Bool
    ∷ words.Mutex ∷ words.RwMutex ∷ words.Cond ∷ words.WaitGroup ∷ words.Once ∷ words.OnceFunc ∷ words.OnceValue ∷ words.Pool ∷ words.Sema ∷ words.Flight ∷ words.Var ∷ []

-- the calls' words
abbrev pub call_verbs : List Verb
call_verbs =
    verbs.Load ∷ verbs.Store ∷ verbs.LoadOrStore ∷ verbs.LoadAndDelete ∷ verbs.Delete ∷ verbs.Swap ∷ verbs.CompareAndSwap ∷ verbs.CompareAndDelete ∷ verbs.Clear ∷ verbs.Range
    ∷ verbs.Add ∷ verbs.And ∷ verbs.Or ∷ verbs.Lock ∷ verbs.Unlock ∷ verbs.TryLock ∷ verbs.RLock ∷ verbs.RUnlock ∷ verbs.TryRLock
    ∷ verbs.Wait ∷ verbs.Signal ∷ verbs.Broadcast ∷ verbs.Done ∷ verbs.Do ∷ verbs.Call ∷ verbs.Value ∷ verbs.Put ∷ verbs.Get ∷ verbs.Sweep ∷ verbs.IfEqual ∷ verbs.WaitFor ∷ verbs.Go
    ∷ verbs.Acquire ∷ verbs.TryAcquire ∷ verbs.Release ∷ verbs.Fly ∷ verbs.Read ∷ verbs.Write ∷ []

-- the keywords other than calls
abbrev pub other_keywords : List Keyword
other_keywords = keywords.Schedule ∷ keywords.Worker ∷ keywords.Workers ∷ keywords.Dormant ∷ map (λ word. keywords.Object word) object_words

-- all that a line may begin with
abbrev pub all_keywords : List Keyword
all_keywords = other_keywords ++ map (λ verb. keywords.Call verb) call_verbs

-- the first of some things whose name it is
abbrev pub first_named : {X : Type 0} → (X → List ℕ) → List X → List ℕ → Option X
first_named name [] word = None
first_named name (x ∷ others) word = cond (bytes_eq word (name x)) (Some x) (first_named name others word)

-- the keyword that a word is, if it is one
abbrev pub keyword_at : List ℕ → Option Keyword
keyword_at word = first_named keyword_word all_keywords word
