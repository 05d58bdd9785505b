-- The objects of a record by number, with the words that name them.
use Rattle.std.specs.Prelude.{ℕ, List, [], ◌∷◌, ◌++◌, map, codes, Option, slice_get}
use Rattle.std.specs.List.{flat_map, position_from, range_with_len}
use Rattle.std.specs.Option.{option_map, option_map_or}
use Rattle.std.specs.Str.{bytes_eq}
use Rattle.std.specs.Fmt.{decimal}
use Rattle.workload.specs.declared.object.ObjectKind.{ObjectKind}
use Rattle.workload.specs.declared.object.ObjectKind.TheVariants as objects
use Rattle.workload.specs.declared.object.ObjectLine.{ObjectLine}
use Rattle.workload.specs.Plan.{Plan}
use Rattle.record_text.specs.declared.directory.Named.{Named}
use Rattle.record_text.specs.declared.event.JournalKind.{JournalKind}
use Rattle.record_text.specs.declared.event.JournalKind.TheVariants as kinds

abbrev pub kind_of : ObjectKind → JournalKind
kind_of objects.Map = kinds.Empty
kind_of (objects.Atomic type) = kinds.Empty
kind_of objects.Mutex = kinds.Mutex
kind_of objects.RwMutex = kinds.RwMutex
kind_of (objects.Cond mutex) = kinds.Cond
kind_of (objects.WaitGroup start) = kinds.WaitGroup
kind_of (objects.Once atomic delta) = kinds.Once
kind_of (objects.OnceFunc code) = kinds.Once
kind_of (objects.OnceValue value) = kinds.Once
kind_of objects.Pool = kinds.Empty
kind_of (objects.Sema size) = kinds.Sema
kind_of (objects.Flight atomic delta) = kinds.Flight
kind_of objects.Var = kinds.Empty

-- an object that the workload declares goes by its name
abbrev pub named_object : ObjectLine → Named
named_object object = record { word = object.name; kind = kind_of object.kind }

-- part P of a pool is `NAME!P`
abbrev pub named_part : ObjectLine → ℕ → Named
named_part object part = record { word = object.name ++ 33 ∷ decimal part; kind = kinds.PoolPart }

-- how many parts an object has in a run of so many workers: a pool has one for each
abbrev pub part_count : ℕ → ObjectKind → ℕ
part_count workers objects.Pool = workers
part_count workers kind = 0

abbrev pub named_parts : ℕ → ObjectLine → List Named
named_parts workers object = map (named_part object) (range_with_len 0 (part_count workers object.kind))

-- All objects of a record in the order of their numbers: Stop, those of the workload, the parts of its pools, and Starts
abbrev pub named_in : Plan → List Named
named_in plan =
    record { word = codes "!stop"; kind = kinds.Stop }
    ∷ (map named_object plan.objects ++ flat_map (named_parts plan.workers) plan.objects ++ record { word = codes "!starts"; kind = kinds.Starts } ∷ [])

-- the number of the first of some objects that a word names
abbrev pub number_named : List Named → List ℕ → Option ℕ
number_named names word = position_from (λ named. bytes_eq word named.word) 0 names

-- what the journal of an object may have, if there is the object
abbrev pub kind_in : Option Named → Option JournalKind
kind_in named = option_map (λ n. n.kind) named

-- the word of the object with a number; nothing, where there is none
abbrev pub word_at : List Named → ℕ → List ℕ
word_at names number = option_map_or (λ named. named.word) (slice_get names number) []
