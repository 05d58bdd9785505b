-- The workload that a seed gives: eight workers, each with 500 rounds of four calls.
use Rattle.std.specs.Prelude.{ℕ, ◌*◌, ◌/◌, ◌%◌, pos, nat_lt, ◌==◌, false, cond, List, [], ◌∷◌, ◌++◌, map, take, drop, replicate, codes}
use Rattle.std.specs.List.{flat_map, range_with_len}
use Rattle.std.specs.Fmt.{decimal}
use Rattle.rand_core.specs.Steps.{first_words}
use Rattle.rand_pcg.specs.Lcg.{Lcg, started, increment_of}
use Rattle.rand_pcg.specs.Pcg.{multiplier_64, pcg32}
use Rattle.sync_types.specs.declared.atomic_object.AtomicCall.TheVariants.{Add}
use Rattle.sync_types.specs.declared.atomic_object.AtomicKind.TheVariants as types
use Rattle.sync_types.specs.declared.atomic_object.Number.TheVariants.{Int64}
use Rattle.script_calls.specs.declared.call.Call.{Call}
use Rattle.script_calls.specs.declared.call.Operation.TheVariants as operations
use Rattle.sync_types.specs.declared.lock_call.MutexCall.TheVariants.{Lock, Unlock}
use Rattle.sync_types.specs.declared.map_object.MapCall.{MapCall}
use Rattle.sync_types.specs.declared.map_object.MapCall.TheVariants.{Load, Store, Delete}
use Rattle.workload.specs.declared.object.ObjectKind.TheVariants as kinds
use Rattle.workload.specs.declared.object.ObjectLine.{ObjectLine}
use Rattle.workload.specs.Plan.{Plan}
use Rattle.workload.specs.Canonical.{canonical}

-- the generator of a seed: PCG's XSH RR 64/32 from the seed on, at stream 0
abbrev pub generator_of : ℕ → Lcg
generator_of seed = started 64 multiplier_64 seed (increment_of 64 0)

-- the words that are drawn: 1,000 for each of the eight workers
unfoldable pub drawn : ℕ → List ℕ
drawn seed = first_words pcg32 8000 (generator_of seed)

-- a worker's words, behind those of the workers before it
abbrev pub drawn_for : ℕ → ℕ → List ℕ
drawn_for seed worker = take 1000 (drop (1000 * worker) (drawn seed))

-- a round draws two words
abbrev pub in_twos : List ℕ → List (ℕ × ℕ)
in_twos [] = []
in_twos (word ∷ []) = []
in_twos (first ∷ second ∷ words) = (first, second) ∷ in_twos words

-- a key of a worker, 0 to 63: `kW_J`
abbrev pub key_of : ℕ → ℕ → List ℕ
key_of worker number = codes "k" ++ decimal worker ++ codes "_" ++ decimal number

-- the call on the map that a word says: its two low bits say which, the next six the key, and the rest the value
abbrev pub call_by : ℕ → ℕ → MapCall (List ℕ)
call_by worker word =
    let key = key_of worker (word / 4 % 64) in
    cond (nat_lt (word % 4) 2) (Store key (word / 256)) (cond (word % 4 == 2) (Load key) (Delete key))

-- the objects: `mutex m`, `int64 total`, `map t`
abbrev pub generated_objects : List ObjectLine
generated_objects =
    record { name = codes "m"; kind = kinds.Mutex }
    ∷ record { name = codes "total"; kind = kinds.Atomic types.Int64 }
    ∷ record { name = codes "t"; kind = kinds.Map } ∷ []

-- the calls of a round: `lock m`, `add total D` with D below 1,000, `unlock m`, and the one on `t`
abbrev pub round : ℕ → ℕ × ℕ → List Call
round worker words =
    record { object = 0; operation = operations.Mutex Lock }
    ∷ record { object = 1; operation = operations.Atomic (Add (Int64 (pos (words.0 % 1000)))) }
    ∷ record { object = 0; operation = operations.Mutex Unlock }
    ∷ record { object = 2; operation = operations.Map (call_by worker words.1) } ∷ []

-- the calls of a worker that draws these words
abbrev pub script_by : ℕ → List ℕ → List Call
script_by worker words = flat_map (round worker) (in_twos words)

-- the scripts of workers 0 to 7
abbrev pub generated_scripts : ℕ → List (List Call)
generated_scripts seed = map (λ worker. script_by worker (drawn_for seed worker)) (range_with_len 0 8)

-- no worker waits to be started
unfoldable pub generated_plan : ℕ → Plan
generated_plan seed = record { workers = 8; objects = generated_objects; dormant = replicate 8 false; scripts = generated_scripts seed; schedule = [] }

-- the text of a seed
unfoldable pub generated_text : ℕ → List ℕ
generated_text seed = canonical (generated_plan seed)
