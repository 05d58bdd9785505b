-- The objects of a record stand at their numbers.
use Rattle.std.proofs.Common.{◌≡◌, ℕ, zero, suc, ◌+◌, ◌*◌, ◌<◌, cond, List, [], ◌∷◌, ◌++◌, map, length, length-append, slice_get, take, codes, Some, ap, ◌∙◌, arith, append_assoc}
use Rattle.std.specs.Prelude.{count_by}
use Rattle.std.specs.List.{flat_map, range_with_len}
use Rattle.std.proofs.lemmas.List.{length-map}
use Rattle.std.proofs.lemmas.List.FromFn.{length-range_with_len}
use Rattle.std.proofs.lemmas.List.Sums.{sum_by-cons}
use Rattle.workload.specs.declared.object.ObjectKind.{ObjectKind}
use Rattle.workload.specs.declared.object.ObjectKind.TheVariants as object_kinds
use Rattle.workload.specs.declared.object.ObjectLine.{ObjectLine}
use Rattle.workload.specs.Plan.{Plan}
use Rattle.run_record.specs.Objects.{first_part, is_pool, pool_number, starts_number}
use Rattle.run_record.specs.Record.{object_number}
use Rattle.record_text.specs.declared.directory.Named.{Named}
use Rattle.record_text.specs.declared.event.JournalKind.TheVariants as kinds
use Rattle.record_text.specs.Journals.{named_in, named_object, named_part, named_parts, part_count}

get_left : {X : Type 0} (xs ys : List X) (i : ℕ) (x : X) → slice_get xs i ≡ Some x → slice_get (xs ++ ys) i ≡ Some x
get_left [] ys i x at = absurd cc
get_left (z ∷ xs) ys zero x at = at
get_left (z ∷ xs) ys (suc i) x at = get_left xs ys i x at

get_right : {X : Type 0} (xs ys : List X) (i : ℕ) → slice_get (xs ++ ys) (length xs + i) ≡ slice_get ys i
get_right [] ys i = ap (slice_get ys) (let same : 0 + i ≡ i = omega arith in same)
get_right (z ∷ xs) ys i = ap (slice_get (z ∷ (xs ++ ys))) (let same : suc (length xs) + i ≡ suc (length xs + i) = omega arith in same) ∙ get_right xs ys i

get_map : {X Y : Type 0} (f : X → Y) (xs : List X) (i : ℕ) (x : X) → slice_get xs i ≡ Some x → slice_get (map f xs) i ≡ Some (f x)
get_map f [] i x at = absurd cc
get_map f (z ∷ xs) zero x at = ap (λ y. Some (f y)) (let same : z ≡ x = cc in same)
get_map f (z ∷ xs) (suc i) x at = get_map f xs i x at

get_range : (a n i : ℕ) → i < n → slice_get (range_with_len a n) i ≡ Some (a + i)
get_range a zero i below = absurd (omega (arith, below))
get_range a (suc n) zero below = ap (λ (k : ℕ). Some k) (let same : a ≡ a + 0 = omega arith in same)
get_range a (suc n) (suc i) below = get_range (a + 1) n i (omega (arith, below)) ∙ ap (λ (k : ℕ). Some k) (let same : a + 1 + i ≡ a + suc i = omega arith in same)

abbrev pub pools_in : List ObjectLine → ℕ
pools_in objects = count_by (λ (object : ObjectLine). is_pool object.kind) objects

pub pools_cons : (object : ObjectLine) (objects : List ObjectLine) → pools_in (object ∷ objects) ≡ cond (is_pool object.kind) 1 0 + pools_in objects
pools_cons object objects = sum_by-cons (λ (o : ObjectLine). cond (is_pool o.kind) 1 0) object objects

-- a pool has a part for each worker, and another object has none
parts_of : (workers : ℕ) (kind : ObjectKind) → part_count workers kind ≡ cond (is_pool kind) 1 0 * workers
parts_of workers object_kinds.Pool = omega arith
parts_of workers object_kinds.Map = omega arith
parts_of workers (object_kinds.Atomic type) = omega arith
parts_of workers object_kinds.Mutex = omega arith
parts_of workers object_kinds.RwMutex = omega arith
parts_of workers (object_kinds.Cond mutex) = omega arith
parts_of workers (object_kinds.WaitGroup start) = omega arith
parts_of workers (object_kinds.Once atomic delta) = omega arith
parts_of workers (object_kinds.OnceFunc code) = omega arith
parts_of workers (object_kinds.OnceValue value) = omega arith
parts_of workers (object_kinds.Sema size) = omega arith
parts_of workers (object_kinds.Flight atomic delta) = omega arith
parts_of workers object_kinds.Var = omega arith

part_length : (workers : ℕ) (object : ObjectLine) → length (named_parts workers object) ≡ cond (is_pool object.kind) 1 0 * workers
part_length workers object =
    length-map (range_with_len 0 (part_count workers object.kind)) (named_part object) ∙ length-range_with_len 0 (part_count workers object.kind) ∙ parts_of workers object.kind

pub times : (a b c : ℕ) → (a + b) * c ≡ a * c + b * c
times zero b c = omega arith
times (suc a) b c = omega (arith, times a b c)

pub all_length : (workers : ℕ) (objects : List ObjectLine) → length (flat_map (named_parts workers) objects) ≡ pools_in objects * workers
all_length workers [] = omega arith
all_length workers (object ∷ objects) =
    let both = length-append (named_parts workers object) (flat_map (named_parts workers) objects) in
    let first = part_length workers object in
    let rest = all_length workers objects in
    let count = ap (λ (n : ℕ). n * workers) (pools_cons object objects) ∙ times (cond (is_pool object.kind) 1 0) (pools_in objects) workers in
    omega (arith, both, first, rest, count)

-- the part of a pool among all parts
part_at : (workers place part : ℕ) (objects : List ObjectLine) (object : ObjectLine) → slice_get objects place ≡ Some object → object.kind ≡ object_kinds.Pool → part < workers
    → slice_get (flat_map (named_parts workers) objects) (pools_in (take place objects) * workers + part) ≡ Some (named_part object part)
part_at workers place part [] object at pool below = absurd cc
part_at workers zero part (first ∷ objects) object at pool below =
    let same : first ≡ object = cc in
    ap (slice_get (flat_map (named_parts workers) (first ∷ objects))) (let start : 0 * workers + part ≡ part = omega arith in start)
    ∙ get_left (named_parts workers first) (flat_map (named_parts workers) objects) part (named_part object part)
    (ap (λ (o : ObjectLine). slice_get (named_parts workers o) part) same
    ∙ ap (λ (k : ObjectKind). slice_get (map (named_part object) (range_with_len 0 (part_count workers k))) part) pool
    ∙ get_map (named_part object) (range_with_len 0 workers) part part (get_range 0 workers part below ∙ ap (λ (k : ℕ). Some k) (let start : 0 + part ≡ part = omega arith in start)))
part_at workers (suc place) part (first ∷ objects) object at pool below =
    let count = ap (λ (n : ℕ). n * workers) (pools_cons first (take place objects)) ∙ times (cond (is_pool first.kind) 1 0) (pools_in (take place objects)) workers in
    let length_is = part_length workers first in
    let where_is : pools_in (take (suc place) (first ∷ objects)) * workers + part ≡ length (named_parts workers first) + (pools_in (take place objects) * workers + part) = omega (arith, count, length_is) in
    ap (slice_get (flat_map (named_parts workers) (first ∷ objects))) where_is
    ∙ get_right (named_parts workers first) (flat_map (named_parts workers) objects) (pools_in (take place objects) * workers + part)
    ∙ part_at workers place part objects object at pool below

-- ---- all objects

abbrev starts_named : Named
starts_named = record { word = codes "!starts"; kind = kinds.Starts }

-- what stands behind Stop
abbrev behind : Plan → List Named
behind plan = map named_object plan.objects ++ (flat_map (named_parts plan.workers) plan.objects ++ starts_named ∷ [])

behind_stop : (plan : Plan) (n : ℕ) → slice_get (named_in plan) (suc n) ≡ slice_get (behind plan) n
behind_stop plan n = ap (λ (names : List Named). slice_get names n) (append_assoc (map named_object plan.objects) (flat_map (named_parts plan.workers) plan.objects) (starts_named ∷ []))

pub declared_at : (plan : Plan) (place : ℕ) (object : ObjectLine) → slice_get plan.objects place ≡ Some object → slice_get (named_in plan) (object_number place) ≡ Some (named_object object)
declared_at plan place object at =
    ap (slice_get (named_in plan)) (let next : object_number place ≡ suc place = omega arith in next) ∙ behind_stop plan place
    ∙ get_left (map named_object plan.objects) _ place (named_object object) (get_map named_object plan.objects place object at)

behind_declared : (plan : Plan) (n : ℕ) → slice_get (named_in plan) (object_number (length plan.objects) + n) ≡ slice_get (flat_map (named_parts plan.workers) plan.objects ++ starts_named ∷ []) n
behind_declared plan n =
    let declared = length-map plan.objects named_object in
    ap (slice_get (named_in plan)) (let next : object_number (length plan.objects) + n ≡ suc (length (map named_object plan.objects) + n) = omega (arith, declared) in next)
    ∙ behind_stop plan (length (map named_object plan.objects) + n)
    ∙ get_right (map named_object plan.objects) _ n

pub parts_at : (plan : Plan) (place part : ℕ) (object : ObjectLine) → slice_get plan.objects place ≡ Some object → object.kind ≡ object_kinds.Pool → part < plan.workers
    → slice_get (named_in plan) (first_part plan place + part) ≡ Some (named_part object part)
parts_at plan place part object at pool below =
    ap (slice_get (named_in plan)) (let next : first_part plan place + part ≡ object_number (length plan.objects) + (pool_number plan.objects place * plan.workers + part) = omega arith in next)
    ∙ behind_declared plan (pool_number plan.objects place * plan.workers + part)
    ∙ get_left (flat_map (named_parts plan.workers) plan.objects) _ (pool_number plan.objects place * plan.workers + part) (named_part object part) (part_at plan.workers place part plan.objects object at pool below)

pub starts_at : (plan : Plan) → slice_get (named_in plan) (starts_number plan) ≡ Some starts_named
starts_at plan =
    let parts = all_length plan.workers plan.objects in
    ap (slice_get (named_in plan)) (let next : starts_number plan ≡ object_number (length plan.objects) + (length (flat_map (named_parts plan.workers) plan.objects) + 0) = omega (arith, parts) in next)
    ∙ behind_declared plan (length (flat_map (named_parts plan.workers) plan.objects) + 0)
    ∙ get_right (flat_map (named_parts plan.workers) plan.objects) (starts_named ∷ []) 0

pub count_is : (plan : Plan) → length (named_in plan) ≡ starts_number plan + 1
count_is plan =
    let declared = length-map plan.objects named_object in
    let parts = all_length plan.workers plan.objects in
    let last = length-append (flat_map (named_parts plan.workers) plan.objects) (starts_named ∷ []) in
    let whole = length-append (map named_object plan.objects) (flat_map (named_parts plan.workers) plan.objects ++ starts_named ∷ []) in
    let same = ap length (append_assoc (map named_object plan.objects) (flat_map (named_parts plan.workers) plan.objects) (starts_named ∷ [])) in
    omega (arith, declared, parts, last, whole, same)
