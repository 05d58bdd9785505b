-- What stands in a spelt list is on objects that are there.
use Rattle.std.proofs.Common.{◌≡◌, ℕ, zero, suc, ◌+◌, ◌^◌, ◌<◌, Bool, true, false, ◌&&◌, cond, List, [], ◌∷◌, ◌++◌, map, length, get_or, take, slice_get, Option, Some, None, Ok, Err, refl, sym, ap, ◌∙◌, subst, arith}
use Rattle.std.specs.Prelude.{ℤ, count_by}
use Rattle.std.specs.List.{flat_map, list_all, range_with_len}
use Rattle.std.specs.Option.{option_map_or}
use Rattle.std.proofs.lemmas.Bool.{false≢true}
use Rattle.std.proofs.lemmas.List.Sums.{sum_by-cons}
use Rattle.sync_model.specs.declared.answer.Answer.TheVariants.{Done, Halted}
use Rattle.sync_model.specs.declared.item.Item.{Item}
use Rattle.sync_model.specs.declared.item.SharedCall.{SharedCall}
use Rattle.sync_model.specs.declared.item.SharedCall.TheVariants as calls
use Rattle.sync_model.specs.declared.item.SharedReply.{SharedReply}
use Rattle.sync_model.specs.declared.item.SharedReply.TheVariants as answers
use Rattle.sync_model.specs.SharedHistory.{Contents}
use Rattle.protocols.specs.declared.step.Step.{Step}
use Rattle.protocols.specs.Spelling.{CallAnswer}
use Rattle.run_record.specs.declared.entered.ObjectEvent.{ObjectEvent}
use Rattle.run_record.specs.declared.entered.ObjectReply.{ObjectReply}
use Rattle.run_record.specs.declared.made.Made.{Made}
use Rattle.run_record.specs.declared.made.Made.TheVariants.{Shared, Entered}
use Rattle.run_record.specs.Parts.{GoesOn, Part, Places, and_then, lifted, never, read_as, returns, stages}
use Rattle.run_record.specs.Record.{ObjectEntry, shared_in}
use Rattle.std.proofs.Common.{drop}
use Rattle.std.proofs.lemmas.Bool.{leb-true, lt-ltb, ltb-true}
use Rattle.std.proofs.lemmas.List.{length-replicate}
use Rattle.std.proofs.lemmas.Option.{get_or_from_slice_get, slice_get_within}
use Rattle.std.specs.Prelude.{pos, negsuc}
use Rattle.script_calls.specs.declared.call.Call.{Call}
use Rattle.script_calls.specs.declared.call.ComposedCall.TheVariants.{IfEqual, WaitFor, Go}
use Rattle.script_calls.specs.declared.call.Operation.{Operation}
use Rattle.script_calls.specs.declared.call.Operation.TheVariants as operations
use Rattle.script_calls.specs.declared.call.Reply.{Reply}
use Rattle.script_calls.specs.declared.call.Reply.TheVariants as replies
use Rattle.script_calls.specs.Runs.{RunsAlong, passed_over}
use Rattle.script_calls.specs.Starts.{group_of}
use Rattle.sync_types.specs.declared.atomic_object.AtomicCall.{AtomicCall}
use Rattle.sync_types.specs.declared.atomic_object.AtomicCall.TheVariants as atomic_calls
use Rattle.sync_types.specs.declared.atomic_object.AtomicKind.{AtomicKind}
use Rattle.sync_types.specs.declared.atomic_object.AtomicKind.TheVariants as types
use Rattle.sync_types.specs.declared.atomic_object.Number.{Number}
use Rattle.sync_types.specs.declared.atomic_object.Number.TheVariants.{Int64, Bool as Truth}
use Rattle.sync_types.specs.declared.lock_call.RwMutexCall.{RwMutexCall}
use Rattle.sync_types.specs.declared.lock_call.RwMutexCall.TheVariants as rw_calls
use Rattle.sync_types.specs.declared.pool_call.PoolCall.{PoolCall}
use Rattle.sync_types.specs.declared.pool_call.PoolCall.TheVariants as pool_calls
use Rattle.sync_types.specs.declared.wait_call.CondCall.{CondCall}
use Rattle.sync_types.specs.declared.wait_call.CondCall.TheVariants as cond_calls
use Rattle.sync_types.specs.declared.wait_call.WaitGroupCall.{WaitGroupCall}
use Rattle.sync_types.specs.declared.wait_call.WaitGroupCall.TheVariants as group_calls
use Rattle.sync_types.specs.SequentialAtomic.{is_atomic_call, is_of, kind_of, zero_of}
use Rattle.sync_model.specs.SharedHistory.{number_at}
use Rattle.pool_core.specs.declared.pool_event.PoolEvent.{PoolEvent}
use Rattle.protocols.specs.declared.cond.CondStage.{CondStage}
use Rattle.protocols.specs.declared.cond.CondStage.TheVariants as cond_stage
use Rattle.protocols.specs.declared.mutex.MutexStage.{MutexStage}
use Rattle.protocols.specs.declared.mutex.MutexStage.TheVariants as mutex_stage
use Rattle.protocols.specs.declared.once.OnceOutcome.{OnceOutcome}
use Rattle.protocols.specs.declared.once.OnceOutcome.TheVariants as once_outcome
use Rattle.protocols.specs.declared.once.OnceStage.{OnceStage}
use Rattle.protocols.specs.declared.once.OnceStage.TheVariants as once_stage
use Rattle.protocols.specs.declared.pool.PoolOutcome.{PoolOutcome}
use Rattle.protocols.specs.declared.pool.PoolOutcome.TheVariants as pool_outcome
use Rattle.protocols.specs.declared.pool.PoolStage.{PoolStage}
use Rattle.protocols.specs.declared.pool.PoolStage.TheVariants as pool_stage
use Rattle.protocols.specs.declared.wait_group.GroupStage.{GroupStage}
use Rattle.protocols.specs.CondStages.{cond_event, cond_meaning}
use Rattle.protocols.specs.GroupStages.{group_event, group_meaning}
use Rattle.protocols.specs.MutexStages.{mutex_event, mutex_meaning}
use Rattle.protocols.specs.OnceStages.{once_event, once_meaning}
use Rattle.protocols.specs.PoolStages.{pool_event, pool_meaning}
use Rattle.protocols.specs.RwMutexStages.{rw_event, rw_meaning}
use Rattle.sema_core.specs.declared.calls.SemaStage.{SemaStage}
use Rattle.sema_core.specs.SemaStages.{sema_event, sema_meaning}
use Rattle.flight_core.specs.declared.calls.FlightOutcome.{FlightOutcome}
use Rattle.flight_core.specs.declared.calls.FlightOutcome.TheVariants as flight_outcome
use Rattle.flight_core.specs.declared.calls.FlightStage.{FlightStage}
use Rattle.flight_core.specs.declared.calls.FlightStage.TheVariants as flight_stage
use Rattle.flight_core.specs.FlightStages.{flight_event, flight_meaning}
use Rattle.starts_core.specs.declared.protocol.StartsStage.{StartsStage}
use Rattle.starts_core.specs.declared.protocol.StartsStage.TheVariants as starts_stage
use Rattle.starts_core.specs.StartsStages.{starts_event, starts_meaning}
use Rattle.workload.specs.declared.limits.TheConstants.{MAX_AMOUNT}
use Rattle.workload.specs.declared.object.ObjectKind.{ObjectKind}
use Rattle.workload.specs.declared.object.ObjectKind.TheVariants as kinds
use Rattle.workload.specs.declared.object.ObjectLine.{ObjectLine}
use Rattle.std.specs.Prelude.{All, is_some, nat_lt, not, ◌==◌}
use Rattle.std.proofs.lemmas.List.Elements.{All-head, All-tail}
use Rattle.sync_types.specs.Name.{is_name}
use Rattle.workload.specs.Draft.{count_of, declared_from, is_kind, limit_of}
use Rattle.workload.specs.Readable.{IsReadable, may_declare, may_join}
use Rattle.workload.specs.Keys.{key_number, keys_in}
use Rattle.workload.specs.Plan.{Plan, has_among, has_dormant, is_amount, is_dormant, is_on, is_target, is_turn, may_hold, refers, starts_dormant, word_of}
use Rattle.run_record.specs.declared.entered.ObjectEvent.TheVariants as event
use Rattle.run_record.specs.declared.entered.ObjectReply.TheVariants as reply
use Rattle.run_record.specs.AtomicKind.{adds, atomic_call}
use Rattle.run_record.specs.Calls.{SpellsCall, call_at, call_on}
use Rattle.run_record.specs.CondKind.{cond_call, cond_part, wait_part}
use Rattle.run_record.specs.Lines.{AreHalts, AreSpelt, EndsBy, IsHalt, IsLineOf, Line, LineEnd, OpensBy, SpeltCall, Stay, StaysBy, calls_made, halted, items_of, misused, never as never_started, stayed, stopped, unfinished, waits, whole}
use Rattle.sync_types.specs.declared.map_object.MapCall.{MapCall}
use Rattle.run_record.specs.FlightKind.{flight_part, goes_on_flight}
use Rattle.run_record.specs.MapKind.{map_call, range_call, step_showing}
use Rattle.run_record.specs.MutexKind.{mutex_part, mutex_stage as mutex_stage_of}
use Rattle.run_record.specs.Objects.{atomic_number, contents_of, first_part, is_atomic, is_map, map_number, starts_number, types_of}
use Rattle.run_record.specs.OnceKind.{goes_on_once, once_part}
use Rattle.run_record.specs.PoolKind.{found_by, found_or, looks_of, part_of, pool_call, pool_part, stage_of, swept_by}
use Rattle.run_record.specs.Record.{object_number}
use Rattle.run_record.specs.RwMutexKind.{rw_mutex_stage, rw_part, write_part}
use Rattle.run_record.specs.SemaKind.{sema_part, sema_stage}
use Rattle.run_record.specs.StartsKind.{closing, done_part, done_under, end_part, go_call, opening, starts_part, wait_start_part}
use Rattle.run_record.specs.Tests.{tests, unless_met, waits_for}
use Rattle.run_record.specs.WaitGroupKind.{wait_group_call, wait_group_part, wait_group_stage}
use Rattle.shared_checks.specs.Placing.{IsOn}

module _ (contents : Contents) where
  -- an item, and each of some
  abbrev pub On : Made → Type 0
  On (Shared x) = IsOn contents x.call
  On (Entered object entry) = Unit {0}

  abbrev pub AllOn : List Made → Type 0
  AllOn [] = Unit {0}
  AllOn (x ∷ items) = On x × AllOn items

  pub on_append : (items later : List Made) → AllOn items → AllOn later → AllOn (items ++ later)
  on_append [] later on also = also
  on_append (x ∷ items) later on also = (on.0, on_append items later on.1 also)

  pub on_front : (items later : List Made) → AllOn (items ++ later) → AllOn items
  on_front [] later on = tt
  on_front (x ∷ items) later on = (on.0, on_front items later on.1)

  pub on_shared : (items : List Made) → AllOn items → (i : ℕ) (x : Item) → slice_get (shared_in items) i ≡ Some x → IsOn contents x.call
  on_shared [] on i x at = absurd cc
  on_shared (Shared y ∷ items) on zero x at = subst (λ (z : Item). IsOn contents z.call) (let same : y ≡ x = cc in same) on.0
  on_shared (Shared y ∷ items) on (suc i) x at = on_shared items on.1 i x at
  on_shared (Entered object entry ∷ items) on i x at = on_shared items on.1 i x at

  -- each item of the part is on an object that is there
  abbrev pub Keeps : {O : Type 0} → Part O → Type 0
  Keeps {O} part = (items : List Made) (answer : CallAnswer O) → part items answer → AllOn items

  keeps_returns : {O : Type 0} (outcome : O) → Keeps (returns outcome)
  keeps_returns outcome items answer (none, is) = subst AllOn (sym none) tt

  keeps_never : {O : Type 0} → Keeps {O = O} never
  keeps_never items answer none = absurd none

  goes_on : {O P : Type 0} (next : O → Part P) → ((outcome : O) → Keeps (next outcome)) → (given : CallAnswer O) (items : List Made) (answer : CallAnswer P) → GoesOn next given items answer → AllOn items
  goes_on next keeps (Done (Ok outcome)) items answer goes = keeps outcome items answer goes
  goes_on next keeps (Done (Err misuse)) items answer goes = subst AllOn (sym goes.0) tt
  goes_on next keeps (Halted misuse) items answer goes = subst AllOn (sym goes.0) tt

  keeps_then : {O P : Type 0} (first : Part O) (next : O → Part P) → Keeps first → ((outcome : O) → Keeps (next outcome)) → Keeps (and_then first next)
  keeps_then first next keeps keep items answer (earlier, later, given, is, one, other) =
      subst AllOn (sym is) (on_append earlier later (keeps earlier given one) (goes_on next keep given later answer other))

  keeps_read : {O P : Type 0} (f : O → P) (part : Part O) → Keeps part → Keeps (read_as f part)
  keeps_read f part keeps items answer (given, is, read) = keeps items given is

  entries_on : {X : Type 0} (object : ℕ) (entry : X → ObjectEntry) (xs : List X) → AllOn (map (λ x. Entered object (entry x)) xs)
  entries_on object entry [] = tt
  entries_on object entry (x ∷ xs) = (tt, entries_on object entry xs)

  keeps_stages : {E R G O : Type 0} (event : E → ObjectEvent) (reply : R → ObjectReply) (event_of : G → ℕ → E) (meaning : G → R → Step G O) (object : ℕ) (stage : G) → Keeps (stages event reply event_of meaning object stage)
  keeps_stages event reply event_of meaning object stage items answer (entries, is, spells) = subst AllOn (sym is) (entries_on object (lifted event reply) entries)

  -- calls that are on objects that are there
  abbrev pub CallsOn : List (SharedCall × SharedReply) → Type 0
  CallsOn [] = Unit {0}
  CallsOn (call ∷ later) = IsOn contents call.0 × CallsOn later

  placed_on : (made : List Item) (calls : List (SharedCall × SharedReply)) → map (λ x. (x.call, x.reply)) made ≡ calls → CallsOn calls → AllOn (map Shared made)
  placed_on [] calls is on = tt
  placed_on (x ∷ made) [] is on = absurd cc
  placed_on (x ∷ made) (call ∷ later) is on = (subst (IsOn contents) (let same : call.0 ≡ x.call = cc in same) on.0, placed_on made later (let rest : map (λ y. (y.call, y.reply)) made ≡ later = cc in rest) on.1)

  pub places_on : (calls : List (SharedCall × SharedReply)) (items : List Made) → CallsOn calls → Places calls items → AllOn items
  places_on calls items on (made, is, are) = subst AllOn (sym is) (placed_on made calls are on)

-- ---- the objects of a workload

get_cons : {X : Type 0} (x : X) (xs : List X) (y : X) → slice_get (x ∷ xs) 0 ≡ Some y → x ≡ y
get_cons x xs y e = cc

abbrev tick : Bool → ℕ
tick b = cond b 1 0

-- the number of a map is below how many there are
map_below : (objects : List ObjectLine) (place : ℕ) (object : ObjectLine) → slice_get objects place ≡ Some object → is_map object.kind ≡ true → map_number objects place < count_by (λ (o : ObjectLine). is_map o.kind) objects
map_below [] place object at is = absurd cc
map_below (first ∷ objects) zero object at is =
    let count = sum_by-cons (λ (o : ObjectLine). cond (is_map o.kind) 1 0) first objects in
    let one : tick (is_map first.kind) ≡ 1 = ap tick (ap (λ (o : ObjectLine). is_map o.kind) (get_cons first objects object at) ∙ is) in
    omega (arith, count, one)
map_below (first ∷ objects) (suc place) object at is =
    let count = sum_by-cons (λ (o : ObjectLine). cond (is_map o.kind) 1 0) first objects in
    let taken = sum_by-cons (λ (o : ObjectLine). cond (is_map o.kind) 1 0) first (take place objects) in
    let rest = map_below objects place object at is in
    omega (arith, count, taken, rest)

types_count : (kind : ObjectKind) → length (types_of kind) ≡ cond (is_atomic kind) 1 0
types_count (kinds.Atomic type) = refl
types_count kind = refl

get_right : {X : Type 0} (xs ys : List X) (i : ℕ) → slice_get (xs ++ ys) (length xs + i) ≡ slice_get ys i
get_right [] ys i = ap (slice_get ys) (let same : 0 + i ≡ i = omega arith in same)
get_right (z ∷ xs) ys i = ap (slice_get (z ∷ (xs ++ ys))) (let same : suc (length xs) + i ≡ suc (length xs + i) = omega arith in same) ∙ get_right xs ys i

-- the type of an atomic stands at its number
pub type_at : (objects : List ObjectLine) (place : ℕ) (object : ObjectLine) (type : AtomicKind) → slice_get objects place ≡ Some object → object.kind ≡ kinds.Atomic type
    → slice_get (flat_map (λ (o : ObjectLine). types_of o.kind) objects) (atomic_number objects place) ≡ Some type
type_at [] place object type at is = absurd cc
type_at (first ∷ objects) zero object type at is =
    ap (λ (ts : List AtomicKind). slice_get (ts ++ flat_map (λ (o : ObjectLine). types_of o.kind) objects) 0) (ap (λ (o : ObjectLine). types_of o.kind) (get_cons first objects object at) ∙ ap types_of is)
type_at (first ∷ objects) (suc place) object type at is =
    let taken = sum_by-cons (λ (o : ObjectLine). cond (is_atomic o.kind) 1 0) first (take place objects) in
    let count = types_count first.kind in
    let where_is : atomic_number (first ∷ objects) (suc place) ≡ length (types_of first.kind) + atomic_number objects place = omega (arith, taken, count) in
    ap (slice_get (flat_map (λ (o : ObjectLine). types_of o.kind) (first ∷ objects))) where_is ∙ get_right (types_of first.kind) _ (atomic_number objects place) ∙ type_at objects place object type at is

pub zero_kind : (type : AtomicKind) → kind_of (zero_of type) ≡ type
zero_kind types.Int32 = refl
zero_kind types.Int64 = refl
zero_kind types.Uint32 = refl
zero_kind types.Uint64 = refl
zero_kind types.Bool = refl

pub get_map : {X Y : Type 0} (f : X → Y) (xs : List X) (i : ℕ) (x : X) → slice_get xs i ≡ Some x → slice_get (map f xs) i ≡ Some (f x)
get_map f [] i x at = absurd cc
get_map f (z ∷ xs) zero x at = ap (λ y. Some (f y)) (get_cons z xs x at)
get_map f (z ∷ xs) (suc i) x at = get_map f xs i x at

module _ (plan : Plan) where
  abbrev start : Contents
  start = contents_of plan

  map_on : (place : ℕ) (object : ObjectLine) → slice_get plan.objects place ≡ Some object → object.kind ≡ kinds.Map → map_number plan.objects place < length start.maps
  map_on place object at is =
      let below = map_below plan.objects place object at (ap is_map is) in
      let count : length start.maps ≡ count_by (λ (o : ObjectLine). is_map o.kind) plan.objects = length-replicate _ _ in
      omega (arith, below, count)

  atomic_on : (place : ℕ) (object : ObjectLine) (type : AtomicKind) (call : AtomicCall) → slice_get plan.objects place ≡ Some object → object.kind ≡ kinds.Atomic type → is_atomic_call type call ≡ true
      → IsOn start (calls.Atomic (atomic_number plan.objects place) call)
  atomic_on place object type call at is has =
      let a = atomic_number plan.objects place in
      let there = get_map zero_of (flat_map (λ (o : ObjectLine). types_of o.kind) plan.objects) a type (type_at plan.objects place object type at is) in
      let held : number_at start a ≡ zero_of type = get_or_from_slice_get start.numbers a (zero_of type) (Truth false) there in
      (slice_get_within start.numbers a (zero_of type) there, ap (λ (n : Number). is_atomic_call (kind_of n) call) held ∙ ap (λ (t : AtomicKind). is_atomic_call t call) (zero_kind type) ∙ has)

  -- what is asked of the object that a call is on, and of the one to which it refers
  pub record IsThere (place : ℕ) (kind : ObjectKind) : Type 0 where
    pub object : ObjectLine
    pub at : slice_get plan.objects place ≡ Some object
    pub is : object.kind ≡ kind
    pub refers_so : refers plan.objects kind ≡ true
    pub in_range : is_kind kind ≡ true

  atomic_one : (place : ℕ) (object : ObjectLine) (type : AtomicKind) (call : AtomicCall) → slice_get plan.objects place ≡ Some object → object.kind ≡ kinds.Atomic type → is_atomic_call type call ≡ true
      → Keeps start (atomic_call (atomic_number plan.objects place) call)
  atomic_one place object type call at is has items answer (reply, places, so) = places_on start _ items (atomic_on place object type call at is has, tt) places

  tests_on : (place : ℕ) (object : ObjectLine) (type : AtomicKind) (value : Number) → slice_get plan.objects place ≡ Some object → object.kind ≡ kinds.Atomic type → Keeps start (tests (atomic_number plan.objects place) value)
  tests_on place object type value at is = keeps_read start _ (atomic_call (atomic_number plan.objects place) atomic_calls.Load) (atomic_one place object type atomic_calls.Load at is refl)

  mutex_on : (object : ℕ) (from : MutexStage) → Keeps start (mutex_part object from)
  mutex_on object from = keeps_stages start event.Mutex reply.Mutex mutex_event mutex_meaning object from

  cond_on : (object : ℕ) (from : CondStage) → Keeps start (cond_part object from)
  cond_on object from = keeps_stages start event.Cond reply.Cond cond_event cond_meaning object from

  group_on : (object : ℕ) (from : GroupStage) → Keeps start (wait_group_part object from)
  group_on object from = keeps_stages start event.WaitGroup reply.WaitGroup group_event group_meaning object from

  pool_on : (object : ℕ) (from : PoolStage) → Keeps start (pool_part object from)
  pool_on object from = keeps_stages start event.Pool reply.Pool pool_event pool_meaning object from

  sema_on : (object : ℕ) (from : SemaStage) → Keeps start (sema_part object from)
  sema_on object from = keeps_stages start event.Sema reply.Sema sema_event sema_meaning object from

  starts_on : (object : ℕ) (from : StartsStage) → Keeps start (starts_part object from)
  starts_on object from = keeps_stages start event.Starts reply.Starts starts_event starts_meaning object from

  wait_on : (object mutex : ℕ) → Keeps start (wait_part object mutex)
  wait_on object mutex =
      keeps_then start (cond_part object cond_stage.Ticket) _ (cond_on object cond_stage.Ticket) (λ ticket.
      keeps_then start (mutex_part mutex mutex_stage.Unlock) _ (mutex_on mutex mutex_stage.Unlock) (λ unlocked.
      keeps_then start (cond_part object cond_stage.Leave) _ (cond_on object cond_stage.Leave) (λ left.
      keeps_read start _ (mutex_part mutex mutex_stage.Lock) (mutex_on mutex mutex_stage.Lock))))

  unless_on : (next : Part Bool) → Keeps start next → (met : Bool) → Keeps start (unless_met next met)
  unless_on next keeps true = keeps_returns start true
  unless_on next keeps false = keeps

  waits_on : (object mutex place : ℕ) (held : ObjectLine) (type : AtomicKind) (value : Number) (tries : ℕ) → slice_get plan.objects place ≡ Some held → held.kind ≡ kinds.Atomic type
      → Keeps start (waits_for object mutex (atomic_number plan.objects place) value tries)
  waits_on object mutex place held type value zero at is = tests_on place held type value at is
  waits_on object mutex place held type value (suc tries) at is =
      keeps_then start (tests (atomic_number plan.objects place) value) _ (tests_on place held type value at is)
      (unless_on _ (keeps_then start (wait_part object mutex) _ (wait_on object mutex) (λ waited. waits_on object mutex place held type value tries at is)))

  write_on : (object : ℕ) → Keeps start (write_part object)
  write_on object items answer (entries, is, locks) = subst (AllOn start) (sym is) (entries_on start object (lifted event.RwMutex reply.RwMutex) entries)

  rw_on : (object : ℕ) (call : RwMutexCall) → Keeps start (rw_part object call)
  rw_on object rw_calls.Lock = write_on object
  rw_on object call = keeps_stages start event.RwMutex reply.RwMutex rw_event rw_meaning object (rw_mutex_stage call)

  cond_calls_on : (object mutex : ℕ) (call : CondCall) → Keeps start (cond_call object mutex call)
  cond_calls_on object mutex cond_calls.Wait = wait_on object mutex
  cond_calls_on object mutex cond_calls.Signal = keeps_read start _ (cond_part object cond_stage.Signal) (cond_on object cond_stage.Signal)
  cond_calls_on object mutex cond_calls.Broadcast = keeps_read start _ (cond_part object cond_stage.Broadcast) (cond_on object cond_stage.Broadcast)

  group_call_on : (object : ℕ) (call : WaitGroupCall) → Keeps start (wait_group_call object call)
  group_call_on object call = keeps_read start _ (wait_group_part object (wait_group_stage call)) (group_on object (wait_group_stage call))

  go_on : (object starts worker : ℕ) → Keeps start (go_call object starts worker)
  go_on object starts worker = keeps_then start (wait_group_call object (group_calls.Add (pos 1))) _ (group_call_on object (group_calls.Add (pos 1))) (λ added. keeps_read start _ (starts_part starts (starts_stage.Start worker)) (starts_on starts (starts_stage.Start worker)))

  module _ {T : Type 0} (part : OnceStage T → Part (OnceOutcome T)) (function : Part T) (ran returned : T → Reply ℕ) (parts_on : (stage : OnceStage T) → Keeps start (part stage)) (function_on : Keeps start function) where
    once_goes_on : (outcome : OnceOutcome T) → Keeps start (goes_on_once part function ran returned outcome)
    once_goes_on once_outcome.Run = keeps_then start function _ function_on (λ value. keeps_read start _ (part (once_stage.End value)) (parts_on (once_stage.End value)))
    once_goes_on (once_outcome.Already kept) = keeps_returns start (returned kept)
    once_goes_on once_outcome.Ended = keeps_never start

    once_on : Keeps start (once_part part function ran returned)
    once_on = keeps_then start (part once_stage.Begin) _ (parts_on once_stage.Begin) once_goes_on

  module _ (part : FlightStage → Part FlightOutcome) (function : Part ℤ) (parts_on : (stage : FlightStage) → Keeps start (part stage)) (function_on : Keeps start function) where
    flight_goes_on : (outcome : FlightOutcome) → Keeps start (goes_on_flight part function outcome)
    flight_goes_on flight_outcome.Lead = keeps_then start function _ function_on (λ value. keeps_read start _ (part (flight_stage.Land value)) (parts_on (flight_stage.Land value)))
    flight_goes_on (flight_outcome.Got value) = keeps_returns start (replies.Flown value true)
    flight_goes_on (flight_outcome.Landed shared) = keeps_never start

    fly_on : (key : ℕ) → Keeps start (and_then (part (flight_stage.Join key)) (goes_on_flight part function))
    fly_on key = keeps_then start (part (flight_stage.Join key)) _ (parts_on (flight_stage.Join key)) flight_goes_on

  found_on : (rest : Part (Reply ℕ)) → Keeps start rest → (outcome : PoolOutcome) → Keeps start (found_or rest outcome)
  found_on rest keeps (pool_outcome.Item item) = keeps_returns start _
  found_on rest keeps pool_outcome.Nothing = keeps
  found_on rest keeps pool_outcome.Kept = keeps_never start
  found_on rest keeps (pool_outcome.Dropped item) = keeps_never start
  found_on rest keeps pool_outcome.Swept = keeps_never start

  looks_on : (worker first : ℕ) (looks : List (PoolEvent ℕ)) → Keeps start (found_by worker first looks)
  looks_on worker first [] = keeps_returns start _
  looks_on worker first (look ∷ looks) = keeps_then start (pool_part (first + part_of worker look) (stage_of look)) _ (pool_on (first + part_of worker look) (stage_of look)) (found_on (found_by worker first looks) (looks_on worker first looks))

  sweeps_on : (first : ℕ) (parts : List ℕ) → Keeps start (swept_by first parts)
  sweeps_on first [] = keeps_returns start _
  sweeps_on first (part ∷ parts) = keeps_then start (pool_part (first + part) pool_stage.Sweep) _ (pool_on (first + part) pool_stage.Sweep) (λ swept. sweeps_on first parts)

  pool_call_on : (workers worker first : ℕ) (call : PoolCall) → Keeps start (pool_call workers worker first call)
  pool_call_on workers worker first (pool_calls.Put item) = keeps_read start _ (pool_part (first + worker) (pool_stage.Put item)) (pool_on (first + worker) (pool_stage.Put item))
  pool_call_on workers worker first pool_calls.Get = looks_on worker first (looks_of workers worker)
  pool_call_on workers worker first pool_calls.Sweep = sweeps_on first (range_with_len 0 workers)

  steps_on : (begin : ℕ) (shown : List (ℕ × ℕ)) (later : List (SharedCall × SharedReply)) → CallsOn start later → CallsOn start (map (step_showing (keys_in plan.scripts) 0 begin) shown ++ later)
  steps_on begin [] later on = on
  steps_on begin (pair ∷ shown) later on = (tt, steps_on begin shown later on)

  range_on : (place begin : ℕ) (object : ObjectLine) → slice_get plan.objects place ≡ Some object → object.kind ≡ kinds.Map → Keeps start (range_call (keys_in plan.scripts) (map_number plan.objects place) begin)
  range_on place begin object at is items answer (shown, pairs, places, sorted, so) =
      places_on start _ items (map_on place object at is, steps_on begin shown ((calls.Next begin, answers.Shown None) ∷ []) (tt, tt)) places

  -- the object to which another refers
  pub referred : (target : ObjectKind → Bool) (found : Option ObjectLine) → option_map_or (λ (o : ObjectLine). target o.kind) found false ≡ true → (object : ObjectLine) × (found ≡ Some object) × (target object.kind ≡ true)
  referred target None h = absurd (false≢true h)
  referred target (Some object) h = (object, refl, h)

  pub int64 : (atomic : ℕ) (delta : ℤ) (kind : ObjectKind) → is_target (kinds.Once atomic delta) kind ≡ true → kind ≡ kinds.Atomic types.Int64
  int64 atomic delta (kinds.Atomic types.Int64) h = refl
  int64 atomic delta kind h = absurd cc

  pub flown : (atomic : ℕ) (delta : ℤ) (kind : ObjectKind) → is_target (kinds.Flight atomic delta) kind ≡ true → kind ≡ kinds.Atomic types.Int64
  flown atomic delta (kinds.Atomic types.Int64) h = refl
  flown atomic delta kind h = absurd cc

  pub an_atomic : (value : Number) (kind : ObjectKind) → may_hold value kind ≡ true → (type : AtomicKind) × (kind ≡ kinds.Atomic type)
  an_atomic value (kinds.Atomic type) h = (type, refl)
  an_atomic value kind h = absurd cc

  small_amount : (delta : ℤ) → is_amount delta ≡ true → is_of types.Int64 (Int64 delta) ≡ true
  small_amount (pos n) h = let few = leb-true n MAX_AMOUNT h in lt-ltb n (2 ^ 63) (omega (arith, few))
  small_amount (negsuc n) h = let few = ltb-true n MAX_AMOUNT h in lt-ltb n (2 ^ 63) (omega (arith, few))

  adds_on : (atomic : ℕ) (delta : ℤ) (held : ObjectLine) → slice_get plan.objects atomic ≡ Some held → held.kind ≡ kinds.Atomic types.Int64 → is_amount delta ≡ true → Keeps start (adds (atomic_number plan.objects atomic) delta)
  adds_on atomic delta held at is few items answer (sum, places, so) = places_on start _ items (atomic_on atomic held types.Int64 (atomic_calls.Add (Int64 delta)) at is (small_amount delta few), tt) places

  map_call_on : (place : ℕ) (object : ObjectLine) (call : MapCall (List ℕ)) → slice_get plan.objects place ≡ Some object → object.kind ≡ kinds.Map → Keeps start (map_call (keys_in plan.scripts) (map_number plan.objects place) call)
  map_call_on place object call at is items answer (reply, places, so) = places_on start _ items (map_on place object at is, tt) places

  call_on_on : (worker before place : ℕ) (kind : ObjectKind) (operation : Operation) → IsThere place kind → has_among plan.objects kind operation ≡ true → Keeps start (call_on plan worker before place kind operation)
  call_on_on worker before place kinds.Map (operations.Map call) h has = map_call_on place h.object call h.at h.is
  call_on_on worker before place kinds.Map operations.Range h has = range_on place before h.object h.at h.is
  call_on_on worker before place (kinds.Atomic type) (operations.Atomic call) h has = atomic_one place h.object type call h.at h.is has
  call_on_on worker before place (kinds.Atomic type) (operations.Composed (IfEqual value passes)) h has = keeps_read start _ (tests (atomic_number plan.objects place) value) (tests_on place h.object type value h.at h.is)
  call_on_on worker before place kinds.Mutex (operations.Mutex call) h has = keeps_read start _ (mutex_part (object_number place) (mutex_stage_of call)) (mutex_on (object_number place) (mutex_stage_of call))
  call_on_on worker before place kinds.RwMutex (operations.RwMutex call) h has = keeps_read start _ (rw_part (object_number place) call) (rw_on (object_number place) call)
  call_on_on worker before place (kinds.Cond mutex) (operations.Cond call) h has = cond_calls_on (object_number place) (object_number mutex) call
  call_on_on worker before place (kinds.Cond mutex) (operations.Composed (WaitFor atomic value tries)) h has =
      let (held, at, may) = referred (may_hold value) (slice_get plan.objects atomic) has in
      let (type, is) = an_atomic value held.kind may in
      keeps_read start _ (waits_for (object_number place) (object_number mutex) (atomic_number plan.objects atomic) value tries) (waits_on (object_number place) (object_number mutex) atomic held type value tries at is)
  call_on_on worker before place (kinds.WaitGroup counter) (operations.WaitGroup call) h has = group_call_on (object_number place) call
  call_on_on worker before place (kinds.WaitGroup counter) (operations.Composed (Go started)) h has = go_on (object_number place) (starts_number plan) started
  call_on_on worker before place (kinds.Once atomic delta) operations.Once h has =
      let (held, at, target) = referred (is_target (kinds.Once atomic delta)) (slice_get plan.objects atomic) h.refers_so in
      once_on _ (adds (atomic_number plan.objects atomic) delta) _ _ (λ stage. keeps_stages start event.Once reply.Once once_event once_meaning (object_number place) stage) (adds_on atomic delta held at (int64 atomic delta held.kind target) h.in_range)
  call_on_on worker before place (kinds.OnceFunc code) operations.OnceFunc h has = once_on _ (returns code) _ _ (λ stage. keeps_stages start event.OnceFunc reply.OnceFunc once_event once_meaning (object_number place) stage) (keeps_returns start code)
  call_on_on worker before place (kinds.OnceValue value) operations.OnceValue h has = once_on _ (returns value) _ _ (λ stage. keeps_stages start event.OnceValue reply.OnceValue once_event once_meaning (object_number place) stage) (keeps_returns start value)
  call_on_on worker before place kinds.Pool (operations.Pool call) h has = pool_call_on plan.workers worker (first_part plan place) call
  call_on_on worker before place (kinds.Sema size) (operations.Sema call) h has = keeps_read start _ (sema_part (object_number place) (sema_stage call)) (sema_on (object_number place) (sema_stage call))
  call_on_on worker before place (kinds.Flight atomic delta) (operations.Fly key) h has =
      let (held, at, target) = referred (is_target (kinds.Flight atomic delta)) (slice_get plan.objects atomic) h.refers_so in
      fly_on (flight_part (object_number place)) (adds (atomic_number plan.objects atomic) delta) (λ stage. keeps_stages start event.Flight reply.Flight flight_event flight_meaning (object_number place) stage)
      (adds_on atomic delta held at (flown atomic delta held.kind target) h.in_range) (key_number (keys_in plan.scripts) key)
  call_on_on worker before place kind operation h has = keeps_never start

  both : (x y : Bool) → (x && y) ≡ true → (x ≡ true) × (y ≡ true)
  both true true h = (refl, refl)
  both true false h = absurd (false≢true h)
  both false y h = absurd (false≢true h)

  pub all_at : {X : Type 0} (p : X → Bool) (xs : List X) (i : ℕ) (x : X) → list_all p xs ≡ true → slice_get xs i ≡ Some x → p x ≡ true
  all_at p [] i x all at = absurd cc
  all_at p (y ∷ xs) zero x all at = ap p (sym (get_cons y xs x at)) ∙ (both (p y) (list_all p xs) all).0
  all_at p (y ∷ xs) (suc i) x all at = all_at p xs i x (both (p y) (list_all p xs) all).1 at

  all_drop : {X : Type 0} (p : X → Bool) (n : ℕ) (xs : List X) → list_all p xs ≡ true → list_all p (drop n xs) ≡ true
  all_drop p zero xs all = all
  all_drop p (suc n) [] all = refl
  all_drop p (suc n) (x ∷ xs) all = all_drop p n xs (both (p x) (list_all p xs) all).1

  -- a call that is on an object that is there, and has it
  abbrev pub is_good : Call → Bool
  is_good call = is_on plan.objects (slice_get plan.objects call.object) call

  module _ (refer : list_all (λ (o : ObjectLine). refers plan.objects o.kind) plan.objects ≡ true) (ranges : list_all (λ (o : ObjectLine). is_kind o.kind) plan.objects ≡ true) where
    spells_on : (worker before : ℕ) (call : Call) → is_good call ≡ true → Keeps start (SpellsCall plan worker before call)
    spells_on worker before call good = by (slice_get plan.objects call.object) refl good where
      by : (found : Option ObjectLine) → slice_get plan.objects call.object ≡ found → is_on plan.objects found call ≡ true → Keeps start (call_at plan worker before call.object found call.operation)
      by None at h = keeps_never start
      by (Some object) at h = call_on_on worker before call.object object.kind call.operation (record {
        object = object;
        at = at;
        is = refl;
        refers_so = all_at (λ (o : ObjectLine). refers plan.objects o.kind) plan.objects call.object object refer at;
        in_range = all_at (λ (o : ObjectLine). is_kind o.kind) plan.objects call.object object ranges at;
      }) h

    spelt_on : (worker before : ℕ) (script : List Call) (spelt : List SpeltCall) (rest : List Call) → RunsAlong script (map (λ (s : SpeltCall). (s.call, s.reply)) spelt) rest → list_all is_good script ≡ true → AreSpelt plan worker before spelt
        → AllOn start (flat_map (λ (s : SpeltCall). s.items) spelt) × (list_all is_good rest ≡ true)
    spelt_on worker before script [] rest runs good spells = (tt, ap (list_all is_good) runs ∙ good)
    spelt_on worker before script (s ∷ spelt) rest (behind, is, runs) good spells =
        let parts = both (is_good s.call) (list_all is_good behind) (sym (ap (list_all is_good) is) ∙ good) in
        let later = spelt_on worker (before + length (shared_in s.items)) (drop (passed_over s.call s.reply) behind) spelt rest runs (all_drop is_good (passed_over s.call s.reply) behind parts.1) spells.1 in
        (on_append start s.items (flat_map (λ (t : SpeltCall). t.items) spelt) (spells_on worker before s.call parts.0 s.items (Done (Ok s.reply)) spells.0) later.0, later.1)

    done_on : (group : Option ℕ) → Keeps start (done_under group)
    done_on None = keeps_returns start tt
    done_on (Some group) = keeps_read start _ (wait_group_call (object_number group) group_calls.Done) (group_call_on (object_number group) group_calls.Done)

    opening_on : (worker : ℕ) → Keeps start (opening plan worker)
    opening_on worker = by (is_dormant plan worker) where
      by : (b : Bool) → Keeps start (cond b (wait_start_part (starts_number plan)) (returns true))
      by true = keeps_read start _ (starts_part (starts_number plan) starts_stage.WaitStart) (starts_on (starts_number plan) starts_stage.WaitStart)
      by false = keeps_returns start true

    closing_on : (worker : ℕ) → Keeps start (closing plan worker)
    closing_on worker = by (has_dormant plan) where
      done : (b : Bool) → Keeps start (cond b (done_under (group_of worker plan.scripts)) (returns tt))
      done true = done_on (group_of worker plan.scripts)
      done false = keeps_returns start tt

      by : (b : Bool) → Keeps start (cond b (and_then (done_part plan worker) (λ done. end_part (starts_number plan))) (returns tt))
      by true = keeps_then start (done_part plan worker) _ (done (is_dormant plan worker)) (λ done. keeps_read start _ (starts_part (starts_number plan) starts_stage.End) (starts_on (starts_number plan) starts_stage.End))
      by false = keeps_returns start tt

    ends_on : (worker before : ℕ) (ending : LineEnd) (rest : List Call) (last : List Made) → list_all is_good rest ≡ true → EndsBy plan worker before ending rest last → AllOn start last
    ends_on worker before whole rest last good is = closing_on worker last (Done (Ok tt)) is.1
    ends_on worker before (misused misuse) [] last good is = closing_on worker last (Done (Err misuse)) is
    ends_on worker before (misused misuse) (call ∷ rest) last good is = spells_on worker before call (both (is_good call) (list_all is_good rest) good).0 last (Done (Err misuse)) is
    ends_on worker before (halted misuse) [] last good is = closing_on worker last (Halted misuse) is
    ends_on worker before (halted misuse) (call ∷ rest) last good is = spells_on worker before call (both (is_good call) (list_all is_good rest) good).0 last (Halted misuse) is
    ends_on worker before unfinished [] last good (later, answer, some, is) = on_front start last later (closing_on worker (last ++ later) answer is)
    ends_on worker before unfinished (call ∷ rest) last good (later, answer, is) = on_front start last later (spells_on worker before call (both (is_good call) (list_all is_good rest) good).0 (last ++ later) answer is)
    ends_on worker before (stayed stay) rest last good is = subst (AllOn start) (sym is) tt

    stays_on : (worker : ℕ) (stay : Stay) (first : List Made) → StaysBy plan worker stay first → AllOn start first
    stays_on worker never_started first is = opening_on worker first (Done (Ok false)) is
    stays_on worker (stopped misuse) first is = opening_on worker first (Halted misuse) is
    stays_on worker waits first (later, answer, some, is) = on_front start first later (opening_on worker (first ++ later) answer is)

    opens_on : (worker : ℕ) (ending : LineEnd) (spelt : List SpeltCall) (first : List Made) → OpensBy plan worker ending spelt first → AllOn start first
    opens_on worker whole spelt first is = opening_on worker first (Done (Ok true)) is
    opens_on worker (misused misuse) spelt first is = opening_on worker first (Done (Ok true)) is
    opens_on worker (halted misuse) spelt first is = opening_on worker first (Done (Ok true)) is
    opens_on worker unfinished spelt first is = opening_on worker first (Done (Ok true)) is
    opens_on worker (stayed stay) spelt first is = stays_on worker stay first is.1

    halts_on : (ending : LineEnd) (halts : List Made) → AreHalts ending halts → AllOn start halts
    halts_on whole halts are = subst (AllOn start) (sym are) tt
    halts_on (misused misuse) halts are = by halts are where
      by : (halts : List Made) → All (IsHalt misuse) halts → AllOn start halts
      by [] each = tt
      by (Shared x ∷ later) each = absurd (All-head (IsHalt misuse) (Shared x) later each)
      by (Entered object entry ∷ later) each = (tt, by later (All-tail (IsHalt misuse) (Entered object entry) later each))
    halts_on (halted misuse) halts are = subst (AllOn start) (sym are) tt
    halts_on unfinished halts are = subst (AllOn start) (sym are) tt
    halts_on (stayed stay) halts are = subst (AllOn start) (sym are) tt

    line_on : (worker : ℕ) (script : List Call) (line : Line) → list_all is_good script ≡ true → RunsAlong script (calls_made line) line.rest → IsLineOf plan worker line → AllOn start (items_of line)
    line_on worker script line good runs is =
        let spelt = spelt_on worker 0 script line.spelt line.rest runs good is.calls in
        let ends = ends_on worker _ line.ending line.rest line.last spelt.1 is.ends in
        on_append start line.first _ (opens_on worker line.ending line.spelt line.first is.opens)
        (on_append start (flat_map (λ (s : SpeltCall). s.items) line.spelt) _ spelt.0 (on_append start line.last line.halts ends (halts_on line.ending line.halts is.halts)))

  -- the numbers of objects that may be declared one after the other are in range
  kinds_in_range : (others objects : List ObjectLine) → may_declare others objects ≡ true → list_all (λ (o : ObjectLine). is_kind o.kind) objects ≡ true
  kinds_in_range others [] may = refl
  kinds_in_range others (object ∷ objects) may =
      let room = nat_lt (count_of (word_of object.kind) others) (limit_of (word_of object.kind)) in
      let new = not (is_some (declared_from 0 object.name others)) in
      let parts = both (may_join others object) (may_declare (others ++ object ∷ []) objects) may in
      let p1 = both (is_name object.name) (new && (refers others object.kind && (is_kind object.kind && room))) parts.0 in
      let p2 = both new (refers others object.kind && (is_kind object.kind && room)) p1.1 in
      let p3 = both (refers others object.kind) (is_kind object.kind && room) p2.1 in
      let kind = (both (is_kind object.kind) room p3.1).0 in
      ap (λ b. b && list_all (λ (o : ObjectLine). is_kind o.kind) objects) kind ∙ kinds_in_range (others ++ object ∷ []) objects parts.1

  pub script_good : (scripts : List (List Call)) (worker : ℕ) → list_all (list_all is_good) scripts ≡ true → list_all is_good (get_or scripts worker []) ≡ true
  script_good [] worker good = refl
  script_good (script ∷ scripts) zero good = (both (list_all is_good script) (list_all (list_all is_good) scripts) good).0
  script_good (script ∷ scripts) (suc worker) good = script_good scripts worker (both (list_all is_good script) (list_all (list_all is_good) scripts) good).1

  -- each call of a script is on an object that is there, and has it; and each object refers to one that is there
  pub valid_parts : IsReadable plan → (list_all (list_all is_good) plan.scripts ≡ true) × (list_all (λ (o : ObjectLine). refers plan.objects o.kind) plan.objects ≡ true)
  valid_parts readable =
      let dormant = (length plan.dormant == plan.workers) && list_all (list_all (λ (call : Call). starts_dormant plan.dormant call.operation)) plan.scripts in
      let refer = list_all (λ (o : ObjectLine). refers plan.objects o.kind) plan.objects in
      let turns = list_all (is_turn plan.workers) plan.schedule in
      let good = list_all (list_all is_good) plan.scripts in
      let p1 = both (length plan.scripts == plan.workers) (good && (turns && (refer && dormant))) readable.valid in
      let p2 = both good (turns && (refer && dormant)) p1.1 in
      let p3 = both turns (refer && dormant) p2.1 in
      (p2.0, (both refer dormant p3.1).0)

  pub spelt_is_on : (worker i : ℕ) (line : Line) (x : Item) → IsReadable plan → RunsAlong (get_or plan.scripts worker []) (calls_made line) line.rest → IsLineOf plan worker line
      → slice_get (shared_in (items_of line)) i ≡ Some x → IsOn start x.call
  spelt_is_on worker i line x readable runs is at =
      let (good, refer) = valid_parts readable in
      on_shared start (items_of line) (line_on refer (kinds_in_range [] plan.objects readable.objects) worker (get_or plan.scripts worker []) line (script_good plan.scripts worker good) runs is) i x at
