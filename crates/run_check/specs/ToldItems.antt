-- The item that a line of a record's text says, of a worker's list.
use Rattle.std.specs.Prelude.{ℕ, zero, suc, ◌+◌, ◌-◌, ◌%◌, ℤ, pos, Bool, true, false, nat_lt, ◌==◌, cond, List, [], ◌∷◌, ◌++◌, length, get_or, Option, Some, None, slice_get}
use Rattle.std.specs.Option.{option_map, option_map_or}
use Rattle.std.specs.Prelude.{is_some, unwrap_or}
use Rattle.script_calls.specs.declared.call.Call.{Call}
use Rattle.script_calls.specs.declared.call.ComposedCall.{ComposedCall}
use Rattle.script_calls.specs.declared.call.ComposedCall.TheVariants.{IfEqual, WaitFor, Go}
use Rattle.script_calls.specs.declared.call.Operation.{Operation}
use Rattle.script_calls.specs.declared.call.Operation.TheVariants as operations
use Rattle.sync_types.specs.declared.atomic_object.AtomicCall.TheVariants.{Add, Load}
use Rattle.sync_types.specs.declared.atomic_object.AtomicKind.{AtomicKind}
use Rattle.sync_types.specs.declared.atomic_object.AtomicKind.TheVariants as types
use Rattle.sync_types.specs.declared.atomic_object.Number.TheVariants.{Int64}
use Rattle.sync_types.specs.Renaming.{renamed_call}
use Rattle.sync_model.specs.declared.item.SharedCall.{SharedCall}
use Rattle.sync_model.specs.declared.item.SharedCall.TheVariants as calls
use Rattle.sync_model.specs.declared.item.SharedReply.{SharedReply}
use Rattle.sync_model.specs.declared.item.SharedReply.TheVariants as answers
use Rattle.sync_model.specs.declared.journal.Deed.{Deed}
use Rattle.workload.specs.declared.object.ObjectKind.{ObjectKind}
use Rattle.workload.specs.declared.object.ObjectKind.TheVariants as kinds
use Rattle.workload.specs.declared.object.ObjectLine.{ObjectLine}
use Rattle.workload.specs.Keys.{key_number, keys_in}
use Rattle.workload.specs.Plan.{Plan}
use Rattle.run_record.specs.declared.entered.ObjectEvent.{ObjectEvent}
use Rattle.run_record.specs.declared.entered.ObjectReply.{ObjectReply}
use Rattle.run_record.specs.declared.made.Made.{Made}
use Rattle.run_record.specs.declared.made.Made.TheVariants.{Shared, Entered}
use Rattle.run_record.specs.Objects.{atomic_number, map_number, starts_number}
use Rattle.run_record.specs.Record.{object_number}
use Rattle.record_text.specs.declared.event.EventWord.{EventWord}
use Rattle.record_text.specs.declared.event.EventWord.TheVariants.{End, Halt}
use Rattle.record_text.specs.declared.answer.AnswerWord.{AnswerWord}
use Rattle.record_text.specs.declared.item_line.ItemLine.{ItemLine}
use Rattle.record_text.specs.declared.item_line.PlacedReply.{PlacedReply}
use Rattle.record_text.specs.declared.item_line.PlacedReply.TheVariants as replies
use Rattle.record_text.specs.declared.item_line.Said.{Said}
use Rattle.record_text.specs.declared.item_line.Said.TheVariants as said
use Rattle.run_check.specs.declared.told.along.Along.{Along}
use Rattle.run_check.specs.declared.told.deeds.Speaker.{Speaker}
use Rattle.run_check.specs.declared.told.deeds.Speaker.TheVariants as speakers
use Rattle.run_check.specs.declared.told.placing.Asked.{Asked}
use Rattle.run_check.specs.declared.told.sketch.Sketch.{Sketch}
use Rattle.run_check.specs.declared.told.sketch.Sketch.TheVariants as sketches
use Rattle.record_text.specs.Told.{items_of}
use Rattle.run_check.specs.Deeds.{deed_told}
use Rattle.run_check.specs.Replies.{int64_told, reply_told}

-- ---- the call on a map or an atomic that a call of a script makes

-- the type of the atomic at a place
abbrev pub type_of : ObjectKind → AtomicKind
type_of (kinds.Atomic type) = type
type_of kind = types.Int64

abbrev pub type_at : List ObjectLine → ℕ → AtomicKind
type_at objects place = option_map_or (λ (object : ObjectLine). type_of object.kind) (slice_get objects place) types.Int64

abbrev pub loads : List ObjectLine → ℕ → Asked
loads objects place = record { call = calls.Atomic (atomic_number objects place) Load; kind = type_at objects place }

-- a call on a map or an atomic; the tests of an `ifeq` and of a `waitfor`; and the `add` of a `do` and of a `fly`
abbrev pub asked_on : Plan → (place : ℕ) → ObjectKind → Operation → Option Asked
asked_on plan place kinds.Map (operations.Map call) = Some (record { call = calls.Map (map_number plan.objects place) (renamed_call (key_number (keys_in plan.scripts)) call); kind = types.Int64 })
asked_on plan place (kinds.Atomic type) (operations.Atomic call) = Some (record { call = calls.Atomic (atomic_number plan.objects place) call; kind = type })
asked_on plan place (kinds.Atomic type) (operations.Composed (IfEqual value passes)) = Some (loads plan.objects place)
asked_on plan place (kinds.Cond mutex) (operations.Composed (WaitFor atomic value tries)) = Some (loads plan.objects atomic)
asked_on plan place (kinds.Once atomic delta) operations.Once = Some (record { call = calls.Atomic (atomic_number plan.objects atomic) (Add (Int64 delta)); kind = types.Int64 })
asked_on plan place (kinds.Flight atomic delta) (operations.Fly key) = Some (record { call = calls.Atomic (atomic_number plan.objects atomic) (Add (Int64 delta)); kind = types.Int64 })
asked_on plan place kind operation = None

abbrev pub asked_at : Plan → Option ObjectLine → Call → Option Asked
asked_at plan None call = None
asked_at plan (Some object) call = asked_on plan call.object object.kind call.operation

abbrev pub asked_by : Plan → Option Call → Option Asked
asked_by plan None = None
asked_by plan (Some call) = asked_at plan (slice_get plan.objects call.object) call

-- the map over which a `range` goes
abbrev pub ranged_on : Plan → (place : ℕ) → ObjectKind → Operation → Option ℕ
ranged_on plan place kinds.Map operations.Range = Some (map_number plan.objects place)
ranged_on plan place kind operation = None

abbrev pub ranged_at : Plan → Option ObjectLine → Call → Option ℕ
ranged_at plan None call = None
ranged_at plan (Some object) call = ranged_on plan call.object object.kind call.operation

abbrev pub ranged_by : Plan → Option Call → Option ℕ
ranged_by plan None = None
ranged_by plan (Some call) = ranged_at plan (slice_get plan.objects call.object) call

-- ---- the object whose journal an entry is of

-- what each once keeps, by its object
abbrev pub Kept : Type 0
Kept = List (ℕ × ℤ)

abbrev pub kept_at : Kept → ℕ → Option ℤ
kept_at [] object = None
kept_at (one ∷ kept) object = cond (one.0 == object) (Some one.1) (kept_at kept object)

-- how an object that a workload declares speaks, where the worker's last `add` answered this sum
abbrev pub declared_speaker : Kept → (object worker : ℕ) → ℤ → ObjectKind → Speaker
declared_speaker kept object worker sum kinds.Mutex = speakers.Mutex worker
declared_speaker kept object worker sum kinds.RwMutex = speakers.RwMutex
declared_speaker kept object worker sum (kinds.Cond mutex) = speakers.Cond
declared_speaker kept object worker sum (kinds.WaitGroup start) = speakers.WaitGroup
declared_speaker kept object worker sum (kinds.Once atomic delta) = speakers.Once sum (unwrap_or (kept_at kept object) sum)
declared_speaker kept object worker sum (kinds.OnceFunc code) = speakers.OnceFunc code
declared_speaker kept object worker sum (kinds.OnceValue value) = speakers.OnceValue value
declared_speaker kept object worker sum (kinds.Sema size) = speakers.Sema
declared_speaker kept object worker sum (kinds.Flight atomic delta) = speakers.Flight
declared_speaker kept object worker sum kinds.Map = speakers.Silent
declared_speaker kept object worker sum (kinds.Atomic type) = speakers.Silent
declared_speaker kept object worker sum kinds.Pool = speakers.Silent
declared_speaker kept object worker sum kinds.Var = speakers.Silent

-- the object behind the declared ones: a part of a pool, or Starts. The parts of each pool are numbered from 0
abbrev pub later_speaker : Plan → (object place : ℕ) → Speaker
later_speaker plan object place = cond (nat_lt object (starts_number plan)) (speakers.PoolPart ((place - length plan.objects) % plan.workers)) speakers.Starts

abbrev pub speaker_at : Plan → Kept → (object worker : ℕ) → ℤ → Option ObjectLine → ℕ → Speaker
speaker_at plan kept object worker sum None place = later_speaker plan object place
speaker_at plan kept object worker sum (Some line) place = declared_speaker kept object worker sum line.kind

-- how the object of a number speaks, which isn't Stop
abbrev pub speaker_behind : Plan → Kept → (object worker : ℕ) → ℤ → (place : ℕ) → Speaker
speaker_behind plan kept object worker sum place = speaker_at plan kept object worker sum (slice_get plan.objects place) place

-- Stop, which is object 0, has nothing but halts
abbrev pub speaker_of : Plan → Kept → (object worker : ℕ) → ℤ → Speaker
speaker_of plan kept object worker sum = cond (object == 0) speakers.Silent (speaker_behind plan kept object worker sum (object - 1))

-- ---- along a worker's list

-- the sum that a reply is, if it is one
abbrev pub sum_in : PlacedReply → ℤ
sum_in (replies.Number word) = unwrap_or (int64_told word) (pos 0)
sum_in reply = pos 0

-- behind a line: how many calls on maps and atomics stand before, which of them began the last cursor, and what the last one answered as a sum
abbrev pub along_behind : Along → Said → Along
along_behind along (said.Call place reply) = record { calls = along.calls + 1; begin = along.begin; sum = sum_in reply }
along_behind along (said.Begin reach) = record { calls = along.calls + 1; begin = along.calls; sum = along.sum }
along_behind along (said.Next reach shown) = record { calls = along.calls + 1; begin = along.begin; sum = along.sum }
along_behind along (said.Entered object number event answer) = along

-- at the list's beginning
abbrev pub along_start : Along
along_start = record { calls = 0; begin = 0; sum = pos 0 }

-- ---- the item

-- the call of the worker's script at a place
abbrev pub script_call : Plan → (worker : ℕ) → Option ℕ → Option Call
script_call plan worker None = None
script_call plan worker (Some index) = slice_get (get_or plan.scripts worker []) index

abbrev pub replied : (place : ℕ) → PlacedReply → Option Asked → Option Sketch
replied place reply None = None
replied place reply (Some asked) = option_map (λ answer. sketches.Shared asked.call answer place) (reply_told asked.kind asked.call reply)

abbrev pub begun : (reach : ℕ) → Option ℕ → Option Sketch
begun reach map = option_map (λ m. sketches.Shared (calls.Begin m) answers.Begun reach) map

abbrev pub entered : Speaker → (object number : ℕ) → EventWord → AnswerWord → Option Sketch
entered speaker object number event answer = option_map (sketches.Entered object number) (deed_told speaker event answer)

-- a halt is of no call
abbrev pub may_be_of : Option ℕ → EventWord → Bool
may_be_of None event = true
may_be_of (Some index) (Halt misuse) = false
may_be_of (Some index) event = true

-- what a line of a worker's list says of an item beside its front; nothing, where the script's call has no such item, or the object no such entry
abbrev pub sketch_told : Plan → Kept → (worker : ℕ) → Along → Option ℕ → Said → Option Sketch
sketch_told plan kept worker along index (said.Call place reply) = replied place reply (asked_by plan (script_call plan worker index))
sketch_told plan kept worker along index (said.Begin reach) = begun reach (ranged_by plan (script_call plan worker index))
sketch_told plan kept worker along index (said.Next reach shown) = Some (sketches.Shared (calls.Next along.begin) (answers.Shown shown) reach)
sketch_told plan kept worker along index (said.Entered object number event answer) = cond (may_be_of index event) (entered (speaker_of plan kept object worker along.sum) object number event answer) None

-- The item. A line doesn't say whether a call is an entry of the history, so it isn't marked as one. An entry's worker is the list's; nothing is told of what the worker had seen of the journal, nor of the entry's number among all events
abbrev pub made_of : (worker : ℕ) → (front : List ℕ) → Sketch → Made
made_of worker front (sketches.Shared call reply place) = Shared (record { call = call; reply = reply; place = place; entry = false; front = front })
made_of worker front (sketches.Entered object number deed) = Entered object (record { caller = worker; deed = deed; front = front; knew = 0; time = 0 })

-- the number of an entry in its journal; of another item 0
abbrev pub number_of : Sketch → ℕ
number_of (sketches.Shared call reply place) = 0
number_of (sketches.Entered object number deed) = number

-- ---- the items of a list

-- an item that a line says, with the call that it is of and its front
pub record Sketched : Type 0 where
  pub index : Option ℕ
  pub front : List ℕ
  pub sketch : Sketch

abbrev pub sketched_before : ItemLine → Option Sketch → Option (List Sketched) → Option (List Sketched)
sketched_before line None more = None
sketched_before line (Some sketch) None = None
sketched_before line (Some sketch) (Some more) = Some (record { index = line.index; front = line.front; sketch = sketch } ∷ more)

-- the items that a worker's lines say; nothing, where one of them says none
abbrev pub list_told : Plan → Kept → (worker : ℕ) → Along → List ItemLine → Option (List Sketched)
list_told plan kept worker along [] = Some []
list_told plan kept worker along (line ∷ lines) = sketched_before line (sketch_told plan kept worker along line.index line.said) (list_told plan kept worker (along_behind along line.said) lines)

-- ---- what each once keeps

-- the first that is told of an object counts
abbrev pub keep : Kept → ℕ → ℤ → Kept
keep kept object sum = cond (is_some (kept_at kept object)) kept (kept ++ (object, sum) ∷ [])

-- a once's function ended, with the sum that the worker's last `add` answered
abbrev pub keep_event : Kept → ℕ → ℤ → EventWord → Kept
keep_event kept object sum End = keep kept object sum
keep_event kept object sum event = kept

abbrev pub keep_said : Kept → ℤ → Said → Kept
keep_said kept sum (said.Entered object number event answer) = keep_event kept object sum event
keep_said kept sum other = kept

abbrev pub keep_list : Kept → Along → List ItemLine → Kept
keep_list kept along [] = kept
keep_list kept along (line ∷ lines) = keep_list (keep_said kept along.sum line.said) (along_behind along line.said) lines

-- what the lists of the first so many workers tell
abbrev pub kept_by : List ItemLine → ℕ → Kept
kept_by items zero = []
kept_by items (suc worker) = keep_list (kept_by items worker) along_start (items_of items worker)

-- ---- what a text says

-- the items of a worker's list
abbrev pub worker_told : Plan → List ItemLine → ℕ → Option (List Sketched)
worker_told plan items worker = list_told plan (kept_by items plan.workers) worker along_start (items_of items worker)
