-- Which items spell a call of a workload, and what it answers by them. A kind of object is a line here, and one in `IsJournalOf`.
use Rattle.std.specs.Prelude.{◌≡◌, ℕ, List, [], Option, Some, None, slice_get}
use Rattle.script_calls.specs.declared.call.Call.{Call}
use Rattle.script_calls.specs.declared.call.ComposedCall.TheVariants.{IfEqual, WaitFor, Go}
use Rattle.script_calls.specs.declared.call.Operation.{Operation}
use Rattle.script_calls.specs.declared.call.Operation.TheVariants as operations
use Rattle.script_calls.specs.declared.call.Reply.{Reply}
use Rattle.workload.specs.declared.object.ObjectKind.{ObjectKind}
use Rattle.workload.specs.declared.object.ObjectKind.TheVariants as kinds
use Rattle.workload.specs.declared.object.ObjectLine.{ObjectLine}
use Rattle.workload.specs.Keys.{keys_in, key_number}
use Rattle.workload.specs.Plan.{Plan}
use Rattle.run_record.specs.AtomicKind.{atomic_call}
use Rattle.run_record.specs.CondKind.{cond_call, IsCondJournal}
use Rattle.run_record.specs.FlightKind.{fly_call, IsFlightJournal}
use Rattle.run_record.specs.MapKind.{map_call, range_call}
use Rattle.run_record.specs.MutexKind.{mutex_call, IsMutexJournal}
use Rattle.run_record.specs.Objects.{map_number, atomic_number, first_part, starts_number}
use Rattle.run_record.specs.OnceKind.{do_call, func_call, value_call, IsOnceJournal, IsOnceFuncJournal, IsOnceValueJournal}
use Rattle.run_record.specs.Parts.{Part, never}
use Rattle.run_record.specs.PoolKind.{pool_call}
use Rattle.run_record.specs.Record.{ObjectEntry, object_number}
use Rattle.run_record.specs.RwMutexKind.{rw_mutex_call, IsRwMutexJournal}
use Rattle.run_record.specs.SemaKind.{sema_call, IsSemaJournal}
use Rattle.run_record.specs.StartsKind.{go_call}
use Rattle.run_record.specs.Tests.{if_equal_call, wait_for_call}
use Rattle.run_record.specs.WaitGroupKind.{wait_group_call, IsWaitGroupJournal}

-- a call on the object at a place, of a worker that has made so many calls on maps and atomics before. An object of another kind has no such call, and a plain variable has none at all: no record tells of it
abbrev pub call_on : Plan → (worker before place : ℕ) → ObjectKind → Operation → Part (Reply ℕ)
call_on plan worker before place kinds.Map (operations.Map call) = map_call (keys_in plan.scripts) (map_number plan.objects place) call
call_on plan worker before place kinds.Map operations.Range = range_call (keys_in plan.scripts) (map_number plan.objects place) before
call_on plan worker before place (kinds.Atomic type) (operations.Atomic call) = atomic_call (atomic_number plan.objects place) call
call_on plan worker before place (kinds.Atomic type) (operations.Composed (IfEqual value passes)) = if_equal_call (atomic_number plan.objects place) value
call_on plan worker before place kinds.Mutex (operations.Mutex call) = mutex_call (object_number place) call
call_on plan worker before place kinds.RwMutex (operations.RwMutex call) = rw_mutex_call (object_number place) call
call_on plan worker before place (kinds.Cond mutex) (operations.Cond call) = cond_call (object_number place) (object_number mutex) call
call_on plan worker before place (kinds.Cond mutex) (operations.Composed (WaitFor atomic value tries)) = wait_for_call (object_number place) (object_number mutex) (atomic_number plan.objects atomic) value tries
call_on plan worker before place (kinds.WaitGroup start) (operations.WaitGroup call) = wait_group_call (object_number place) call
call_on plan worker before place (kinds.WaitGroup start) (operations.Composed (Go started)) = go_call (object_number place) (starts_number plan) started
call_on plan worker before place (kinds.Once atomic delta) operations.Once = do_call (object_number place) (atomic_number plan.objects atomic) delta
call_on plan worker before place (kinds.OnceFunc code) operations.OnceFunc = func_call (object_number place) code
call_on plan worker before place (kinds.OnceValue value) operations.OnceValue = value_call (object_number place) value
call_on plan worker before place kinds.Pool (operations.Pool call) = pool_call plan.workers worker (first_part plan place) call
call_on plan worker before place (kinds.Sema size) (operations.Sema call) = sema_call (object_number place) call
call_on plan worker before place (kinds.Flight atomic delta) (operations.Fly key) = fly_call (object_number place) (atomic_number plan.objects atomic) delta (key_number (keys_in plan.scripts) key)
call_on plan worker before place kind operation = never

abbrev pub call_at : Plan → (worker before place : ℕ) → Option ObjectLine → Operation → Part (Reply ℕ)
call_at plan worker before place None operation = never
call_at plan worker before place (Some object) operation = call_on plan worker before place object.kind operation

-- the items spell the call, which answers this
abbrev pub SpellsCall : Plan → (worker before : ℕ) → Call → Part (Reply ℕ)
SpellsCall plan worker before call = call_at plan worker before call.object (slice_get plan.objects call.object) call.operation

-- the journal is one of the object at a place: it follows the machine of the object's kind from the declared start, and keeps the edge law. A map, an atomic and a plain variable have none, and a pool has those of its parts
abbrev pub IsJournalOf : Plan → ℕ → ObjectKind → List ObjectEntry → Type 0
IsJournalOf plan place kinds.Map journal = journal ≡ []
IsJournalOf plan place (kinds.Atomic type) journal = journal ≡ []
IsJournalOf plan place kinds.Mutex journal = IsMutexJournal plan.workers journal
IsJournalOf plan place kinds.RwMutex journal = IsRwMutexJournal plan.workers journal
IsJournalOf plan place (kinds.Cond mutex) journal = IsCondJournal plan.workers journal
IsJournalOf plan place (kinds.WaitGroup start) journal = IsWaitGroupJournal plan.workers start journal
IsJournalOf plan place (kinds.Once atomic delta) journal = IsOnceJournal plan.workers journal
IsJournalOf plan place (kinds.OnceFunc code) journal = IsOnceFuncJournal plan.workers journal
IsJournalOf plan place (kinds.OnceValue value) journal = IsOnceValueJournal plan.workers journal
IsJournalOf plan place kinds.Pool journal = journal ≡ []
IsJournalOf plan place (kinds.Sema size) journal = IsSemaJournal plan.workers size journal
IsJournalOf plan place (kinds.Flight atomic delta) journal = IsFlightJournal plan.workers journal
IsJournalOf plan place kinds.Var journal = journal ≡ []
