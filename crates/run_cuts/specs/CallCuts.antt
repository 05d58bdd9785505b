-- How a call of a workload is cut from a list. A kind of object is a line here.
use Rattle.std.specs.Prelude.{ℕ, Bool, true, false, Option, Some, None, slice_get}
use Rattle.script_calls.specs.declared.call.Call.{Call}
use Rattle.script_calls.specs.declared.call.ComposedCall.TheVariants.{IfEqual, WaitFor, Go}
use Rattle.script_calls.specs.declared.call.Operation.{Operation}
use Rattle.script_calls.specs.declared.call.Operation.TheVariants as operations
use Rattle.script_calls.specs.declared.call.Reply.{Reply}
use Rattle.script_calls.specs.declared.call.Reply.TheVariants as replies
use Rattle.workload.specs.Keys.{keys_in, key_number}
use Rattle.workload.specs.Plan.{Plan}
use Rattle.workload.specs.declared.object.ObjectKind.{ObjectKind}
use Rattle.workload.specs.declared.object.ObjectKind.TheVariants as kinds
use Rattle.workload.specs.declared.object.ObjectLine.{ObjectLine}
use Rattle.run_record.specs.Objects.{map_number, atomic_number, first_part, starts_number}
use Rattle.run_record.specs.Record.{object_number}
use Rattle.run_cuts.specs.CondCuts.{cond_cut}
use Rattle.run_cuts.specs.Cuts.{Cutter, never_cut, read_cut}
use Rattle.run_cuts.specs.FlightCuts.{fly_cut}
use Rattle.run_cuts.specs.GroupCuts.{group_cut}
use Rattle.run_cuts.specs.MutexCuts.{mutex_cut}
use Rattle.run_cuts.specs.OnceCuts.{do_cut, func_cut, value_cut}
use Rattle.run_cuts.specs.PoolCuts.{pool_cut}
use Rattle.run_cuts.specs.RangeCuts.{shows_cut}
use Rattle.run_cuts.specs.RwMutexCuts.{rw_mutex_cut}
use Rattle.run_cuts.specs.SemaCuts.{sema_cut}
use Rattle.run_cuts.specs.SharedCuts.{atomic_cut, if_equal_cut, map_cut}
use Rattle.run_cuts.specs.StartsCuts.{go_cut}
use Rattle.run_cuts.specs.WaitForCuts.{wait_for_cut}

-- Whether the items of such a call tell its reply: those of each but a range. A range replies its pairs sorted by the names of their keys, and its items don't fix the order of two pairs whose keys have one name: a key that is shown twice, or numbers that are no key's, which have one name, the empty one. Of a range the pairs are told in the order in which they were shown.
abbrev pub is_told : Operation → Bool
is_told operations.Range = false
is_told operation = true

-- of a worker that has made so many calls on maps and atomics before
abbrev pub on_cut : Plan → (worker before place : ℕ) → ObjectKind → Operation → Cutter (Reply ℕ)
on_cut plan worker before place kinds.Map (operations.Map call) = map_cut (keys_in plan.scripts) (map_number plan.objects place) call
on_cut plan worker before place kinds.Map operations.Range = read_cut replies.Pairs (shows_cut (map_number plan.objects place) before)
on_cut plan worker before place (kinds.Atomic type) (operations.Atomic call) = atomic_cut (atomic_number plan.objects place) call
on_cut plan worker before place (kinds.Atomic type) (operations.Composed (IfEqual value passes)) = if_equal_cut (atomic_number plan.objects place) value
on_cut plan worker before place kinds.Mutex (operations.Mutex call) = mutex_cut (object_number place) call
on_cut plan worker before place kinds.RwMutex (operations.RwMutex call) = rw_mutex_cut (object_number place) call
on_cut plan worker before place (kinds.Cond mutex) (operations.Cond call) = cond_cut (object_number place) (object_number mutex) call
on_cut plan worker before place (kinds.Cond mutex) (operations.Composed (WaitFor atomic value tries)) = wait_for_cut (object_number place) (object_number mutex) (atomic_number plan.objects atomic) value tries
on_cut plan worker before place (kinds.WaitGroup start) (operations.WaitGroup call) = group_cut (object_number place) call
on_cut plan worker before place (kinds.WaitGroup start) (operations.Composed (Go started)) = go_cut (object_number place) (starts_number plan) started
on_cut plan worker before place (kinds.Once atomic delta) operations.Once = do_cut (object_number place) (atomic_number plan.objects atomic) delta
on_cut plan worker before place (kinds.OnceFunc code) operations.OnceFunc = func_cut (object_number place) code
on_cut plan worker before place (kinds.OnceValue value) operations.OnceValue = value_cut (object_number place) value
on_cut plan worker before place kinds.Pool (operations.Pool call) = pool_cut plan.workers worker (first_part plan place) call
on_cut plan worker before place (kinds.Sema size) (operations.Sema call) = sema_cut (object_number place) call
on_cut plan worker before place (kinds.Flight atomic delta) (operations.Fly key) = fly_cut (object_number place) (atomic_number plan.objects atomic) delta (key_number (keys_in plan.scripts) key)
on_cut plan worker before place kind operation = never_cut

abbrev pub at_cut : Plan → (worker before place : ℕ) → Option ObjectLine → Operation → Cutter (Reply ℕ)
at_cut plan worker before place None operation = never_cut
at_cut plan worker before place (Some object) operation = on_cut plan worker before place object.kind operation

-- how a call of a worker is cut from a list, that has made so many calls on maps and atomics before
abbrev pub call_cut : Plan → (worker before : ℕ) → Call → Cutter (Reply ℕ)
call_cut plan worker before call = at_cut plan worker before call.object (slice_get plan.objects call.object) call.operation
