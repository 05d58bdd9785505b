-- A wait group `g` is at 0, and so is an int64 `a`. Worker 0 starts worker 1 under `g`, waits for it, and loads `a`. Worker 1, which waits to be started, adds 7 to `a`.
use Rattle.std.specs.Prelude.{ℕ, ℤ, pos, negsuc, true, false, List, [], ◌∷◌}
use Rattle.script_calls.specs.declared.call.ComposedCall.TheVariants.{Go}
use Rattle.script_calls.specs.declared.call.Operation.TheVariants as operations
use Rattle.script_calls.specs.declared.call.Reply.TheVariants as replies
use Rattle.script_calls.specs.declared.outcome.Outcome.{Outcome}
use Rattle.script_calls.specs.declared.outcome.Outcome.TheVariants as outcomes
use Rattle.starts_core.specs.declared.starts.StartEvent.TheVariants.{Start, End, Leave}
use Rattle.starts_core.specs.declared.starts.StartReply.TheVariants as started
use Rattle.sync_model.specs.declared.item.Item.{Item}
use Rattle.sync_model.specs.declared.item.SharedCall.{SharedCall}
use Rattle.sync_model.specs.declared.item.SharedCall.TheVariants as shared
use Rattle.sync_model.specs.declared.item.SharedEntry.{SharedEntry}
use Rattle.sync_model.specs.declared.item.SharedReply.{SharedReply}
use Rattle.sync_model.specs.declared.item.SharedReply.TheVariants as shared_replies
use Rattle.sync_types.specs.declared.atomic_object.AtomicCall.TheVariants.{Load, Add}
use Rattle.sync_types.specs.declared.atomic_object.AtomicKind.TheVariants as types
use Rattle.sync_types.specs.declared.atomic_object.AtomicReply.TheVariants.{Held}
use Rattle.sync_types.specs.declared.atomic_object.Number.TheVariants.{Int64}
use Rattle.sync_types.specs.declared.end.End.TheVariants.{Number}
use Rattle.sync_types.specs.declared.wait_call.WaitGroupCall.TheVariants as calls
use Rattle.wait_cores.specs.declared.group.GroupEvent.TheVariants as on_group
use Rattle.wait_cores.specs.declared.group.GroupReply.TheVariants as grouped
use Rattle.workload.specs.declared.object.ObjectKind.TheVariants as kinds
use Rattle.workload.specs.Plan.{Plan}
use Rattle.run_record.specs.declared.entered.ObjectEvent.TheVariants as event
use Rattle.run_record.specs.declared.entered.ObjectReply.TheVariants as reply
use Rattle.run_record.specs.declared.made.Made.TheVariants.{Shared, Entered}
use Rattle.run_record.specs.Record.{Record, ObjectEntry}
use Rattle.run_laws.specs.Examples.{declared, on, plan_of, entry, none_known}

abbrev pub plan : Plan
plan = record (plan_of (declared 103 (kinds.WaitGroup 0) ∷ declared 97 (kinds.Atomic types.Int64) ∷ [])
    (on 0 (operations.Composed (Go 1)) ∷ on 0 (operations.WaitGroup calls.Wait) ∷ on 1 (operations.Atomic Load) ∷ [])
    (on 1 (operations.Atomic (Add (Int64 (pos 7)))) ∷ [])) { dormant = false ∷ true ∷ [] }

-- what holds this
abbrev pub holding : ℤ → SharedReply
holding value = shared_replies.Atomic (Held (Int64 value))

-- the load finds 7, and 7 is left
abbrev pub outcome : Outcome
outcome = outcomes.Done (record {
  replies = (replies.Returned ∷ replies.Returned ∷ replies.Atomic (Held (Int64 (pos 7))) ∷ []) ∷ (replies.Atomic (Held (Int64 (pos 7))) ∷ []) ∷ [];
  ends = Number 1 (Int64 (pos 7)) ∷ [];
})

-- worker 1's addition is known, and that and worker 0's load are
abbrev pub addition_known : List ℕ
addition_known = 0 ∷ 1 ∷ []

abbrev pub both_known : List ℕ
both_known = 1 ∷ 1 ∷ []

-- worker 0 adds 1 to the group, and then starts worker 1
abbrev pub joins : ObjectEntry
joins = entry 0 (event.WaitGroup (on_group.Add (pos 1))) (reply.WaitGroup grouped.Done)

abbrev pub starts : ObjectEntry
starts = entry 0 (event.Starts (Start 1)) (reply.Starts started.Done)

-- worker 1 goes, adds 7, is done with the group, and ends
abbrev pub goes : ObjectEntry
goes = entry 1 (event.Starts Leave) (reply.Starts started.Go)

abbrev pub adding : SharedCall
adding = shared.Atomic 0 (Add (Int64 (pos 7)))

abbrev pub adds : Item
adds = record { call = adding; reply = holding (pos 7); place = 0; entry = true; front = none_known }

abbrev pub added : SharedEntry
added = record { caller = 1; call = adding; reply = holding (pos 7) }

abbrev pub is_done : ObjectEntry
is_done = record (entry 1 (event.WaitGroup (on_group.Add (negsuc 0))) (reply.WaitGroup grouped.Done)) { front = addition_known }

abbrev pub ends : ℕ → List ℕ → ObjectEntry
ends worker knows = record (entry worker (event.Starts End) (reply.Starts started.Done)) { front = knows }

-- worker 0's wait returns at once, when it knows this; its load, when it knows that, stands at a place of the history and finds a number
abbrev pub waits : List ℕ → ObjectEntry
waits knows = record (entry 0 (event.WaitGroup on_group.Wait) (reply.WaitGroup grouped.Done)) { front = knows }

abbrev pub loads : (place : ℕ) → ℤ → List ℕ → Item
loads place value knows = record { call = shared.Atomic 0 Load; reply = holding value; place = place; entry = false; front = knows }

-- what the two workers made, and in which order it came to the group
abbrev pub in_order : List ObjectEntry → List ℕ → Item → Record
in_order journal at_wait load = record {
  history = added ∷ [];
  journals = [] ∷ journal ∷ [] ∷ (starts ∷ goes ∷ ends 1 addition_known ∷ ends 0 both_known ∷ []) ∷ [];
  lists =
      (Entered 1 joins ∷ Entered 3 starts ∷ Entered 1 (waits at_wait) ∷ Shared load ∷ Entered 3 (ends 0 both_known) ∷ [])
      ∷ (Entered 3 goes ∷ Shared adds ∷ Entered 1 is_done ∷ Entered 3 (ends 1 addition_known) ∷ []) ∷ [];
}

-- the wait returns behind the `done`, and the load finds what worker 1 added
abbrev pub finds_the_sum : Record
finds_the_sum = in_order (joins ∷ is_done ∷ waits addition_known ∷ []) addition_known (loads 1 (pos 7) addition_known)

-- the wait returns behind it, too, but the load finds what there was before
abbrev pub finds_nothing : (at_wait at_load : List ℕ) → Record
finds_nothing at_wait at_load = in_order (joins ∷ is_done ∷ waits at_wait ∷ []) at_wait (loads 0 (pos 0) at_load)

-- the wait returns before the `done`
abbrev pub left_before : (at_wait at_load : List ℕ) → Record
left_before at_wait at_load = in_order (joins ∷ waits at_wait ∷ is_done ∷ []) at_wait (loads 0 (pos 0) at_load)
