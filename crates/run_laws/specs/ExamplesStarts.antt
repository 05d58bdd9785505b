-- A wait group `g` is at 0. Worker 0 waits for it, and worker 1 waits to be started, which nobody does.
use Rattle.std.specs.Prelude.{true, false, List, [], ◌∷◌}
use Rattle.script_calls.specs.declared.call.Operation.TheVariants as operations
use Rattle.script_calls.specs.declared.call.Reply.TheVariants.{Returned}
use Rattle.script_calls.specs.declared.outcome.Outcome.{Outcome}
use Rattle.starts_core.specs.declared.starts.StartEvent.TheVariants.{End, Leave}
use Rattle.starts_core.specs.declared.starts.StartReply.TheVariants as started
use Rattle.sync_types.specs.declared.wait_call.WaitGroupCall.TheVariants as calls
use Rattle.wait_cores.specs.declared.group.GroupEvent.TheVariants.{Wait}
use Rattle.wait_cores.specs.declared.group.GroupReply.TheVariants as grouped
use Rattle.workload.specs.declared.object.ObjectKind.TheVariants.{WaitGroup}
use Rattle.workload.specs.Plan.{Plan}
use Rattle.run_record.specs.declared.entered.ObjectEvent.TheVariants as event
use Rattle.run_record.specs.declared.entered.ObjectReply.TheVariants as reply
use Rattle.run_record.specs.declared.made.Made.TheVariants.{Entered}
use Rattle.run_record.specs.Record.{Record, ObjectEntry}
use Rattle.run_laws.specs.Examples.{declared, on, plan_of, returned, entry, record_of}

abbrev pub plan : Plan
plan = record (plan_of (declared 103 (WaitGroup 0) ∷ []) (on 0 (operations.WaitGroup calls.Wait) ∷ []) (on 0 (operations.WaitGroup calls.Done) ∷ [])) { dormant = false ∷ true ∷ [] }

-- worker 0's wait returned, and worker 1 made no call
abbrev pub outcome : Outcome
outcome = returned (Returned ∷ []) []

-- worker 0 waits, returns at once, and then has ended
abbrev pub waits : ObjectEntry
waits = entry 0 (event.WaitGroup Wait) (reply.WaitGroup grouped.Done)

abbrev pub ends : ObjectEntry
ends = entry 0 (event.Starts End) (reply.Starts started.Done)

-- worker 1 is told that it never will be started
abbrev pub is_told : ObjectEntry
is_told = entry 1 (event.Starts Leave) (reply.Starts started.Never)

-- what the two workers made, and in which order it came to Starts
abbrev pub in_order : List ObjectEntry → Record
in_order journal = record_of ((waits ∷ []) ∷ journal ∷ []) (Entered 1 waits ∷ Entered 2 ends ∷ []) (Entered 2 is_told ∷ [])

-- worker 1 is told so once worker 0 has ended
abbrev pub told_at_the_end : Record
told_at_the_end = in_order (ends ∷ is_told ∷ [])

-- it is told so while worker 0 is live
abbrev pub told_too_early : Record
told_too_early = in_order (is_told ∷ ends ∷ [])
