-- A wait group `g` begins at 1. Worker 0 says that it is done, and worker 1 waits.
use Rattle.std.specs.Prelude.{negsuc, List, [], ◌∷◌}
use Rattle.script_calls.specs.declared.call.Operation.TheVariants as operations
use Rattle.script_calls.specs.declared.call.Reply.TheVariants.{Returned}
use Rattle.script_calls.specs.declared.outcome.Outcome.{Outcome}
use Rattle.sync_types.specs.declared.wait_call.WaitGroupCall.TheVariants as calls
use Rattle.wait_cores.specs.declared.group.GroupEvent.TheVariants.{Add, Wait}
use Rattle.wait_cores.specs.declared.group.GroupReply.TheVariants.{Done}
use Rattle.workload.specs.declared.object.ObjectKind.TheVariants.{WaitGroup}
use Rattle.workload.specs.Plan.{Plan}
use Rattle.run_record.specs.declared.entered.ObjectEvent.TheVariants as event
use Rattle.run_record.specs.declared.entered.ObjectReply.TheVariants as reply
use Rattle.run_record.specs.declared.made.Made.TheVariants.{Entered}
use Rattle.run_record.specs.Record.{Record, ObjectEntry}
use Rattle.run_laws.specs.Examples.{declared, on, plan_of, returned, entry, record_of}

abbrev pub plan : Plan
plan = plan_of (declared 103 (WaitGroup 1) ∷ []) (on 0 (operations.WaitGroup calls.Done) ∷ []) (on 0 (operations.WaitGroup calls.Wait) ∷ [])

abbrev pub outcome : Outcome
outcome = returned (Returned ∷ []) (Returned ∷ [])

-- worker 0 adds -1
abbrev pub is_done : ObjectEntry
is_done = entry 0 (event.WaitGroup (Add (negsuc 0))) (reply.WaitGroup Done)

-- worker 1 waits, and returns at once
abbrev pub waits : ObjectEntry
waits = entry 1 (event.WaitGroup Wait) (reply.WaitGroup Done)

-- what the two workers made, and in which order it came to the group
abbrev pub in_order : List ObjectEntry → Record
in_order journal = record_of (journal ∷ []) (Entered 1 is_done ∷ []) (Entered 1 waits ∷ [])

-- the wait returns once the counter is 0
abbrev pub returns_at_zero : Record
returns_at_zero = in_order (is_done ∷ waits ∷ [])

-- the wait returns while the counter is 1
abbrev pub returns_at_one : Record
returns_at_one = in_order (waits ∷ is_done ∷ [])
