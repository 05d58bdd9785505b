-- A circle of waits. Two wait groups `g` and `h` begin at 1. Worker 0 waits for `g` and is then done with `h`, and worker 1 waits for `h` and is then done with `g`: so both wait for ever.
use Rattle.std.specs.Prelude.{ℕ, negsuc, [], ◌∷◌}
use Rattle.script_calls.specs.declared.call.Operation.TheVariants as operations
use Rattle.script_calls.specs.declared.call.Reply.TheVariants.{Returned}
use Rattle.script_calls.specs.declared.outcome.Outcome.{Outcome}
use Rattle.sync_types.specs.declared.wait_call.WaitGroupCall.TheVariants as calls
use Rattle.wait_cores.specs.declared.group.GroupEvent.TheVariants.{Add, Wait}
use Rattle.wait_cores.specs.declared.group.GroupReply.TheVariants.{Done}
use Rattle.workload.specs.declared.object.ObjectKind.TheVariants.{WaitGroup}
use Rattle.workload.specs.Plan.{Plan}
use Rattle.run_record.specs.declared.entered.ObjectEvent.TheVariants as event
use Rattle.run_record.specs.declared.entered.ObjectReply.TheVariants as reply
use Rattle.run_record.specs.declared.made.Made.TheVariants.{Entered}
use Rattle.run_record.specs.Record.{Record, ObjectEntry}
use Rattle.run_laws.specs.Examples.{declared, on, plan_of, returned, entry, record_of}

abbrev pub plan : Plan
plan = plan_of (declared 103 (WaitGroup 1) ∷ declared 104 (WaitGroup 1) ∷ [])
    (on 0 (operations.WaitGroup calls.Wait) ∷ on 1 (operations.WaitGroup calls.Done) ∷ [])
    (on 1 (operations.WaitGroup calls.Wait) ∷ on 0 (operations.WaitGroup calls.Done) ∷ [])

-- all four calls returned
abbrev pub outcome : Outcome
outcome = returned (Returned ∷ Returned ∷ []) (Returned ∷ Returned ∷ [])

-- a worker's wait that returns at once, and its `done`, with their numbers
abbrev pub waits : (worker time : ℕ) → ObjectEntry
waits worker time = record (entry worker (event.WaitGroup Wait) (reply.WaitGroup Done)) { time = time }

abbrev pub is_done : (worker time : ℕ) → ObjectEntry
is_done worker time = record (entry worker (event.WaitGroup (Add (negsuc 0))) (reply.WaitGroup Done)) { time = time }

-- Each `done` stands behind its worker's wait in the list, and before the other one's wait in the journal: so each of the four is the cause of the next
abbrev pub in_a_circle : (wait_0 done_0 wait_1 done_1 : ℕ) → Record
in_a_circle wait_0 done_0 wait_1 done_1 = record_of
    ((is_done 1 done_1 ∷ waits 0 wait_0 ∷ []) ∷ (is_done 0 done_0 ∷ waits 1 wait_1 ∷ []) ∷ [])
    (Entered 1 (waits 0 wait_0) ∷ Entered 2 (is_done 0 done_0) ∷ [])
    (Entered 2 (waits 1 wait_1) ∷ Entered 1 (is_done 1 done_1) ∷ [])
