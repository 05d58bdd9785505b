-- The calls of a wait group and its journal in a record.
use Rattle.std.specs.Prelude.{ℕ, List, replicate}
use Rattle.script_calls.specs.declared.call.Reply.{Reply}
use Rattle.script_calls.specs.declared.call.Reply.TheVariants as replies
use Rattle.sync_types.specs.declared.wait_call.WaitGroupCall.{WaitGroupCall}
use Rattle.sync_types.specs.declared.wait_call.WaitGroupCall.TheVariants as calls
use Rattle.wait_cores.specs.declared.group.GroupPlace.TheVariants.{Out}
use Rattle.wait_cores.specs.GroupMachine.{GroupState, next}
use Rattle.wait_cores.specs.GroupEdges.{group_releases, group_acquires}
use Rattle.protocols.specs.declared.wait_group.GroupStage.{GroupStage}
use Rattle.protocols.specs.declared.wait_group.GroupStage.TheVariants as stage
use Rattle.protocols.specs.GroupStages.{group_event, group_meaning}
use Rattle.run_record.specs.declared.entered.ObjectEvent.TheVariants as event
use Rattle.run_record.specs.declared.entered.ObjectReply.TheVariants as reply
use Rattle.run_record.specs.Journals.{FollowsFrom}
use Rattle.run_record.specs.Parts.{Part, read_as, stages}
use Rattle.run_record.specs.Record.{ObjectEntry}

-- the stage that a call begins with
abbrev pub wait_group_stage : WaitGroupCall → GroupStage
wait_group_stage (calls.Add delta) = stage.Add delta
wait_group_stage calls.Done = stage.Done
wait_group_stage calls.Wait = stage.Wait

-- a call on a wait group, from a stage on
abbrev pub wait_group_part : ℕ → GroupStage → Part (Unit {0})
wait_group_part object from = stages event.WaitGroup reply.WaitGroup group_event group_meaning object from

abbrev pub wait_group_call : ℕ → WaitGroupCall → Part (Reply ℕ)
wait_group_call object call = read_as (λ done. replies.Returned) (wait_group_part object (wait_group_stage call))

-- the counter that the workload declares, and nobody waits
abbrev pub group_start : ℕ → ℕ → GroupState
group_start workers counter = record { counter = counter; places = replicate workers Out }

abbrev pub IsWaitGroupJournal : ℕ → ℕ → List ObjectEntry → Type 0
IsWaitGroupJournal workers counter journal = FollowsFrom event.WaitGroup reply.WaitGroup next group_releases group_acquires (group_start workers counter) journal
