-- What is done on the object Starts, in a workload with workers that wait to be started: a `go` starts one; one that waits asks whether it was started; and each that made its calls tells that it has ended,
-- one that was started behind a `done` on its group.
use Rattle.std.specs.Prelude.{ℕ, pos, Bool, true, false, cond, List, Option, Some, None}
use Rattle.script_calls.specs.Starts.{group_of}
use Rattle.script_calls.specs.declared.call.Reply.{Reply}
use Rattle.script_calls.specs.declared.call.Reply.TheVariants as replies
use Rattle.sync_types.specs.declared.wait_call.WaitGroupCall.TheVariants as group_calls
use Rattle.starts_core.specs.declared.protocol.StartsOutcome.{StartsOutcome}
use Rattle.starts_core.specs.declared.protocol.StartsOutcome.TheVariants as outcome
use Rattle.starts_core.specs.declared.protocol.StartsStage.{StartsStage}
use Rattle.starts_core.specs.declared.protocol.StartsStage.TheVariants as stage
use Rattle.starts_core.specs.StartsEdges.{starts_releases, starts_acquires}
use Rattle.starts_core.specs.StartsMachine.{begun, next}
use Rattle.starts_core.specs.StartsStages.{starts_event, starts_meaning}
use Rattle.workload.specs.Plan.{Plan, is_dormant, has_dormant}
use Rattle.run_record.specs.declared.entered.ObjectEvent.TheVariants as event
use Rattle.run_record.specs.declared.entered.ObjectReply.TheVariants as reply
use Rattle.run_record.specs.Journals.{FollowsFrom}
use Rattle.run_record.specs.Objects.{starts_number}
use Rattle.run_record.specs.Parts.{Part, and_then, read_as, returns, stages}
use Rattle.run_record.specs.Record.{ObjectEntry, object_number}
use Rattle.run_record.specs.WaitGroupKind.{wait_group_call}

-- a call on Starts, from a stage on
abbrev pub starts_part : ℕ → StartsStage → Part StartsOutcome
starts_part object from = stages event.Starts reply.Starts starts_event starts_meaning object from

-- whether the worker was started
abbrev pub was_started : StartsOutcome → Bool
was_started outcome.Done = false
was_started (outcome.Started was) = was

-- a `go` adds 1 to its group, and then starts the worker; where the `add` is a misuse nobody is started
abbrev pub go_call : (group starts worker : ℕ) → Part (Reply ℕ)
go_call group starts worker = and_then (wait_group_call group (group_calls.Add (pos 1))) (λ added. read_as (λ started. replies.Returned) (starts_part starts (stage.Start worker)))

abbrev pub wait_start_part : ℕ → Part Bool
wait_start_part object = read_as was_started (starts_part object stage.WaitStart)

abbrev pub end_part : ℕ → Part (Unit {0})
end_part object = read_as (λ ended. tt) (starts_part object stage.End)

-- What a worker makes before its script, and whether it comes to it: one that waits to be started comes to it if it is, any other at once
abbrev pub opening : Plan → ℕ → Part Bool
opening plan worker = cond (is_dormant plan worker) (wait_start_part (starts_number plan)) (returns true)

-- a `done` on the group under which a worker is started
abbrev pub done_under : Option ℕ → Part (Unit {0})
done_under None = returns tt
done_under (Some group) = read_as (λ done. tt) (wait_group_call (object_number group) group_calls.Done)

-- what a worker that was started does with its group
abbrev pub done_part : Plan → ℕ → Part (Unit {0})
done_part plan worker = cond (is_dormant plan worker) (done_under (group_of worker plan.scripts)) (returns tt)

-- what it makes behind its script: where some workers wait to be started, each that came to its script tells that it has ended, one that was started behind the `done` on its group
abbrev pub closing : Plan → ℕ → Part (Unit {0})
closing plan worker = cond (has_dormant plan) (and_then (done_part plan worker) (λ done. end_part (starts_number plan))) (returns tt)

-- the journal of Starts, where these workers wait to be started
abbrev pub IsStartsJournal : List Bool → List ObjectEntry → Type 0
IsStartsJournal dormant journal = FollowsFrom event.Starts reply.Starts next starts_releases starts_acquires (begun dormant) journal
