-- How a `go`, and what a worker makes before its script and behind it, are cut from a list.
use Rattle.std.specs.Prelude.{ℕ, pos, Bool, true, false, ◌==◌, cond, Option, Some, None}
use Rattle.script_calls.specs.Starts.{group_of}
use Rattle.script_calls.specs.declared.call.Reply.{Reply}
use Rattle.script_calls.specs.declared.call.Reply.TheVariants as replies
use Rattle.sync_types.specs.declared.wait_call.WaitGroupCall.TheVariants as group_calls
use Rattle.starts_core.specs.declared.protocol.StartsOutcome.{StartsOutcome}
use Rattle.starts_core.specs.declared.protocol.StartsStage.{StartsStage}
use Rattle.starts_core.specs.declared.protocol.StartsStage.TheVariants as stage
use Rattle.starts_core.specs.declared.starts.StartEvent.{StartEvent}
use Rattle.starts_core.specs.declared.starts.StartEvent.TheVariants.{Start, End, Leave}
use Rattle.starts_core.specs.declared.starts.StartReply.{StartReply}
use Rattle.starts_core.specs.StartsStages.{starts_meaning}
use Rattle.workload.specs.Plan.{Plan, is_dormant, has_dormant}
use Rattle.run_record.specs.Objects.{starts_number}
use Rattle.run_record.specs.Record.{object_number}
use Rattle.run_record.specs.StartsKind.{was_started}
use Rattle.run_record.specs.declared.entered.ObjectEvent.{ObjectEvent}
use Rattle.run_record.specs.declared.entered.ObjectEvent.TheVariants as event
use Rattle.run_record.specs.declared.entered.ObjectReply.{ObjectReply}
use Rattle.run_record.specs.declared.entered.ObjectReply.TheVariants as reply
use Rattle.run_cuts.specs.Cuts.{Cutter, move, read_cut, returns_cut, stages_cut, then_cut}
use Rattle.run_cuts.specs.GroupCuts.{group_cut}

abbrev pub starts_event_in : ObjectEvent → Option StartEvent
starts_event_in (event.Starts e) = Some e
starts_event_in other = None

abbrev pub starts_reply_in : ObjectReply → Option StartReply
starts_reply_in (reply.Starts r) = Some r
starts_reply_in other = None

-- whether the event is the stage's: a start is of the same worker
abbrev pub is_starts_event : StartsStage → StartEvent → Bool
is_starts_event (stage.Start worker) (Start other) = other == worker
is_starts_event stage.End End = true
is_starts_event stage.WaitStart Leave = true
is_starts_event from event = false

abbrev pub starts_cut : ℕ → StartsStage → Cutter StartsOutcome
starts_cut object from = stages_cut (move starts_event_in starts_reply_in is_starts_event starts_meaning) object from

-- a `go` is an `add` of 1 and then a start
abbrev pub go_cut : (group starts worker : ℕ) → Cutter (Reply ℕ)
go_cut group starts worker = then_cut (group_cut group (group_calls.Add (pos 1))) (λ added. read_cut (λ started. replies.Returned) (starts_cut starts (stage.Start worker)))

abbrev pub wait_start_cut : ℕ → Cutter Bool
wait_start_cut object = read_cut was_started (starts_cut object stage.WaitStart)

abbrev pub end_cut : ℕ → Cutter (Unit {0})
end_cut object = read_cut (λ ended. tt) (starts_cut object stage.End)

-- what a worker makes before its script
abbrev pub opening_cut : Plan → ℕ → Cutter Bool
opening_cut plan worker = cond (is_dormant plan worker) (wait_start_cut (starts_number plan)) (returns_cut true)

-- a `done` on the group under which a worker is started
abbrev pub done_under_cut : Option ℕ → Cutter (Unit {0})
done_under_cut None = returns_cut tt
done_under_cut (Some group) = read_cut (λ done. tt) (group_cut (object_number group) group_calls.Done)

-- what a worker that was started does with its group
abbrev pub done_cut : Plan → ℕ → Cutter (Unit {0})
done_cut plan worker = cond (is_dormant plan worker) (done_under_cut (group_of worker plan.scripts)) (returns_cut tt)

-- what a worker makes behind its script: one that was started a `done`, and each its end
abbrev pub closing_cut : Plan → ℕ → Cutter (Unit {0})
closing_cut plan worker = cond (has_dormant plan) (then_cut (done_cut plan worker) (λ done. end_cut (starts_number plan))) (returns_cut tt)
