-- How a call of a wait group is cut from a list.
use Rattle.std.specs.Prelude.{ℕ, negsuc, Bool, true, false, Option, Some, None}
use Rattle.std.specs.Ordering.{int_eq}
use Rattle.script_calls.specs.declared.call.Reply.{Reply}
use Rattle.script_calls.specs.declared.call.Reply.TheVariants as replies
use Rattle.sync_types.specs.declared.wait_call.WaitGroupCall.{WaitGroupCall}
use Rattle.wait_cores.specs.declared.group.GroupEvent.{GroupEvent}
use Rattle.wait_cores.specs.declared.group.GroupEvent.TheVariants.{Add, Wait, Leave}
use Rattle.wait_cores.specs.declared.group.GroupReply.{GroupReply}
use Rattle.protocols.specs.GroupStages.{group_meaning}
use Rattle.protocols.specs.declared.wait_group.GroupStage.{GroupStage}
use Rattle.protocols.specs.declared.wait_group.GroupStage.TheVariants as stage
use Rattle.run_record.specs.WaitGroupKind.{wait_group_stage}
use Rattle.run_record.specs.declared.entered.ObjectEvent.{ObjectEvent}
use Rattle.run_record.specs.declared.entered.ObjectEvent.TheVariants as event
use Rattle.run_record.specs.declared.entered.ObjectReply.{ObjectReply}
use Rattle.run_record.specs.declared.entered.ObjectReply.TheVariants as reply
use Rattle.run_cuts.specs.Cuts.{Cutter, move, read_cut, stages_cut}

abbrev pub group_event_in : ObjectEvent → Option GroupEvent
group_event_in (event.WaitGroup e) = Some e
group_event_in other = None

abbrev pub group_reply_in : ObjectReply → Option GroupReply
group_reply_in (reply.WaitGroup r) = Some r
group_reply_in other = None

-- whether the event is the stage's: `done` adds -1
abbrev pub is_group_event : GroupStage → GroupEvent → Bool
is_group_event (stage.Add delta) (Add amount) = int_eq amount delta
is_group_event stage.Done (Add amount) = int_eq amount (negsuc 0)
is_group_event stage.Wait Wait = true
is_group_event stage.Leave Leave = true
is_group_event from event = false

abbrev pub group_cut : ℕ → WaitGroupCall → Cutter (Reply ℕ)
group_cut object call = read_cut (λ done. replies.Returned) (stages_cut (move group_event_in group_reply_in is_group_event group_meaning) object (wait_group_stage call))
