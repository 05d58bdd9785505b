-- How a call of a weighted semaphore is cut from a list.
use Rattle.std.specs.Prelude.{ℕ, Bool, true, false, ◌==◌, Option, Some, None}
use Rattle.script_calls.specs.declared.call.Reply.{Reply}
use Rattle.script_calls.specs.declared.call.Reply.TheVariants as replies
use Rattle.sync_types.specs.declared.sema_call.SemaCall.{SemaCall}
use Rattle.sema_core.specs.declared.event.SemaEvent.{SemaEvent}
use Rattle.sema_core.specs.declared.event.SemaEvent.TheVariants.{Acquire, Try, Release, Leave}
use Rattle.sema_core.specs.declared.event.SemaReply.{SemaReply}
use Rattle.sema_core.specs.SemaStages.{sema_meaning}
use Rattle.sema_core.specs.declared.calls.SemaStage.{SemaStage}
use Rattle.sema_core.specs.declared.calls.SemaStage.TheVariants as stage
use Rattle.run_record.specs.SemaKind.{sema_stage}
use Rattle.run_record.specs.declared.entered.ObjectEvent.{ObjectEvent}
use Rattle.run_record.specs.declared.entered.ObjectEvent.TheVariants as event
use Rattle.run_record.specs.declared.entered.ObjectReply.{ObjectReply}
use Rattle.run_record.specs.declared.entered.ObjectReply.TheVariants as reply
use Rattle.run_cuts.specs.Cuts.{Cutter, move, read_cut, stages_cut}

abbrev pub sema_event_in : ObjectEvent → Option SemaEvent
sema_event_in (event.Sema e) = Some e
sema_event_in other = None

abbrev pub sema_reply_in : ObjectReply → Option SemaReply
sema_reply_in (reply.Sema r) = Some r
sema_reply_in other = None

-- whether the event is the stage's, of its weight
abbrev pub is_sema_event : SemaStage → SemaEvent → Bool
is_sema_event (stage.Acquire weight) (Acquire told) = told == weight
is_sema_event (stage.Try weight) (Try told) = told == weight
is_sema_event (stage.Release weight) (Release told) = told == weight
is_sema_event stage.Leave Leave = true
is_sema_event from event = false

abbrev pub sema_cut : ℕ → SemaCall → Cutter (Reply ℕ)
sema_cut object call = read_cut replies.Lock (stages_cut (move sema_event_in sema_reply_in is_sema_event sema_meaning) object (sema_stage call))
