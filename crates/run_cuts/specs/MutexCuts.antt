-- How a call of a mutex is cut from a list.
use Rattle.std.specs.Prelude.{ℕ, Bool, true, false, Option, Some, None}
use Rattle.mutex_core.specs.declared.event.MutexEvent.{MutexEvent}
use Rattle.mutex_core.specs.declared.event.MutexEvent.TheVariants.{Arrive, Try, Unlock, Woken}
use Rattle.mutex_core.specs.declared.reply.MutexReply.{MutexReply}
use Rattle.protocols.specs.MutexStages.{mutex_meaning}
use Rattle.protocols.specs.declared.mutex.MutexStage.{MutexStage}
use Rattle.protocols.specs.declared.mutex.MutexStage.TheVariants as stage
use Rattle.script_calls.specs.declared.call.Reply.{Reply}
use Rattle.script_calls.specs.declared.call.Reply.TheVariants as replies
use Rattle.sync_types.specs.declared.lock_call.LockReply.{LockReply}
use Rattle.sync_types.specs.declared.lock_call.MutexCall.{MutexCall}
use Rattle.run_record.specs.MutexKind.{mutex_stage}
use Rattle.run_record.specs.declared.entered.ObjectEvent.{ObjectEvent}
use Rattle.run_record.specs.declared.entered.ObjectEvent.TheVariants as event
use Rattle.run_record.specs.declared.entered.ObjectReply.{ObjectReply}
use Rattle.run_record.specs.declared.entered.ObjectReply.TheVariants as reply
use Rattle.run_cuts.specs.Cuts.{Cutter, move, read_cut, stages_cut}

abbrev pub mutex_event_in : ObjectEvent → Option MutexEvent
mutex_event_in (event.Mutex e) = Some e
mutex_event_in other = None

abbrev pub mutex_reply_in : ObjectReply → Option MutexReply
mutex_reply_in (reply.Mutex r) = Some r
mutex_reply_in other = None

-- whether the event is the stage's, at some moment
abbrev pub is_mutex_event : MutexStage → MutexEvent → Bool
is_mutex_event stage.Lock (Arrive now) = true
is_mutex_event stage.TryLock Try = true
is_mutex_event stage.Unlock Unlock = true
is_mutex_event stage.Resume (Woken now) = true
is_mutex_event from event = false

abbrev pub mutex_part_cut : ℕ → MutexStage → Cutter LockReply
mutex_part_cut object from = stages_cut (move mutex_event_in mutex_reply_in is_mutex_event mutex_meaning) object from

abbrev pub mutex_cut : ℕ → MutexCall → Cutter (Reply ℕ)
mutex_cut object call = read_cut replies.Lock (mutex_part_cut object (mutex_stage call))
