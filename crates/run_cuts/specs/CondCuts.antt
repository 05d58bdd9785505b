-- How a call of a cond is cut from a list.
use Rattle.std.specs.Prelude.{ℕ, Bool, true, false, Option, Some, None}
use Rattle.script_calls.specs.declared.call.Reply.{Reply}
use Rattle.script_calls.specs.declared.call.Reply.TheVariants as replies
use Rattle.sync_types.specs.declared.wait_call.CondCall.{CondCall}
use Rattle.sync_types.specs.declared.wait_call.CondCall.TheVariants as calls
use Rattle.wait_cores.specs.declared.notify.NotifyEvent.{NotifyEvent}
use Rattle.wait_cores.specs.declared.notify.NotifyEvent.TheVariants.{Ticket, Leave, Signal, Broadcast}
use Rattle.wait_cores.specs.declared.notify.NotifyReply.{NotifyReply}
use Rattle.protocols.specs.CondStages.{cond_meaning}
use Rattle.protocols.specs.declared.cond.CondStage.{CondStage}
use Rattle.protocols.specs.declared.cond.CondStage.TheVariants as stage
use Rattle.protocols.specs.declared.mutex.MutexStage.TheVariants as mutex_stage
use Rattle.run_record.specs.declared.entered.ObjectEvent.{ObjectEvent}
use Rattle.run_record.specs.declared.entered.ObjectEvent.TheVariants as event
use Rattle.run_record.specs.declared.entered.ObjectReply.{ObjectReply}
use Rattle.run_record.specs.declared.entered.ObjectReply.TheVariants as reply
use Rattle.run_cuts.specs.Cuts.{Cutter, move, read_cut, stages_cut, then_cut}
use Rattle.run_cuts.specs.MutexCuts.{mutex_part_cut}

abbrev pub cond_event_in : ObjectEvent → Option NotifyEvent
cond_event_in (event.Cond e) = Some e
cond_event_in other = None

abbrev pub cond_reply_in : ObjectReply → Option NotifyReply
cond_reply_in (reply.Cond r) = Some r
cond_reply_in other = None

-- whether the event is the stage's
abbrev pub is_cond_event : CondStage → NotifyEvent → Bool
is_cond_event stage.Ticket Ticket = true
is_cond_event stage.Leave Leave = true
is_cond_event stage.Signal Signal = true
is_cond_event stage.Broadcast Broadcast = true
is_cond_event from event = false

abbrev pub cond_part_cut : ℕ → CondStage → Cutter (Unit {0})
cond_part_cut object from = stages_cut (move cond_event_in cond_reply_in is_cond_event cond_meaning) object from

-- a wait's parts behind its ticket, behind its unlock, and behind its leaving
abbrev pub lock_again_cut : ℕ → Cutter (Reply ℕ)
lock_again_cut mutex = read_cut (λ locked. replies.Returned) (mutex_part_cut mutex mutex_stage.Lock)

abbrev pub leave_cut : ℕ → ℕ → Cutter (Reply ℕ)
leave_cut object mutex = then_cut (cond_part_cut object stage.Leave) (λ left. lock_again_cut mutex)

abbrev pub unlock_cut : ℕ → ℕ → Cutter (Reply ℕ)
unlock_cut object mutex = then_cut (mutex_part_cut mutex mutex_stage.Unlock) (λ unlocked. leave_cut object mutex)

-- of the cond that is this object, whose mutex is that one
abbrev pub cond_cut : ℕ → ℕ → CondCall → Cutter (Reply ℕ)
cond_cut object mutex calls.Wait = then_cut (cond_part_cut object stage.Ticket) (λ ticket. unlock_cut object mutex)
cond_cut object mutex calls.Signal = read_cut (λ done. replies.Returned) (cond_part_cut object stage.Signal)
cond_cut object mutex calls.Broadcast = read_cut (λ done. replies.Returned) (cond_part_cut object stage.Broadcast)
