-- How a call of a reader/writer mutex is cut from a list.
use Rattle.std.specs.Prelude.{ℕ, Bool, true, false, cond, Option, Some, None, Ok}
use Rattle.sync_types.specs.declared.misuse.Misuse.{Misuse}
use Rattle.sync_types.specs.declared.lock_call.LockReply.{LockReply}
use Rattle.sync_types.specs.declared.lock_call.LockReply.TheVariants as outcome
use Rattle.sync_types.specs.declared.lock_call.RwMutexCall.{RwMutexCall}
use Rattle.sync_types.specs.declared.lock_call.RwMutexCall.TheVariants as calls
use Rattle.sync_model.specs.declared.answer.Answer.TheVariants.{Done, Halted}
use Rattle.sync_model.specs.declared.journal.Deed.{Deed}
use Rattle.sync_model.specs.declared.journal.Deed.TheVariants.{Event, Refused, Halt}
use Rattle.rw_core.specs.declared.event.RwEvent.{RwEvent}
use Rattle.rw_core.specs.declared.event.RwEvent.TheVariants.{ReadArrive, ReadTry, ReadUnlock, WriteArrive, WriteTry, WriteUnlock, WriteWoken, Leave}
use Rattle.rw_core.specs.declared.reply.RwReply.{RwReply}
use Rattle.rw_core.specs.declared.reply.RwReply.TheVariants.{Arrived, Resumed, Left, Still}
use Rattle.rw_core.specs.declared.reply.Arrival.TheVariants as arrival
use Rattle.rw_core.specs.declared.reply.Resumption.TheVariants as resumption
use Rattle.protocols.specs.RwMutexStages.{rw_meaning}
use Rattle.protocols.specs.declared.rw_mutex.RwMutexStage.{RwMutexStage}
use Rattle.protocols.specs.declared.rw_mutex.RwMutexStage.TheVariants as stage
use Rattle.script_calls.specs.declared.call.Reply.{Reply}
use Rattle.script_calls.specs.declared.call.Reply.TheVariants as replies
use Rattle.run_record.specs.RwMutexKind.{rw_mutex_stage}
use Rattle.run_record.specs.declared.entered.ObjectEvent.{ObjectEvent}
use Rattle.run_record.specs.declared.entered.ObjectEvent.TheVariants as event
use Rattle.run_record.specs.declared.entered.ObjectReply.{ObjectReply}
use Rattle.run_record.specs.declared.entered.ObjectReply.TheVariants as reply
use Rattle.run_cuts.specs.declared.writer.WriterStage.{WriterStage}
use Rattle.run_cuts.specs.declared.writer.WriterStage.TheVariants.{Arriving as arriving, Queued as queued, Inner as inner, AfterReaders as after_readers}
use Rattle.run_cuts.specs.Cuts.{Cutter, Move, answers_by, goes_to, no_call, move, read_cut, stages_cut}

abbrev pub rw_event_in : ObjectEvent → Option RwEvent
rw_event_in (event.RwMutex e) = Some e
rw_event_in other = None

abbrev pub rw_reply_in : ObjectReply → Option RwReply
rw_reply_in (reply.RwMutex r) = Some r
rw_reply_in other = None

-- whether the event is the stage's, at some moment
abbrev pub is_rw_event : RwMutexStage → RwEvent → Bool
is_rw_event stage.Lock (WriteArrive now) = true
is_rw_event stage.TryLock WriteTry = true
is_rw_event stage.Unlock WriteUnlock = true
is_rw_event stage.Resume (WriteWoken now) = true
is_rw_event stage.LeaveWriting Leave = true
is_rw_event stage.Inner (WriteWoken now) = true
is_rw_event stage.Behind Leave = true
is_rw_event stage.RLock ReadArrive = true
is_rw_event stage.TryRLock ReadTry = true
is_rw_event stage.RUnlock ReadUnlock = true
is_rw_event stage.LeaveReading Leave = true
is_rw_event from event = false

-- ---- a writer's lock

abbrev pub WriterMove : Type 0
WriterMove = Move WriterStage LockReply

abbrev pub has_lock : WriterMove
has_lock = answers_by (Done (Ok outcome.Done))

-- by the answer to its arrival
abbrev pub arrival_move : RwReply → WriterMove
arrival_move (Arrived arrival.Acquired) = has_lock
arrival_move (Arrived arrival.Queued) = goes_to queued
arrival_move other = no_call

-- by the answer where it goes on at that mutex: told `Still`, it waits on where it is
abbrev pub woken_move : WriterStage → RwReply → WriterMove
woken_move from Still = goes_to from
woken_move from (Resumed resumption.Acquired) = has_lock
woken_move from (Resumed resumption.Queued) = goes_to after_readers
woken_move from (Resumed resumption.Requeued) = goes_to inner
woken_move from other = no_call

-- by the answer where it leaves if it was granted the lock
abbrev pub leave_move : WriterStage → RwReply → WriterMove
leave_move from Still = goes_to from
leave_move from Left = has_lock
leave_move from other = no_call

-- by the answer where it asks in vain
abbrev pub still_move : WriterStage → RwReply → WriterMove
still_move from Still = goes_to from
still_move from other = no_call

-- by an event and its answer
abbrev pub arriving_by : RwEvent → RwReply → WriterMove
arriving_by (WriteArrive now) reply = arrival_move reply
arriving_by event reply = no_call

abbrev pub queued_by : RwEvent → RwReply → WriterMove
queued_by (WriteWoken now) reply = woken_move queued reply
queued_by Leave reply = leave_move queued reply
queued_by event reply = no_call

abbrev pub inner_by : RwEvent → RwReply → WriterMove
inner_by (WriteWoken now) reply = woken_move inner reply
inner_by Leave reply = still_move inner reply
inner_by event reply = no_call

abbrev pub after_readers_by : RwEvent → RwReply → WriterMove
after_readers_by (WriteWoken now) reply = still_move after_readers reply
after_readers_by Leave reply = leave_move after_readers reply
after_readers_by event reply = no_call

abbrev pub writer_event : WriterStage → RwEvent → RwReply → WriterMove
writer_event arriving event reply = arriving_by event reply
writer_event queued event reply = queued_by event reply
writer_event inner event reply = inner_by event reply
writer_event after_readers event reply = after_readers_by event reply

-- whether a halt may refuse the event, which is the last of the lock
abbrev pub is_writer_event : WriterStage → RwEvent → Bool
is_writer_event arriving (WriteArrive now) = true
is_writer_event queued (WriteWoken now) = true
is_writer_event queued Leave = true
is_writer_event inner (WriteWoken now) = true
is_writer_event after_readers Leave = true
is_writer_event from event = false

-- how a writer's lock goes on by a deed
abbrev pub writer_move : WriterStage → Deed RwEvent RwReply → WriterMove
writer_move from (Event event reply) = writer_event from event reply
writer_move from (Refused event misuse) = cond (is_writer_event from event) (answers_by (Halted misuse)) no_call
writer_move from (Halt misuse) = no_call

-- the deed of a reader/writer mutex, where it is one
abbrev pub event_deed : Option RwEvent → Option RwReply → Option (Deed RwEvent RwReply)
event_deed (Some event) (Some reply) = Some (Event event reply)
event_deed (Some event) None = None
event_deed None reply = None

abbrev pub refused_deed : Option RwEvent → Misuse → Option (Deed RwEvent RwReply)
refused_deed (Some event) misuse = Some (Refused event misuse)
refused_deed None misuse = None

abbrev pub rw_deed_in : Deed ObjectEvent ObjectReply → Option (Deed RwEvent RwReply)
rw_deed_in (Event event reply) = event_deed (rw_event_in event) (rw_reply_in reply)
rw_deed_in (Refused event misuse) = refused_deed (rw_event_in event) misuse
rw_deed_in (Halt misuse) = None

abbrev pub by_rw_deed : WriterStage → Option (Deed RwEvent RwReply) → WriterMove
by_rw_deed from (Some deed) = writer_move from deed
by_rw_deed from None = no_call

abbrev pub write_cut : ℕ → Cutter LockReply
write_cut object = stages_cut (λ from deed. by_rw_deed from (rw_deed_in deed)) object arriving

-- ---- each call

abbrev pub rw_stages_cut : ℕ → RwMutexStage → Cutter LockReply
rw_stages_cut object from = stages_cut (move rw_event_in rw_reply_in is_rw_event rw_meaning) object from

-- every call but a writer's lock is cut by the protocol
abbrev pub rw_part_cut : ℕ → RwMutexCall → Cutter LockReply
rw_part_cut object calls.Lock = write_cut object
rw_part_cut object call = rw_stages_cut object (rw_mutex_stage call)

abbrev pub rw_mutex_cut : ℕ → RwMutexCall → Cutter (Reply ℕ)
rw_mutex_cut object call = read_cut replies.Lock (rw_part_cut object call)
