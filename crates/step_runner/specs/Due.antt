-- The stage that a worker's call is at, by where the worker stands at the object: none, where it waits and isn't told to go on. With it, what an outcome makes of the call.
use Rattle.std.specs.Prelude.{◌≡◌, ℕ, ℤ, Bool, true, false, if◌then◌else◌, List, map, Option, Some, None, unwrap_or, Result}
use Rattle.std.specs.List.{range_with_len}
use Rattle.script_calls.specs.declared.call.Reply.{Reply}
use Rattle.script_calls.specs.declared.call.Reply.TheVariants as replies
use Rattle.sync_types.specs.declared.lock_call.LockReply.{LockReply}
use Rattle.sync_types.specs.declared.lock_call.MutexCall.{MutexCall}
use Rattle.sync_types.specs.declared.lock_call.RwMutexCall.{RwMutexCall}
use Rattle.sync_types.specs.declared.sema_call.SemaCall.{SemaCall}
use Rattle.sync_types.specs.declared.sema_call.SemaCall.TheVariants as sema_calls
use Rattle.sync_types.specs.declared.wait_call.CondCall.{CondCall}
use Rattle.sync_types.specs.declared.wait_call.CondCall.TheVariants as cond_calls
use Rattle.sync_types.specs.declared.wait_call.WaitGroupCall.{WaitGroupCall}
use Rattle.sync_types.specs.declared.wait_call.WaitGroupCall.TheVariants as group_calls
use Rattle.mutex_core.specs.declared.place.Place.{Place as MutexPlace}
use Rattle.mutex_core.specs.declared.place.Place.TheVariants as mutex_place
use Rattle.rw_core.specs.declared.place.Place.{Place as RwPlace}
use Rattle.rw_core.specs.declared.place.Place.TheVariants as rw_place
use Rattle.wait_cores.specs.GroupMachine.{GroupState, place_of}
use Rattle.wait_cores.specs.GroupStanding.{waits_at}
use Rattle.wait_cores.specs.declared.group.GroupPlace.{GroupPlace}
use Rattle.wait_cores.specs.declared.group.GroupPlace.TheVariants as group_place
use Rattle.wait_cores.specs.declared.notify.NotifyPlace.{NotifyPlace}
use Rattle.wait_cores.specs.declared.notify.NotifyPlace.TheVariants as notify_place
use Rattle.wait_cores.specs.declared.once.OncePlace.{OncePlace}
use Rattle.wait_cores.specs.declared.once.OncePlace.TheVariants as once_place
use Rattle.pool_core.specs.Looks.{look}
use Rattle.flight_core.specs.declared.calls.FlightOutcome.{FlightOutcome}
use Rattle.flight_core.specs.declared.calls.FlightOutcome.TheVariants.{Lead, Got, Landed}
use Rattle.flight_core.specs.declared.calls.FlightStage.{FlightStage}
use Rattle.flight_core.specs.declared.calls.FlightStage.TheVariants as flight_stage
use Rattle.flight_core.specs.declared.event.FlightPlace.{FlightPlace}
use Rattle.flight_core.specs.declared.event.FlightPlace.TheVariants as flight_place
use Rattle.sema_core.specs.SemaMachine as sema
use Rattle.sema_core.specs.SemaStanding as sema_standing
use Rattle.sema_core.specs.declared.calls.SemaStage.{SemaStage}
use Rattle.sema_core.specs.declared.calls.SemaStage.TheVariants as sema_stages
use Rattle.sema_core.specs.declared.event.SemaPlace.{SemaPlace}
use Rattle.sema_core.specs.declared.event.SemaPlace.TheVariants as sema_place
use Rattle.protocols.specs.declared.cond.CondStage.{CondStage}
use Rattle.protocols.specs.declared.cond.CondStage.TheVariants as cond_stage
use Rattle.protocols.specs.declared.mutex.MutexStage.{MutexStage}
use Rattle.protocols.specs.declared.mutex.MutexStage.TheVariants as mutex_stages
use Rattle.protocols.specs.declared.once.OnceOutcome.{OnceOutcome}
use Rattle.protocols.specs.declared.once.OnceOutcome.TheVariants.{Run, Already, Ended}
use Rattle.protocols.specs.declared.once.OnceStage.{OnceStage}
use Rattle.protocols.specs.declared.once.OnceStage.TheVariants as once_stage
use Rattle.protocols.specs.declared.pool.PoolStage.{PoolStage}
use Rattle.protocols.specs.declared.rw_mutex.RwMutexStage.{RwMutexStage}
use Rattle.protocols.specs.declared.rw_mutex.RwMutexStage.TheVariants as rw_stage
use Rattle.protocols.specs.declared.wait_group.GroupStage.{GroupStage}
use Rattle.protocols.specs.declared.wait_group.GroupStage.TheVariants as group_stage
use Rattle.run_record.specs.MutexKind.{mutex_stage}
use Rattle.run_record.specs.PoolKind.{stage_of}
use Rattle.run_record.specs.RwMutexKind.{rw_mutex_stage}
use Rattle.run_record.specs.SemaKind.{sema_stage}
use Rattle.run_record.specs.WaitGroupKind.{wait_group_stage}
use Rattle.step_runner.specs.declared.turns.answer.Answer.{Answer}
use Rattle.step_runner.specs.declared.turns.answer.Answer.TheVariants as answers
use Rattle.step_runner.specs.Stages.{answer_by}

-- ---- locks

-- a call begins at its first stage
abbrev pub mutex_due : MutexCall → MutexPlace → Option MutexStage
mutex_due call mutex_place.Out = Some (mutex_stage call)
mutex_due call mutex_place.Waiting = None
mutex_due call mutex_place.Woken = Some mutex_stages.Resume
mutex_due call mutex_place.Handed = Some mutex_stages.Resume

abbrev pub rw_due : RwMutexCall → RwPlace → Option RwMutexStage
rw_due call rw_place.Out = Some (rw_mutex_stage call)
rw_due call rw_place.Queued = None
rw_due call rw_place.Waiting = None
rw_due call rw_place.Woken = Some rw_stage.Inner
rw_due call rw_place.Handed = Some rw_stage.Inner
rw_due call rw_place.Granted = Some rw_stage.Behind
rw_due call rw_place.Admitted = Some rw_stage.LeaveReading

-- the reply of a mutex and of a reader/writer mutex
abbrev pub locked : LockReply → Answer
locked outcome = answers.Completed (replies.Lock outcome)

-- ---- what waits

abbrev pub group_due : WaitGroupCall → GroupPlace → Option GroupStage
group_due (group_calls.Add delta) at = Some (group_stage.Add delta)
group_due group_calls.Done at = Some group_stage.Done
group_due group_calls.Wait group_place.Out = Some group_stage.Wait
group_due group_calls.Wait group_place.Waiting = None
group_due group_calls.Wait group_place.Released = Some group_stage.Leave

abbrev pub group_turn : WaitGroupCall → GroupState → ℕ → Option GroupStage
group_turn call g worker = group_due call (place_of g worker)

-- one that waits, released or not, is to leave
abbrev pub group_behind : GroupState → ℕ → Option GroupStage
group_behind g worker = if waits_at g worker then Some group_stage.Leave else None

-- only a wait waits
abbrev pub GroupFits : WaitGroupCall → Option GroupStage → Type 0
GroupFits group_calls.Wait behind = Unit {0}
GroupFits call behind = behind ≡ None

-- from the stage for which a wait waits, and else from the call's first one
abbrev pub group_from : WaitGroupCall → Option GroupStage → GroupStage
group_from group_calls.Wait behind = unwrap_or behind group_stage.Wait
group_from call behind = wait_group_stage call

abbrev pub returned : Unit {0} → Answer
returned outcome = answers.Completed replies.Returned

-- a call of a semaphore begins at its first stage, and an `acquire` that was granted its weight leaves. No other call waits
abbrev pub sema_due : SemaCall → SemaPlace → Option SemaStage
sema_due call sema_place.Out = Some (sema_stage call)
sema_due (sema_calls.Acquire weight) sema_place.Granted = Some sema_stages.Leave
sema_due call at = None

abbrev pub sema_turn : SemaCall → sema.SemaState → ℕ → Option SemaStage
sema_turn call s worker = sema_due call (sema.place_of s worker)

-- one that waits, granted its weight or not, is to leave
abbrev pub sema_behind : sema.SemaState → ℕ → Option SemaStage
sema_behind s worker = if sema_standing.waits_at s worker then Some sema_stages.Leave else None

abbrev pub SemaFits : SemaCall → Option SemaStage → Type 0
SemaFits call behind = Unit {0}

-- from the stage for which a caller waits, and else from the call's first one
abbrev pub sema_from : SemaCall → Option SemaStage → SemaStage
sema_from call behind = unwrap_or behind (sema_stage call)

-- Of a cond's call, by where the worker stands at the mutex and at the cond: the stage at the cond, if there is one, and the one behind it at the mutex.
-- One that stands at the mutex has left the cond
abbrev pub cond_due : CondCall → MutexPlace → NotifyPlace → Option CondStage × Option MutexStage
cond_due cond_calls.Wait mutex_place.Out notify_place.Out = (Some cond_stage.Ticket, Some mutex_stages.Unlock)
cond_due cond_calls.Wait mutex_place.Out notify_place.Waiting = (None, None)
cond_due cond_calls.Wait mutex_place.Out notify_place.Notified = (Some cond_stage.Leave, Some mutex_stages.Lock)
cond_due cond_calls.Wait mutex_place.Waiting at = (None, None)
cond_due cond_calls.Wait mutex_place.Woken at = (None, Some mutex_stages.Resume)
cond_due cond_calls.Wait mutex_place.Handed at = (None, Some mutex_stages.Resume)
cond_due cond_calls.Signal at_mutex at = (Some cond_stage.Signal, None)
cond_due cond_calls.Broadcast at_mutex at = (Some cond_stage.Broadcast, None)

-- one that gave the mutex up waits, and one that has it again returns
abbrev pub waited : Option MutexStage → LockReply → Answer
waited (Some mutex_stages.Unlock) outcome = answers.Unfinished
waited stage outcome = answers.Completed replies.Returned

-- the stage at the mutex tells what a wait is at; the other calls return at once
abbrev pub cond_answer : CondCall → Option MutexStage → Result LockReply Answer → Answer
cond_answer cond_calls.Wait stage made = answer_by (waited stage) made
cond_answer cond_calls.Signal stage made = returned tt
cond_answer cond_calls.Broadcast stage made = returned tt

-- ---- onces

-- one that is out ends the function if it runs it, with what it comes to, and else comes to have it run
abbrev pub once_due : {T : Type 0} → T → Bool → OncePlace → Option (OnceStage T)
once_due value true once_place.Out = Some (once_stage.End value)
once_due value false once_place.Out = Some once_stage.Begin
once_due value runs once_place.Waiting = None
once_due value runs once_place.Released = Some once_stage.Leave

-- whether the stage that is due ends the function
abbrev pub ends_function : {T : Type 0} → Option (OnceStage T) → Bool
ends_function (Some (once_stage.End value)) = true
ends_function due = false

-- the replies of the one that ran the function, and of another by what is kept
abbrev pub ran_or : {T : Type 0} → Reply (List ℕ) → (T → Reply (List ℕ)) → OnceOutcome T → Answer
ran_or ran had Run = answers.Unfinished
ran_or ran had (Already kept) = answers.Completed (had kept)
ran_or ran had Ended = answers.Completed ran

-- ---- flights

-- one that is out comes for its key, one that leads a flight lands with what the function comes to, and one whose flight has landed leaves
abbrev pub flight_due : ℕ → ℤ → FlightPlace → Option FlightStage
flight_due key value flight_place.Out = Some (flight_stage.Join key)
flight_due key value (flight_place.Leads own) = Some (flight_stage.Land value)
flight_due key value (flight_place.Waits own) = None
flight_due key value (flight_place.Landed got) = Some flight_stage.Leave

-- whether the stage that is due lands
abbrev pub lands : Option FlightStage → Bool
lands (Some (flight_stage.Land value)) = true
lands due = false

-- the replies of the one that led the flight, which came to this, and of one that joined it. One that leads runs the function in a later turn
abbrev pub flown : ℤ → FlightOutcome → Answer
flown value Lead = answers.Unfinished
flown value (Got got) = answers.Completed (replies.Flown got true)
flown value (Landed shared) = answers.Completed (replies.Flown value shared)

-- ---- pools

-- the looks of a get by a worker of so many, from a number on, so many. The worker's part is that of its number
abbrev pub looks_of : ℕ → ℕ → ℕ → ℕ → List PoolStage
looks_of workers worker first count = map (λ number. stage_of (look workers worker number)) (range_with_len first count)
