-- That a reader/writer mutex's calls are cut as they are spelt.
use Rattle.std.proofs.Common.{◌≡◌, ℕ, true, refl}
use Rattle.rw_core.specs.declared.event.RwEvent.{RwEvent}
use Rattle.rw_core.specs.declared.event.RwEvent.TheVariants.{ReadArrive, ReadTry, ReadUnlock, WriteArrive, WriteTry, WriteUnlock, WriteWoken, Leave}
use Rattle.protocols.specs.RwMutexStages.{rw_event, rw_meaning}
use Rattle.protocols.specs.Spelling.{IsEventOf}
use Rattle.protocols.specs.declared.rw_mutex.RwMutexStage.{RwMutexStage}
use Rattle.protocols.specs.declared.rw_mutex.RwMutexStage.TheVariants as stage
use Rattle.script_calls.specs.declared.call.Reply.TheVariants as replies
use Rattle.sync_types.specs.declared.lock_call.RwMutexCall.{RwMutexCall}
use Rattle.sync_types.specs.declared.lock_call.RwMutexCall.TheVariants as calls
use Rattle.run_record.specs.Parts.{stages}
use Rattle.run_record.specs.RwMutexKind.{rw_mutex_call, rw_part}
use Rattle.run_record.specs.declared.entered.ObjectEvent.TheVariants as event
use Rattle.run_record.specs.declared.entered.ObjectReply.TheVariants as reply
use Rattle.run_cuts.specs.Cuts.{Cuts, move}
use Rattle.run_cuts.specs.RwMutexCuts.{rw_event_in, rw_reply_in, is_rw_event, rw_stages_cut, rw_part_cut, rw_mutex_cut}
use Rattle.run_cuts.proofs.CutLemmas.{moves_are, read_cuts, stages_cuts}
use Rattle.run_cuts.proofs.WriterCut.{only_event, only_reply, write_cuts}

told : (from : RwMutexStage) (e : RwEvent) → is_rw_event from e ≡ true → IsEventOf rw_event from e
told stage.Lock (WriteArrive now) is = (now, refl)
told stage.TryLock WriteTry is = (0, refl)
told stage.Unlock WriteUnlock is = (0, refl)
told stage.Resume (WriteWoken now) is = (now, refl)
told stage.LeaveWriting Leave is = (0, refl)
told stage.Inner (WriteWoken now) is = (now, refl)
told stage.Behind Leave is = (0, refl)
told stage.RLock ReadArrive is = (0, refl)
told stage.TryRLock ReadTry is = (0, refl)
told stage.RUnlock ReadUnlock is = (0, refl)
told stage.LeaveReading Leave is = (0, refl)
told from e is = absurd cc

tells : (from : RwMutexStage) (now : ℕ) → is_rw_event from (rw_event from now) ≡ true
tells stage.Lock now = refl
tells stage.TryLock now = refl
tells stage.Unlock now = refl
tells stage.Resume now = refl
tells stage.LeaveWriting now = refl
tells stage.Inner now = refl
tells stage.Behind now = refl
tells stage.RLock now = refl
tells stage.TryRLock now = refl
tells stage.RUnlock now = refl
tells stage.LeaveReading now = refl

by_stages : (object : ℕ) (from : RwMutexStage) → Cuts (stages event.RwMutex reply.RwMutex rw_event rw_meaning object from) (rw_stages_cut object from)
by_stages object from =
    stages_cuts event.RwMutex reply.RwMutex rw_event rw_meaning (move rw_event_in rw_reply_in is_rw_event rw_meaning)
    (moves_are event.RwMutex reply.RwMutex rw_event rw_meaning rw_event_in rw_reply_in is_rw_event (λ e. refl) (λ r. refl) only_event only_reply told tells) object from

part_cuts : (object : ℕ) (call : RwMutexCall) → Cuts (rw_part object call) (rw_part_cut object call)
part_cuts object calls.Lock = write_cuts object
part_cuts object calls.Unlock = by_stages object stage.Unlock
part_cuts object calls.TryLock = by_stages object stage.TryLock
part_cuts object calls.RLock = by_stages object stage.RLock
part_cuts object calls.RUnlock = by_stages object stage.RUnlock
part_cuts object calls.TryRLock = by_stages object stage.TryRLock

pub rw_mutex_cuts : (object : ℕ) (call : RwMutexCall) → Cuts (rw_mutex_call object call) (rw_mutex_cut object call)
rw_mutex_cuts object call = read_cuts replies.Lock (rw_part object call) (rw_part_cut object call) (part_cuts object call)
