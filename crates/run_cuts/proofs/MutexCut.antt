-- That a mutex's calls are cut as they are spelt.
use Rattle.std.proofs.Common.{◌≡◌, ℕ, true, Some, refl, ap}
use Rattle.mutex_core.specs.declared.event.MutexEvent.{MutexEvent}
use Rattle.mutex_core.specs.declared.event.MutexEvent.TheVariants.{Arrive, Try, Unlock, Woken}
use Rattle.mutex_core.specs.declared.reply.MutexReply.{MutexReply}
use Rattle.protocols.specs.MutexStages.{mutex_event, mutex_meaning}
use Rattle.protocols.specs.Spelling.{IsEventOf}
use Rattle.protocols.specs.declared.mutex.MutexStage.{MutexStage}
use Rattle.protocols.specs.declared.mutex.MutexStage.TheVariants as stage
use Rattle.script_calls.specs.declared.call.Reply.TheVariants as replies
use Rattle.sync_types.specs.declared.lock_call.MutexCall.{MutexCall}
use Rattle.run_record.specs.MutexKind.{mutex_call, mutex_part, mutex_stage}
use Rattle.run_record.specs.declared.entered.ObjectEvent.{ObjectEvent}
use Rattle.run_record.specs.declared.entered.ObjectEvent.TheVariants as event
use Rattle.run_record.specs.declared.entered.ObjectReply.{ObjectReply}
use Rattle.run_record.specs.declared.entered.ObjectReply.TheVariants as reply
use Rattle.run_cuts.specs.Cuts.{Cuts, move}
use Rattle.run_cuts.specs.MutexCuts.{mutex_event_in, mutex_reply_in, is_mutex_event, mutex_part_cut, mutex_cut}
use Rattle.run_cuts.proofs.CutLemmas.{moves_are, read_cuts, stages_cuts}

only_event : (o : ObjectEvent) (e : MutexEvent) → mutex_event_in o ≡ Some e → o ≡ event.Mutex e
only_event (event.Mutex x) e is = ap (λ (y : MutexEvent). event.Mutex y) (same is)
  where
    same : {x y : MutexEvent} → Some x ≡ Some y → x ≡ y
    same is = cc
only_event o e is = absurd cc

only_reply : (o : ObjectReply) (r : MutexReply) → mutex_reply_in o ≡ Some r → o ≡ reply.Mutex r
only_reply (reply.Mutex x) r is = ap (λ (y : MutexReply). reply.Mutex y) (same is)
  where
    same : {x y : MutexReply} → Some x ≡ Some y → x ≡ y
    same is = cc
only_reply o r is = absurd cc

told : (from : MutexStage) (e : MutexEvent) → is_mutex_event from e ≡ true → IsEventOf mutex_event from e
told stage.Lock (Arrive now) is = (now, refl)
told stage.TryLock Try is = (0, refl)
told stage.Unlock Unlock is = (0, refl)
told stage.Resume (Woken now) is = (now, refl)
told from e is = absurd cc

tells : (from : MutexStage) (now : ℕ) → is_mutex_event from (mutex_event from now) ≡ true
tells stage.Lock now = refl
tells stage.TryLock now = refl
tells stage.Unlock now = refl
tells stage.Resume now = refl

pub mutex_part_cuts : (object : ℕ) (from : MutexStage) → Cuts (mutex_part object from) (mutex_part_cut object from)
mutex_part_cuts object from =
    stages_cuts event.Mutex reply.Mutex mutex_event mutex_meaning (move mutex_event_in mutex_reply_in is_mutex_event mutex_meaning)
    (moves_are event.Mutex reply.Mutex mutex_event mutex_meaning mutex_event_in mutex_reply_in is_mutex_event (λ e. refl) (λ r. refl) only_event only_reply told tells) object from

pub mutex_cuts : (object : ℕ) (call : MutexCall) → Cuts (mutex_call object call) (mutex_cut object call)
mutex_cuts object call = read_cuts replies.Lock (mutex_part object (mutex_stage call)) (mutex_part_cut object (mutex_stage call)) (mutex_part_cuts object (mutex_stage call))
