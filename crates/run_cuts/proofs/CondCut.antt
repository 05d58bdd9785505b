-- That a cond's calls are cut as they are spelt.
use Rattle.std.proofs.Common.{◌≡◌, ℕ, true, [], Some, refl, ap}
use Rattle.protocols.specs.CondStages.{cond_event, cond_meaning}
use Rattle.protocols.specs.Spelling.{IsEventOf}
use Rattle.protocols.specs.declared.cond.CondStage.{CondStage}
use Rattle.protocols.specs.declared.cond.CondStage.TheVariants as stage
use Rattle.protocols.specs.declared.mutex.MutexStage.TheVariants as on_mutex
use Rattle.script_calls.specs.declared.call.Reply.{Reply}
use Rattle.script_calls.specs.declared.call.Reply.TheVariants as replies
use Rattle.sync_types.specs.declared.wait_call.CondCall.{CondCall}
use Rattle.sync_types.specs.declared.wait_call.CondCall.TheVariants as calls
use Rattle.wait_cores.specs.declared.notify.NotifyEvent.{NotifyEvent}
use Rattle.wait_cores.specs.declared.notify.NotifyEvent.TheVariants.{Ticket, Leave, Signal, Broadcast}
use Rattle.wait_cores.specs.declared.notify.NotifyReply.{NotifyReply}
use Rattle.run_record.specs.CondKind.{cond_call, cond_part}
use Rattle.run_record.specs.MutexKind.{mutex_part}
use Rattle.run_record.specs.Parts.{Part, and_then, read_as}
use Rattle.run_record.specs.declared.entered.ObjectEvent.{ObjectEvent}
use Rattle.run_record.specs.declared.entered.ObjectEvent.TheVariants as event
use Rattle.run_record.specs.declared.entered.ObjectReply.{ObjectReply}
use Rattle.run_record.specs.declared.entered.ObjectReply.TheVariants as reply
use Rattle.run_cuts.specs.Cuts.{Cuts, move}
use Rattle.run_cuts.specs.CondCuts.{cond_cut, cond_event_in, cond_part_cut, cond_reply_in, is_cond_event, leave_cut, lock_again_cut, unlock_cut}
use Rattle.run_cuts.specs.MutexCuts.{mutex_part_cut}
use Rattle.run_cuts.proofs.CutLemmas.{moves_are, read_cuts, stages_cuts, then_cuts}
use Rattle.run_cuts.proofs.MutexCut.{mutex_part_cuts}

only_event : (o : ObjectEvent) (e : NotifyEvent) → cond_event_in o ≡ Some e → o ≡ event.Cond e
only_event (event.Cond x) e is = ap (λ (y : NotifyEvent). event.Cond y) (same is)
  where
    same : {x y : NotifyEvent} → Some x ≡ Some y → x ≡ y
    same is = cc
only_event o e is = absurd cc

only_reply : (o : ObjectReply) (r : NotifyReply) → cond_reply_in o ≡ Some r → o ≡ reply.Cond r
only_reply (reply.Cond x) r is = ap (λ (y : NotifyReply). reply.Cond y) (same is)
  where
    same : {x y : NotifyReply} → Some x ≡ Some y → x ≡ y
    same is = cc
only_reply o r is = absurd cc

told : (from : CondStage) (e : NotifyEvent) → is_cond_event from e ≡ true → IsEventOf cond_event from e
told stage.Ticket Ticket is = (0, refl)
told stage.Leave Leave is = (0, refl)
told stage.Signal Signal is = (0, refl)
told stage.Broadcast Broadcast is = (0, refl)
told from e is = absurd cc

tells : (from : CondStage) (now : ℕ) → is_cond_event from (cond_event from now) ≡ true
tells stage.Ticket now = refl
tells stage.Leave now = refl
tells stage.Signal now = refl
tells stage.Broadcast now = refl

cond_part_cuts : (object : ℕ) (from : CondStage) → Cuts (cond_part object from) (cond_part_cut object from)
cond_part_cuts object from =
    stages_cuts event.Cond reply.Cond cond_event cond_meaning (move cond_event_in cond_reply_in is_cond_event cond_meaning)
    (moves_are event.Cond reply.Cond cond_event cond_meaning cond_event_in cond_reply_in is_cond_event (λ e. refl) (λ r. refl) only_event only_reply told tells) object from

-- the parts of a wait behind its ticket, behind its unlock, and behind its leaving
abbrev locks_again : ℕ → Part (Reply ℕ)
locks_again mutex = read_as (λ locked. replies.Returned) (mutex_part mutex on_mutex.Lock)

abbrev leaves_and_locks : ℕ → ℕ → Part (Reply ℕ)
leaves_and_locks object mutex = and_then (cond_part object stage.Leave) (λ left. locks_again mutex)

abbrev unlocks_and_waits : ℕ → ℕ → Part (Reply ℕ)
unlocks_and_waits object mutex = and_then (mutex_part mutex on_mutex.Unlock) (λ unlocked. leaves_and_locks object mutex)

again_cuts : (mutex : ℕ) → Cuts (locks_again mutex) (lock_again_cut mutex)
again_cuts mutex = read_cuts (λ locked. replies.Returned) (mutex_part mutex on_mutex.Lock) (mutex_part_cut mutex on_mutex.Lock) (mutex_part_cuts mutex on_mutex.Lock)

leaves_cuts : (object mutex : ℕ) → Cuts (leaves_and_locks object mutex) (leave_cut object mutex)
leaves_cuts object mutex =
    then_cuts (cond_part object stage.Leave) (λ left. locks_again mutex) (cond_part_cut object stage.Leave) (λ left. lock_again_cut mutex)
    (cond_part_cuts object stage.Leave) (λ left. again_cuts mutex) (λ left. (again_cuts mutex).goes_on [] refl)

unlocks_cuts : (object mutex : ℕ) → Cuts (unlocks_and_waits object mutex) (unlock_cut object mutex)
unlocks_cuts object mutex =
    then_cuts (mutex_part mutex on_mutex.Unlock) (λ unlocked. leaves_and_locks object mutex) (mutex_part_cut mutex on_mutex.Unlock) (λ unlocked. leave_cut object mutex)
    (mutex_part_cuts mutex on_mutex.Unlock) (λ unlocked. leaves_cuts object mutex) (λ unlocked. (leaves_cuts object mutex).goes_on [] refl)

pub cond_cuts : (object mutex : ℕ) (call : CondCall) → Cuts (cond_call object mutex call) (cond_cut object mutex call)
cond_cuts object mutex calls.Wait =
    then_cuts (cond_part object stage.Ticket) (λ ticket. unlocks_and_waits object mutex) (cond_part_cut object stage.Ticket) (λ ticket. unlock_cut object mutex)
    (cond_part_cuts object stage.Ticket) (λ ticket. unlocks_cuts object mutex) (λ ticket. (unlocks_cuts object mutex).goes_on [] refl)
cond_cuts object mutex calls.Signal = read_cuts (λ done. replies.Returned) (cond_part object stage.Signal) (cond_part_cut object stage.Signal) (cond_part_cuts object stage.Signal)
cond_cuts object mutex calls.Broadcast = read_cuts (λ done. replies.Returned) (cond_part object stage.Broadcast) (cond_part_cut object stage.Broadcast) (cond_part_cuts object stage.Broadcast)
