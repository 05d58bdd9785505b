-- That a weighted semaphore's calls are cut as they are spelt.
use Rattle.std.proofs.Common.{◌≡◌, ℕ, true, Some, refl, ap}
use Rattle.std.proofs.lemmas.Bool.{eqb-true, eq-eqb}
use Rattle.protocols.specs.Spelling.{IsEventOf}
use Rattle.script_calls.specs.declared.call.Reply.TheVariants as replies
use Rattle.sync_types.specs.declared.sema_call.SemaCall.{SemaCall}
use Rattle.sema_core.specs.SemaStages.{sema_event, sema_meaning}
use Rattle.sema_core.specs.declared.calls.SemaStage.{SemaStage}
use Rattle.sema_core.specs.declared.calls.SemaStage.TheVariants as stage
use Rattle.sema_core.specs.declared.event.SemaEvent.{SemaEvent}
use Rattle.sema_core.specs.declared.event.SemaEvent.TheVariants.{Acquire, Try, Release, Leave}
use Rattle.sema_core.specs.declared.event.SemaReply.{SemaReply}
use Rattle.run_record.specs.Parts.{stages}
use Rattle.run_record.specs.SemaKind.{sema_call, sema_stage}
use Rattle.run_record.specs.declared.entered.ObjectEvent.{ObjectEvent}
use Rattle.run_record.specs.declared.entered.ObjectEvent.TheVariants as event
use Rattle.run_record.specs.declared.entered.ObjectReply.{ObjectReply}
use Rattle.run_record.specs.declared.entered.ObjectReply.TheVariants as reply
use Rattle.run_cuts.specs.Cuts.{Cuts, move, stages_cut}
use Rattle.run_cuts.specs.SemaCuts.{sema_cut, sema_event_in, sema_reply_in, is_sema_event}
use Rattle.run_cuts.proofs.CutLemmas.{moves_are, read_cuts, stages_cuts}

only_event : (o : ObjectEvent) (e : SemaEvent) → sema_event_in o ≡ Some e → o ≡ event.Sema e
only_event (event.Sema x) e is = ap (λ (y : SemaEvent). event.Sema y) (same is)
  where
    same : {x y : SemaEvent} → Some x ≡ Some y → x ≡ y
    same is = cc
only_event o e is = absurd cc

only_reply : (o : ObjectReply) (r : SemaReply) → sema_reply_in o ≡ Some r → o ≡ reply.Sema r
only_reply (reply.Sema x) r is = ap (λ (y : SemaReply). reply.Sema y) (same is)
  where
    same : {x y : SemaReply} → Some x ≡ Some y → x ≡ y
    same is = cc
only_reply o r is = absurd cc

told : (from : SemaStage) (e : SemaEvent) → is_sema_event from e ≡ true → IsEventOf sema_event from e
told (stage.Acquire weight) (Acquire other) is = (0, ap (λ (w : ℕ). Acquire w) (eqb-true other weight is))
told (stage.Try weight) (Try other) is = (0, ap (λ (w : ℕ). Try w) (eqb-true other weight is))
told (stage.Release weight) (Release other) is = (0, ap (λ (w : ℕ). Release w) (eqb-true other weight is))
told stage.Leave Leave is = (0, refl)
told from e is = absurd cc

tells : (from : SemaStage) (now : ℕ) → is_sema_event from (sema_event from now) ≡ true
tells (stage.Acquire weight) now = eq-eqb weight weight refl
tells (stage.Try weight) now = eq-eqb weight weight refl
tells (stage.Release weight) now = eq-eqb weight weight refl
tells stage.Leave now = refl

pub sema_cuts : (object : ℕ) (call : SemaCall) → Cuts (sema_call object call) (sema_cut object call)
sema_cuts object call =
    read_cuts replies.Lock (stages event.Sema reply.Sema sema_event sema_meaning object (sema_stage call)) (stages_cut (move sema_event_in sema_reply_in is_sema_event sema_meaning) object (sema_stage call))
    (stages_cuts event.Sema reply.Sema sema_event sema_meaning (move sema_event_in sema_reply_in is_sema_event sema_meaning)
    (moves_are event.Sema reply.Sema sema_event sema_meaning sema_event_in sema_reply_in is_sema_event (λ e. refl) (λ r. refl) only_event only_reply told tells) object (sema_stage call))
