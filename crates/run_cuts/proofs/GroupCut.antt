-- That a wait group's calls are cut as they are spelt.
use Rattle.std.proofs.Common.{◌≡◌, ℕ, ℤ, negsuc, true, Some, refl, ap}
use Rattle.std.proofs.lemmas.Bool.Decides.{Decides-int_eq}
use Rattle.protocols.specs.GroupStages.{group_event, group_meaning}
use Rattle.protocols.specs.Spelling.{IsEventOf}
use Rattle.protocols.specs.declared.wait_group.GroupStage.{GroupStage}
use Rattle.protocols.specs.declared.wait_group.GroupStage.TheVariants as stage
use Rattle.script_calls.specs.declared.call.Reply.TheVariants as replies
use Rattle.sync_types.specs.declared.wait_call.WaitGroupCall.{WaitGroupCall}
use Rattle.wait_cores.specs.declared.group.GroupEvent.{GroupEvent}
use Rattle.wait_cores.specs.declared.group.GroupEvent.TheVariants.{Add, Wait, Leave}
use Rattle.wait_cores.specs.declared.group.GroupReply.{GroupReply}
use Rattle.run_record.specs.Parts.{stages}
use Rattle.run_record.specs.WaitGroupKind.{wait_group_call, wait_group_stage}
use Rattle.run_record.specs.declared.entered.ObjectEvent.{ObjectEvent}
use Rattle.run_record.specs.declared.entered.ObjectEvent.TheVariants as event
use Rattle.run_record.specs.declared.entered.ObjectReply.{ObjectReply}
use Rattle.run_record.specs.declared.entered.ObjectReply.TheVariants as reply
use Rattle.run_cuts.specs.Cuts.{Cuts, move, stages_cut}
use Rattle.run_cuts.specs.GroupCuts.{group_cut, group_event_in, group_reply_in, is_group_event}
use Rattle.run_cuts.proofs.CutLemmas.{moves_are, read_cuts, stages_cuts}

only_event : (o : ObjectEvent) (e : GroupEvent) → group_event_in o ≡ Some e → o ≡ event.WaitGroup e
only_event (event.WaitGroup x) e is = ap (λ (y : GroupEvent). event.WaitGroup y) (same is)
  where
    same : {x y : GroupEvent} → Some x ≡ Some y → x ≡ y
    same is = cc
only_event o e is = absurd cc

only_reply : (o : ObjectReply) (r : GroupReply) → group_reply_in o ≡ Some r → o ≡ reply.WaitGroup r
only_reply (reply.WaitGroup x) r is = ap (λ (y : GroupReply). reply.WaitGroup y) (same is)
  where
    same : {x y : GroupReply} → Some x ≡ Some y → x ≡ y
    same is = cc
only_reply o r is = absurd cc

told : (from : GroupStage) (e : GroupEvent) → is_group_event from e ≡ true → IsEventOf group_event from e
told (stage.Add delta) (Add amount) is = (0, ap (λ (z : ℤ). Add z) ((Decides-int_eq amount delta).0 is))
told stage.Done (Add amount) is = (0, ap (λ (z : ℤ). Add z) ((Decides-int_eq amount (negsuc 0)).0 is))
told stage.Wait Wait is = (0, refl)
told stage.Leave Leave is = (0, refl)
told from e is = absurd cc

tells : (from : GroupStage) (now : ℕ) → is_group_event from (group_event from now) ≡ true
tells (stage.Add delta) now = (Decides-int_eq delta delta).1 refl
tells stage.Done now = (Decides-int_eq (negsuc 0) (negsuc 0)).1 refl
tells stage.Wait now = refl
tells stage.Leave now = refl

pub group_cuts : (object : ℕ) (call : WaitGroupCall) → Cuts (wait_group_call object call) (group_cut object call)
group_cuts object call =
    read_cuts (λ done. replies.Returned) (stages event.WaitGroup reply.WaitGroup group_event group_meaning object (wait_group_stage call)) (stages_cut (move group_event_in group_reply_in is_group_event group_meaning) object (wait_group_stage call))
    (stages_cuts event.WaitGroup reply.WaitGroup group_event group_meaning (move group_event_in group_reply_in is_group_event group_meaning)
    (moves_are event.WaitGroup reply.WaitGroup group_event group_meaning group_event_in group_reply_in is_group_event (λ e. refl) (λ r. refl) only_event only_reply told tells) object (wait_group_stage call))
