-- That a `go`, and what a worker makes before its script and behind it, are cut as they are spelt.
use Rattle.std.proofs.Common.{◌≡◌, ℕ, pos, Bool, true, false, cond, [], Option, Some, None, refl, ap}
use Rattle.std.proofs.lemmas.Bool.{eqb-true, eq-eqb}
use Rattle.protocols.specs.Spelling.{IsEventOf}
use Rattle.script_calls.specs.Starts.{group_of}
use Rattle.script_calls.specs.declared.call.Reply.TheVariants as replies
use Rattle.starts_core.specs.StartsStages.{starts_event, starts_meaning}
use Rattle.starts_core.specs.declared.protocol.StartsStage.{StartsStage}
use Rattle.starts_core.specs.declared.protocol.StartsStage.TheVariants as stage
use Rattle.starts_core.specs.declared.starts.StartEvent.{StartEvent}
use Rattle.starts_core.specs.declared.starts.StartEvent.TheVariants.{Start, End, Leave}
use Rattle.starts_core.specs.declared.starts.StartReply.{StartReply}
use Rattle.sync_types.specs.declared.wait_call.WaitGroupCall.TheVariants as group_calls
use Rattle.workload.specs.Plan.{Plan, is_dormant, has_dormant}
use Rattle.run_record.specs.Objects.{starts_number}
use Rattle.run_record.specs.Parts.{and_then, read_as, returns}
use Rattle.run_record.specs.Record.{object_number}
use Rattle.run_record.specs.StartsKind.{starts_part, was_started, go_call, wait_start_part, end_part, opening, done_under, done_part, closing}
use Rattle.run_record.specs.WaitGroupKind.{wait_group_call}
use Rattle.run_record.specs.declared.entered.ObjectEvent.{ObjectEvent}
use Rattle.run_record.specs.declared.entered.ObjectEvent.TheVariants as event
use Rattle.run_record.specs.declared.entered.ObjectReply.{ObjectReply}
use Rattle.run_record.specs.declared.entered.ObjectReply.TheVariants as reply
use Rattle.run_cuts.specs.Cuts.{Cuts, move, read_cut, returns_cut, then_cut}
use Rattle.run_cuts.specs.GroupCuts.{group_cut}
use Rattle.run_cuts.specs.StartsCuts.{starts_event_in, starts_reply_in, is_starts_event, starts_cut, go_cut, wait_start_cut, end_cut, opening_cut, done_under_cut, done_cut, closing_cut}
use Rattle.run_cuts.proofs.CutLemmas.{moves_are, read_cuts, returns_cuts, stages_cuts, then_cuts}
use Rattle.run_cuts.proofs.GroupCut.{group_cuts}

only_event : (o : ObjectEvent) (e : StartEvent) → starts_event_in o ≡ Some e → o ≡ event.Starts e
only_event (event.Starts x) e is = ap (λ (y : StartEvent). event.Starts y) (same is)
  where
    same : {x y : StartEvent} → Some x ≡ Some y → x ≡ y
    same is = cc
only_event o e is = absurd cc

only_reply : (o : ObjectReply) (r : StartReply) → starts_reply_in o ≡ Some r → o ≡ reply.Starts r
only_reply (reply.Starts x) r is = ap (λ (y : StartReply). reply.Starts y) (same is)
  where
    same : {x y : StartReply} → Some x ≡ Some y → x ≡ y
    same is = cc
only_reply o r is = absurd cc

told : (from : StartsStage) (e : StartEvent) → is_starts_event from e ≡ true → IsEventOf starts_event from e
told (stage.Start worker) (Start other) is = (0, ap (λ (w : ℕ). Start w) (eqb-true other worker is))
told stage.End End is = (0, refl)
told stage.WaitStart Leave is = (0, refl)
told from e is = absurd cc

tells : (from : StartsStage) (now : ℕ) → is_starts_event from (starts_event from now) ≡ true
tells (stage.Start worker) now = eq-eqb worker worker refl
tells stage.End now = refl
tells stage.WaitStart now = refl

starts_cuts : (object : ℕ) (from : StartsStage) → Cuts (starts_part object from) (starts_cut object from)
starts_cuts object from =
    stages_cuts event.Starts reply.Starts starts_event starts_meaning (move starts_event_in starts_reply_in is_starts_event starts_meaning)
    (moves_are event.Starts reply.Starts starts_event starts_meaning starts_event_in starts_reply_in is_starts_event (λ e. refl) (λ r. refl) only_event only_reply told tells) object from

pub go_cuts : (group starts worker : ℕ) → Cuts (go_call group starts worker) (go_cut group starts worker)
go_cuts group starts worker =
    let start = read_cuts (λ started. replies.Returned) (starts_part starts (stage.Start worker)) (starts_cut starts (stage.Start worker)) (starts_cuts starts (stage.Start worker)) in
    then_cuts (wait_group_call group (group_calls.Add (pos 1))) (λ added. read_as (λ started. replies.Returned) (starts_part starts (stage.Start worker)))
    (group_cut group (group_calls.Add (pos 1))) (λ added. read_cut (λ started. replies.Returned) (starts_cut starts (stage.Start worker)))
    (group_cuts group (group_calls.Add (pos 1))) (λ added. start) (λ added. start.goes_on [] refl)

pub wait_start_cuts : (object : ℕ) → Cuts (wait_start_part object) (wait_start_cut object)
wait_start_cuts object = read_cuts was_started (starts_part object stage.WaitStart) (starts_cut object stage.WaitStart) (starts_cuts object stage.WaitStart)

pub end_cuts : (object : ℕ) → Cuts (end_part object) (end_cut object)
end_cuts object = read_cuts (λ ended. tt) (starts_part object stage.End) (starts_cut object stage.End) (starts_cuts object stage.End)

pub opening_cuts : (plan : Plan) (worker : ℕ) → Cuts (opening plan worker) (opening_cut plan worker)
opening_cuts plan worker = by (is_dormant plan worker)
  where
    by : (waits : Bool) → Cuts (cond waits (wait_start_part (starts_number plan)) (returns true)) (cond waits (wait_start_cut (starts_number plan)) (returns_cut true))
    by true = wait_start_cuts (starts_number plan)
    by false = returns_cuts true

done_under_cuts : (group : Option ℕ) → Cuts (done_under group) (done_under_cut group)
done_under_cuts None = returns_cuts tt
done_under_cuts (Some group) = read_cuts (λ done. tt) (wait_group_call (object_number group) group_calls.Done) (group_cut (object_number group) group_calls.Done) (group_cuts (object_number group) group_calls.Done)

done_cuts : (plan : Plan) (worker : ℕ) → Cuts (done_part plan worker) (done_cut plan worker)
done_cuts plan worker = by (is_dormant plan worker)
  where
    by : (waits : Bool) → Cuts (cond waits (done_under (group_of worker plan.scripts)) (returns tt)) (cond waits (done_under_cut (group_of worker plan.scripts)) (returns_cut tt))
    by true = done_under_cuts (group_of worker plan.scripts)
    by false = returns_cuts tt

pub closing_cuts : (plan : Plan) (worker : ℕ) → Cuts (closing plan worker) (closing_cut plan worker)
closing_cuts plan worker = by (has_dormant plan)
  where
    ends : Cuts (end_part (starts_number plan)) (end_cut (starts_number plan))
    ends = end_cuts (starts_number plan)

    by : (some : Bool) → Cuts (cond some (and_then (done_part plan worker) (λ done. end_part (starts_number plan))) (returns tt)) (cond some (then_cut (done_cut plan worker) (λ done. end_cut (starts_number plan))) (returns_cut tt))
    by true = then_cuts (done_part plan worker) (λ done. end_part (starts_number plan)) (done_cut plan worker) (λ done. end_cut (starts_number plan)) (done_cuts plan worker) (λ done. ends) (λ done. ends.goes_on [] refl)
    by false = returns_cuts tt
