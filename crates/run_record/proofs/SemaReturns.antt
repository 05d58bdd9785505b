-- What the calls of a semaphore have done when they return.
use Rattle.std.proofs.Common.{◌≡◌, ℕ, Bool, true, false, cond, List, [], Ok, Result, refl, sym, ap, subst}
use Rattle.script_calls.specs.declared.call.Reply.{Reply}
use Rattle.script_calls.specs.declared.call.Reply.TheVariants as replies
use Rattle.sync_types.specs.declared.lock_call.LockReply.{LockReply}
use Rattle.sync_types.specs.declared.lock_call.LockReply.TheVariants as outcome
use Rattle.sync_types.specs.declared.misuse.Misuse.{Misuse}
use Rattle.sync_types.specs.declared.sema_call.SemaCall.{SemaCall}
use Rattle.sync_types.specs.declared.sema_call.SemaCall.TheVariants as calls
use Rattle.sync_model.specs.declared.answer.Answer.TheVariants.{Done}
use Rattle.sync_model.specs.declared.journal.Deed.{Deed}
use Rattle.sema_core.specs.SemaEdges.{sema_acquires}
use Rattle.sema_core.specs.SemaStages.{sema_event, sema_meaning, try_meaning, release_meaning, sema_gains, sema_gives}
use Rattle.sema_core.specs.declared.calls.SemaStage.{SemaStage}
use Rattle.sema_core.specs.declared.calls.SemaStage.TheVariants as stage
use Rattle.sema_core.specs.declared.event.SemaEvent.{SemaEvent}
use Rattle.sema_core.specs.declared.event.SemaReply.{SemaReply}
use Rattle.sema_core.specs.declared.event.SemaReply.TheVariants as answers
use Rattle.protocols.specs.Spelling.{Rest, Spells, TakesInLast}
use Rattle.run_record.specs.declared.entered.ObjectEvent.TheVariants as event
use Rattle.run_record.specs.declared.entered.ObjectReply.TheVariants as reply
use Rattle.run_record.specs.declared.made.Made.{Made}
use Rattle.run_record.specs.Returns.{IsOnce, SemaReturns}
use Rattle.run_record.specs.SemaKind.{sema_stage, sema_part, sema_call}
use Rattle.run_record.proofs.Returning.{read_off, one_event, first_event, last_event}

-- what a semaphore's protocol keeps: a call takes in what was left by its last event, where it gains, and gives what it may
pub record SemaLaws : Type 0 where
  pub gains : (stage : SemaStage) (deeds : List (Deed SemaEvent SemaReply)) (outcome : LockReply) → Spells sema_event sema_meaning stage deeds (Done (Ok outcome)) → TakesInLast sema_acquires (sema_gains stage outcome) deeds
  pub gives : (stage : SemaStage) (deeds : List (Deed SemaEvent SemaReply)) (given : Result LockReply Misuse) → Spells sema_event sema_meaning stage deeds (Done given) → sema_gives stage given ≡ true

abbrev had_by : Bool → SemaReply
had_by had = cond had answers.Done answers.Refused

tried : (given : LockReply) (r : SemaReply) (rest : List (Deed SemaEvent SemaReply)) (on : SemaStage → Type 0) → Rest (try_meaning r) rest on (Done (Ok given)) → (rest ≡ []) × ((had : Bool) × (given ≡ outcome.Tried had) × (r ≡ had_by had))
tried given answers.Done rest on goes = let is = goes.1 in (goes.0, (true, (cc), refl))
tried given answers.Refused rest on goes = let is = goes.1 in (goes.0, (false, (cc), refl))
tried given answers.Queued rest on goes = absurd goes
tried given (answers.Misused misuse) rest on goes = absurd goes
tried given answers.Still rest on goes = absurd goes

released : (given : LockReply) (r : SemaReply) (rest : List (Deed SemaEvent SemaReply)) (on : SemaStage → Type 0) → Rest (release_meaning r) rest on (Done (Ok given)) → (rest ≡ []) × ((given ≡ outcome.Done) × (r ≡ answers.Done))
released given answers.Done rest on goes = let is = goes.1 in (goes.0, ((cc), refl))
released given (answers.Misused misuse) rest on goes = let is = goes.1 in absurd cc
released given answers.Refused rest on goes = absurd goes
released given answers.Queued rest on goes = absurd goes
released given answers.Still rest on goes = absurd goes

is_done : (weight : ℕ) (given : LockReply) → sema_gives (stage.Acquire weight) (Ok given) ≡ true → given ≡ outcome.Done
is_done weight outcome.Done e = refl
is_done weight (outcome.Tried had) e = absurd cc

module _ (object : ℕ) (laws : SemaLaws) where
  by_part : (of : SemaCall) (items : List Made) (given : LockReply) → sema_part object (sema_stage of) items (Done (Ok given)) → SemaReturns object of items (replies.Lock given)
  by_part (calls.Acquire weight) items given part = (
    ap replies.Lock (is_done weight given (laws.gives (stage.Acquire weight) _ (Ok given) part.2)),
    (first_event event.Sema reply.Sema sema_event sema_meaning object (stage.Acquire weight) items (Ok given) part).1,
    last_event event.Sema reply.Sema sema_event sema_meaning object sema_acquires (λ e r. refl) (stage.Acquire weight) items (Ok given) (λ deeds spelt. laws.gains (stage.Acquire weight) deeds given spelt) part,
  )
  by_part (calls.TryAcquire weight) items given part =
      let one = one_event event.Sema reply.Sema sema_event sema_meaning object (stage.Try weight) items (Ok given) (λ r. (had : Bool) × (given ≡ outcome.Tried had) × (r ≡ had_by had)) (λ r rest goes. tried given r rest _ goes) part in
      (one.3.0, ap replies.Lock one.3.1, subst (λ r. IsOnce object (event.Sema (sema_event (stage.Try weight) one.0)) (reply.Sema r) items) one.3.2 one.2)
  by_part (calls.Release weight) items given part =
      let one = one_event event.Sema reply.Sema sema_event sema_meaning object (stage.Release weight) items (Ok given) (λ r. (given ≡ outcome.Done) × (r ≡ answers.Done)) (λ r rest goes. released given r rest _ goes) part in
      (ap replies.Lock one.3.0, subst (λ r. IsOnce object (event.Sema (sema_event (stage.Release weight) one.0)) (reply.Sema r) items) one.3.1 one.2)

  pub sema_returns : (of : SemaCall) (items : List Made) (answer : Reply ℕ) → sema_call object of items (Done (Ok answer)) → SemaReturns object of items answer
  sema_returns of items answer (given, part, e) =
      let off = read_off replies.Lock given answer e in
      subst (λ a. SemaReturns object of items a) (sym off.read) (by_part of items off.outcome (subst (sema_part object (sema_stage of) items) off.is part))
