-- What a lock's calls have done when they return.
use Rattle.std.proofs.Common.{◌≡◌, ℕ, Bool, true, List, [], Ok, Result, refl, sym, ap, subst}
use Rattle.script_calls.specs.declared.call.Reply.{Reply}
use Rattle.script_calls.specs.declared.call.Reply.TheVariants as replies
use Rattle.sync_types.specs.declared.lock_call.LockReply.{LockReply}
use Rattle.sync_types.specs.declared.lock_call.LockReply.TheVariants as outcome
use Rattle.sync_types.specs.declared.lock_call.MutexCall.{MutexCall}
use Rattle.sync_types.specs.declared.lock_call.MutexCall.TheVariants as calls
use Rattle.sync_types.specs.declared.misuse.Misuse.{Misuse}
use Rattle.sync_model.specs.declared.answer.Answer.TheVariants.{Done}
use Rattle.sync_model.specs.declared.journal.Deed.{Deed}
use Rattle.mutex_core.specs.declared.event.MutexEvent.{MutexEvent}
use Rattle.mutex_core.specs.declared.reply.MutexReply.{MutexReply}
use Rattle.mutex_core.specs.declared.reply.MutexReply.TheVariants as mutex_answers
use Rattle.mutex_core.specs.declared.reply.Unlocking.TheVariants as unlocking
use Rattle.mutex_core.specs.Edges as mutex
use Rattle.protocols.specs.declared.mutex.MutexStage.{MutexStage}
use Rattle.protocols.specs.declared.mutex.MutexStage.TheVariants as stage
use Rattle.protocols.specs.MutexStages.{mutex_event, mutex_meaning, unlock_meaning, try_meaning, mutex_gains, mutex_gives}
use Rattle.protocols.specs.Spelling.{Rest, Spells, TakesInLast}
use Rattle.run_record.specs.declared.entered.ObjectEvent.TheVariants as event
use Rattle.run_record.specs.declared.entered.ObjectReply.TheVariants as reply
use Rattle.run_record.specs.declared.made.Made.{Made}
use Rattle.run_record.specs.MutexKind.{mutex_part, mutex_stage, mutex_call}
use Rattle.run_record.specs.Returns.{IsOnce, EndsTaking, MutexReturns}
use Rattle.run_record.proofs.Returning.{read_off, one_event, last_event}

-- what a mutex's protocol keeps: a call takes in what was left by its last event, where it gains, and gives what it may
pub record MutexLaws : Type 0 where
  pub gains : (stage : MutexStage) (deeds : List (Deed MutexEvent MutexReply)) (outcome : LockReply) → Spells mutex_event mutex_meaning stage deeds (Done (Ok outcome)) → TakesInLast (λ e r. mutex.acquires r) (mutex_gains stage outcome) deeds
  pub gives : (stage : MutexStage) (deeds : List (Deed MutexEvent MutexReply)) (given : Result LockReply Misuse) → Spells mutex_event mutex_meaning stage deeds (Done given) → mutex_gives stage given ≡ true

unlocked : (given : LockReply) (r : MutexReply) (rest : List (Deed MutexEvent MutexReply)) (on : MutexStage → Type 0) → Rest (unlock_meaning r) rest on (Done (Ok given)) → (rest ≡ []) × (given ≡ outcome.Done) × (mutex.releases r ≡ true)
unlocked given (mutex_answers.Unlocked unlocking.Free) rest on goes = let is = goes.1 in (goes.0, (cc), refl)
unlocked given (mutex_answers.Unlocked (unlocking.Woke ticket)) rest on goes = let is = goes.1 in (goes.0, (cc), refl)
unlocked given (mutex_answers.Unlocked (unlocking.Handed ticket)) rest on goes = let is = goes.1 in (goes.0, (cc), refl)
unlocked given (mutex_answers.Unlocked (unlocking.Misuse misuse)) rest on goes = let is = goes.1 in absurd cc
unlocked given (mutex_answers.Arrived arrival) rest on goes = absurd goes
unlocked given (mutex_answers.Tried acquired) rest on goes = absurd goes
unlocked given (mutex_answers.Resumed resumption) rest on goes = absurd goes
unlocked given mutex_answers.Still rest on goes = absurd goes

tried : (given : LockReply) (r : MutexReply) (rest : List (Deed MutexEvent MutexReply)) (on : MutexStage → Type 0) → Rest (try_meaning r) rest on (Done (Ok given)) → (rest ≡ []) × ((acquired : Bool) × (given ≡ outcome.Tried acquired) × (r ≡ mutex_answers.Tried acquired))
tried given (mutex_answers.Tried acquired) rest on goes = let is = goes.1 in (goes.0, (acquired, (cc), refl))
tried given (mutex_answers.Unlocked u) rest on goes = absurd goes
tried given (mutex_answers.Arrived arrival) rest on goes = absurd goes
tried given (mutex_answers.Resumed resumption) rest on goes = absurd goes
tried given mutex_answers.Still rest on goes = absurd goes

is_done : (given : LockReply) → mutex_gives stage.Lock (Ok given) ≡ true → given ≡ outcome.Done
is_done outcome.Done e = refl
is_done (outcome.Tried acquired) e = absurd cc

module _ (object : ℕ) where
  pub mutex_unlocks : (items : List Made) (given : LockReply) → mutex_part object stage.Unlock items (Done (Ok given))
      → (now : ℕ) × (r : MutexReply) × IsOnce object (event.Mutex (mutex_event stage.Unlock now)) (reply.Mutex r) items × ((given ≡ outcome.Done) × (mutex.releases r ≡ true))
  mutex_unlocks items given part = one_event event.Mutex reply.Mutex mutex_event mutex_meaning object stage.Unlock items (Ok given) (λ r. (given ≡ outcome.Done) × (mutex.releases r ≡ true))
      (λ r rest goes. let u = unlocked given r rest _ goes in (u.0, (u.1, u.2))) part

  module _ (laws : MutexLaws) where
    pub mutex_locks : (items : List Made) (given : LockReply) → mutex_part object stage.Lock items (Done (Ok given)) → EndsTaking object items
    mutex_locks items given part =
        last_event event.Mutex reply.Mutex mutex_event mutex_meaning object (λ e r. mutex.acquires r) (λ e r. refl) stage.Lock items (Ok given) (λ deeds spelt. laws.gains stage.Lock deeds given spelt) part

    by_part : (of : MutexCall) (items : List Made) (given : LockReply) → mutex_part object (mutex_stage of) items (Done (Ok given)) → MutexReturns object of items (replies.Lock given)
    by_part calls.Lock items given part = (ap replies.Lock (is_done given (laws.gives stage.Lock _ (Ok given) part.2)), mutex_locks items given part)
    by_part calls.TryLock items given part =
        let one = one_event event.Mutex reply.Mutex mutex_event mutex_meaning object stage.TryLock items (Ok given) (λ r. (acquired : Bool) × (given ≡ outcome.Tried acquired) × (r ≡ mutex_answers.Tried acquired)) (λ r rest goes. tried given r rest _ goes) part in
        (one.3.0, ap replies.Lock one.3.1, subst (λ r. IsOnce object (event.Mutex (mutex_event stage.TryLock one.0)) (reply.Mutex r) items) one.3.2 one.2)
    by_part calls.Unlock items given part =
        let one = mutex_unlocks items given part in
        (one.1, ap replies.Lock one.3.0, one.2, one.3.1)

    pub mutex_returns : (of : MutexCall) (items : List Made) (answer : Reply ℕ) → mutex_call object of items (Done (Ok answer)) → MutexReturns object of items answer
    mutex_returns of items answer (given, part, e) =
        let off = read_off replies.Lock given answer e in
        subst (λ a. MutexReturns object of items a) (sym off.read) (by_part of items off.outcome (subst (mutex_part object (mutex_stage of) items) off.is part))
