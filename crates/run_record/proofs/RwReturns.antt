-- What a reader/writer mutex's calls have done when they return.
use Rattle.std.proofs.Common.{◌≡◌, ℕ, Bool, true, List, [], ◌∷◌, map, get_or, Ok, Result, refl, sym, ap, subst}
use Rattle.script_calls.specs.declared.call.Reply.{Reply}
use Rattle.script_calls.specs.declared.call.Reply.TheVariants as replies
use Rattle.sync_types.specs.declared.lock_call.LockReply.{LockReply}
use Rattle.sync_types.specs.declared.lock_call.LockReply.TheVariants as outcome
use Rattle.sync_types.specs.declared.lock_call.RwMutexCall.{RwMutexCall}
use Rattle.sync_types.specs.declared.lock_call.RwMutexCall.TheVariants as calls
use Rattle.sync_types.specs.declared.misuse.Misuse.{Misuse}
use Rattle.sync_model.specs.declared.answer.Answer.TheVariants.{Done}
use Rattle.sync_model.specs.declared.journal.Deed.{Deed}
use Rattle.sync_model.specs.declared.journal.Deed.TheVariants.{Event}
use Rattle.sync_model.specs.declared.journal.Entry.{Entry}
use Rattle.rw_core.specs.declared.event.RwEvent.{RwEvent}
use Rattle.rw_core.specs.declared.event.RwEvent.TheVariants.{WriteArrive}
use Rattle.rw_core.specs.declared.reply.RwReply.{RwReply}
use Rattle.rw_core.specs.declared.reply.RwReply.TheVariants as rw_answers
use Rattle.rw_core.specs.declared.reply.Unlocking.TheVariants as unlocking
use Rattle.rw_core.specs.Edges as rw
use Rattle.protocols.specs.declared.rw_mutex.RwMutexStage.{RwMutexStage}
use Rattle.protocols.specs.declared.rw_mutex.RwMutexStage.TheVariants as stage
use Rattle.protocols.specs.RwMutexStages.{rw_event, rw_meaning, unlock_meaning, try_meaning, rw_gains, rw_gives, lock_gives}
use Rattle.protocols.specs.Spelling.{Rest, Spells, TakesInLast}
use Rattle.run_record.specs.declared.entered.ObjectEvent.TheVariants as event
use Rattle.run_record.specs.declared.entered.ObjectReply.TheVariants as reply
use Rattle.run_record.specs.declared.made.Made.{Made}
use Rattle.run_record.specs.declared.made.Made.TheVariants.{Entered}
use Rattle.run_record.specs.Parts.{lifted, lifted_deed, stages}
use Rattle.run_record.specs.RwMutexKind.{RwDeed, rw_part, rw_mutex_call}
use Rattle.run_record.specs.Returns.{IsOnce, BeginsBy, EndsTaking, RwMutexReturns}
use Rattle.run_record.proofs.Returning.{read_off, one_event, first_event, last_event, taking}
use Rattle.run_record.proofs.WriteLocks.{lock_begins, lock_takes}

-- what a reader/writer mutex's protocol keeps
pub record RwLaws : Type 0 where
  pub gains : (stage : RwMutexStage) (deeds : List (Deed RwEvent RwReply)) (outcome : LockReply) → Spells rw_event rw_meaning stage deeds (Done (Ok outcome)) → TakesInLast (λ e r. rw.acquires r) (rw_gains stage outcome) deeds
  pub gives : (stage : RwMutexStage) (deeds : List (Deed RwEvent RwReply)) (given : Result LockReply Misuse) → Spells rw_event rw_meaning stage deeds (Done given) → rw_gives stage given ≡ true

unlocked : (given : LockReply) (r : RwReply) (rest : List (Deed RwEvent RwReply)) (on : RwMutexStage → Type 0) → Rest (unlock_meaning r) rest on (Done (Ok given)) → (rest ≡ []) × ((given ≡ outcome.Done) × (r ≡ rw_answers.Unlocked unlocking.Done))
unlocked given (rw_answers.Unlocked unlocking.Done) rest on goes = let is = goes.1 in (goes.0, ((cc), refl))
unlocked given (rw_answers.Unlocked (unlocking.Misuse misuse)) rest on goes = let is = goes.1 in absurd cc
unlocked given (rw_answers.Arrived arrival) rest on goes = absurd goes
unlocked given (rw_answers.Tried acquired) rest on goes = absurd goes
unlocked given (rw_answers.Resumed resumption) rest on goes = absurd goes
unlocked given rw_answers.Left rest on goes = absurd goes
unlocked given rw_answers.Still rest on goes = absurd goes

tried : (given : LockReply) (r : RwReply) (rest : List (Deed RwEvent RwReply)) (on : RwMutexStage → Type 0) → Rest (try_meaning r) rest on (Done (Ok given)) → (rest ≡ []) × ((acquired : Bool) × (given ≡ outcome.Tried acquired) × (r ≡ rw_answers.Tried acquired))
tried given (rw_answers.Tried acquired) rest on goes = let is = goes.1 in (goes.0, (acquired, (cc), refl))
tried given (rw_answers.Unlocked u) rest on goes = absurd goes
tried given (rw_answers.Arrived arrival) rest on goes = absurd goes
tried given (rw_answers.Resumed resumption) rest on goes = absurd goes
tried given rw_answers.Left rest on goes = absurd goes
tried given rw_answers.Still rest on goes = absurd goes

is_done : (given : LockReply) → lock_gives (Ok given) ≡ true → given ≡ outcome.Done
is_done outcome.Done e = refl
is_done (outcome.Tried acquired) e = absurd cc

module _ (object : ℕ) where
  abbrev part : RwMutexStage → List Made → LockReply → Type 0
  part from items given = stages event.RwMutex reply.RwMutex rw_event rw_meaning object from items (Done (Ok given))

  unlocks : (from : RwMutexStage) (items : List Made) (given : LockReply) → ((r : RwReply) → rw_meaning from r ≡ unlock_meaning r) → part from items given
      → (given ≡ outcome.Done) × ((now : ℕ) × IsOnce object (event.RwMutex (rw_event from now)) (reply.RwMutex (rw_answers.Unlocked unlocking.Done)) items)
  unlocks from items given same made =
      let one = one_event event.RwMutex reply.RwMutex rw_event rw_meaning object from items (Ok given) (λ r. (given ≡ outcome.Done) × (r ≡ rw_answers.Unlocked unlocking.Done))
      (λ r rest goes. unlocked given r rest _ (subst (λ s. Rest s rest (λ later. Spells rw_event rw_meaning later rest (Done (Ok given))) (Done (Ok given))) (same r) goes)) made in
      (one.3.0, (one.0, subst (λ r. IsOnce object (event.RwMutex (rw_event from one.0)) (reply.RwMutex r) items) one.3.1 one.2))

  tries : (from : RwMutexStage) (items : List Made) (given : LockReply) → ((r : RwReply) → rw_meaning from r ≡ try_meaning r) → part from items given
      → (acquired : Bool) × (given ≡ outcome.Tried acquired) × ((now : ℕ) × IsOnce object (event.RwMutex (rw_event from now)) (reply.RwMutex (rw_answers.Tried acquired)) items)
  tries from items given same made =
      let one = one_event event.RwMutex reply.RwMutex rw_event rw_meaning object from items (Ok given) (λ r. (acquired : Bool) × (given ≡ outcome.Tried acquired) × (r ≡ rw_answers.Tried acquired))
      (λ r rest goes. tried given r rest _ (subst (λ s. Rest s rest (λ later. Spells rw_event rw_meaning later rest (Done (Ok given))) (Done (Ok given))) (same r) goes)) made in
      (one.3.0, one.3.1, (one.0, subst (λ r. IsOnce object (event.RwMutex (rw_event from one.0)) (reply.RwMutex r) items) one.3.2 one.2))

  module _ (laws : RwLaws) where
    locks : (from : RwMutexStage) (items : List Made) (given : LockReply) → rw_gains from given ≡ true → part from items given → EndsTaking object items
    locks from items given gains made =
        last_event event.RwMutex reply.RwMutex rw_event rw_meaning object (λ e r. rw.acquires r) (λ e r. refl) from items (Ok given)
        (λ deeds spelt. subst (λ b. TakesInLast (λ (e : RwEvent) r. rw.acquires r) b deeds) gains (laws.gains from deeds given spelt)) made

    begins : (entries : List (Entry RwEvent RwReply)) (items : List Made) (now : ℕ) (r : RwReply) (more : List RwDeed) → items ≡ map (λ entry. Entered object (lifted event.RwMutex reply.RwMutex entry)) entries
        → map (λ entry. entry.deed) entries ≡ Event (WriteArrive now) r ∷ more → BeginsBy object (event.RwMutex (WriteArrive now)) items
    begins [] items now r more is deeds = absurd cc
    begins (entry ∷ entries) items now r more is deeds = record {
      entry = lifted event.RwMutex reply.RwMutex entry;
      rest = map (λ entry. Entered object (lifted event.RwMutex reply.RwMutex entry)) entries;
      answer = reply.RwMutex r;
      are = is;
      deed = ap (lifted_deed event.RwMutex reply.RwMutex) (ap (λ (l : List RwDeed). get_or l 0 entry.deed) deeds);
    }

    by_part : (of : RwMutexCall) (items : List Made) (given : LockReply) → rw_part object of items (Done (Ok given)) → RwMutexReturns object of items (replies.Lock given)
    by_part calls.Lock items given (entries, is, writes) =
        let deeds : List RwDeed = map (λ (entry : Entry RwEvent RwReply). entry.deed) entries in
        let first = lock_begins deeds (Ok given) writes in (
          first.0,
          ap replies.Lock (is_done given (laws.gives stage.Lock writes.0 (Ok given) writes.2)),
          begins entries items first.0 first.1 first.2 is first.3,
          subst (λ (made : List Made). EndsTaking object made) (sym is) (taking event.RwMutex reply.RwMutex rw_event rw_meaning object (λ e r. rw.acquires r) (λ e r. refl) entries (lock_takes deeds given writes)),
        )
    by_part calls.RLock items given made =
        let first = first_event event.RwMutex reply.RwMutex rw_event rw_meaning object stage.RLock items (Ok given) made in
        (ap replies.Lock (is_done given (laws.gives stage.RLock _ (Ok given) made.2)), first.1, locks stage.RLock items given refl made)
    by_part calls.TryLock items given made = let try = tries stage.TryLock items given (λ r. refl) made in (try.0, ap replies.Lock try.1, try.2.1)
    by_part calls.TryRLock items given made = let try = tries stage.TryRLock items given (λ r. refl) made in (try.0, ap replies.Lock try.1, try.2.1)
    by_part calls.Unlock items given made = let done = unlocks stage.Unlock items given (λ r. refl) made in (ap replies.Lock done.0, done.1.1)
    by_part calls.RUnlock items given made = let done = unlocks stage.RUnlock items given (λ r. refl) made in (ap replies.Lock done.0, done.1.1)

    pub rw_mutex_returns : (of : RwMutexCall) (items : List Made) (answer : Reply ℕ) → rw_mutex_call object of items (Done (Ok answer)) → RwMutexReturns object of items answer
    rw_mutex_returns of items answer (given, made, e) =
        let off = read_off replies.Lock given answer e in
        subst (λ a. RwMutexReturns object of items a) (sym off.read) (by_part of items off.outcome (subst (rw_part object of items) off.is made))
