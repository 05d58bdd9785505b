-- A turn at a mutex spells its stage, in a call of the mutex and in a cond's wait.
use Rattle.std.proofs.Common.{◌≡◌, ℕ, ◌<◌, Bool, true, List, [], ◌∷◌, refl, ap, ◌∙◌, subst}
use Rattle.std.specs.Prelude.{if◌then◌else◌, ◌==◌}
use Rattle.std.proofs.lemmas.Bool.{eq-eqb}
use Rattle.script_calls.specs.declared.call.Reply.{Reply}
use Rattle.script_calls.specs.declared.call.Reply.TheVariants as replies
use Rattle.sync_types.specs.declared.lock_call.LockReply.{LockReply}
use Rattle.sync_types.specs.declared.lock_call.MutexCall.{MutexCall}
use Rattle.sync_types.specs.declared.lock_call.MutexCall.TheVariants as mutex_calls
use Rattle.mutex_core.specs.MutexMachine as mutex
use Rattle.mutex_core.specs.Moves as mutex_moves
use Rattle.mutex_core.specs.Standing as mutex_standing
use Rattle.mutex_core.specs.declared.place.Place.{Place as MutexPlace}
use Rattle.mutex_core.specs.declared.place.Place.TheVariants as mutex_place
use Rattle.mutex_core.specs.declared.reply.MutexReply.{MutexReply}
use Rattle.mutex_core.specs.declared.reply.MutexReply.TheVariants as mutex_reply
use Rattle.mutex_core.specs.declared.reply.Arrival.TheVariants as mutex_arrival
use Rattle.mutex_core.specs.declared.reply.Resumption.TheVariants as mutex_resumption
use Rattle.mutex_core.specs.declared.reply.Unlocking.TheVariants as mutex_unlocking
use Rattle.protocols.specs.MutexStages.{mutex_event, mutex_meaning}
use Rattle.protocols.specs.Spelling.{CallAnswer}
use Rattle.protocols.specs.declared.mutex.MutexStage.{MutexStage}
use Rattle.protocols.specs.declared.mutex.MutexStage.TheVariants as mutex_stage
use Rattle.protocols.specs.declared.step.Step.{Step}
use Rattle.run_record.specs.MutexKind.{mutex_part}
use Rattle.run_record.specs.Parts.{Part, read_as}
use Rattle.run_record.specs.Record.{object_number}
use Rattle.run_record.specs.declared.entered.ObjectEvent.TheVariants as events
use Rattle.run_record.specs.declared.entered.ObjectReply.TheVariants as answered
use Rattle.run_record.specs.declared.made.Made.{Made}
use Rattle.workload.specs.Plan.{Plan}
use Rattle.step_runner.specs.declared.turns.answer.Answer.TheVariants as answers
use Rattle.step_runner.specs.Due.{mutex_due, locked}
use Rattle.step_runner.specs.Items.{stage_items}
use Rattle.step_runner.specs.Stages.{outcome_of, make, answer_by}
use Rattle.step_runner.specs.Left.{mutex_waits, mutex_left}
use Rattle.step_runner.specs.Recorded.{recorded_reply, recorded}
use Rattle.step_runner.specs.Tells.{Tells}
use Rattle.step_runner.specs.MachinesStand.{MutexStands}
use Rattle.step_runner.proofs.SpellingLaws.{may}
use Rattle.step_runner.proofs.Refuted.{no}
use Rattle.step_runner.proofs.Spelled.{event_made, Continues, stage_tells}

module _ (law : MutexStands) (plan : Plan) (place worker moment : ℕ) where
  module _ (f : LockReply → Reply (List ℕ)) (reply : LockReply → Reply ℕ) (reads : (outcome : LockReply) → recorded_reply plan (f outcome) ≡ reply outcome) (left : Bool → Part (Reply ℕ))
      (goes_on : (rest : List Made) (given : CallAnswer (Reply ℕ)) → left true rest given → read_as reply (mutex_part (object_number place) mutex_stage.Resume) rest given) where
    abbrev Goes : MutexPlace → Step MutexStage LockReply → Type 0
    Goes q step = Continues events.Mutex answered.Mutex mutex_event mutex_meaning (object_number place) worker plan f reply reads (left (mutex_waits q)) step

    -- one that waits goes on
    queued : (p q : MutexPlace) → q ≡ (if worker == worker then mutex_place.Waiting else p) → (rest : List Made) (given : CallAnswer (Reply ℕ)) → left (mutex_waits q) rest given
        → read_as reply (mutex_part (object_number place) mutex_stage.Resume) rest given
    queued p q at rest given l =
        let is : mutex_waits q ≡ true = ap mutex_waits (at ∙ ap (λ (b : Bool). if b then mutex_place.Waiting else p) (eq-eqb worker worker refl)) in
        goes_on rest given (subst (λ (b : Bool). left b rest given) is l)

    goes : (stage : MutexStage) (p q : MutexPlace) (r : MutexReply) → mutex_standing.is_answer (mutex_event stage moment) r ≡ true → q ≡ mutex_moves.place_after worker worker p r → Goes q (mutex_meaning stage r)
    goes mutex_stage.Lock p q (mutex_reply.Arrived mutex_arrival.Acquired) is at = tt
    goes mutex_stage.Lock p q (mutex_reply.Arrived (mutex_arrival.Queued ticket)) is at = queued p q at
    goes mutex_stage.Lock p q r is at = no is
    goes mutex_stage.Unlock p q (mutex_reply.Unlocked mutex_unlocking.Free) is at = tt
    goes mutex_stage.Unlock p q (mutex_reply.Unlocked (mutex_unlocking.Woke ticket)) is at = tt
    goes mutex_stage.Unlock p q (mutex_reply.Unlocked (mutex_unlocking.Handed ticket)) is at = tt
    goes mutex_stage.Unlock p q (mutex_reply.Unlocked (mutex_unlocking.Misuse misuse)) is at = tt
    goes mutex_stage.Unlock p q r is at = no is
    goes mutex_stage.TryLock p q (mutex_reply.Tried taken) is at = tt
    goes mutex_stage.TryLock p q r is at = no is
    goes mutex_stage.Resume p q (mutex_reply.Resumed mutex_resumption.Acquired) is at = tt
    goes mutex_stage.Resume p q (mutex_reply.Resumed mutex_resumption.Requeued) is at = queued p q at
    goes mutex_stage.Resume p q r is at = no is

    pub mutex_answer : (stage : MutexStage) (m : mutex.State) (p : MutexPlace) → mutex.place_of m worker ≡ p → worker < m.callers → mutex.is_needed (mutex_event stage moment) p ≡ true
        → mutex_standing.is_answer (mutex_event stage moment) (mutex.next m worker (mutex_event stage moment)).1 ≡ true
    mutex_answer stage m p at below needed = law.answered m worker (mutex_event stage moment) (may worker m.callers (mutex.is_needed (mutex_event stage moment) (mutex.place_of m worker)) below (ap (mutex.is_needed (mutex_event stage moment)) at ∙ needed))

    -- a stage that its worker may make
    pub mutex_made : (stage : MutexStage) (m : mutex.State) (p : MutexPlace) → mutex.place_of m worker ≡ p → worker < m.callers → mutex.IsValid m → mutex.is_needed (mutex_event stage moment) p ≡ true
        → let n = mutex.next m worker (mutex_event stage moment) in
        Tells plan (read_as reply (mutex_part (object_number place) stage)) (left (mutex_waits (mutex.place_of n.0 worker)))
        (event_made events.Mutex answered.Mutex mutex_event mutex_meaning (object_number place) worker (mutex_event stage moment) n.1 ∷ []) (answer_by (λ o. answers.Completed (f o)) (outcome_of (mutex_meaning stage n.1)))
    mutex_made stage m p at below valid needed =
        let e = mutex_event stage moment in
        let n = mutex.next m worker e in
        stage_tells events.Mutex answered.Mutex mutex_event mutex_meaning (object_number place) worker plan f reply reads stage moment n.1 (left (mutex_waits (mutex.place_of n.0 worker)))
        (goes stage p (mutex.place_of n.0 worker) n.1 (mutex_answer stage m p at below needed) (law.moved m worker worker e valid ∙ ap (λ (q : MutexPlace). mutex_moves.place_after worker worker q n.1) at))

  -- a call of a mutex
  pub mutex_tells : (before : ℕ) (call : MutexCall) (p : MutexPlace) (m : mutex.State) → mutex.place_of m worker ≡ p → worker < m.callers → mutex.IsValid m
      → let made = make mutex.next mutex_event mutex_meaning worker moment (mutex_due call p) m in
      Tells plan (mutex_left (object_number place) call (mutex_waits p)) (mutex_left (object_number place) call (mutex_waits (mutex.place_of made.0 worker)))
      (recorded plan before (stage_items events.Mutex answered.Mutex mutex.next mutex_event worker moment place (mutex_due call p) m)) (answer_by locked made.1)
  mutex_tells before mutex_calls.Lock mutex_place.Out m at below valid =
      mutex_made replies.Lock replies.Lock (λ outcome. refl) (mutex_left (object_number place) mutex_calls.Lock) (λ rest given l. l) mutex_stage.Lock m mutex_place.Out at below valid refl
  mutex_tells before mutex_calls.Unlock mutex_place.Out m at below valid =
      mutex_made replies.Lock replies.Lock (λ outcome. refl) (mutex_left (object_number place) mutex_calls.Unlock) (λ rest given l. l) mutex_stage.Unlock m mutex_place.Out at below valid refl
  mutex_tells before mutex_calls.TryLock mutex_place.Out m at below valid =
      mutex_made replies.Lock replies.Lock (λ outcome. refl) (mutex_left (object_number place) mutex_calls.TryLock) (λ rest given l. l) mutex_stage.TryLock m mutex_place.Out at below valid refl
  mutex_tells before call mutex_place.Waiting m at below valid = refl
  mutex_tells before call mutex_place.Woken m at below valid =
      mutex_made replies.Lock replies.Lock (λ outcome. refl) (mutex_left (object_number place) call) (λ rest given l. l) mutex_stage.Resume m mutex_place.Woken at below valid refl
  mutex_tells before call mutex_place.Handed m at below valid =
      mutex_made replies.Lock replies.Lock (λ outcome. refl) (mutex_left (object_number place) call) (λ rest given l. l) mutex_stage.Resume m mutex_place.Handed at below valid refl
