-- A turn at a cond and its mutex spells the stages at both.
use Rattle.std.proofs.Common.{◌≡◌, ◌≢◌, ℕ, ◌<◌, Bool, true, false, List, [], ◌∷◌, ◌++◌, refl, sym, ap, ◌∙◌, subst}
use Rattle.std.specs.Prelude.{Ok, Err, slice_get, unwrap_or, is_some, Option, Some, None, nat_lt, if◌then◌else◌}
use Rattle.sync_model.specs.declared.answer.Answer.TheVariants.{Done}
use Rattle.script_calls.specs.declared.call.Reply.{Reply}
use Rattle.script_calls.specs.declared.call.Reply.TheVariants as replies
use Rattle.sync_types.specs.declared.lock_call.LockReply.{LockReply}
use Rattle.sync_types.specs.declared.lock_call.LockReply.TheVariants as lock_replies
use Rattle.sync_types.specs.declared.wait_call.CondCall.{CondCall}
use Rattle.sync_types.specs.declared.wait_call.CondCall.TheVariants as cond_calls
use Rattle.mutex_core.specs.MutexMachine as mutex
use Rattle.mutex_core.specs.Moves as mutex_moves
use Rattle.mutex_core.specs.Standing as mutex_standing
use Rattle.mutex_core.specs.declared.event.MutexEvent.TheVariants as mutex_events
use Rattle.mutex_core.specs.declared.place.Place.{Place as MutexPlace}
use Rattle.mutex_core.specs.declared.place.Place.TheVariants as mutex_place
use Rattle.mutex_core.specs.declared.reply.MutexReply.{MutexReply}
use Rattle.mutex_core.specs.declared.reply.MutexReply.TheVariants as mutex_reply
use Rattle.mutex_core.specs.declared.reply.Unlocking.TheVariants as mutex_unlocking
use Rattle.wait_cores.specs.NotifyMachine as notify
use Rattle.wait_cores.specs.NotifyStanding as notify_standing
use Rattle.wait_cores.specs.NotifyStanding.{has_ticket}
use Rattle.wait_cores.specs.declared.notify.NotifyPlace.{NotifyPlace}
use Rattle.wait_cores.specs.declared.notify.NotifyPlace.TheVariants as notify_place
use Rattle.wait_cores.specs.declared.notify.NotifyReply.{NotifyReply}
use Rattle.wait_cores.specs.declared.notify.NotifyReply.TheVariants as notify_reply
use Rattle.protocols.specs.CondStages.{cond_event, cond_meaning}
use Rattle.protocols.specs.MutexStages.{mutex_event, mutex_meaning}
use Rattle.protocols.specs.Spelling.{CallAnswer}
use Rattle.protocols.specs.declared.cond.CondStage.{CondStage}
use Rattle.protocols.specs.declared.cond.CondStage.TheVariants as cond_stage
use Rattle.protocols.specs.declared.mutex.MutexStage.{MutexStage}
use Rattle.protocols.specs.declared.mutex.MutexStage.TheVariants as mutex_stage
use Rattle.protocols.specs.declared.step.Step.{Step}
use Rattle.protocols.specs.declared.step.Step.TheVariants as steps
use Rattle.run_record.specs.CondKind.{cond_part}
use Rattle.run_record.specs.MutexKind.{mutex_part}
use Rattle.run_record.specs.Parts.{Part, read_as}
use Rattle.run_record.specs.Record.{object_number}
use Rattle.run_record.specs.declared.entered.ObjectEvent.TheVariants as events
use Rattle.run_record.specs.declared.entered.ObjectReply.TheVariants as answered
use Rattle.run_record.specs.declared.made.Made.{Made}
use Rattle.workload.specs.Plan.{Plan}
use Rattle.step_runner.specs.declared.turns.answer.Answer.{Answer}
use Rattle.step_runner.specs.declared.turns.answer.Answer.TheVariants as answers
use Rattle.step_runner.specs.Due.{cond_due, cond_answer, waited}
use Rattle.step_runner.specs.Items.{stage_items}
use Rattle.step_runner.specs.Stages.{outcome_of, make, answer_by}
use Rattle.step_runner.specs.Left.{mutex_waits, cond_left}
use Rattle.step_runner.specs.Recorded.{recorded}
use Rattle.step_runner.specs.Tells.{Tells}
use Rattle.step_runner.specs.MachinesStand.{MutexStands, CondStands}
use Rattle.step_runner.proofs.KindTurns.{Behind}
use Rattle.step_runner.proofs.SpellingLaws.{may}
use Rattle.step_runner.proofs.Refuted.{no}
use Rattle.step_runner.proofs.MutexSpelled.{mutex_made}
use Rattle.step_runner.proofs.Spelled.{event_made, says}

-- ---- whether a worker has a ticket, by its place

abbrev pub cond_waits : NotifyPlace → Bool
cond_waits notify_place.Out = false
cond_waits notify_place.Waiting = true
cond_waits notify_place.Notified = true

has_with : (notified : ℕ) (t : Option (Option ℕ)) → is_some (unwrap_or t None) ≡ cond_waits (notify.place_with notified t)
has_with notified (Some (Some ticket)) = by_test (nat_lt ticket notified)
  where
    by_test : (b : Bool) → true ≡ cond_waits (if b then notify_place.Notified else notify_place.Waiting)
    by_test true = refl
    by_test false = refl
has_with notified (Some None) = refl
has_with notified None = refl

pub has_where : (c : notify.NotifyState) (x : ℕ) → has_ticket c x ≡ cond_waits (notify.place_of c x)
has_where c x = has_with c.notified (slice_get c.tickets x)

-- ---- a part behind another one

-- one event more in front
more_first : (plan : Plan) (old behind new : Part (Reply ℕ)) (first made : Made) (a : Answer) → ((rest : List Made) (given : CallAnswer (Reply ℕ)) → behind rest given → old (first ∷ rest) given)
    → Tells plan behind new (made ∷ []) a → Tells plan old new (first ∷ made ∷ []) a
more_first plan old behind new first made answers.Still on told = absurd cc
more_first plan old behind new first made answers.Unfinished on told = λ later given l. on (made ∷ later) given (told later given l)
more_first plan old behind new first made (answers.Completed reply) on told = on (made ∷ []) _ told
more_first plan old behind new first made (answers.Misused misuse) on told = on (made ∷ []) _ told

-- what an answer leaves
-- where a worker stands before a call of the cond
abbrev pub CondStandsAt : ℕ → CondCall → notify.NotifyState → mutex.State → Type 0
CondStandsAt x cond_calls.Wait c m = has_ticket c x ≡ true → mutex.place_of m x ≡ mutex_place.Out
CondStandsAt x call c m = has_ticket c x ≡ false

-- and where it stands behind its turn
abbrev pub CondBehind : CondCall → ℕ → notify.NotifyState → mutex.State → Answer → Type 0
CondBehind call x c m a = Behind (CondStandsAt x call c m) (has_ticket c x ≡ false) a

module _ (law : MutexStands) (cond_law : CondStands) (plan : Plan) (place other worker moment : ℕ) where
  abbrev cond_made : CondStage → NotifyReply → Made
  cond_made stage r = event_made events.Cond answered.Cond cond_event cond_meaning (object_number place) worker (cond_event stage moment) r

  abbrev lock_made : MutexStage → MutexReply → Made
  lock_made stage r = event_made events.Mutex answered.Mutex mutex_event mutex_meaning (object_number other) worker (mutex_event stage moment) r

  abbrev left : Bool → Bool → Part (Reply ℕ)
  left has waits = cond_left (object_number place) (object_number other) cond_calls.Wait has waits

  -- an event of the cond that gets its answer
  cond_said : (stage : CondStage) (r : NotifyReply) → r ≢ notify_reply.Still → cond_part (object_number place) stage (cond_made stage r ∷ []) (Done (Ok tt))
  cond_said stage notify_reply.Still made = absurd (made refl)
  cond_said cond_stage.Ticket notify_reply.Done made = says events.Cond answered.Cond cond_event cond_meaning (object_number place) worker cond_stage.Ticket moment notify_reply.Done (steps.Finished tt) refl
  cond_said cond_stage.Leave notify_reply.Done made = says events.Cond answered.Cond cond_event cond_meaning (object_number place) worker cond_stage.Leave moment notify_reply.Done (steps.Finished tt) refl
  cond_said cond_stage.Signal notify_reply.Done made = says events.Cond answered.Cond cond_event cond_meaning (object_number place) worker cond_stage.Signal moment notify_reply.Done (steps.Finished tt) refl
  cond_said cond_stage.Broadcast notify_reply.Done made = says events.Cond answered.Cond cond_event cond_meaning (object_number place) worker cond_stage.Broadcast moment notify_reply.Done (steps.Finished tt) refl

  taken : (has : Bool) (r : NotifyReply) → r ≢ notify_reply.Still → notify_standing.after_taking has r ≡ true
  taken has notify_reply.Done made = refl
  taken has notify_reply.Still made = absurd (made refl)

  gone : (has : Bool) (r : NotifyReply) → r ≢ notify_reply.Still → notify_standing.after_leaving has r ≡ false
  gone has notify_reply.Done made = refl
  gone has notify_reply.Still made = absurd (made refl)

  made_there : (stage : CondStage) (c : notify.NotifyState) → worker < notify.callers_of c → notify_standing.is_needed (cond_event stage moment) (notify.place_of c worker) ≡ true → (notify.next c worker (cond_event stage moment)).1 ≢ notify_reply.Still
  made_there stage c below needed = cond_law.made c worker (cond_event stage moment) (may worker (notify.callers_of c) (notify_standing.is_needed (cond_event stage moment) (notify.place_of c worker)) below needed)

  -- an unlock leaves its worker out
  untold : (m : mutex.State) → mutex.place_of m worker ≡ mutex_place.Out → mutex.IsValid m → (b : Bool) → mutex_moves.tells worker (mutex.next m worker mutex_events.Unlock).1 ≡ b → b ≡ false
  untold m at valid true told = let clash : mutex_place.Out ≡ mutex_place.Waiting = sym at ∙ (law.told m worker worker mutex_events.Unlock valid told).1 in cc
  untold m at valid false told = refl

  stays_out : (r : MutexReply) → mutex_standing.is_answer mutex_events.Unlock r ≡ true → mutex_moves.tells worker r ≡ false → mutex_moves.place_after worker worker mutex_place.Out r ≡ mutex_place.Out
  stays_out (mutex_reply.Unlocked mutex_unlocking.Free) is told = refl
  stays_out (mutex_reply.Unlocked (mutex_unlocking.Woke ticket)) is told = ap (λ (b : Bool). if b then mutex_place.Woken else mutex_place.Out) told
  stays_out (mutex_reply.Unlocked (mutex_unlocking.Handed ticket)) is told = ap (λ (b : Bool). if b then mutex_place.Handed else mutex_place.Out) told
  stays_out (mutex_reply.Unlocked (mutex_unlocking.Misuse misuse)) is told = refl
  stays_out r is told = no is

  unlock_answer : (m : mutex.State) → worker < m.callers → mutex_standing.is_answer mutex_events.Unlock (mutex.next m worker mutex_events.Unlock).1 ≡ true
  unlock_answer m below = law.answered m worker mutex_events.Unlock (may worker m.callers true below refl)

  unlock_out : (m : mutex.State) → mutex.place_of m worker ≡ mutex_place.Out → worker < m.callers → mutex.IsValid m → mutex.place_of (mutex.next m worker mutex_events.Unlock).0 worker ≡ mutex_place.Out
  unlock_out m at below valid =
      let n = mutex.next m worker mutex_events.Unlock in
      law.moved m worker worker mutex_events.Unlock valid ∙ ap (λ (p : MutexPlace). mutex_moves.place_after worker worker p n.1) at
      ∙ stays_out n.1 (unlock_answer m below) (untold m at valid (mutex_moves.tells worker n.1) refl)

  -- a wait begins
  abbrev Told : Part (Reply ℕ) → List Made → notify.NotifyState → mutex.State → Answer → Type 0
  Told old made c m a = Tells plan old (left (has_ticket c worker) (mutex_waits (mutex.place_of m worker))) made a × CondBehind cond_calls.Wait worker c m a

  begins : (c : notify.NotifyState) (m : mutex.State) (r : NotifyReply) (s : MutexReply) → r ≢ notify_reply.Still → mutex_standing.is_answer mutex_events.Unlock s ≡ true → has_ticket c worker ≡ true → mutex.place_of m worker ≡ mutex_place.Out
      → Told (left false false) (cond_made cond_stage.Ticket r ∷ lock_made mutex_stage.Unlock s ∷ []) c m (answer_by (waited (Some mutex_stage.Unlock)) (outcome_of (mutex_meaning mutex_stage.Unlock s)))
  begins c m r s made is has out = by_reply s is
    where
      lock_said : (s : MutexReply) (step : Step MutexStage LockReply) → mutex_meaning mutex_stage.Unlock s ≡ step → (outcome : LockReply) → step ≡ steps.Finished outcome → mutex_part (object_number other) mutex_stage.Unlock (lock_made mutex_stage.Unlock s ∷ []) (Done (Ok outcome))
      lock_said s step means outcome is = says events.Mutex answered.Mutex mutex_event mutex_meaning (object_number other) worker mutex_stage.Unlock moment s (steps.Finished outcome) (means ∙ is)

      goes_on : (s : MutexReply) → mutex_meaning mutex_stage.Unlock s ≡ steps.Finished lock_replies.Done
          → Told (left false false) (cond_made cond_stage.Ticket r ∷ lock_made mutex_stage.Unlock s ∷ []) c m answers.Unfinished
      goes_on s means = (
        λ rest given l. (
          cond_made cond_stage.Ticket r ∷ [],
          lock_made mutex_stage.Unlock s ∷ rest,
          Done (Ok tt),
          refl,
          cond_said cond_stage.Ticket r made,
          (
            lock_made mutex_stage.Unlock s ∷ [],
            rest,
            Done (Ok lock_replies.Done),
            refl,
            lock_said s (mutex_meaning mutex_stage.Unlock s) refl lock_replies.Done means,
            subst (λ (b : Bool). left b false rest given) has (subst (λ (b : Bool). left (has_ticket c worker) b rest given) (ap mutex_waits out) l),
          ),
        ),
        λ has. out,
      )

      by_reply : (s : MutexReply) → mutex_standing.is_answer mutex_events.Unlock s ≡ true
          → Told (left false false) (cond_made cond_stage.Ticket r ∷ lock_made mutex_stage.Unlock s ∷ []) c m (answer_by (waited (Some mutex_stage.Unlock)) (outcome_of (mutex_meaning mutex_stage.Unlock s)))
      by_reply (mutex_reply.Unlocked mutex_unlocking.Free) is = goes_on (mutex_reply.Unlocked mutex_unlocking.Free) refl
      by_reply (mutex_reply.Unlocked (mutex_unlocking.Woke ticket)) is = goes_on (mutex_reply.Unlocked (mutex_unlocking.Woke ticket)) refl
      by_reply (mutex_reply.Unlocked (mutex_unlocking.Handed ticket)) is = goes_on (mutex_reply.Unlocked (mutex_unlocking.Handed ticket)) refl
      by_reply (mutex_reply.Unlocked (mutex_unlocking.Misuse misuse)) is = (
        (
          cond_made cond_stage.Ticket r ∷ [],
          lock_made mutex_stage.Unlock (mutex_reply.Unlocked (mutex_unlocking.Misuse misuse)) ∷ [],
          Done (Ok tt),
          refl,
          cond_said cond_stage.Ticket r made,
          (
            lock_made mutex_stage.Unlock (mutex_reply.Unlocked (mutex_unlocking.Misuse misuse)) ∷ [],
            [],
            Done (Err misuse),
            refl,
            says events.Mutex answered.Mutex mutex_event mutex_meaning (object_number other) worker mutex_stage.Unlock moment (mutex_reply.Unlocked (mutex_unlocking.Misuse misuse)) (steps.Misused misuse) refl,
            (refl, refl),
          ),
        ),
        tt,
      )
      by_reply s is = no is

  -- a lock within the wait, where it has no ticket any more
  again : (has : Bool) (stage : MutexStage) (m : mutex.State) (p : MutexPlace) → mutex.place_of m worker ≡ p → worker < m.callers → mutex.IsValid m → mutex.is_needed (mutex_event stage moment) p ≡ true
      → let n = mutex.next m worker (mutex_event stage moment) in
      Tells plan (read_as (λ locked. replies.Returned) (mutex_part (object_number other) stage)) (left has (mutex_waits (mutex.place_of n.0 worker))) (lock_made stage n.1 ∷ []) (answer_by (λ o. answers.Completed replies.Returned) (outcome_of (mutex_meaning stage n.1)))
  again has stage m p at below valid needed =
      mutex_made law plan other worker moment (λ o. replies.Returned) (λ o. replies.Returned) (λ o. refl) (left has) (λ rest given l. l) stage m p at below valid needed

  -- a lock has an event, so its answer isn't Still: a worker without a ticket stands well whatever it is
  no_ticket : (c : notify.NotifyState) (m : mutex.State) (a : Answer) → has_ticket c worker ≡ false → CondBehind cond_calls.Wait worker c m a
  no_ticket c m answers.Still has = λ is. no (sym has ∙ is)
  no_ticket c m answers.Unfinished has = λ is. no (sym has ∙ is)
  no_ticket c m (answers.Completed reply) has = has
  no_ticket c m (answers.Misused misuse) has = tt

  abbrev WaitTurn : ℕ → MutexPlace → NotifyPlace → notify.NotifyState → mutex.State → Type 0
  WaitTurn before p q c m =
      let due = cond_due cond_calls.Wait p q in
      let at_cond = make notify.next cond_event cond_meaning worker moment due.0 c in
      let at_mutex = make mutex.next mutex_event mutex_meaning worker moment due.1 m in
      Told (left (cond_waits q) (mutex_waits p))
      (recorded plan before (stage_items events.Cond answered.Cond notify.next cond_event worker moment place due.0 c ++ stage_items events.Mutex answered.Mutex mutex.next mutex_event worker moment other due.1 m))
      at_cond.0 at_mutex.0 (cond_answer cond_calls.Wait due.1 at_mutex.1)

  wait_tells : (before : ℕ) (p : MutexPlace) (q : NotifyPlace) (c : notify.NotifyState) (m : mutex.State) → mutex.place_of m worker ≡ p → notify.place_of c worker ≡ q
      → (has_ticket c worker ≡ true → mutex.place_of m worker ≡ mutex_place.Out) → worker < notify.callers_of c → worker < m.callers → mutex.IsValid m → WaitTurn before p q c m
  wait_tells before mutex_place.Out notify_place.Out c m at there stands below within valid =
      let made = made_there cond_stage.Ticket c below refl in
      let d = notify.next c worker (cond_event cond_stage.Ticket moment) in
      let n = mutex.next m worker mutex_events.Unlock in
      begins d.0 n.0 d.1 n.1 made (unlock_answer m within) (cond_law.own c worker (cond_event cond_stage.Ticket moment) ∙ taken (has_ticket c worker) d.1 made) (unlock_out m at within valid)
  wait_tells before mutex_place.Out notify_place.Waiting c m at there stands below within valid = (refl, stands)
  wait_tells before mutex_place.Out notify_place.Notified c m at there stands below within valid =
      let made = made_there cond_stage.Leave c below (ap (notify_standing.is_needed (cond_event cond_stage.Leave moment)) there) in
      let d = notify.next c worker (cond_event cond_stage.Leave moment) in
      let n = mutex.next m worker (mutex_event mutex_stage.Lock moment) in
      let a = answer_by (λ o. answers.Completed replies.Returned) (outcome_of (mutex_meaning mutex_stage.Lock n.1)) in
      let gone_now : has_ticket d.0 worker ≡ false = cond_law.own c worker (cond_event cond_stage.Leave moment) ∙ gone (has_ticket c worker) d.1 made in (
        more_first plan (left true false) (read_as (λ locked. replies.Returned) (mutex_part (object_number other) mutex_stage.Lock)) (left (has_ticket d.0 worker) (mutex_waits (mutex.place_of n.0 worker)))
            (cond_made cond_stage.Leave d.1) (lock_made mutex_stage.Lock n.1) a
            (λ rest given l. (cond_made cond_stage.Leave d.1 ∷ [], rest, Done (Ok tt), refl, cond_said cond_stage.Leave d.1 made, l))
            (again (has_ticket d.0 worker) mutex_stage.Lock m mutex_place.Out at within valid refl),
        no_ticket d.0 n.0 a gone_now,
      )
  wait_tells before mutex_place.Waiting q c m at there stands below within valid = (refl, stands)
  wait_tells before mutex_place.Woken q c m at there stands below within valid =
      let n = mutex.next m worker (mutex_event mutex_stage.Resume moment) in
      (again (has_ticket c worker) mutex_stage.Resume m mutex_place.Woken at within valid refl, no_ticket c n.0 _ (elsewhere (has_ticket c worker) refl (λ is. let clash : mutex_place.Woken ≡ mutex_place.Out = sym at ∙ stands is in cc)))
    where
      elsewhere : (b : Bool) → has_ticket c worker ≡ b → (b ≡ true → ⊥) → b ≡ false
      elsewhere true is never = absurd (never refl)
      elsewhere false is never = refl
  wait_tells before mutex_place.Handed q c m at there stands below within valid =
      let n = mutex.next m worker (mutex_event mutex_stage.Resume moment) in
      (again (has_ticket c worker) mutex_stage.Resume m mutex_place.Handed at within valid refl, no_ticket c n.0 _ (elsewhere (has_ticket c worker) refl (λ is. let clash : mutex_place.Handed ≡ mutex_place.Out = sym at ∙ stands is in cc)))
    where
      elsewhere : (b : Bool) → has_ticket c worker ≡ b → (b ≡ true → ⊥) → b ≡ false
      elsewhere true is never = absurd (never refl)
      elsewhere false is never = refl

  pub cond_tells : (before : ℕ) (call : CondCall) (c : notify.NotifyState) (m : mutex.State) → CondStandsAt worker call c m → worker < notify.callers_of c → worker < m.callers → mutex.IsValid m
      → let due = cond_due call (mutex.place_of m worker) (notify.place_of c worker) in
      let at_cond = make notify.next cond_event cond_meaning worker moment due.0 c in
      let at_mutex = make mutex.next mutex_event mutex_meaning worker moment due.1 m in
      Tells plan (cond_left (object_number place) (object_number other) call (has_ticket c worker) (mutex_waits (mutex.place_of m worker))) (cond_left (object_number place) (object_number other) call (has_ticket at_cond.0 worker) (mutex_waits (mutex.place_of at_mutex.0 worker)))
      (recorded plan before (stage_items events.Cond answered.Cond notify.next cond_event worker moment place due.0 c ++ stage_items events.Mutex answered.Mutex mutex.next mutex_event worker moment other due.1 m))
      (cond_answer call due.1 at_mutex.1)
      × CondBehind call worker at_cond.0 at_mutex.0 (cond_answer call due.1 at_mutex.1)
  cond_tells before cond_calls.Wait c m stands below within valid =
      let p = mutex.place_of m worker in
      let q = notify.place_of c worker in
      let due = cond_due cond_calls.Wait p q in
      let at_cond = make notify.next cond_event cond_meaning worker moment due.0 c in
      let at_mutex = make mutex.next mutex_event mutex_meaning worker moment due.1 m in
      subst (λ (b : Bool). Told (left b (mutex_waits p))
      (recorded plan before (stage_items events.Cond answered.Cond notify.next cond_event worker moment place due.0 c ++ stage_items events.Mutex answered.Mutex mutex.next mutex_event worker moment other due.1 m))
      at_cond.0 at_mutex.0 (cond_answer cond_calls.Wait due.1 at_mutex.1)) (sym (has_where c worker))
      (wait_tells before p q c m refl refl stands below within valid)
  cond_tells before cond_calls.Signal c m stands below within valid =
      let e = cond_event cond_stage.Signal moment in
      ((Done (Ok tt), cond_said cond_stage.Signal (notify.next c worker e).1 (made_there cond_stage.Signal c below refl), refl), cond_law.own c worker e ∙ stands)
  cond_tells before cond_calls.Broadcast c m stands below within valid =
      let e = cond_event cond_stage.Broadcast moment in
      ((Done (Ok tt), cond_said cond_stage.Broadcast (notify.next c worker e).1 (made_there cond_stage.Broadcast c below refl), refl), cond_law.own c worker e ∙ stands)
