-- A turn at a reader/writer mutex spells its stage.
use Rattle.std.proofs.Common.{◌≡◌, ◌⊎◌, ℕ, ◌<◌, true, false, List, [], ◌∷◌, map, Option, Some, inl, inr, refl, ap, ◌∙◌, subst}
use Rattle.std.specs.Prelude.{Ok}
use Rattle.sync_model.specs.declared.answer.Answer.TheVariants.{Done}
use Rattle.sync_model.specs.declared.journal.Deed.TheVariants.{Event}
use Rattle.sync_model.specs.declared.journal.Entry.{Entry}
use Rattle.script_calls.specs.declared.call.Operation.TheVariants as operations
use Rattle.script_calls.specs.declared.call.Reply.{Reply}
use Rattle.script_calls.specs.declared.call.Reply.TheVariants as replies
use Rattle.sync_types.specs.declared.lock_call.LockReply.{LockReply}
use Rattle.sync_types.specs.declared.lock_call.LockReply.TheVariants as lock_replies
use Rattle.sync_types.specs.declared.lock_call.RwMutexCall.{RwMutexCall}
use Rattle.sync_types.specs.declared.lock_call.RwMutexCall.TheVariants as rw_calls
use Rattle.rw_core.specs.RwMachine as rw
use Rattle.rw_core.specs.Moves as rw_moves
use Rattle.rw_core.specs.Standing as rw_standing
use Rattle.rw_core.specs.declared.event.RwEvent.{RwEvent}
use Rattle.rw_core.specs.declared.event.RwEvent.TheVariants as event
use Rattle.rw_core.specs.declared.place.Place.{Place as RwPlace}
use Rattle.rw_core.specs.declared.place.Place.TheVariants as rw_place
use Rattle.rw_core.specs.declared.reply.RwReply.{RwReply}
use Rattle.rw_core.specs.declared.reply.RwReply.TheVariants as rw_reply
use Rattle.rw_core.specs.declared.reply.Arrival.TheVariants as rw_arrival
use Rattle.rw_core.specs.declared.reply.Resumption.TheVariants as rw_resumption
use Rattle.rw_core.specs.declared.reply.Unlocking.TheVariants as rw_unlocking
use Rattle.protocols.specs.RwMutexStages.{rw_event, rw_meaning}
use Rattle.protocols.specs.Spelling.{CallAnswer}
use Rattle.protocols.specs.declared.rw_mutex.RwMutexStage.{RwMutexStage}
use Rattle.protocols.specs.declared.rw_mutex.RwMutexStage.TheVariants as rw_stage
use Rattle.protocols.specs.declared.step.Step.{Step}
use Rattle.protocols.specs.declared.step.Step.TheVariants.{Finished}
use Rattle.run_record.specs.Parts.{Part, read_as, stages}
use Rattle.run_record.specs.Record.{object_number}
use Rattle.run_record.specs.RwMutexKind.{rw_mutex_call}
use Rattle.run_record.specs.declared.entered.ObjectEvent.TheVariants as events
use Rattle.run_record.specs.declared.entered.ObjectReply.TheVariants as answered
use Rattle.run_record.specs.declared.made.Made.{Made}
use Rattle.workload.specs.Plan.{Plan}
use Rattle.step_runner.specs.Due.{rw_due, locked}
use Rattle.step_runner.specs.Items.{stage_items}
use Rattle.step_runner.specs.Stands.{may_wait}
use Rattle.step_runner.specs.Stages.{outcome_of, make, answer_by}
use Rattle.step_runner.specs.Left.{rw_waits, rw_later, rw_left}
use Rattle.step_runner.specs.Recorded.{recorded}
use Rattle.step_runner.specs.Tells.{Tells}
use Rattle.step_runner.specs.Within.{StandsAtRw}
use Rattle.step_runner.specs.MachinesStand.{MutexStands, RwStands}
use Rattle.step_runner.proofs.SpellingLaws.{may}
use Rattle.step_runner.proofs.Refuted.{no}
use Rattle.step_runner.proofs.WriterGoesOn.{knows_where, queued_first}
use Rattle.step_runner.proofs.RwSides.{reads_after, writes_after, WriterPlace, ReaderPlace, no_reader, no_writer}
use Rattle.step_runner.proofs.Spelled.{event_made, Continues, says, stage_tells}

-- where the worker may stand within the call
abbrev pub RwFits : RwMutexCall → RwPlace → Type 0
RwFits rw_calls.Lock p = WriterPlace p
RwFits rw_calls.RLock p = ReaderPlace p
RwFits call p = p ≡ rw_place.Out

module _ (law : RwStands) (plan : Plan) (place worker moment : ℕ) where
  abbrev from : RwMutexStage → Part (Reply ℕ)
  from stage = read_as replies.Lock (stages events.RwMutex answered.RwMutex rw_event rw_meaning (object_number place) stage)

  abbrev made_of : RwMutexStage → RwReply → Made
  made_of stage r = event_made events.RwMutex answered.RwMutex rw_event rw_meaning (object_number place) worker (rw_event stage moment) r

  abbrev Goes : RwMutexCall → RwPlace → Step RwMutexStage LockReply → Type 0
  Goes call q step = Continues events.RwMutex answered.RwMutex rw_event rw_meaning (object_number place) worker plan replies.Lock replies.Lock (λ outcome. refl) (rw_left (object_number place) call (rw_waits q)) step

  -- how a call goes on by such a stage
  abbrev Later : RwMutexCall → RwMutexStage → Type 0
  Later call rw_stage.Lock = ⊥
  Later call rw_stage.Resume = ⊥
  Later call rw_stage.LeaveWriting = ⊥
  Later call rw_stage.RLock = (s : RwMutexStage) → rw_later call s ≡ rw_stage.LeaveReading
  Later call rw_stage.Inner = (s : RwMutexStage) → rw_later call s ≡ s
  Later call stage = Unit {0}

  queued : (call : RwMutexCall) (stage s : RwMutexStage) (q : RwPlace) → rw_later call s ≡ stage → rw_waits q ≡ Some s → (rest : List Made) (given : CallAnswer (Reply ℕ)) → rw_left (object_number place) call (rw_waits q) rest given → from stage rest given
  queued call stage s q is waits rest given l = subst (λ (z : RwMutexStage). from z rest given) is (subst (λ (w : Option RwMutexStage). rw_left (object_number place) call w rest given) waits l)

  goes : (call : RwMutexCall) (stage : RwMutexStage) (p q : RwPlace) (r : RwReply) → Later call stage → rw_standing.is_answer (rw_event stage moment) r ≡ true → rw_moves.MovesOwn r p q → Goes call q (rw_meaning stage r)
  goes call rw_stage.Lock p q r later is moves = absurd later
  goes call rw_stage.Resume p q r later is moves = absurd later
  goes call rw_stage.LeaveWriting p q r later is moves = absurd later
  goes call rw_stage.RLock p q (rw_reply.Arrived rw_arrival.Acquired) later is moves = tt
  goes call rw_stage.RLock p q (rw_reply.Arrived rw_arrival.Queued) later is moves = elim moves [
    | inl at ↦ queued call rw_stage.LeaveReading rw_stage.Inner q (later rw_stage.Inner) (ap rw_waits at)
    | inr at ↦ queued call rw_stage.LeaveReading rw_stage.Behind q (later rw_stage.Behind) (ap rw_waits at)
  ]
  goes call rw_stage.RLock p q r later is moves = no is
  goes call rw_stage.Unlock p q (rw_reply.Unlocked rw_unlocking.Done) later is moves = tt
  goes call rw_stage.Unlock p q (rw_reply.Unlocked (rw_unlocking.Misuse misuse)) later is moves = tt
  goes call rw_stage.Unlock p q r later is moves = no is
  goes call rw_stage.RUnlock p q (rw_reply.Unlocked rw_unlocking.Done) later is moves = tt
  goes call rw_stage.RUnlock p q (rw_reply.Unlocked (rw_unlocking.Misuse misuse)) later is moves = tt
  goes call rw_stage.RUnlock p q r later is moves = no is
  goes call rw_stage.TryLock p q (rw_reply.Tried taken) later is moves = tt
  goes call rw_stage.TryLock p q r later is moves = no is
  goes call rw_stage.TryRLock p q (rw_reply.Tried taken) later is moves = tt
  goes call rw_stage.TryRLock p q r later is moves = no is
  goes call rw_stage.Inner p q (rw_reply.Resumed rw_resumption.Acquired) later is moves = tt
  goes call rw_stage.Inner p q (rw_reply.Resumed rw_resumption.Queued) later is moves = queued call rw_stage.Behind rw_stage.Behind q (later rw_stage.Behind) (ap rw_waits moves)
  goes call rw_stage.Inner p q (rw_reply.Resumed rw_resumption.Requeued) later is moves = queued call rw_stage.Inner rw_stage.Inner q (later rw_stage.Inner) (ap rw_waits moves)
  goes call rw_stage.Inner p q r later is moves = no is
  goes call rw_stage.Behind p q rw_reply.Left later is moves = tt
  goes call rw_stage.Behind p q r later is moves = no is
  goes call rw_stage.LeaveReading p q rw_reply.Left later is moves = tt
  goes call rw_stage.LeaveReading p q r later is moves = no is

  rw_answer : (stage : RwMutexStage) (m : rw.State) (p : RwPlace) → rw.place_of m worker ≡ p → worker < m.callers → rw.is_needed (rw_event stage moment) p ≡ true
      → rw_standing.is_answer (rw_event stage moment) (rw.next m worker (rw_event stage moment)).1 ≡ true
  rw_answer stage m p at below needed = law.answered m worker (rw_event stage moment) (may worker m.callers (rw.is_needed (rw_event stage moment) (rw.place_of m worker)) below (ap (rw.is_needed (rw_event stage moment)) at ∙ needed))

  rw_made : (call : RwMutexCall) (stage : RwMutexStage) (m : rw.State) (p : RwPlace) → rw.place_of m worker ≡ p → worker < m.callers → rw.IsValid m → rw.is_needed (rw_event stage moment) p ≡ true → Later call stage
      → let n = rw.next m worker (rw_event stage moment) in
      Tells plan (from stage) (rw_left (object_number place) call (rw_waits (rw.place_of n.0 worker))) (made_of stage n.1 ∷ []) (answer_by locked (outcome_of (rw_meaning stage n.1)))
  rw_made call stage m p at below valid needed later =
      let n = rw.next m worker (rw_event stage moment) in
      stage_tells events.RwMutex answered.RwMutex rw_event rw_meaning (object_number place) worker plan replies.Lock replies.Lock (λ outcome. refl) stage moment n.1 (rw_left (object_number place) call (rw_waits (rw.place_of n.0 worker)))
      (goes call stage (rw.place_of m worker) (rw.place_of n.0 worker) n.1 later (rw_answer stage m p at below needed) (law.own m worker (rw_event stage moment) valid))

  waits_there : (q : RwPlace) → (q ≡ rw_place.Queued) ⊎ (q ≡ rw_place.Waiting) → (s : RwMutexStage) × (knows_where s ≡ true) × (rw_waits q ≡ Some s)
  waits_there q moves = elim moves [
    | inl at ↦ (rw_stage.Inner, refl, ap rw_waits at)
    | inr at ↦ (rw_stage.Behind, refl, ap rw_waits at)
  ]

  -- a writer's arrival has the lock, or is followed by what is left where it waits
  arrives : (q : RwPlace) (r : RwReply) → rw_standing.is_answer (event.WriteArrive moment) r ≡ true → (r ≡ rw_reply.Arrived rw_arrival.Queued → (s : RwMutexStage) × (knows_where s ≡ true) × (rw_waits q ≡ Some s))
      → Tells plan (rw_mutex_call (object_number place) rw_calls.Lock) (rw_left (object_number place) rw_calls.Lock (rw_waits q)) (made_of rw_stage.Lock r ∷ []) (answer_by locked (outcome_of (rw_meaning rw_stage.Lock r)))
  arrives q (rw_reply.Arrived rw_arrival.Acquired) is waits =
      let at_once = says events.RwMutex answered.RwMutex rw_event rw_meaning (object_number place) worker rw_stage.Lock moment (rw_reply.Arrived rw_arrival.Acquired) (Finished lock_replies.Done) refl in
      (Done (Ok lock_replies.Done), (at_once.0, at_once.1, (map (λ entry. entry.deed) at_once.0, refl, at_once.2)), refl)
  arrives q (rw_reply.Arrived rw_arrival.Queued) is waits = λ later answer left.
      let w = waits refl in
      let l = subst (λ (o : Option RwMutexStage). rw_left (object_number place) rw_calls.Lock o later answer) w.2 left in
      let arrival : Entry RwEvent RwReply = record { caller = worker; deed = Event (event.WriteArrive moment) (rw_reply.Arrived rw_arrival.Queued); front = []; knew = 0; time = 0 } in
      (l.0, (arrival ∷ l.1.0, ap (λ (made : List Made). made_of rw_stage.Lock (rw_reply.Arrived rw_arrival.Queued) ∷ made) l.1.1, queued_first moment w.0 (map (λ entry. entry.deed) l.1.0) l.0 w.1 l.1.2), l.2)
  arrives q r is waits = no is

  pub rw_tells : (before : ℕ) (call : RwMutexCall) (p : RwPlace) (m : rw.State) → rw.place_of m worker ≡ p → RwFits call p → worker < m.callers → rw.IsValid m
      → let made = make rw.next rw_event rw_meaning worker moment (rw_due call p) m in
      Tells plan (rw_left (object_number place) call (rw_waits p)) (rw_left (object_number place) call (rw_waits (rw.place_of made.0 worker)))
      (recorded plan before (stage_items events.RwMutex answered.RwMutex rw.next rw_event worker moment place (rw_due call p) m)) (answer_by locked made.1)
  rw_tells before rw_calls.Lock rw_place.Out m at fits below valid =
      let n = rw.next m worker (event.WriteArrive moment) in
      arrives (rw.place_of n.0 worker) n.1 (rw_answer rw_stage.Lock m rw_place.Out at below refl)
      (λ is. waits_there (rw.place_of n.0 worker) (subst (λ (r : RwReply). rw_moves.MovesOwn r (rw.place_of m worker) (rw.place_of n.0 worker)) is (law.own m worker (event.WriteArrive moment) valid)))
  rw_tells before rw_calls.Unlock rw_place.Out m at fits below valid = rw_made rw_calls.Unlock rw_stage.Unlock m rw_place.Out at below valid refl tt
  rw_tells before rw_calls.TryLock rw_place.Out m at fits below valid = rw_made rw_calls.TryLock rw_stage.TryLock m rw_place.Out at below valid refl tt
  rw_tells before rw_calls.RLock rw_place.Out m at fits below valid = rw_made rw_calls.RLock rw_stage.RLock m rw_place.Out at below valid refl (λ s. refl)
  rw_tells before rw_calls.RUnlock rw_place.Out m at fits below valid = rw_made rw_calls.RUnlock rw_stage.RUnlock m rw_place.Out at below valid refl tt
  rw_tells before rw_calls.TryRLock rw_place.Out m at fits below valid = rw_made rw_calls.TryRLock rw_stage.TryRLock m rw_place.Out at below valid refl tt
  rw_tells before call rw_place.Queued m at fits below valid = refl
  rw_tells before call rw_place.Waiting m at fits below valid = refl
  rw_tells before rw_calls.Lock rw_place.Woken m at fits below valid = rw_made rw_calls.Lock rw_stage.Inner m rw_place.Woken at below valid refl (λ s. refl)
  rw_tells before rw_calls.RLock rw_place.Woken m at fits below valid = absurd fits
  rw_tells before rw_calls.Unlock rw_place.Woken m at fits below valid = absurd cc
  rw_tells before rw_calls.TryLock rw_place.Woken m at fits below valid = absurd cc
  rw_tells before rw_calls.RUnlock rw_place.Woken m at fits below valid = absurd cc
  rw_tells before rw_calls.TryRLock rw_place.Woken m at fits below valid = absurd cc
  rw_tells before rw_calls.Lock rw_place.Handed m at fits below valid = rw_made rw_calls.Lock rw_stage.Inner m rw_place.Handed at below valid refl (λ s. refl)
  rw_tells before rw_calls.RLock rw_place.Handed m at fits below valid = absurd fits
  rw_tells before rw_calls.Unlock rw_place.Handed m at fits below valid = absurd cc
  rw_tells before rw_calls.TryLock rw_place.Handed m at fits below valid = absurd cc
  rw_tells before rw_calls.RUnlock rw_place.Handed m at fits below valid = absurd cc
  rw_tells before rw_calls.TryRLock rw_place.Handed m at fits below valid = absurd cc
  rw_tells before rw_calls.Lock rw_place.Granted m at fits below valid = rw_made rw_calls.Lock rw_stage.Behind m rw_place.Granted at below valid refl tt
  rw_tells before rw_calls.RLock rw_place.Granted m at fits below valid = absurd fits
  rw_tells before rw_calls.Unlock rw_place.Granted m at fits below valid = absurd cc
  rw_tells before rw_calls.TryLock rw_place.Granted m at fits below valid = absurd cc
  rw_tells before rw_calls.RUnlock rw_place.Granted m at fits below valid = absurd cc
  rw_tells before rw_calls.TryRLock rw_place.Granted m at fits below valid = absurd cc
  rw_tells before rw_calls.Lock rw_place.Admitted m at fits below valid = absurd fits
  rw_tells before rw_calls.RLock rw_place.Admitted m at fits below valid = rw_made rw_calls.RLock rw_stage.LeaveReading m rw_place.Admitted at below valid refl tt
  rw_tells before rw_calls.Unlock rw_place.Admitted m at fits below valid = absurd cc
  rw_tells before rw_calls.TryLock rw_place.Admitted m at fits below valid = absurd cc
  rw_tells before rw_calls.RUnlock rw_place.Admitted m at fits below valid = absurd cc
  rw_tells before rw_calls.TryRLock rw_place.Admitted m at fits below valid = absurd cc

-- it stands as its call says, behind its own turn too
pub stands_fit : (call : RwMutexCall) (x : ℕ) (m : rw.State) → StandsAtRw call x m → (may_wait (operations.RwMutex call) ≡ false → rw.place_of m x ≡ rw_place.Out) → RwFits call (rw.place_of m x)
stands_fit rw_calls.Lock x m stands out = no_reader x m stands
stands_fit rw_calls.RLock x m stands out = no_writer x m stands
stands_fit rw_calls.Unlock x m stands out = out refl
stands_fit rw_calls.TryLock x m stands out = out refl
stands_fit rw_calls.RUnlock x m stands out = out refl
stands_fit rw_calls.TryRLock x m stands out = out refl

pub stands_on : MutexStands → (call : RwMutexCall) (x moment : ℕ) (p : RwPlace) (m : rw.State) → RwFits call p → rw.IsValid m → StandsAtRw call x m → StandsAtRw call x (make rw.next rw_event rw_meaning x moment (rw_due call p) m).0
stands_on law rw_calls.Lock x moment rw_place.Out m fits valid stands = reads_after x x (event.WriteArrive moment) m (λ e. cc) stands
stands_on law rw_calls.Lock x moment rw_place.Queued m fits valid stands = stands
stands_on law rw_calls.Lock x moment rw_place.Waiting m fits valid stands = stands
stands_on law rw_calls.Lock x moment rw_place.Woken m fits valid stands = reads_after x x (event.WriteWoken moment) m (λ e. cc) stands
stands_on law rw_calls.Lock x moment rw_place.Handed m fits valid stands = reads_after x x (event.WriteWoken moment) m (λ e. cc) stands
stands_on law rw_calls.Lock x moment rw_place.Granted m fits valid stands = reads_after x x event.Leave m (λ e. cc) stands
stands_on law rw_calls.Lock x moment rw_place.Admitted m fits valid stands = absurd fits
stands_on law rw_calls.RLock x moment rw_place.Out m fits valid stands = writes_after law x x event.ReadArrive m tt valid.inner stands
stands_on law rw_calls.RLock x moment rw_place.Queued m fits valid stands = stands
stands_on law rw_calls.RLock x moment rw_place.Admitted m fits valid stands = writes_after law x x event.Leave m tt valid.inner stands
stands_on law rw_calls.RLock x moment rw_place.Waiting m fits valid stands = absurd fits
stands_on law rw_calls.RLock x moment rw_place.Woken m fits valid stands = absurd fits
stands_on law rw_calls.RLock x moment rw_place.Handed m fits valid stands = absurd fits
stands_on law rw_calls.RLock x moment rw_place.Granted m fits valid stands = absurd fits
stands_on law rw_calls.Unlock x moment p m fits valid stands = tt
stands_on law rw_calls.TryLock x moment p m fits valid stands = tt
stands_on law rw_calls.RUnlock x moment p m fits valid stands = tt
stands_on law rw_calls.TryRLock x moment p m fits valid stands = tt
