-- A wait on a cond: its cond and its mutex, what is left of it, and that the turn with which it begins doesn't complete it.
use Rattle.std.proofs.Common.{◌≡◌, ℕ, zero, suc, ◌-◌, ◌<◌, Bool, true, false, List, map, Some, None, refl, sym, ap, ◌∙◌, subst, arith}
use Rattle.std.specs.Prelude.{slice_get}
use Rattle.sync_types.specs.declared.atomic_object.AtomicCall.TheVariants.{Load}
use Rattle.sync_types.specs.declared.atomic_object.Number.{Number}
use Rattle.script_calls.specs.declared.call.Call.{Call}
use Rattle.script_calls.specs.declared.call.ComposedCall.TheVariants.{WaitFor}
use Rattle.script_calls.specs.declared.call.Operation.TheVariants as operations
use Rattle.script_calls.specs.declared.call.Reply.{Reply}
use Rattle.sync_types.specs.declared.wait_call.CondCall.TheVariants as cond_calls
use Rattle.mutex_core.specs.MutexMachine as mutex
use Rattle.mutex_core.specs.Standing as mutex_standing
use Rattle.mutex_core.specs.declared.event.MutexEvent.TheVariants as mutex_events
use Rattle.mutex_core.specs.declared.place.Place.{Place as MutexPlace}
use Rattle.mutex_core.specs.declared.place.Place.TheVariants as mutex_place
use Rattle.mutex_core.specs.declared.reply.MutexReply.{MutexReply}
use Rattle.mutex_core.specs.declared.reply.MutexReply.TheVariants as mutex_reply
use Rattle.mutex_core.specs.declared.reply.Unlocking.TheVariants as mutex_unlocking
use Rattle.wait_cores.specs.NotifyMachine as notify
use Rattle.wait_cores.specs.NotifyStanding.{has_ticket}
use Rattle.wait_cores.specs.declared.notify.NotifyPlace.{NotifyPlace}
use Rattle.wait_cores.specs.declared.notify.NotifyPlace.TheVariants as notify_place
use Rattle.protocols.specs.MutexStages.{mutex_meaning}
use Rattle.protocols.specs.declared.mutex.MutexStage.TheVariants as mutex_stage
use Rattle.run_record.specs.CondKind.{wait_part}
use Rattle.run_record.specs.Objects.{atomic_number}
use Rattle.run_record.specs.Parts.{Part, and_then, read_as}
use Rattle.run_record.specs.Record.{object_number}
use Rattle.run_record.specs.Tests.{compared, waits_for, wait_for_call}
use Rattle.workload.specs.declared.object.ObjectKind.TheVariants as kinds
use Rattle.workload.specs.Plan.{Plan, has_call, is_target, reference_of}
use Rattle.step_runner.specs.declared.turns.answer.Answer.{Answer}
use Rattle.step_runner.specs.declared.turns.answer.Answer.TheVariants as answers
use Rattle.step_runner.specs.declared.turns.object_state.ObjectState.{ObjectState}
use Rattle.step_runner.specs.declared.turns.object_state.ObjectState.TheVariants as states
use Rattle.step_runner.specs.Due.{cond_due, waited}
use Rattle.step_runner.specs.Left.{mutex_waits, cond_left, left_at}
use Rattle.step_runner.specs.MachinesStand.{MutexStands}
use Rattle.step_runner.specs.Objects.{kind_of, IsMachineOf, EachAt}
use Rattle.step_runner.specs.Ready.{HasTarget, IsReady}
use Rattle.step_runner.specs.Stages.{outcome_of, answer_by}
use Rattle.step_runner.specs.Stands.{IsOutBut}
use Rattle.step_runner.specs.StandsWithin.{whole_at, left_behind_wait, left_within}
use Rattle.step_runner.specs.TurnAtObjects.{cond_turn, turn_at}
use Rattle.step_runner.specs.TurnWithin.{wait_on, load_of}
use Rattle.step_runner.specs.Within.{IsIdle, IsWithin}
use Rattle.step_runner.proofs.CondSpelled.{cond_waits, has_where}
use Rattle.step_runner.proofs.OwnAt.{same_kind}
use Rattle.step_runner.proofs.SpellingLaws.{may}
use Rattle.step_runner.proofs.Refuted.{no}
use Rattle.step_runner.proofs.SpeltAtObjects.{turn_referring, left_referring, stands_referring}

-- ---- the atomic that is loaded

atomic_by : (object : ObjectState) → has_call (kind_of object) (operations.Atomic Load) ≡ true → (number : Number) × (object ≡ states.Atomic number)
atomic_by (states.Atomic number) has = (number, refl)
atomic_by object has = no has

pub atomic_there : (workers worker atomic : ℕ) (objects : List ObjectState) → IsReady workers worker (load_of atomic) objects → (number : Number) × (slice_get objects atomic ≡ Some (states.Atomic number))
atomic_there workers worker atomic objects r =
    let found = atomic_by r.object r.has in
    (found.0, r.there ∙ ap (λ (o : ObjectState). Some o) found.1)

-- ---- the cond of a wait, and the mutex to which it refers

pub record WaitAt (workers worker place other : ℕ) (objects : List ObjectState) : Type 0 where
  pub c : notify.NotifyState
  pub m : mutex.State
  pub there : slice_get objects place ≡ Some (states.Cond c other)
  pub target : slice_get objects other ≡ Some (states.Mutex m)
  pub machine : IsMachineOf workers (states.Mutex m)
  pub below : worker < workers

module _ (workers worker place : ℕ) (objects : List ObjectState) (below : worker < workers) where
  by_target : (other : ℕ) (c : notify.NotifyState) (target : ObjectState) → slice_get objects place ≡ Some (states.Cond c other) → slice_get objects other ≡ Some target → is_target (kinds.Cond other) (kind_of target) ≡ true → IsMachineOf workers target
      → WaitAt workers worker place other objects
  by_target other c (states.Mutex m) there at is machine = record { c = c; m = m; there = there; target = at; machine = machine; below = below }
  by_target other c target there at is machine = no is

  by_object : (object : ObjectState) → slice_get objects place ≡ Some object → has_call (kind_of object) (operations.Cond cond_calls.Wait) ≡ true
      → ((k : ℕ) → reference_of (kind_of object) ≡ Some k → HasTarget workers objects object k) → (other : ℕ) × WaitAt workers worker place other objects
  by_object (states.Cond c other) there has refers =
      let t = refers other refl in
      (other, by_target other c t.target there t.there t.is t.machine)
  by_object object there has refers = no has

pub wait_there : (workers worker place : ℕ) (objects : List ObjectState) → IsReady workers worker (wait_on place) objects → (other : ℕ) × WaitAt workers worker place other objects
wait_there workers worker place objects r = by_object workers worker place objects r.below r.object r.there r.has r.refers

one_mutex : (a b : ℕ) → kinds.Cond a ≡ kinds.Cond b → a ≡ b
one_mutex a b e = cc

-- among objects of the same kinds the mutex stands at the same place
pub wait_kept : (workers worker place other : ℕ) (objects others : List ObjectState) → WaitAt workers worker place other objects → map kind_of others ≡ map kind_of objects → IsReady workers worker (wait_on place) others
    → WaitAt workers worker place other others
wait_kept workers worker place other objects others w same r =
    let n = wait_there workers worker place others r in
    let kind = same_kind objects others place (states.Cond w.c other) (states.Cond n.1.c n.0) same w.there n.1.there in
    subst (λ (k : ℕ). WaitAt workers worker place k others) (one_mutex n.0 other kind) n.1

-- ---- what is left of the wait

module _ (plan : Plan) (workers worker place other : ℕ) (objects : List ObjectState) (w : WaitAt workers worker place other objects) where
  left_of : (before : ℕ) → left_at plan worker before (wait_on place) objects ≡ cond_left (object_number place) (object_number other) cond_calls.Wait (has_ticket w.c worker) (mutex_waits (mutex.place_of w.m worker))
  left_of before = left_referring (wait_on place) objects (states.Cond w.c other) w.there plan worker before other (states.Mutex w.m) refl w.target

  -- whatever was counted before
  pub left_any : (before later : ℕ) → left_at plan worker before (wait_on place) objects ≡ left_at plan worker later (wait_on place) objects
  left_any before later = left_of before ∙ sym (left_of later)

  module _ (idle : EachAt (λ place. IsIdle worker) objects) (out : IsOutBut None worker objects) where
    no_ticket : has_ticket w.c worker ≡ false
    no_ticket = idle place (states.Cond w.c other) w.there

    out_there : mutex.place_of w.m worker ≡ mutex_place.Out
    out_there = out other (states.Mutex w.m) w.target (λ e. cc)

    pub left_whole : (before : ℕ) → left_at plan worker before (wait_on place) objects ≡ wait_part (object_number place) (object_number other)
    left_whole before = left_of before ∙ (λ i. cond_left (object_number place) (object_number other) cond_calls.Wait (no_ticket i) (mutex_waits (out_there i)))

    pub within_whole : IsWithin worker (wait_on place) objects
    within_whole = record {
      here = subst (λ (T : Type 0). T) (sym (stands_referring (wait_on place) objects (states.Cond w.c other) w.there worker other (states.Mutex w.m) refl w.target)) (λ has. out_there);
      elsewhere = λ k o at far. idle k o at;
    }

-- ---- what is left of a `waitfor`

-- a part of a wait, and then what comes behind it
abbrev pub waited_then : Part (Reply ℕ) → Part Bool → Part (Reply ℕ)
waited_then part next = read_as compared (and_then part (λ waited. next))

module _ (plan : Plan) (workers worker before place other : ℕ) (objects : List ObjectState) (w : WaitAt workers worker place other objects) (atomic tries : ℕ) (value : Number) where
  abbrev wait_for : Call
  wait_for = record { object = place; operation = operations.Composed (WaitFor atomic value tries) }

  pub left_unbegun : left_within plan worker before wait_for objects zero ≡ wait_for_call (object_number place) (object_number other) (atomic_number plan.objects atomic) value tries
  left_unbegun = ap (whole_at plan worker before wait_for objects) w.there

  pub left_begun : (begun : ℕ) → left_within plan worker before wait_for objects (suc begun)
      ≡ waited_then (left_at plan worker before (wait_on place) objects) (waits_for (object_number place) (object_number other) (atomic_number plan.objects atomic) value (tries - suc begun))
  left_begun begun = ap (left_behind_wait plan worker before wait_for objects atomic value (tries - suc begun)) w.there

-- ---- the turn with which it begins

-- the wait hasn't returned
abbrev pub IsBegun : Answer → Type 0
IsBegun answers.Still = ⊥
IsBegun answers.Unfinished = Unit {0}
IsBegun (answers.Completed reply) = ⊥
IsBegun (answers.Misused misuse) = Unit {0}

begun_by : (r : MutexReply) → mutex_standing.is_answer mutex_events.Unlock r ≡ true → IsBegun (answer_by (waited (Some mutex_stage.Unlock)) (outcome_of (mutex_meaning mutex_stage.Unlock r)))
begun_by (mutex_reply.Unlocked mutex_unlocking.Free) is = tt
begun_by (mutex_reply.Unlocked (mutex_unlocking.Woke ticket)) is = tt
begun_by (mutex_reply.Unlocked (mutex_unlocking.Handed ticket)) is = tt
begun_by (mutex_reply.Unlocked (mutex_unlocking.Misuse misuse)) is = tt
begun_by r is = no is

out_of_cond : (p : NotifyPlace) → cond_waits p ≡ false → p ≡ notify_place.Out
out_of_cond notify_place.Out is = refl
out_of_cond notify_place.Waiting is = no (sym is)
out_of_cond notify_place.Notified is = no (sym is)

pub begins : MutexStands → (plan : Plan) (workers worker moment place other : ℕ) (objects : List ObjectState) → WaitAt workers worker place other objects → EachAt (λ place. IsIdle worker) objects → IsOutBut None worker objects
    → IsBegun (turn_at (wait_on place) worker moment objects).1
begins law plan workers worker moment place other objects w idle out =
    let at_cond : notify.place_of w.c worker ≡ notify_place.Out = out_of_cond (notify.place_of w.c worker) (sym (has_where w.c worker) ∙ no_ticket plan workers worker place other objects w idle out) in
    let below : worker < w.m.callers = omega (arith, w.below, w.machine.1) in
    let answered = law.answered w.m worker mutex_events.Unlock (may worker w.m.callers true below refl) in
    subst (λ (x : List ObjectState × Answer). IsBegun x.1) (sym (turn_referring (wait_on place) worker moment objects (states.Cond w.c other) w.there other (states.Mutex w.m) refl w.target))
    (subst (λ (p : MutexPlace). IsBegun (cond_turn cond_calls.Wait worker moment other (cond_due cond_calls.Wait p (notify.place_of w.c worker)) w.c w.m).1) (sym (out_there plan workers worker place other objects w idle out))
    (subst (λ (q : NotifyPlace). IsBegun (cond_turn cond_calls.Wait worker moment other (cond_due cond_calls.Wait mutex_place.Out q) w.c w.m).1) (sym at_cond) (begun_by (mutex.next w.m worker mutex_events.Unlock).1 answered)))
