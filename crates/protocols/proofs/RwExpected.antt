-- At whatever reader/writer mutex, the event of a stage that is allowed gets an answer by which a call goes on.
use Rattle.std.proofs.Common.{◌≡◌, ℕ, ◌<◌, ◌&&◌, not, Bool, true, false, List, [], ◌∷◌, refl, sym, ap, ◌∙◌, subst}
use Rattle.std.specs.Prelude.{◌==◌, if◌then◌else◌}
use Rattle.std.proofs.lemmas.Bool.{false≢true, lt-ltb}
use Rattle.sync_model.specs.Log.{Entry, after, Follows}
use Rattle.rw_core.specs.declared.event.RwEvent.{RwEvent}
use Rattle.rw_core.specs.declared.place.Place.{Place}
use Rattle.rw_core.specs.declared.place.Place.TheVariants.{Out}
use Rattle.rw_core.specs.declared.reply.RwReply.{RwReply}
use Rattle.rw_core.specs.declared.reply.RwReply.TheVariants.{Arrived, Tried, Unlocked, Resumed, Left, Still}
use Rattle.rw_core.specs.declared.reply.Arrival.TheVariants as arrival
use Rattle.rw_core.specs.declared.reply.Resumption.TheVariants as resumption
use Rattle.rw_core.specs.declared.reply.Unlocking.TheVariants as unlocking
use Rattle.rw_core.specs.RwMachine.{State, start, next, is_needed, may_make, place_of}
use Rattle.rw_core.specs.Standing.{is_answer, is_waiting, waits_after}
use Rattle.protocols.specs.declared.rw_mutex.RwMutexStage.{RwMutexStage}
use Rattle.protocols.specs.declared.rw_mutex.RwMutexStage.TheVariants as stage
use Rattle.protocols.specs.RwMutexStages.{rw_event, rw_meaning, rw_stands, rw_allows, goes_on, RwMutexBegins}
use Rattle.protocols.specs.Stands.{stand_from}
use Rattle.protocols.specs.Steps.{IsExpected}

no : {A : Type 0} → false ≡ true → A
no e = absurd (false≢true e)

-- what answers an event that is made
answered : (stage : RwMutexStage) (now : ℕ) (r : RwReply) → is_answer (rw_event stage now) r ≡ true → IsExpected (rw_meaning stage r)
answered stage.Lock now (Arrived arrival.Acquired) is = tt
answered stage.Lock now (Arrived arrival.Queued) is = tt
answered stage.Lock now r is = no is
answered stage.RLock now (Arrived arrival.Acquired) is = tt
answered stage.RLock now (Arrived arrival.Queued) is = tt
answered stage.RLock now r is = no is
answered stage.TryLock now (Tried acquired) is = tt
answered stage.TryLock now r is = no is
answered stage.TryRLock now (Tried acquired) is = tt
answered stage.TryRLock now r is = no is
answered stage.Unlock now (Unlocked unlocking.Done) is = tt
answered stage.Unlock now (Unlocked (unlocking.Misuse misuse)) is = tt
answered stage.Unlock now r is = no is
answered stage.RUnlock now (Unlocked unlocking.Done) is = tt
answered stage.RUnlock now (Unlocked (unlocking.Misuse misuse)) is = tt
answered stage.RUnlock now r is = no is
answered stage.Resume now (Resumed resumption.Acquired) is = tt
answered stage.Resume now (Resumed resumption.Queued) is = tt
answered stage.Resume now (Resumed resumption.Requeued) is = tt
answered stage.Resume now r is = no is
answered stage.Inner now (Resumed resumption.Acquired) is = tt
answered stage.Inner now (Resumed resumption.Queued) is = tt
answered stage.Inner now (Resumed resumption.Requeued) is = tt
answered stage.Inner now r is = no is
answered stage.LeaveWriting now Left is = tt
answered stage.LeaveWriting now r is = no is
answered stage.Behind now Left is = tt
answered stage.Behind now r is = no is
answered stage.LeaveReading now Left is = tt
answered stage.LeaveReading now r is = no is

-- a caller that waits may be told to wait on
stays : (stage : RwMutexStage) → goes_on stage ≡ true → IsExpected (rw_meaning stage Still)
stays stage.Resume on = tt
stays stage.Inner on = tt
stays stage.LeaveWriting on = tt
stays stage.Behind on = tt
stays stage.LeaveReading on = tt
stays stage.Lock on = no on
stays stage.TryLock on = no on
stays stage.Unlock on = no on
stays stage.RLock on = no on
stays stage.TryRLock on = no on
stays stage.RUnlock on = no on

-- one that doesn't wait is where the event needs it
needed_out : (stage : RwMutexStage) (now : ℕ) → not (goes_on stage) ≡ true → is_needed (rw_event stage now) Out ≡ true
needed_out stage.Lock now off = refl
needed_out stage.TryLock now off = refl
needed_out stage.Unlock now off = refl
needed_out stage.RLock now off = refl
needed_out stage.TryRLock now off = refl
needed_out stage.RUnlock now off = refl
needed_out stage.Resume now off = no off
needed_out stage.Inner now off = no off
needed_out stage.LeaveWriting now off = no off
needed_out stage.Behind now off = no off
needed_out stage.LeaveReading now off = no off

stands_as : (waits : Bool) (caller : ℕ) (log : List (Entry RwEvent RwReply)) → stand_from rw_stands waits caller log ≡ is_waiting waits caller log
stands_as waits caller [] = refl
stands_as waits caller (x ∷ log) = stands_as (if x.caller == caller then waits_after waits x.reply else waits) caller log

module _ (answers : (s : State) (c : ℕ) (e : RwEvent) → may_make s c e ≡ true → is_answer e (next s c e).1 ≡ true)
    (out : (callers : ℕ) (log : List (Entry RwEvent RwReply)) (c : ℕ) → Follows next (start callers) log → is_waiting false c log ≡ false → place_of (after next (start callers) log) c ≡ Out)
    (unmade : (s : State) (c : ℕ) (e : RwEvent) → may_make s c e ≡ false → ◌≡◌ {A = State × RwReply} (next s c e) (s, Still))
    (same : (callers : ℕ) (log : List (Entry RwEvent RwReply)) → (after next (start callers) log).callers ≡ callers) where
  module _ (s : State) (caller now : ℕ) (stage : RwMutexStage) where
    abbrev Goal : Type 0
    Goal = IsExpected (rw_meaning stage (next s caller (rw_event stage now)).1)

    -- it is made, or the caller waits on
    waiting : goes_on stage ≡ true → (b : Bool) → may_make s caller (rw_event stage now) ≡ b → Goal
    waiting on true is = answered stage now (next s caller (rw_event stage now)).1 (answers s caller (rw_event stage now) is)
    waiting on false is = subst (λ (r : RwReply). IsExpected (rw_meaning stage r)) (sym (ap (λ (y : State × RwReply). y.1) (unmade s caller (rw_event stage now) is))) (stays stage on)

    beside : not (goes_on stage) ≡ true → caller < s.callers → place_of s caller ≡ Out → Goal
    beside off below at =
        let needed : is_needed (rw_event stage now) (place_of s caller) ≡ true = ap (λ (p : Place). is_needed (rw_event stage now) p) at ∙ needed_out stage now off in
        let may : may_make s caller (rw_event stage now) ≡ true = ap (λ (b : Bool). b && is_needed (rw_event stage now) (place_of s caller)) (lt-ltb caller s.callers below) ∙ needed in
        answered stage now (next s caller (rw_event stage now)).1 (answers s caller (rw_event stage now) may)

  by_stand : (callers caller now : ℕ) (log : List (Entry RwEvent RwReply)) (stage : RwMutexStage) → Follows next (start callers) log → caller < callers
      → (waits : Bool) → is_waiting false caller log ≡ waits → rw_allows (start callers) waits stage ≡ true → Goal (after next (start callers) log) caller now stage
  by_stand callers caller now log stage follows below true is allowed =
      let s : State = after next (start callers) log in waiting s caller now stage allowed (may_make s caller (rw_event stage now)) refl
  by_stand callers caller now log stage follows below false is allowed =
      let s : State = after next (start callers) log in
      beside s caller now stage allowed (subst (λ (n : ℕ). caller < n) (sym (same callers log)) below) (out callers log caller follows is)

  pub rw_expected : (callers caller now : ℕ) (begun : State) (log : List (Entry RwEvent RwReply)) (stage : RwMutexStage) → RwMutexBegins callers begun → Follows next begun log → caller < callers
      → rw_allows begun (stand_from rw_stands false caller log) stage ≡ true → IsExpected (rw_meaning stage (next (after next begun log) caller (rw_event stage now)).1)
  rw_expected callers caller now begun log stage begins follows below allowed =
      let waits : Bool = is_waiting false caller log in
      let may : rw_allows (start callers) waits stage ≡ true =
      subst (λ (w : Bool). rw_allows (start callers) w stage ≡ true) (stands_as false caller log) (subst (λ (s : State). rw_allows s (stand_from rw_stands false caller log) stage ≡ true) begins allowed) in
      subst (λ (s : State). IsExpected (rw_meaning stage (next (after next s log) caller (rw_event stage now)).1)) (sym begins)
      (by_stand callers caller now log stage (subst (λ (s : State). Follows next s log) begins follows) below waits refl may)
