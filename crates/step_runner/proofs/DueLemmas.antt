-- The stage that is due is one that its worker may make, so that it gets an answer.
use Rattle.std.proofs.Common.{◌≡◌, ◌≢◌, ℕ, ◌<◌, Bool, true, false, ◌&&◌, Option, Some, None, refl, ap, ◌∙◌}
use Rattle.std.specs.Prelude.{IsTrue}
use Rattle.std.proofs.lemmas.Bool.{lt-ltb}
use Rattle.sync_types.specs.declared.lock_call.MutexCall.{MutexCall}
use Rattle.sync_types.specs.declared.lock_call.MutexCall.TheVariants as mutex_calls
use Rattle.sync_types.specs.declared.lock_call.RwMutexCall.{RwMutexCall}
use Rattle.sync_types.specs.declared.lock_call.RwMutexCall.TheVariants as rw_calls
use Rattle.mutex_core.specs.MutexMachine as mutex
use Rattle.mutex_core.specs.Standing as mutex_standing
use Rattle.mutex_core.specs.declared.event.MutexEvent.{MutexEvent}
use Rattle.mutex_core.specs.declared.place.Place.{Place as MutexPlace}
use Rattle.mutex_core.specs.declared.place.Place.TheVariants as mutex_place
use Rattle.rw_core.specs.RwMachine as rw
use Rattle.rw_core.specs.Standing as rw_standing
use Rattle.rw_core.specs.declared.event.RwEvent.{RwEvent}
use Rattle.rw_core.specs.declared.place.Place.{Place as RwPlace}
use Rattle.rw_core.specs.declared.place.Place.TheVariants as rw_place
use Rattle.wait_cores.specs.OnceMachine as once
use Rattle.wait_cores.specs.OnceStanding as once_standing
use Rattle.wait_cores.specs.declared.once.OncePlace.{OncePlace}
use Rattle.wait_cores.specs.declared.once.OncePlace.TheVariants as once_place
use Rattle.wait_cores.specs.declared.once.OnceReply.TheVariants as once_reply
use Rattle.protocols.specs.MutexStages.{mutex_event}
use Rattle.protocols.specs.OnceStages.{once_event}
use Rattle.protocols.specs.RwMutexStages.{rw_event}
use Rattle.protocols.specs.declared.mutex.MutexStage.{MutexStage}
use Rattle.protocols.specs.declared.once.OnceStage.{OnceStage}
use Rattle.step_runner.specs.Due.{mutex_due, rw_due, once_due}
use Rattle.step_runner.specs.MachinesStand.{OnceUses}

-- what is so of the stage that is due, if one is
abbrev pub OfDue : {G : Type 0} → (G → Type 0) → Option G → Type 0
OfDue P None = Unit {0}
OfDue P (Some stage) = P stage

module _ {G : Type 0} where
  pub both_due : (P Q : G → Type 0) (due : Option G) → OfDue P due → OfDue Q due → OfDue (λ stage. P stage × Q stage) due
  both_due P Q None p q = tt
  both_due P Q (Some stage) p q = (p, q)

  pub each_due : (P Q : G → Type 0) (due : Option G) → ((stage : G) → P stage → Q stage) → OfDue P due → OfDue Q due
  each_due P Q None each p = tt
  each_due P Q (Some stage) each p = each stage p

-- ---- of a mutex

mutex_needed : (call : MutexCall) (p : MutexPlace) (now : ℕ) → OfDue (λ stage. mutex.is_needed (mutex_event stage now) p ≡ true) (mutex_due call p)
mutex_needed mutex_calls.Lock mutex_place.Out now = refl
mutex_needed mutex_calls.Unlock mutex_place.Out now = refl
mutex_needed mutex_calls.TryLock mutex_place.Out now = refl
mutex_needed call mutex_place.Waiting now = tt
mutex_needed call mutex_place.Woken now = refl
mutex_needed call mutex_place.Handed now = refl

abbrev pub MutexAnswered : Type 0
MutexAnswered = (m : mutex.State) (c : ℕ) (e : MutexEvent) → IsTrue (mutex.may_make m c e) → IsTrue (mutex_standing.is_answer e (mutex.next m c e).1)

pub mutex_answer : MutexAnswered → (stage : MutexStage) (p : MutexPlace) (m : mutex.State) (c now : ℕ) → mutex.place_of m c ≡ p → c < m.callers → mutex.is_needed (mutex_event stage now) p ≡ true
    → mutex_standing.is_answer (mutex_event stage now) (mutex.next m c (mutex_event stage now)).1 ≡ true
mutex_answer law stage p m c now at below needed =
    let e = mutex_event stage now in
    law m c e (ap (λ b. b && mutex.is_needed e (mutex.place_of m c)) (lt-ltb c m.callers below) ∙ ap (mutex.is_needed e) at ∙ needed)

pub mutex_answers : MutexAnswered → (call : MutexCall) (m : mutex.State) (c now : ℕ) → c < m.callers → OfDue (λ stage. mutex_standing.is_answer (mutex_event stage now) (mutex.next m c (mutex_event stage now)).1 ≡ true) (mutex_due call (mutex.place_of m c))
mutex_answers law call m c now below =
    each_due (λ stage. mutex.is_needed (mutex_event stage now) (mutex.place_of m c) ≡ true) (λ stage. mutex_standing.is_answer (mutex_event stage now) (mutex.next m c (mutex_event stage now)).1 ≡ true) (mutex_due call (mutex.place_of m c))
    (λ stage needed. mutex_answer law stage (mutex.place_of m c) m c now refl below needed) (mutex_needed call (mutex.place_of m c) now)

-- ---- of a reader/writer mutex

rw_needed : (call : RwMutexCall) (p : RwPlace) (now : ℕ) → OfDue (λ stage. rw.is_needed (rw_event stage now) p ≡ true) (rw_due call p)
rw_needed rw_calls.Lock rw_place.Out now = refl
rw_needed rw_calls.Unlock rw_place.Out now = refl
rw_needed rw_calls.TryLock rw_place.Out now = refl
rw_needed rw_calls.RLock rw_place.Out now = refl
rw_needed rw_calls.RUnlock rw_place.Out now = refl
rw_needed rw_calls.TryRLock rw_place.Out now = refl
rw_needed call rw_place.Queued now = tt
rw_needed call rw_place.Waiting now = tt
rw_needed call rw_place.Woken now = refl
rw_needed call rw_place.Handed now = refl
rw_needed call rw_place.Granted now = refl
rw_needed call rw_place.Admitted now = refl

abbrev pub RwAnswered : Type 0
RwAnswered = (m : rw.State) (c : ℕ) (e : RwEvent) → IsTrue (rw.may_make m c e) → IsTrue (rw_standing.is_answer e (rw.next m c e).1)

pub rw_answers : RwAnswered → (call : RwMutexCall) (m : rw.State) (c now : ℕ) → c < m.callers → OfDue (λ stage. rw_standing.is_answer (rw_event stage now) (rw.next m c (rw_event stage now)).1 ≡ true) (rw_due call (rw.place_of m c))
rw_answers law call m c now below =
    each_due (λ stage. rw.is_needed (rw_event stage now) (rw.place_of m c) ≡ true) (λ stage. rw_standing.is_answer (rw_event stage now) (rw.next m c (rw_event stage now)).1 ≡ true) (rw_due call (rw.place_of m c))
    (λ stage needed. law m c (rw_event stage now) (ap (λ b. b && rw.is_needed (rw_event stage now) (rw.place_of m c)) (lt-ltb c m.callers below) ∙ needed)) (rw_needed call (rw.place_of m c) now)

-- ---- of a once

module _ {T : Type 0} where
  once_needed : (value : T) (runs : Bool) (p : OncePlace) (now : ℕ) → OfDue (λ stage. once_standing.is_needed (once_event stage now) p runs ≡ true) (once_due value runs p)
  once_needed value true once_place.Out now = refl
  once_needed value false once_place.Out now = refl
  once_needed value runs once_place.Waiting now = tt
  once_needed value runs once_place.Released now = refl

  abbrev pub OnceAnswer : once.OnceState T → ℕ → ℕ → OnceStage T → Type 0
  OnceAnswer o c now stage =
      let r = (once.next o c (once_event stage now)).1 in
      (once_standing.answers (once_standing.waits_at o c) (once_standing.runs_at o c) (once_event stage now) r ≡ true) × (r ≢ once_reply.Still)

  pub once_answers : OnceUses T → (value : T) (o : once.OnceState T) (c now : ℕ) → c < once.callers_of o → OfDue (OnceAnswer o c now) (once_due value (once_standing.runs_at o c) (once.place_of o c))
  once_answers law value o c now below =
      each_due (λ stage. once_standing.is_needed (once_event stage now) (once.place_of o c) (once_standing.runs_at o c) ≡ true) (OnceAnswer o c now) (once_due value (once_standing.runs_at o c) (once.place_of o c))
      (λ stage needed. (
        law.answers o c (once_event stage now) below,
        law.made o c (once_event stage now) (ap (λ b. b && once_standing.is_needed (once_event stage now) (once.place_of o c) (once_standing.runs_at o c)) (lt-ltb c (once.callers_of o) below) ∙ needed),
      )) (once_needed value (once_standing.runs_at o c) (once.place_of o c) now)
