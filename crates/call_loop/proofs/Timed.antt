-- Which moments the events of a call have, that reads the clock for each event or lazily.
use Rattle.std.proofs.Common.{◌≡◌, ◌⊎◌, inl, inr, ℕ, Bool, true, false, List, [], ◌∷◌, Option, None, Some, IfSome, Result, refl, sym, subst}
use Rattle.std.proofs.lemmas.Bool.{false≢true}
use Rattle.sync_types.specs.declared.misuse.Misuse.{Misuse}
use Rattle.sync_model.specs.declared.answer.Answer.{Answer}
use Rattle.sync_model.specs.declared.answer.Answer.TheVariants.{Done, Halted}
use Rattle.sync_model.specs.declared.journal.Deed.{Deed}
use Rattle.sync_model.specs.declared.journal.Deed.TheVariants.{Event, Refused, Halt}
use Rattle.sync_model.specs.Front.{Front, SameCounts}
use Rattle.sync_model.specs.Journal.{halt_of, state_after, Right}
use Rattle.ruled_object.specs.declared.pass.Pass.{Pass}
use Rattle.ruled_object.specs.Cells.{deed_of}
use Rattle.ruled_object.specs.Growth.{deeds_of, Grows, AddUp, MayBeMade, MakesWith}
use Rattle.ruled_object.specs.Passes.{number_of}
use Rattle.protocols.specs.declared.step.Step.{Step}
use Rattle.protocols.specs.declared.step.Step.TheVariants.{Finished, Misused, Waits, Next, Never}
use Rattle.protocols.specs.Spelling.{CallAnswer, IsEventOf, Spells, AreTimely}
use Rattle.protocols.specs.Steps.{IsAt, KeepsResults, GainsAtItsEnd}
use Rattle.call_loop.specs.Calls.{Did, has_gained}
use Rattle.call_loop.specs.Stages.{meant, MadeStage, acquires_by, EndsCall, MayBeAt, IsClocked, IsTimedBy, ReadyOr, AreTimedBy}
use Rattle.call_loop.proofs.SoFar.{IsOn, IsEnd, ends_by, meets_end, timely_deed, went_on}

module _ {G O : Type 0} (shows : ℕ → Type 0) where
  -- an event has a moment of the clock, or the clock is read lazily and the call ends with it
  needed : (lazy : Bool) (m : Option ℕ) (step : Step G O) → (IsAt shows m ⊎ ((lazy ≡ true) × EndsCall step)) → IsAt (MayBeAt lazy shows (Done step)) m
  needed lazy None step either = tt
  needed false (Some now) step (inl at) = at
  needed false (Some now) step (inr ends) = absurd (false≢true ends.0)
  needed true (Some now) (Finished outcome) either = tt
  needed true (Some now) (Misused misuse) either = tt
  needed true (Some now) (Waits later) (inl at) = at
  needed true (Some now) (Waits later) (inr ends) = absurd ends.1
  needed true (Some now) (Next later) (inl at) = at
  needed true (Some now) (Next later) (inr ends) = absurd ends.1
  needed true (Some now) Never either = tt

  needed_halted : (lazy : Bool) (m : Option ℕ) (came : Answer (Step G O)) (misuse : Misuse) → came ≡ Halted misuse → IsAt shows m → IsAt (MayBeAt lazy shows came) m
  needed_halted false m came misuse is at = at
  needed_halted true m came misuse is at = subst (λ (a : Answer (Step G O)). IsAt (MayBeAt true shows a) m) (sym is) at

  -- where the call goes on the moment is the clock's
  goes_on_at : (lazy : Bool) (m : Option ℕ) (step : Step G O) (later : G) → IsOn step later → IsAt (MayBeAt lazy shows (Done step)) m → IsAt shows m
  goes_on_at false m step later on at = at
  goes_on_at true m (Finished outcome) later on at = absurd on
  goes_on_at true m (Misused misuse) later on at = absurd on
  goes_on_at true m (Waits stage) later on at = at
  goes_on_at true m (Next stage) later on at = at
  goes_on_at true m Never later on at = absurd on

module _ {E R : Type 0} (moment : E → Option ℕ) (shows : ℕ → Type 0) where
  timed : (lazy : Bool) (deeds : List (Deed E R)) → AreTimely moment shows deeds → AreTimedBy moment shows lazy deeds
  timed false deeds timely = timely
  timed true [] timely = tt
  timed true (Event event reply ∷ []) timely = tt
  timed true (Event event reply ∷ (deed ∷ rest)) timely = timely
  timed true (Refused event misuse ∷ rest) timely = timely
  timed true (Halt misuse ∷ rest) timely = timely

module _ {E R G O : Type 0} (moment : E → Option ℕ) (meaning : G → R → Step G O) (shows : ℕ → Type 0) where
  -- the moments of a call of one event
  one_timed : (lazy : Bool) (stage : G) (event : E) (answer : Answer R) (step : Answer (Step G O)) → step ≡ meant meaning stage answer → IsAt (MayBeAt lazy shows step) (moment event) → AreTimedBy moment shows lazy (deed_of event answer ∷ [])
  one_timed false stage event answer step is at = (timely_deed moment shows event answer at, tt)
  one_timed true stage event (Done reply) step is at = tt
  one_timed true stage event (Halted misuse) step is at = (subst (λ (s : Answer (Step G O)). IsAt (MayBeAt true shows s) (moment event)) is at, tt)

module _ {S N E R G O : Type 0} (next : S → ℕ → E → S × R) (halts : Bool) (start : S) (event_of : G → ℕ → E) (moment : E → Option ℕ) (meaning : G → R → Step G O) (lazy : Bool) (shows : ℕ → Type 0) where
  -- an event that was made before has a moment of the clock
  pub unready : (stage : G) (ready : Option E) → IfSome ready (λ event. IsClocked event_of moment shows stage event) → (old new : Pass S N E R) (from to : Front) (event : E) (answer : Answer R)
      → MakesWith next halts start (λ state given. ReadyOr ready (IsTimedBy next event_of moment meaning lazy shows stage state) given) (λ given. ReadyOr ready (IsClocked event_of moment shows stage) given) old from event answer new to
      → MakesWith next halts start (IsTimedBy next event_of moment meaning lazy shows stage) (IsClocked event_of moment shows stage) old from event answer new to
  unready stage ready clocked old new from to event answer made = record { makes = made.makes; chosen = by_halt (halt_of made.makes.one.before) (state_after next start made.makes.one.before) ready clocked made.chosen }
    where
      by_halt : (h : Option Misuse) (state : S) (r : Option E) → IfSome r (λ e. IsClocked event_of moment shows stage e) → MayBeMade (λ here given. ReadyOr r (IsTimedBy next event_of moment meaning lazy shows stage here) given) (λ given. ReadyOr r (IsClocked event_of moment shows stage) given) h state event
          → MayBeMade (IsTimedBy next event_of moment meaning lazy shows stage) (IsClocked event_of moment shows stage) h state event
      by_halt None state None all chosen = chosen
      by_halt (Some misuse) state None all chosen = chosen
      by_halt None state (Some e) all chosen = let is = subst (λ (x : E). IsClocked event_of moment shows stage x) (sym chosen) all in (is.0, inl is.1)
      by_halt (Some misuse) state (Some e) all chosen = subst (λ (x : E). IsClocked event_of moment shows stage x) (sym chosen) all

  -- it is the stage's event
  pub of_timed : (stage : G) (old new : Pass S N E R) (from to : Front) (event : E) (answer : Answer R) → MakesWith next halts start (IsTimedBy next event_of moment meaning lazy shows stage) (IsClocked event_of moment shows stage) old from event answer new to → IsEventOf event_of stage event
  of_timed stage old new from to event answer made = by_halt _ (halt_of made.makes.one.before) made.chosen
    where
      by_halt : (state : S) (h : Option Misuse) → MayBeMade (IsTimedBy next event_of moment meaning lazy shows stage) (IsClocked event_of moment shows stage) h state event → IsEventOf event_of stage event
      by_halt state None chosen = chosen.0
      by_halt state (Some misuse) chosen = chosen.0

  -- what an event comes to that was is timed so
  pub made_timed : (stage : G) (old new : Pass S N E R) (from to : Front) (event : E) (answer : Answer R) → MakesWith next halts start (IsTimedBy next event_of moment meaning lazy shows stage) (IsClocked event_of moment shows stage) old from event answer new to
      → MadeStage next halts start event_of moment meaning (MayBeAt lazy shows (meant meaning stage answer)) stage old from (meant meaning stage answer) new to
  made_timed stage old new from to event (Done reply) made =
      let before = made.makes.one.before in
      let state : S = state_after next start before in
      let right = subst (λ (d : Deed E R). Right next halts state (halt_of before) (number_of old) d) made.makes.deed made.makes.grows.right.0.1 in
      let chosen = subst (λ (h : Option Misuse). MayBeMade (IsTimedBy next event_of moment meaning lazy shows stage) (IsClocked event_of moment shows stage) h state event) right.0 made.chosen in
      record {
        one = made.makes.one;
        grows = made.makes.grows;
        event = event;
        answer = Done reply;
        is = chosen.0;
        timely = needed shows lazy (moment event) (meaning stage reply) (either chosen.1 (sym right.1));
        deed = made.makes.deed;
        means = refl;
        halted = made.makes.halted;
      }
    where
      either : {r : R} {P : Type 0} → (P ⊎ ((lazy ≡ true) × ((caller : ℕ) → EndsCall (meaning stage (next (state_after next start made.makes.one.before) caller event).1)))) → (next (state_after next start made.makes.one.before) (number_of old) event).1 ≡ r → P ⊎ ((lazy ≡ true) × EndsCall (meaning stage r))
      either (inl at) is = inl at
      either (inr ends) is = inr (ends.0, subst (λ (a : R). EndsCall (meaning stage a)) is (ends.1 (number_of old)))
  made_timed stage old new from to event (Halted misuse) made =
      let before = made.makes.one.before in
      let state : S = state_after next start before in
      let right = subst (λ (d : Deed E R). Right next halts state (halt_of before) (number_of old) d) made.makes.deed made.makes.grows.right.0.1 in
      let chosen = subst (λ (h : Option Misuse). MayBeMade (IsTimedBy next event_of moment meaning lazy shows stage) (IsClocked event_of moment shows stage) h state event) right made.chosen in
      record {
        one = made.makes.one;
        grows = made.makes.grows;
        event = event;
        answer = Halted misuse;
        is = chosen.0;
        timely = needed_halted shows lazy (moment event) (Halted misuse) misuse refl chosen.1;
        deed = made.makes.deed;
        means = refl;
        halted = made.makes.halted;
      }

  -- the first stage ends the call
  pub ends_first : (stage : G) (old new : Pass S N E R) (from to : Front) (came step : Answer (Step G O)) (answer : CallAnswer O) → MadeStage next halts start event_of moment meaning (MayBeAt lazy shows came) stage old from came new to → came ≡ step → IsEnd step answer
      → Did next halts start (λ ds a. Spells event_of meaning stage ds a) (λ ds. AreTimedBy moment shows lazy ds) old from answer new to
  ends_first stage old new from to came step answer made is end =
      let final : IsEnd came answer = subst (λ (s : Answer (Step G O)). IsEnd s answer) (sym is) end in
      record {
        entries = made.one ∷ [];
        grows = made.grows;
        spelt = ends_by event_of meaning stage made.event came made.answer made.one.entry.deed answer made.deed made.means made.is final;
        halted = meets_end event_of meaning stage (made.one ∷ []) came made.answer answer made.means final made.halted;
        moments = subst (λ (d : Deed E R). AreTimedBy moment shows lazy (d ∷ [])) (sym made.deed) (one_timed moment meaning shows lazy stage made.event made.answer came made.means made.timely);
      }

  module _ (gives : G → Result O Misuse → Bool) (gains : G → O → Bool) where
    -- The first stage didn't end the call, and the rest was made from a later one: the call is made whole.
    pub went_on_timed : (stage : G) (old mid new : Pass S N E R) (from middle to : Front) (later : G) (came : Answer (Step G O)) (step : Step G O) (answer : CallAnswer O) → AddUp N next halts start → ((r : R) → KeepsResults gives stage (meaning stage r))
        → ((r : R) → (acquired : Bool) × GainsAtItsEnd gains stage acquired (meaning stage r)) → Grows next halts start old from [] old from → MadeStage next halts start event_of moment meaning (MayBeAt lazy shows came) stage old from came mid middle
        → (acquires_by (gains stage) came ≡ false → SameCounts middle from) → came ≡ Done step → IsOn step later → Did next halts start (λ ds a. Spells event_of meaning later ds a) (λ ds. AreTimely moment shows ds) mid middle answer new to → (has_gained (gains later) answer ≡ false → SameCounts to middle)
        → Did next halts start (λ ds a. Spells event_of meaning stage ds a) (λ ds. AreTimedBy moment shows lazy ds) old from answer new to × (has_gained (gains stage) answer ≡ false → SameCounts to from)
    went_on_timed stage old mid new from middle to later came step answer both keeps gained nothing made quiet is on did rest =
        let clocked : MadeStage next halts start event_of moment meaning shows stage old from came mid middle = record {
          one = made.one;
          grows = made.grows;
          event = made.event;
          answer = made.answer;
          is = made.is;
          timely = goes_on_at shows lazy (moment made.event) step later on (subst (λ (a : Answer (Step G O)). IsAt (MayBeAt lazy shows a) (moment made.event)) is made.timely);
          deed = made.deed;
          means = made.means;
          halted = made.halted;
        } in
        let whole = went_on next halts start event_of moment meaning shows gives gains stage old mid new from middle to later came step answer both keeps gained nothing clocked quiet is on did rest in
        let d = whole.0 in (record { entries = d.entries; grows = d.grows; spelt = d.spelt; halted = d.halted; moments = timed moment shows lazy (deeds_of d.entries) d.moments }, whole.1)
