-- What one stage of a running call did.
use Rattle.std.specs.Prelude.{◌≡◌, ◌⊎◌, ℕ, Bool, true, false, List, [], ◌∷◌, Option, None, Some}
use Rattle.sync_model.specs.declared.answer.Answer.{Answer}
use Rattle.sync_model.specs.declared.answer.Answer.TheVariants.{Done, Halted}
use Rattle.sync_model.specs.declared.journal.Deed.{Deed}
use Rattle.sync_model.specs.declared.journal.Deed.TheVariants.{Event, Refused, Halt}
use Rattle.sync_model.specs.Front.{Front}
use Rattle.ruled_object.specs.declared.pass.Pass.{Pass}
use Rattle.ruled_object.specs.Cells.{deed_of}
use Rattle.ruled_object.specs.Growth.{Placed, Grows, MeetsHalt}
use Rattle.protocols.specs.declared.step.Step.{Step}
use Rattle.protocols.specs.declared.step.Step.TheVariants.{Finished, Misused, Waits, Next, Never}
use Rattle.protocols.specs.Spelling.{IsEventOf, AreTimely}
use Rattle.protocols.specs.Steps.{IsAt, IsExpected, LeadsOn}

module _ {G O R : Type 0} where
  -- how the call goes on, or that the event was refused
  abbrev pub meant : (G → R → Step G O) → G → Answer R → Answer (Step G O)
  meant meaning stage (Done reply) = Done (meaning stage reply)
  meant meaning stage (Halted misuse) = Halted misuse

-- The caller made the stage's event, and no other. The call goes on by its answer.
pub record MadeStage {S N E R G O : Type 0} (next : S → ℕ → E → S × R) (halts : Bool) (start : S) (event_of : G → ℕ → E) (moment : E → Option ℕ) (meaning : G → R → Step G O) (shows : ℕ → Type 0) (stage : G) (old : Pass S N E R) (from : Front) (step : Answer (Step G O)) (new : Pass S N E R) (to : Front) : Type 0 where
  pub one : Placed E R
  pub grows : Grows next halts start old from (one ∷ []) new to
  pub event : E
  pub answer : Answer R
  pub is : IsEventOf event_of stage event
  pub timely : IsAt shows (moment event)
  pub deed : one.entry.deed ≡ deed_of event answer
  pub means : step ≡ meant meaning stage answer
  pub halted : MeetsHalt (one ∷ []) answer

module _ {G O : Type 0} where
  -- it is an answer that the event may get
  abbrev pub MayCome : Answer (Step G O) → Type 0
  MayCome (Done step) = IsExpected step
  MayCome (Halted misuse) = Unit {0}

  -- the event acquires only where it ends the call with an outcome that gains
  abbrev pub acquires_by : (O → Bool) → Answer (Step G O) → Bool
  acquires_by gains (Done (Finished outcome)) = gains outcome
  acquires_by gains (Done (Misused misuse)) = false
  acquires_by gains (Done (Waits later)) = false
  acquires_by gains (Done (Next later)) = false
  acquires_by gains (Done Never) = false
  acquires_by gains (Halted misuse) = false

module _ {G O W : Type 0} where
  -- where the caller then stands
  abbrev pub StandsOn : W → (O → W) → (W → G → Bool) → W → Answer (Step G O) → Type 0
  StandsOn out left allows stand (Done step) = LeadsOn out left allows stand step
  StandsOn out left allows stand (Halted misuse) = stand ≡ out

module _ {G O : Type 0} where
  -- the call doesn't go on after this
  abbrev pub EndsCall : Step G O → Type 0
  EndsCall (Finished outcome) = Unit {0}
  EndsCall (Misused misuse) = Unit {0}
  EndsCall (Waits later) = ⊥
  EndsCall (Next later) = ⊥
  EndsCall Never = Unit {0}

  -- Which moments a stage's event may have that came to this: the clock's. Where the clock is read lazily it is any, if the machine took the event and the call ends with it.
  abbrev pub MayBeAt : Bool → (ℕ → Type 0) → Answer (Step G O) → ℕ → Type 0
  MayBeAt false shows came = shows
  MayBeAt true shows (Done (Finished outcome)) = λ now. Unit {0}
  MayBeAt true shows (Done (Misused misuse)) = λ now. Unit {0}
  MayBeAt true shows (Done (Waits later)) = shows
  MayBeAt true shows (Done (Next later)) = shows
  MayBeAt true shows (Done Never) = λ now. Unit {0}
  MayBeAt true shows (Halted misuse) = shows

module _ {G E : Type 0} (event_of : G → ℕ → E) (moment : E → Option ℕ) (shows : ℕ → Type 0) (stage : G) where
  -- it is the stage's event, at a moment that the clock may show
  abbrev pub IsClocked : E → Type 0
  IsClocked event = IsEventOf event_of stage event × IsAt shows (moment event)

module _ {S E R G O : Type 0} (next : S → ℕ → E → S × R) (event_of : G → ℕ → E) (moment : E → Option ℕ) (meaning : G → R → Step G O) (lazy : Bool) (shows : ℕ → Type 0) (stage : G) where
  -- It is the stage's event, at a moment that the clock may show. Where the clock is read lazily it may be at any moment, if the call ends with it, whoever makes it in this state.
  abbrev pub IsTimedBy : S → E → Type 0
  IsTimedBy state event = IsEventOf event_of stage event × (IsAt shows (moment event) ⊎ ((lazy ≡ true) × ((caller : ℕ) → EndsCall (meaning stage (next state caller event).1))))

module _ {E : Type 0} where
  -- it is the event that was made before, and where none was, such a one
  abbrev pub ReadyOr : Option E → (E → Type 0) → E → Type 0
  ReadyOr None P event = P event
  ReadyOr (Some ready) P event = event ≡ ready

module _ {E R : Type 0} (moment : E → Option ℕ) (shows : ℕ → Type 0) where
  -- The moments of a call that reads the clock lazily. They are the clock's, but for the moment of an event that the machine took and that is the call's only one.
  abbrev pub AreLazilyTimed : List (Deed E R) → Type 0
  AreLazilyTimed [] = Unit {0}
  AreLazilyTimed (Event event reply ∷ []) = Unit {0}
  AreLazilyTimed (Event event reply ∷ (deed ∷ rest)) = AreTimely moment shows (Event event reply ∷ (deed ∷ rest))
  AreLazilyTimed (Refused event misuse ∷ rest) = AreTimely moment shows (Refused event misuse ∷ rest)
  AreLazilyTimed (Halt misuse ∷ rest) = AreTimely moment shows (Halt misuse ∷ rest)

  -- the moments of a call that reads the clock lazily, or for each event that has a moment
  abbrev pub AreTimedBy : Bool → List (Deed E R) → Type 0
  AreTimedBy false = AreTimely moment shows
  AreTimedBy true = AreLazilyTimed
