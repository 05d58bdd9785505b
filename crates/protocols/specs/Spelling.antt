-- Which deeds a call makes, one after the other, and what it then answers. This is the spelling of every call of every kind of object.
use Rattle.std.specs.Prelude.{◌≡◌, ℕ, Bool, false, List, [], ◌∷◌, Option, Result, Ok, Err}
use Rattle.std.specs.List.{AllByRecursion}
use Rattle.sync_types.specs.declared.misuse.Misuse.{Misuse}
use Rattle.sync_model.specs.declared.answer.Answer.{Answer}
use Rattle.sync_model.specs.declared.answer.Answer.TheVariants.{Done, Halted}
use Rattle.sync_model.specs.declared.journal.Deed.{Deed}
use Rattle.sync_model.specs.declared.journal.Deed.TheVariants.{Event, Refused, Halt}
use Rattle.sync_model.specs.Journal.{is_such}
use Rattle.protocols.specs.declared.step.Step.{Step}
use Rattle.protocols.specs.declared.step.Step.TheVariants.{Finished, Misused, Waits, Next, Never}
use Rattle.protocols.specs.Steps.{IsAt}

-- what a call answers: its outcome or its misuse, or that the object was halted before it was done
abbrev pub CallAnswer : Type 0 → Type 0
CallAnswer O = Answer (Result O Misuse)

module _ {G O E R : Type 0} where
  -- how the deeds go on after an answer: none is left where the call ends, and else they go on from the later stage
  abbrev pub Rest : Step G O → List (Deed E R) → (G → Type 0) → CallAnswer O → Type 0
  Rest (Finished outcome) rest on answer = (rest ≡ []) × (answer ≡ Done (Ok outcome))
  Rest (Misused misuse) rest on answer = (rest ≡ []) × (answer ≡ Done (Err misuse))
  Rest (Waits later) rest on answer = on later
  Rest (Next later) rest on answer = on later
  Rest Never rest on answer = ⊥

module _ {G E : Type 0} (event_of : G → ℕ → E) where
  -- it is the stage's event, at some moment
  abbrev pub IsEventOf : G → E → Type 0
  IsEventOf stage event = (now : ℕ) × (event ≡ event_of stage now)

module _ {G O E R : Type 0} (event_of : G → ℕ → E) (meaning : G → R → Step G O) where
  -- the first deed is the stage's event, and the rest goes on by its answer; a refusal ends the call
  abbrev pub IsFirstDeed : G → Deed E R → List (Deed E R) → (G → Type 0) → CallAnswer O → Type 0
  IsFirstDeed stage (Event event reply) rest on answer = IsEventOf event_of stage event × Rest (meaning stage reply) rest on answer
  IsFirstDeed stage (Refused event misuse) rest on answer = IsEventOf event_of stage event × (rest ≡ []) × (answer ≡ Halted misuse)
  IsFirstDeed stage (Halt misuse) rest on answer = ⊥

  -- from this stage on, the deeds are those of a call that answers this
  abbrev pub Spells : G → List (Deed E R) → CallAnswer O → Type 0
  Spells stage [] answer = ⊥
  Spells stage (deed ∷ rest) answer = IsFirstDeed stage deed rest (λ later. Spells later rest answer) answer

module _ {E R : Type 0} where
  abbrev pub IsEvent : Deed E R → Type 0
  IsEvent (Event event reply) = Unit {0}
  IsEvent (Refused event misuse) = ⊥
  IsEvent (Halt misuse) = ⊥

  -- the machine took the event, where the call is done, and else refused it by the misuse of the answer
  abbrev pub IsLast : {A : Type 0} → Deed E R → Answer A → Type 0
  IsLast deed (Done given) = IsEvent deed
  IsLast deed (Halted misuse) = (event : E) × (deed ≡ Refused event misuse)

  -- How a call ends: it makes at least one deed, and none is a halt. The machine took each but the last, and the last exactly where the call is done.
  abbrev pub Ends : {A : Type 0} → List (Deed E R) → Answer A → Type 0
  Ends [] answer = ⊥
  Ends (last ∷ []) answer = IsLast last answer
  Ends (deed ∷ (next ∷ rest)) answer = IsEvent deed × Ends (next ∷ rest) answer

module _ {E R : Type 0} (takes : E → R → Bool) where
  -- the last deed takes in what earlier calls left, exactly where this says so, and no other deed does
  abbrev pub TakesInLast : Bool → List (Deed E R) → Type 0
  TakesInLast gained [] = ⊥
  TakesInLast gained (last ∷ []) = is_such takes last ≡ gained
  TakesInLast gained (deed ∷ (next ∷ rest)) = (is_such takes deed ≡ false) × TakesInLast gained (next ∷ rest)

module _ {E R : Type 0} (moment : E → Option ℕ) (shows : ℕ → Type 0) where
  -- the moment of a deed's event, where it has one, is such a moment
  abbrev pub IsTimely : Deed E R → Type 0
  IsTimely (Event event reply) = IsAt shows (moment event)
  IsTimely (Refused event misuse) = IsAt shows (moment event)
  IsTimely (Halt misuse) = Unit {0}

  abbrev pub AreTimely : List (Deed E R) → Type 0
  AreTimely deeds = AllByRecursion IsTimely deeds
