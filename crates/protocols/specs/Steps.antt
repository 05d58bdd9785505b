-- How a call goes on after an answer, and what every protocol keeps of it.
use Rattle.std.specs.Prelude.{◌≡◌, ℕ, Bool, true, false, Option, Some, None, Result, Ok, Err}
use Rattle.sync_types.specs.declared.misuse.Misuse.{Misuse}
use Rattle.protocols.specs.declared.step.Step.{Step}
use Rattle.protocols.specs.declared.step.Step.TheVariants.{Finished, Misused, Waits, Next, Never}

module _ {G O : Type 0} where
  -- it is an answer that the event may get
  abbrev pub IsExpected : Step G O → Type 0
  IsExpected (Finished outcome) = Unit {0}
  IsExpected (Misused misuse) = Unit {0}
  IsExpected (Waits stage) = Unit {0}
  IsExpected (Next stage) = Unit {0}
  IsExpected Never = ⊥

  -- what the call can still give is among what it could give before: the outcome, the misuse, or what the later stage gives
  abbrev pub KeepsResults : (G → Result O Misuse → Bool) → G → Step G O → Type 0
  KeepsResults gives stage (Finished outcome) = gives stage (Ok outcome) ≡ true
  KeepsResults gives stage (Misused misuse) = gives stage (Err misuse) ≡ true
  KeepsResults gives stage (Waits later) = (given : Result O Misuse) → gives later given ≡ true → gives stage given ≡ true
  KeepsResults gives stage (Next later) = (given : Result O Misuse) → gives later given ≡ true → gives stage given ≡ true
  KeepsResults gives stage Never = Unit {0}

  -- The event acquires exactly where it ends the call with an outcome that gains. A later stage gains by the same outcomes.
  abbrev pub GainsAtItsEnd : (G → O → Bool) → G → Bool → Step G O → Type 0
  GainsAtItsEnd gains stage acquired (Finished outcome) = acquired ≡ gains stage outcome
  GainsAtItsEnd gains stage acquired (Misused misuse) = acquired ≡ false
  GainsAtItsEnd gains stage acquired (Waits later) = (acquired ≡ false) × ((outcome : O) → gains later outcome ≡ gains stage outcome)
  GainsAtItsEnd gains stage acquired (Next later) = (acquired ≡ false) × ((outcome : O) → gains later outcome ≡ gains stage outcome)
  GainsAtItsEnd gains stage acquired Never = Unit {0}

module _ {G O W : Type 0} where
  -- where the caller then stands: at the end of a call where the outcome leaves it, out of it after a misuse, and else where the later stage is allowed
  abbrev pub LeadsOn : W → (O → W) → (W → G → Bool) → W → Step G O → Type 0
  LeadsOn out left allows stand (Finished outcome) = stand ≡ left outcome
  LeadsOn out left allows stand (Misused misuse) = stand ≡ out
  LeadsOn out left allows stand (Waits later) = allows stand later ≡ true
  LeadsOn out left allows stand (Next later) = allows stand later ≡ true
  LeadsOn out left allows stand Never = Unit {0}

-- an event's moment, where it has one, is such a moment
abbrev pub IsAt : (ℕ → Type 0) → Option ℕ → Type 0
IsAt shows None = Unit {0}
IsAt shows (Some now) = shows now
