-- What the turns of a kind are whose calls are each on one object, and wait there at most once.
use Rattle.std.specs.Prelude.{◌≡◌, ◌≢◌, ℕ, ◌+◌, ◌<◌, Option, Some, None}
use Rattle.protocols.specs.declared.step.Step.{Step}
use Rattle.protocols.specs.declared.step.Step.TheVariants.{Finished, Misused, Waits, Next, Never}

module _ {G O : Type 0} where
  -- what a stage leaves to do of what was left: less where the call goes on, and less than 4 more where it is completed. It is never unanswered
  abbrev pub Uses : ℕ → ℕ → Step G O → Type 0
  Uses old new (Finished outcome) = new < old + 4
  Uses old new (Misused misuse) = Unit {0}
  Uses old new (Waits later) = new < old
  Uses old new (Next later) = new < old
  Uses old new Never = ⊥

  -- The stage for which its caller waits behind it, by that for which it waited before: none, where the call is completed, and else the later one. It goes on once
  abbrev pub Leaves : (Option G → Type 0) → (Option G → G) → Option G → Option G → Step G O → Type 0
  Leaves Fits left old new (Finished outcome) = Fits old → new ≡ None
  Leaves Fits left old new (Misused misuse) = Unit {0}
  Leaves Fits left old new (Waits later) = (old ≡ None) × ((new ≡ Some later) × (Fits (Some later) × (left (Some later) ≡ later)))
  Leaves Fits left old new (Next later) = (old ≡ None) × ((new ≡ Some later) × (Fits (Some later) × (left (Some later) ≡ later)))
  Leaves Fits left old new Never = ⊥

module _ {S E R G O C : Type 0} (next : S → ℕ → E → S × R) (event_of : G → ℕ → E) (meaning : G → R → Step G O) (callers_of : S → ℕ)
    (due : C → S → ℕ → Option G) (behind : S → ℕ → Option G) (Fits : C → Option G → Type 0) (left : C → Option G → G) (undone : S → ℕ) where
  pub record TurnsStand : Type 0 where
    -- what a stage that is due leaves to do, and where it leaves its caller
    pub uses : (s : S) (c now : ℕ) (call : C) (stage : G) → c < callers_of s → due call s c ≡ Some stage → Uses (undone s) (undone (next s c (event_of stage now)).0) (meaning stage (next s c (event_of stage now)).1)
    pub leaves : (s : S) (c now : ℕ) (call : C) (stage : G) → c < callers_of s → due call s c ≡ Some stage
        → Leaves (Fits call) (left call) (behind s c) (behind (next s c (event_of stage now)).0 c) (meaning stage (next s c (event_of stage now)).1)
    -- it is the one from which the call is left
    pub goes_on : (s : S) (c : ℕ) (call : C) (stage : G) → due call s c ≡ Some stage → left call (behind s c) ≡ stage
    -- another's event leaves a caller where it is
    pub others : (s : S) (c by : ℕ) (e : E) → c ≢ by → behind (next s by e).0 c ≡ behind s c
