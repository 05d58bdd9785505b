-- Logs of a machine: lists of events, each with its caller and its reply, the earliest first.
use Rattle.std.specs.Prelude.{ℕ, ◌≡◌, List, [], ◌∷◌}

-- an event, who made it and what it was answered
pub record Entry (E R : Type 0) : Type 0 where
  pub caller : ℕ
  pub event : E
  pub reply : R

module _ {E R : Type 0} where
  abbrev pub entry : ℕ → E → R → Entry E R
  entry caller event reply = record { caller = caller; event = event; reply = reply }

module _ {S E R : Type 0} where
  -- the state that a machine is in after the events of a log
  abbrev pub after : (S → ℕ → E → S × R) → S → List (Entry E R) → S
  after next state [] = state
  after next state (e ∷ log) = after next (next state e.caller e.event).0 log

  -- each reply of the log is the machine's
  abbrev pub Follows : (S → ℕ → E → S × R) → S → List (Entry E R) → Type 0
  Follows next state [] = Unit {0}
  Follows next state (e ∷ log) = ((next state e.caller e.event).1 ≡ e.reply) × Follows next (next state e.caller e.event).0 log
