-- Where a caller stands, by what the machine answered it.
use Rattle.std.specs.Prelude.{◌≡◌, ◌≢◌, ℕ, ◌==◌, if◌then◌else◌, List, [], ◌∷◌}
use Rattle.sync_model.specs.Log.{Entry}

module _ {E R W : Type 0} (after : W → E → R → W) where
  -- where it stands after a log, from where it stood before: its own entries alone change that
  abbrev pub stand_from : W → ℕ → List (Entry E R) → W
  stand_from stand caller [] = stand
  stand_from stand caller (entry ∷ log) = stand_from (if entry.caller == caller then after stand entry.event entry.reply else stand) caller log

module _ {S E R W : Type 0} (next : S → ℕ → E → S × R) where
  -- each event moves the caller that makes it, by its answer, and nobody else
  abbrev pub MovesItsMaker : (S → ℕ → W) → (W → E → R → W) → Type 0
  MovesItsMaker at moved =
      ((state : S) (caller : ℕ) (event : E) → at (next state caller event).0 caller ≡ moved (at state caller) event (next state caller event).1)
      × ((state : S) (caller other : ℕ) (event : E) → caller ≢ other → at (next state other event).0 caller ≡ at state caller)
