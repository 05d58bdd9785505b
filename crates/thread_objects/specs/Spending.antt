-- What a caller's calls take of its spare entries.
use Rattle.std.specs.Prelude.{◌≡◌, ℕ, ◌+◌, ◌≤◌, Option, Some}
use Rattle.sync_model.specs.Note.{Holding}

-- The caller of a note made some calls: the note is still its own, and no more of its spare entries are gone than this.
pub record Spends {N : Type 0} (own : N → Option Holding) (cost : ℕ) (old new : N) : Type 0 where
  pub was : Holding
  pub becomes : Holding
  pub own_old : own old ≡ Some was
  pub own_new : own new ≡ Some becomes
  pub number : becomes.number ≡ was.number
  pub spare : was.spare ≤ becomes.spare + cost
