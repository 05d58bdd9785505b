-- Whether a holder has a unit of room left, by the number that it is told.
use Rattle.std.proofs.Common.{◌≡◌, ℕ, ◌≤◌, Option, Some, None, IsSome, refl, sym, subst}
use Rattle.std.proofs.lemmas.Bool.{false≢true}
use Rattle.std.specs.Option.{ForSome}
use Rattle.sync_model.specs.Note.{Holding}

pub has_some : (own : Option Holding) (spare : ℕ) → ForSome own (λ holding. spare ≡ holding.spare) → 1 ≤ spare → ForSome own (λ holding. 1 ≤ holding.spare)
has_some own spare told some holding is = subst (λ n. 1 ≤ n) (told holding is) some

pub has_none : (own : Option Holding) (spare : ℕ) → IsSome own → ForSome own (λ holding. spare ≡ holding.spare) → ForSome own (λ holding. 1 ≤ holding.spare) → 1 ≤ spare
has_none None spare held told has = absurd (false≢true held)
has_none (Some holding) spare held told has = subst (λ n. 1 ≤ n) (sym (told holding refl)) (has holding refl)
