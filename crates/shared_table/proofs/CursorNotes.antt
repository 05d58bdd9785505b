-- Calls of cursors through a caller's note.
use Rattle.std.proofs.Common.{List, Option, Some, None, IsSome, refl, subst}
use Rattle.std.specs.Option.{ForSome}
use Rattle.sync_model.specs.declared.item.Item.{Item}
use Rattle.sync_model.specs.Note.{Holding}
use Rattle.sync_model.specs.Shared.{items_of}

-- what holds of a holder's calls, where there is a holder
module _ (P : List Item → Type 0) where
  pub of_holder : (own : Option Holding) → IsSome own → ForSome own (λ holding. P holding.items) → P (items_of own)
  of_holder None some_there holds = absurd (cc)
  of_holder (Some holding) some_there holds = holds holding refl

  pub holder_of : (own : Option Holding) → P (items_of own) → ForSome own (λ holding. P holding.items)
  holder_of own holds holding is = subst (λ (o : Option Holding). P (items_of o)) is holds
