-- Where a caller stands, by its own entries alone.
use Rattle.std.specs.Prelude.{List, [], ◌∷◌}
use Rattle.sync_model.specs.declared.journal.Deed.{Deed}
use Rattle.sync_model.specs.declared.journal.Deed.TheVariants.{Event, Refused, Halt}
use Rattle.sync_model.specs.declared.journal.Entry.{Entry}

module _ {E R W : Type 0} (out : W) (after : W → E → R → W) where
  -- where it stands after a deed of its own. A refusal ends its call, so it is out
  abbrev pub stand_next : W → Deed E R → W
  stand_next place (Event event reply) = after place event reply
  stand_next place (Refused event misuse) = out
  stand_next place (Halt misuse) = place

  -- where it stands after all its entries
  abbrev pub stand_from : W → List (Entry E R) → W
  stand_from place [] = place
  stand_from place (x ∷ xs) = stand_from (stand_next place x.deed) xs

  abbrev pub stand_by : List (Entry E R) → W
  stand_by own = stand_from out own
