-- The values of maps, which are below 2^63.
use Rattle.std.specs.Prelude.{ℕ, ◌^◌, ◌<◌, List, [], ◌∷◌}
use Rattle.sync_types.specs.declared.map_object.MapCall.{MapCall}
use Rattle.sync_model.specs.declared.item.SharedCall.{SharedCall}
use Rattle.sync_model.specs.declared.item.SharedCall.TheVariants.{Map, Begin, Next, Atomic}
use Rattle.sync_model.specs.declared.item.SharedEntry.{SharedEntry}
use Rattle.sync_model.specs.Shared.{values_of}

-- these values are below 2^63
abbrev pub AreSmall : List ℕ → Type 0
AreSmall [] = Unit {0}
AreSmall (value ∷ values) = (value < 2 ^ 63) × AreSmall values

-- the values in a call on a map are
abbrev pub HasSmallValues : MapCall ℕ → Type 0
HasSmallValues call = AreSmall (values_of call)

-- the same of any shared call
abbrev pub IsInRange : SharedCall → Type 0
IsInRange (Map m call) = HasSmallValues call
IsInRange (Begin m) = Unit {0}
IsInRange (Next begin) = Unit {0}
IsInRange (Atomic a call) = Unit {0}

-- and of all entries of a history
abbrev pub AreInRange : List SharedEntry → Type 0
AreInRange [] = Unit {0}
AreInRange (entry ∷ later) = IsInRange entry.call × AreInRange later
