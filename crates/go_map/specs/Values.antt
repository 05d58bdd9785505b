-- What calls on maps find is below 2^63.
use Rattle.std.specs.Prelude.{◌^◌, ◌<◌, IfSome}
use Rattle.sync_types.specs.declared.map_object.MapReply.{MapReply}
use Rattle.sync_types.specs.declared.map_object.MapReply.TheVariants.{Done, Found, Settled, Compared}

-- a reply's value is below 2^63
abbrev pub IsSmallReply : MapReply → Type 0
IsSmallReply Done = Unit {0}
IsSmallReply (Found found) = IfSome found (λ value. value < 2 ^ 63)
IsSmallReply (Settled value loaded) = value < 2 ^ 63
IsSmallReply (Compared same) = Unit {0}
