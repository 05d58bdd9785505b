use Rattle.std.proofs.Common.{take}
use Rattle.vector_clocks.specs.Listing.{AreRacesUpTo}
use Rattle.vector_clocks.proofs.race_list.add_races.Given as goal

abbrev pub invariant-loop-earlier : goal.invariant-loop-earlier
invariant-loop-earlier l = AreRacesUpTo l.trace l.later (take l.earlier-index l.accesses) l.races.items
