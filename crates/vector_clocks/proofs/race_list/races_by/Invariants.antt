use Rattle.std.proofs.Common.{[]}
use Rattle.vector_clocks.specs.Listing.{HoldAccesses, AreRacesUpTo}
use Rattle.vector_clocks.proofs.race_list.races_by.Given as goal

abbrev pub invariant-loop-later : goal.invariant-loop-later
invariant-loop-later l = record {
  accesses : HoldAccesses l.trace l.later l.accesses.items;
  races : AreRacesUpTo l.trace l.later [] l.races.items;
}
