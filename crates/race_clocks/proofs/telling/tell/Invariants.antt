use Rattle.std.proofs.Common.{◌≡◌, Some, map, take}
use Rattle.race_clocks.specs.Agreement.{pair_of}
use Rattle.race_clocks.specs.Races.{race_of}
use Rattle.race_clocks.proofs.telling.tell.Given as goal

abbrev pub invariant-loop-race : goal.invariant-loop-race
invariant-loop-race l = map (race_of l.trace) (map pair_of (take l.race-index l.found)) ≡ map Some l.races.items
