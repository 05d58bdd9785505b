use Rattle.std.proofs.Common.{◌≡◌, ◌++◌, take}
use Rattle.race_clocks.specs.Handing.{pairs_taken}
use Rattle.race_clocks.proofs.maps.push_pairs.Given as goal

abbrev pub invariant-loop-key : goal.invariant-loop-key
invariant-loop-key l = l.takes ≡ l.initial.takes ++ pairs_taken l.map (take l.key-index l.pairs)
