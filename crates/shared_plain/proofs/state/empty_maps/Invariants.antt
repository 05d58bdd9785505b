-- As many maps as the loop has counted, all of them empty.
use Rattle.std.proofs.Common.{◌≡◌, None, replicate}
use Rattle.shared_plain.proofs.state.empty_maps.Given as goal

abbrev pub invariant-loop-map : goal.invariant-loop-map
invariant-loop-map l = l.made.items ≡ replicate l._map (replicate l.keys None)
