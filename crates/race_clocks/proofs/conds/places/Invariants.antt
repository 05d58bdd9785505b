use Rattle.std.proofs.Common.{◌≡◌, map}
use Rattle.std.specs.List.{range_with_len}
use Rattle.wait_cores.specs.NotifyMachine as notify
use Rattle.race_clocks.proofs.conds.places.Given as goal

abbrev pub invariant-loop-worker : goal.invariant-loop-worker
invariant-loop-worker l = l.places.items ≡ map (notify.place_of l.core) (range_with_len 0 l.worker)
