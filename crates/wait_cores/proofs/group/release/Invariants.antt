-- The places before the index are released, and the others are as they were.
use Rattle.std.proofs.Common.{◌≡◌, ◌++◌, map, take, drop}
use Rattle.wait_cores.specs.GroupMachine.{released}
use Rattle.wait_cores.proofs.group.release.Given as goal

abbrev pub invariant-loop-place : goal.invariant-loop-place
invariant-loop-place l = l.places ≡ map released (take l.place-index l.initial.places) ++ drop l.place-index l.initial.places
