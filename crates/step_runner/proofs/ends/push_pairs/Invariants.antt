use Rattle.std.proofs.Common.{◌≡◌, ◌++◌, drop}
use Rattle.std.specs.List.{flat_map}
use Rattle.sync_types.specs.Ends.{pair_ends}
use Rattle.workload.specs.Keys.{key_number}
use Rattle.step_runner.specs.Ends.{maps_from}
use Rattle.step_runner.proofs.ends.push_pairs.Given as goal

abbrev pub invariant-loop-object : goal.invariant-loop-object
invariant-loop-object l = l.ends ++ flat_map (pair_ends (key_number l.keys)) (maps_from l.object (drop l.object l.objects)) ≡ l.initial.ends ++ flat_map (pair_ends (key_number l.keys)) (maps_from 0 l.objects)
