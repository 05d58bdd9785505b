use Rattle.std.proofs.Common.{◌≡◌, ◌++◌, map}
use Rattle.sync_types.specs.declared.end.End.TheVariants.{Pair}
use Rattle.workload.specs.Keys.{key_number}
use Rattle.step_runner.proofs.ends.push_map.Given as goal

abbrev pub invariant-loop-key : goal.invariant-loop-key
invariant-loop-key l = l.ends ≡ l.initial.ends ++ map (λ entry. Pair l.object (key_number l.keys entry.0) entry.1) l.yielded
