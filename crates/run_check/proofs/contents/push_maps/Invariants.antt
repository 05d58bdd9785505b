use Rattle.std.proofs.Common.{◌≡◌, ◌++◌}
use Rattle.std.specs.List.{flat_map}
use Rattle.sync_model.specs.EndsOfHistory.{pair_ends_by}
use Rattle.run_check.proofs.contents.push_maps.Given as goal

abbrev pub invariant-loop-object : goal.invariant-loop-object
invariant-loop-object l = l.ends.items ≡ l.initial.ends.items ++ flat_map (λ pair. pair_ends_by l.order (pair.0.now, pair.1.now)) l.yielded
