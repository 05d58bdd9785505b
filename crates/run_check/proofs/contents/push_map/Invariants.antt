use Rattle.std.proofs.Common.{◌≡◌, ◌++◌, take}
use Rattle.sync_model.specs.EndsOfHistory.{pair_ends_by}
use Rattle.run_check.proofs.contents.push_map.Given as goal

abbrev pub invariant-loop-key : goal.invariant-loop-key
invariant-loop-key l = l.ends.items ≡ l.initial.ends.items ++ pair_ends_by (take l.key-index l.order) (l.object, l.map)
