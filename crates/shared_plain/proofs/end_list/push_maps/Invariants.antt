use Rattle.std.proofs.Common.{◌≡◌, ◌+◌, ◌*◌, ◌≤◌, ◌++◌, length, vec_len, vec_capacity}
use Rattle.std.specs.List.{flat_map}
use Rattle.sync_model.specs.EndsOfHistory.{pair_ends_by}
use Rattle.shared_plain.specs.Slots.{map_of}
use Rattle.shared_plain.proofs.end_list.push_maps.Given as goal

abbrev pub invariant-loop-object : goal.invariant-loop-object
invariant-loop-object l = record {
  are : l.ends.items ≡ l.initial.ends.items ++ flat_map (λ pair. pair_ends_by l.order (pair.0.now, map_of pair.1.now)) l.yielded;
  count : vec_len l.ends ≤ vec_len l.initial.ends + length l.yielded * length l.order;
  room : vec_capacity l.ends ≡ vec_capacity l.initial.ends;
}
