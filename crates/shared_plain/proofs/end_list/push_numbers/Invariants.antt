use Rattle.std.proofs.Common.{◌≡◌, ◌+◌, ◌++◌, map, length, vec_len, vec_capacity}
use Rattle.sync_types.specs.Ends.{number_end}
use Rattle.shared_plain.proofs.end_list.push_numbers.Given as goal

abbrev pub invariant-loop-object : goal.invariant-loop-object
invariant-loop-object l = record {
  are : l.ends.items ≡ l.initial.ends.items ++ map (λ pair. number_end (pair.0.now, pair.1.now)) l.yielded;
  count : vec_len l.ends ≡ vec_len l.initial.ends + length l.yielded;
  room : vec_capacity l.ends ≡ vec_capacity l.initial.ends;
}
