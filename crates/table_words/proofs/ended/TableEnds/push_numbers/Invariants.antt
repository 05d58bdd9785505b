use Rattle.std.proofs.Common.{◌≡◌, ◌+◌, ◌≤◌, ◌++◌, map, take, vec_len, vec_capacity}
use Rattle.std.specs.Prelude.{zip}
use Rattle.sync_types.specs.Ends.{number_end}
use Rattle.table_words.specs.EndContents.{contents_of}
use Rattle.table_words.proofs.ended.TableEnds.push_numbers.Given as goal

abbrev pub invariant-loop-atomic : goal.invariant-loop-atomic
invariant-loop-atomic l = record {
  are : l.ends.items ≡ l.initial.ends.items ++ map number_end (take l.atomic (zip l.places (contents_of l.self).numbers));
  count : vec_len l.ends ≤ vec_len l.initial.ends + l.atomic;
  room : vec_capacity l.ends ≡ vec_capacity l.initial.ends;
}
