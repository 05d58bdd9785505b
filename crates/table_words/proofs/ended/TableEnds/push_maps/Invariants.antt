use Rattle.std.proofs.Common.{◌≡◌, ◌+◌, ◌*◌, ◌≤◌, ◌++◌, length, take, vec_len, vec_capacity}
use Rattle.std.specs.Prelude.{zip}
use Rattle.std.specs.List.{flat_map}
use Rattle.table_words.specs.EndContents.{contents_of}
use Rattle.sync_model.specs.EndsOfHistory.{pair_ends_by}
use Rattle.table_words.proofs.ended.TableEnds.push_maps.Given as goal

abbrev pub invariant-loop-map : goal.invariant-loop-map
invariant-loop-map l = record {
  are : l.ends.items ≡ l.initial.ends.items ++ flat_map (pair_ends_by l.order) (take l.map (zip l.places (contents_of l.self).maps));
  count : vec_len l.ends ≤ vec_len l.initial.ends + l.map * length l.order;
  room : vec_capacity l.ends ≡ vec_capacity l.initial.ends;
}
