use Rattle.std.proofs.Common.{◌≡◌, ◌+◌, ◌≤◌, ◌++◌, take, vec_len, vec_capacity}
use Rattle.sync_model.specs.SharedHistory.{map_at}
use Rattle.table_words.specs.EndContents.{contents_of}
use Rattle.sync_model.specs.EndsOfHistory.{pair_ends_by}
use Rattle.table_words.proofs.ended.TableEnds.push_map.Given as goal

abbrev pub invariant-loop-key : goal.invariant-loop-key
invariant-loop-key l = record {
  are : l.ends.items ≡ l.initial.ends.items ++ pair_ends_by (take l.key-index l.order) (l.object, map_at (contents_of l.self) l.map);
  count : vec_len l.ends ≤ vec_len l.initial.ends + l.key-index;
  room : vec_capacity l.ends ≡ vec_capacity l.initial.ends;
}
