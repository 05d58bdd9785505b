use Rattle.std.proofs.Common.{◌≡◌, ◌+◌, ◌*◌, ◌≤◌, ◌++◌, map, drop}
use Rattle.std.specs.Vec.{vec_len, vec_capacity}
use Rattle.workload.specs.Canonical.{behind_spaces}
use Rattle.workload_text.specs.ReportLines.{pair_text}
use Rattle.workload_text.proofs.reply.push_more_pairs.Given as goal

abbrev pub invariant-loop-pair : goal.invariant-loop-pair
invariant-loop-pair l = record {
  text : l.line.items ++ behind_spaces (map (pair_text l.keys) (drop l.pair-index l.pairs)) ≡ l.initial.line.items ++ behind_spaces (map (pair_text l.keys) l.pairs);
  len : vec_len l.line ≤ vec_len l.initial.line + 54 * l.pair-index;
  room : vec_capacity l.initial.line ≤ vec_capacity l.line;
}
