use Rattle.std.proofs.Common.{◌≡◌, ◌+◌, ◌*◌, ◌≤◌, ◌++◌, drop}
use Rattle.std.specs.Vec.{vec_len, vec_capacity}
use Rattle.record_text.specs.WrittenLines.{behind_commas}
use Rattle.record_text.proofs.number_writing.push_more_counts.Given as goal

abbrev pub invariant-loop-count : goal.invariant-loop-count
invariant-loop-count l = record {
  text : l.line.items ++ behind_commas (drop l.count-index l.counts) ≡ l.initial.line.items ++ behind_commas l.counts;
  len : vec_len l.line ≤ vec_len l.initial.line + 21 * l.count-index;
  room : vec_capacity l.initial.line ≤ vec_capacity l.line;
}
