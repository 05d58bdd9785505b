use Rattle.std.proofs.Common.{arith}
use Rattle.std.proofs.lemmas.Grind.{common_steps}
use Rattle.std.proofs.lemmas.List.Elements.{filter_map-append}
use Rattle.shared_plain.proofs.end_list.push_map.Goals as goal
use Rattle.shared_plain.proofs.end_list.push_map.Goals.{in-Some, in_default}

pub loop-key-preserved : goal.loop-key-preserved
loop-key-preserved c = record {
  are = elim c.match-value.branch [ in-Some w ↦ grind (arith, common_steps, filter_map-append) | in_default w ↦ grind (arith, common_steps, filter_map-append) ];
  count = elim c.match-value.branch [ in-Some w ↦ grind (arith, common_steps) | in_default w ↦ grind (arith, common_steps) ];
  room = elim c.match-value.branch [ in-Some w ↦ grind (arith, common_steps) | in_default w ↦ grind (arith, common_steps) ];
}
