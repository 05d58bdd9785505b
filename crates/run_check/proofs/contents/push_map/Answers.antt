use Rattle.std.proofs.Common.{arith}
use Rattle.std.proofs.lemmas.Grind.{common_steps}
use Rattle.std.proofs.lemmas.List.Elements.{filter_map-append}
use Rattle.run_check.proofs.contents.push_map.Goals as goal
use Rattle.run_check.proofs.contents.push_map.Goals.{in-Some+in_ok-push, in_default}

pub loop-key-preserved : goal.loop-key-preserved
loop-key-preserved c = elim c.match-get.branch [ in-Some+in_ok-push w ↦ grind (arith, common_steps, filter_map-append) | in_default w ↦ grind (arith, common_steps, filter_map-append) ]
