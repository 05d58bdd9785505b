use Rattle.std.proofs.Common.{◌≡◌, take, count_by}
use Rattle.std.specs.Prelude.{replicate}
use Rattle.std.specs.FinMap.{empty}
use Rattle.run_record.specs.Objects.{is_map}
use Rattle.scheduled_record.proofs.items.new_maps.Given as goal

abbrev pub invariant-loop-object : goal.invariant-loop-object
invariant-loop-object l = l.maps.items ≡ replicate (count_by (λ object. is_map object.kind) (take l.object-index l.object-items)) empty
