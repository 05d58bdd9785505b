use Rattle.std.proofs.Common.{◌≡◌, take, map}
use Rattle.std.specs.List.{flat_map}
use Rattle.sync_types.specs.SequentialAtomic.{zero_of}
use Rattle.run_record.specs.Objects.{types_of}
use Rattle.run_check.proofs.contents.zeros.Given as goal

abbrev pub invariant-loop-object : goal.invariant-loop-object
invariant-loop-object l = l.numbers.items ≡ map zero_of (flat_map (λ object. types_of object.kind) (take l.object-index l.object-items))
