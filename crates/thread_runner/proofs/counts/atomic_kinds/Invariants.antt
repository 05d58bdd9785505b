use Rattle.std.proofs.Common.{◌≡◌, take}
use Rattle.std.specs.List.{flat_map}
use Rattle.run_record.specs.Objects.{types_of}
use Rattle.thread_runner.proofs.counts.atomic_kinds.Given as goal

abbrev pub invariant-loop-object : goal.invariant-loop-object
invariant-loop-object l = l.types.items ≡ flat_map (λ object. types_of object.kind) (take l.object-index l.object-items)
