use Rattle.std.proofs.Common.{◌≡◌, take, count_by}
use Rattle.run_record.specs.Objects.{is_map}
use Rattle.thread_runner.proofs.counts.map_count.Given as goal

abbrev pub invariant-loop-object : goal.invariant-loop-object
invariant-loop-object l = l.count ≡ count_by (λ object. is_map object.kind) (take l.object-index l.object-items)
