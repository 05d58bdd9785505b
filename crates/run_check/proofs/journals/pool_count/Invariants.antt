use Rattle.std.proofs.Common.{◌≡◌, take, count_by}
use Rattle.run_record.specs.Objects.{is_pool}
use Rattle.run_check.proofs.journals.pool_count.Given as goal

abbrev pub invariant-loop-object : goal.invariant-loop-object
invariant-loop-object l = l.pools ≡ count_by (λ object. is_pool object.kind) (take l.object-index l.objects)
