use Rattle.std.proofs.Common.{◌≡◌, ℕ, true, cond, List, [], sym, subst, arith}
use Rattle.std.proofs.lemmas.List.Sums.{sum_by-take-le}
use Rattle.workload.specs.declared.object.ObjectLine.{ObjectLine}
use Rattle.workload.specs.Readable.{may_declare}
use Rattle.run_record.specs.Objects.{is_map}
use Rattle.thread_runner.proofs.Counting.{few_maps}
use Rattle.thread_runner.proofs.counts.map_count.Goals as goal

pub count_one-count-requires : goal.count_one-count-requires
count_one-count-requires c =
    let objects = c.objects-object-items.result.now in
    let declared = subst (λ (os : List ObjectLine). may_declare [] os ≡ true) (sym c.objects-object-items.ensures.objects) c.workers-workers.ensures.readable.objects in
    let few = few_maps objects [] (omega arith) declared in
    let first = sum_by-take-le (λ (object : ObjectLine). cond {A = ℕ} (is_map object.kind) 1 0) objects c.loop-object.object-index in
    omega (arith, few, first, c.loop-object.invariant)
