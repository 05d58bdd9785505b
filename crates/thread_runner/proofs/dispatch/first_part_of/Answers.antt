use Rattle.std.proofs.Common.{◌*◌, List, length, ap, ◌∙◌, arith}
use Rattle.workload.specs.declared.object.ObjectKind.TheVariants.{Pool}
use Rattle.workload.specs.declared.object.ObjectLine.{ObjectLine}
use Rattle.run_record.specs.Objects.{pool_number}
use Rattle.thread_runner.proofs.Sites.{number_is}
use Rattle.thread_runner.proofs.dispatch.first_part_of.Goals as goal

pub part_behind-requires : goal.part_behind-requires
part_behind-requires g c =
    let plan = c.args.site.now.catalog.workload.now in
    let is = c.requires.place in
    let at = number_is plan c.args.place c.args.site.now.catalog.numbers.now c.requires.numbered Pool c.requires.place in
    let product = ap (λ n. n * c.workers-workers.result) at ∙ ap (λ n. pool_number plan.objects c.args.place * n) c.workers-workers.ensures.workers in
    let some = c.workers-workers.ensures.readable.some_workers in
    let within = c.parts_have_numbers_of_their_own.ensures.within plan c.args.place 0 is.0 is.1 is.2 some in
    omega (arith, product, within, c.requires.room, ap (λ (xs : List ObjectLine). length xs) c.objects-lines.ensures.objects)

pub returns : goal.returns
returns g c =
    let plan = c.args.site.now.catalog.workload.now in
    let at = number_is plan c.args.place c.args.site.now.catalog.numbers.now c.requires.numbered Pool c.requires.place in
    let product = ap (λ n. n * c.workers-workers.result) at ∙ ap (λ n. pool_number plan.objects c.args.place * n) c.workers-workers.ensures.workers in
    omega (arith, product, c.part_behind.ensures, ap (λ (xs : List ObjectLine). length xs) c.objects-lines.ensures.objects)
