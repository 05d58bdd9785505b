use Rattle.std.proofs.Common.{ℕ, ◌-◌, sym, subst, arith}
use Rattle.thread_objects.specs.Passes.{owns_of}
use Rattle.thread_objects.specs.Working.{Works, desk_with}
use Rattle.run_record.specs.PoolKind.{pool_call}
use Rattle.thread_runner.specs.PoolParts.{ArePartsAt}
use Rattle.thread_runner.proofs.dispatch.pool_at.Goals as goal

pub first_part_of-first-requires-clause-room : goal.first_part_of-first-requires-clause-room
first_part_of-first-requires-clause-room g c = omega (arith, c.requires.site.site.declared.count)

pub call_pool-requires-clause-parts : goal.call_pool-requires-clause-parts
call_pool-requires-clause-parts g c =
    let plan = c.args.site.now.catalog.workload.now in
    let objects = c.args.site.now.objects.now in
    subst (λ (first : ℕ). ArePartsAt objects first c.args.worker.now.workers) (sym c.first_part_of-first.ensures)
    (λ part below. (c.objects_are_of_their_kinds.ensures.parts c.args.worker.now.at.home.now plan objects c.args.place part c.requires.site.site.declared c.requires.place (omega (arith, below, c.requires.site.counted))).1)

pub call_pool-requires-clause-room : goal.call_pool-requires-clause-room
call_pool-requires-clause-room g c =
    let plan = c.args.site.now.catalog.workload.now in
    let objects = c.args.site.now.objects.now in
    let last = (c.objects_are_of_their_kinds.ensures.parts c.args.worker.now.at.home.now plan objects c.args.place (plan.workers - 1) c.requires.site.site.declared c.requires.place (omega (arith, c.requires.own, c.requires.site.counted))).0 in
    omega (arith, last, c.first_part_of-first.ensures, c.requires.own, c.requires.site.counted)

pub returns-clause-works : goal.returns-clause-works
returns-clause-works g c =
    let mark = g.S.Mark.Note in
    let old = desk_with mark.own mark.front (owns_of c.args.passes.now) c.args.note.now in
    let new = desk_with mark.own mark.front (owns_of c.call_pool.new.passes) c.call_pool.new.note in
    subst (λ (first : ℕ). Works (pool_call c.args.worker.now.workers c.args.worker.now.number first c.args.call) old c.call_pool.result new) c.first_part_of-first.ensures c.call_pool.ensures.works
