use Rattle.std.proofs.Common.{◌≡◌, List, length, refl, slice_get, Some, subst, arith}
use Rattle.std.proofs.lemmas.Option.{slice_get_read}
use Rattle.workload.specs.declared.object.ObjectLine.{ObjectLine}
use Rattle.object_checks.proofs.WalkLemmas.{next_pool, next_other}
use Rattle.object_checks.proofs.journals.walk.behind_parts.Goals as goal
use Rattle.object_checks.proofs.journals.walk.behind_parts.Goals.{in-Pool+else-objects-number, in_default}

pub loop-line-preserved : goal.loop-line-preserved
loop-line-preserved c =
    let plan = c.args.workload.now in
    let i = c.loop-line.line-index in
    let at : slice_get plan.objects i ≡ Some c.line-item.result = subst (λ (l : List ObjectLine). slice_get l i ≡ Some c.line-item.result) c.objects-lines.ensures.objects
    (slice_get_read c.objects-lines.result.now (length c.objects-lines.result.now) i c.line-item.result refl c.loop-line-test.true c.line-item.is) in
    let follow = c.parts_have_numbers_of_their_own.ensures.follow plan i c.line-item.result at in
    elim c.match-line.branch [
      | in-Pool+else-objects-number w ↦ (let next_ = next_pool plan i c.line-item.result follow w.in-Pool.is in record {
        number = omega (arith, w.number-is, next_, c.loop-line.invariant.number, c.workers-workers.ensures.workers);
        enough = omega (arith, w.number-is, w.if-objects-number.false, c.loop-line.invariant.enough);
      })
      | in_default w ↦ (let next_ = next_other plan i c.line-item.result follow w.in_default.not-Pool in record {
        number = omega (arith, w.number-is, next_, c.loop-line.invariant.number);
        enough = omega (arith, w.number-is, c.loop-line.invariant.enough);
      })
    ]
