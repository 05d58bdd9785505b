use Rattle.std.proofs.Common.{◌≡◌, ◌∙◌, ◌≤◌, List, get_or, length, refl, slice_get, Some, sym, subst, arith}
use Rattle.std.proofs.lemmas.Bool.{false≢true}
use Rattle.workload.specs.declared.object.ObjectLine.{ObjectLine}
use Rattle.workload.specs.Puts.{puts_at}
use Rattle.run_record.specs.Objects.{first_part}
use Rattle.object_checks.proofs.WalkLemmas.{line_at, next_pool, next_other, pool_same, pool_more, other_kind, its_pool, pools_all}
use Rattle.object_checks.proofs.journals.walk.parts_follow.Goals as goal
use Rattle.object_checks.proofs.journals.walk.parts_follow.Goals.{in-Pool+in_ok-pool_follows+else-not-branch, in_default}

pub returns-then-not-branch : goal.returns-then-not-branch
returns-then-not-branch c =
    let plan = c.args.workload.now in
    let rows = c.args.journals.now in
    let place = c.loop-place.place in
    let line : ObjectLine = get_or c.objects-lines.result.now place c.index-lines-place.result in
    let at : slice_get plan.objects place ≡ Some line = line_at plan.objects c.objects-lines.result.now c.objects-lines.ensures.objects place c.index-lines-place.result c.loop-place-test.true in (
      λ yes_. absurd (false≢true yes_),
      λ all. absurd (false≢true (sym c.if-not-branch.true
          ∙ c.in_ok-pool_follows.ensures.1 (pool_same rows (puts_at place plan.scripts) c.puts_at.result (first_part plan place) c.loop-place.first plan.workers c.workers-workers.result
          (sym c.puts_at.ensures) (sym c.loop-place.invariant.first) (sym c.workers-workers.ensures.workers) (its_pool plan rows place line at c.in-Pool.is all)))),
    )

pub loop-place-preserved : goal.loop-place-preserved
loop-place-preserved c =
    let plan = c.args.workload.now in
    let rows = c.args.journals.now in
    let place = c.loop-place.place in
    let line : ObjectLine = get_or c.objects-lines.result.now place c.index-lines-place.result in
    let at : slice_get plan.objects place ≡ Some line = line_at plan.objects c.objects-lines.result.now c.objects-lines.ensures.objects place c.index-lines-place.result c.loop-place-test.true in
    let follow = c.parts_have_numbers_of_their_own.ensures.follow plan place line at in
    elim c.match-kind.branch [
      | in-Pool+in_ok-pool_follows+else-not-branch w ↦ (let next_ = next_pool plan place line follow w.in-Pool.is in record {
        first = omega (arith, w.first-is, next_, c.loop-place.invariant.first, c.workers-workers.ensures.workers);
        so_far = pool_more plan rows place line at
            (pool_same rows w.puts_at.result (puts_at place plan.scripts) c.loop-place.first (first_part plan place) c.workers-workers.result plan.workers
            w.puts_at.ensures c.loop-place.invariant.first c.workers-workers.ensures.workers (w.in_ok-pool_follows.ensures.0 w.if-not-branch.false)) c.loop-place.invariant.so_far;
      })
      | in_default w ↦ (let next_ = next_other plan place line follow w.in_default.not-Pool in record {
        first = omega (arith, w.first-is, next_, c.loop-place.invariant.first);
        so_far = other_kind plan rows place line at w.in_default.not-Pool c.loop-place.invariant.so_far;
      })
    ]

pub returns : goal.returns
returns c = (
  λ yes_. pools_all c.args.workload.now c.args.journals.now c.loop-place.place (subst (λ (l : List ObjectLine). length l ≤ c.loop-place.place) c.objects-lines.ensures.objects c.loop-place-test.false) c.loop-place.invariant.so_far,
  λ all. refl,
)
