use Rattle.std.proofs.Common.{◌≡◌, ◌∙◌, ◌+◌, List, [], get_or, sym, subst, arith}
use Rattle.std.proofs.lemmas.Bool.{false≢true}
use Rattle.std.proofs.lemmas.List.{get_or_default}
use Rattle.object_checks.specs.declared.journals.row.Row.{Row}
use Rattle.object_checks.specs.JournalItems.{entries_in_row}
use Rattle.object_checks.specs.JournalParts.{IsMachinePart}
use Rattle.object_checks.proofs.WalkLemmas.{part_more, part_at}
use Rattle.object_checks.proofs.journals.walk.pool_follows.Goals as goal
use Rattle.object_checks.proofs.journals.walk.pool_follows.Goals.{After-as_slice}

same : (c : After-as_slice) → c.as_slice.result.now ≡ get_or c.args.journals.now (c.args.first + c.loop-part.part) []
same c = c.as_slice.ensures ∙ c.index-journals-first.is
    ∙ get_or_default c.args.journals.now (c.args.first + c.loop-part.part) c.index-journals-first.result [] (omega (arith, c.requires, c.loop-part-test.true))

pub loop-part-preserved : goal.loop-part-preserved
loop-part-preserved c = part_more c.args.room c.args.first c.args.journals.now c.loop-part.part
    (subst (λ (r : List Row). IsMachinePart c.args.room (entries_in_row r)) (same (goal.at.loop-part-preserved c).After-as_slice) (c.in_ok-part_follows.ensures.0 c.if-not-branch.false)) c.loop-part.invariant

pub returns-then-not-branch : goal.returns-then-not-branch
returns-then-not-branch c = (
  λ yes_. absurd (false≢true yes_),
  λ all. absurd (false≢true (sym c.if-not-branch.true
      ∙ c.in_ok-part_follows.ensures.1 (subst (λ (r : List Row). IsMachinePart c.args.room (entries_in_row r)) (sym (same (goal.at.returns-then-not-branch c).After-as_slice))
      (part_at c.args.room c.args.first c.args.journals.now c.loop-part.part c.args.workers c.loop-part-test.true all)))),
)
