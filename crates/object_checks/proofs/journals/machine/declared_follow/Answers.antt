use Rattle.std.proofs.Common.{◌≡◌, ◌∙◌, List, get_or, refl, slice_get, Some, sym, subst}
use Rattle.std.proofs.lemmas.Bool.{false≢true}
use Rattle.std.proofs.lemmas.Option.{slice_get-get_or}
use Rattle.workload.specs.declared.object.ObjectLine.{ObjectLine}
use Rattle.object_checks.specs.declared.journals.row.Row.{Row}
use Rattle.object_checks.specs.JournalItems.{entries_in_row}
use Rattle.object_checks.specs.JournalParts.{IsMachineJournal}
use Rattle.object_checks.proofs.MachineLemmas.{declared_more, declared_all, not_declared, read_at}
use Rattle.object_checks.proofs.journals.machine.declared_follow.Goals as goal

pub follows_kind-requires-clause-kind : goal.follows_kind-requires-clause-kind
follows_kind-requires-clause-kind c = c.requires.kinds c.loop-place.place _ (slice_get-get_or c.args.objects.now c.loop-place.place c.index-objects-place.result c.loop-place-test.true)

pub loop-place-preserved : goal.loop-place-preserved
loop-place-preserved c =
    let line : ObjectLine = get_or c.args.objects.now c.loop-place.place c.index-objects-place.result in
    let at : slice_get c.args.objects.now c.loop-place.place ≡ Some line = slice_get-get_or c.args.objects.now c.loop-place.place c.index-objects-place.result c.loop-place-test.true in
    let same = read_at c.args.objects.now c.args.journals.now c.requires.journals c.loop-place.place c.loop-place-test.true c.index-journals-place.result c.index-journals-place.is c.as_slice.result.now c.as_slice.ensures in
    declared_more c.args.workers c.args.objects.now c.args.journals.now c.loop-place.place line at
    (subst (λ (r : List Row). IsMachineJournal c.args.workers line.kind (entries_in_row r)) same (c.in_ok-follows_kind.ensures.0 c.if-not-branch.false)) c.loop-place.invariant

pub returns-then-not-branch : goal.returns-then-not-branch
returns-then-not-branch c =
    let line : ObjectLine = get_or c.args.objects.now c.loop-place.place c.index-objects-place.result in
    let at : slice_get c.args.objects.now c.loop-place.place ≡ Some line = slice_get-get_or c.args.objects.now c.loop-place.place c.index-objects-place.result c.loop-place-test.true in
    let same = read_at c.args.objects.now c.args.journals.now c.requires.journals c.loop-place.place c.loop-place-test.true c.index-journals-place.result c.index-journals-place.is c.as_slice.result.now c.as_slice.ensures in (
      λ yes_. absurd (false≢true yes_),
      λ all. absurd (not_declared c.args.workers c.args.objects.now c.args.journals.now c.loop-place.place line at
          (λ follows. false≢true (sym c.if-not-branch.true ∙ c.in_ok-follows_kind.ensures.1 (subst (λ (r : List Row). IsMachineJournal c.args.workers line.kind (entries_in_row r)) (sym same) follows))) all),
    )

pub returns : goal.returns
returns c = (λ yes_. declared_all c.args.workers c.args.objects.now c.args.journals.now c.loop-place.place c.loop-place-test.false c.loop-place.invariant, λ all. refl)
