use Rattle.std.proofs.Common.{◌≡◌, ℕ, None, sym, subst}
use Rattle.sync_model.specs.SharedHistory.{Contents, value_at}
use Rattle.record_text.specs.Reads.{told_by}
use Rattle.run_check.proofs.FoundVerdicts.{none_at_start}
use Rattle.run_check.proofs.verdict.has_ranges.Goals as goal

pub keep_ranges-requires-clause-on : goal.keep_ranges-requires-clause-on
keep_ranges-requires-clause-on c =
    let (claim, found, up) = c.requires in
    rw c.in_ok-objects.ensures (rw c.deref-2.ensures.value (c.what_is_told_is_on_objects_that_are_there.ensures.marked _ _ _ claim c.workers-workers.ensures.readable found.placed))

pub keep_ranges-requires-clause-empty : goal.keep_ranges-requires-clause-empty
keep_ranges-requires-clause-empty c = subst (λ (k : Contents). (m key : ℕ) → value_at k m key ≡ None) (sym c.in_ok-objects.ensures) (none_at_start c.args.text.now.workload)

pub keep_ranges-requires-clause-fronts : goal.keep_ranges-requires-clause-fronts
keep_ranges-requires-clause-fronts c = let (claim, found, up) = c.requires in rw c.deref-2.ensures.value (c.range_is_asked_of_the_marked_calls.ensures.fronts (told_by c.args.text.now) _ _ claim found.placed up)

pub returns : goal.returns
returns c claim found up =
    let kept = rw c.deref-2.ensures.value at (rw c.deref.ensures.value at (rw c.in_ok-objects.ensures at c.keep_ranges.ensures)) in
    let asked = c.range_is_asked_of_the_marked_calls.ensures.ranges (told_by c.args.text.now) _ _ claim found.placed up in
    (λ holds. asked.0 (kept.0 holds), λ holds. kept.1 (asked.1 holds))
