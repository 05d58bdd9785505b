use Rattle.std.proofs.Common.{refl, arith}
use Rattle.record_text.specs.Reads.{told_by}
use Rattle.record_clauses.specs.declared.clause.Clause.TheVariants.{Legal, Front, Range}
use Rattle.run_check.proofs.FoundVerdicts.{fails, holds_so, stops_at}
use Rattle.run_check.proofs.verdict.first_behind_legal.Goals as goal

pub returns-then-not-branch : goal.returns-then-not-branch
returns-then-not-branch c =
    let (claim, found, up) = c.requires in
    let told = told_by c.args.text.now in
    let front = (rw c.deref.ensures.value at (rw c.as_slice-items.ensures at c.in_ok-front_holds.ensures)) told claim refl refl found.placed.tells found.placed.calls up in
    stops_at told c.args.findings.now claim found Legal Front (omega arith) refl up (fails _ c.if-not-branch.true front)

pub has_ranges-requires : goal.has_ranges-requires
has_ranges-requires c =
    let (claim, found, up) = c.requires in
    let told = told_by c.args.text.now in
    let front = (rw c.deref.ensures.value at (rw c.as_slice-items.ensures at c.in_ok-front_holds.ensures)) told claim refl refl found.placed.tells found.placed.calls up in
    (claim, found, holds_so _ c.if-not-branch.false front)

pub returns-then-not-branch-2 : goal.returns-then-not-branch-2
returns-then-not-branch-2 c =
    let (claim, found, up) = c.requires in
    let told = told_by c.args.text.now in
    let front = (rw c.deref.ensures.value at (rw c.as_slice-items.ensures at c.in_ok-front_holds.ensures)) told claim refl refl found.placed.tells found.placed.calls up in
    let upto = holds_so _ c.if-not-branch.false front in
    stops_at told c.args.findings.now claim found Front Range (omega arith) refl upto (fails _ c.if-not-branch-2.true (c.in_ok-has_ranges.ensures claim found upto))

pub first_behind_range-requires : goal.first_behind_range-requires
first_behind_range-requires c =
    let (claim, found, up) = c.requires in
    let told = told_by c.args.text.now in
    let front = (rw c.deref.ensures.value at (rw c.as_slice-items.ensures at c.in_ok-front_holds.ensures)) told claim refl refl found.placed.tells found.placed.calls up in
    let upto = holds_so _ c.if-not-branch.false front in
    (claim, found, holds_so _ c.if-not-branch-2.false (c.in_ok-has_ranges.ensures claim found upto))
