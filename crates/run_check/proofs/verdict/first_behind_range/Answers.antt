use Rattle.std.proofs.Common.{refl, arith}
use Rattle.record_text.specs.Reads.{told_by}
use Rattle.record_clauses.specs.declared.clause.Clause.TheVariants.{Range, Machine}
use Rattle.run_check.proofs.FoundVerdicts.{stops_at}
use Rattle.run_check.proofs.verdict.first_behind_range.Goals as goal

pub returns-in_default : goal.returns-in_default
returns-in_default c =
    let (claim, found, up) = c.requires in
    let told = told_by c.args.text.now in
    let machine = (rw c.in_default.is at (rw c.as_slice-entries.ensures at c.in_ok-journals.ensures.machine)) told found.found claim refl found.spelt found.entries found.placed.tells up in
    stops_at told c.args.findings.now claim found Range Machine (omega arith) refl up machine

pub first_behind_machine-requires-clause-fronts : goal.first_behind_machine-requires-clause-fronts
first_behind_machine-requires-clause-fronts c =
    let (claim, found, up) = c.requires in
    rw c.deref.ensures.value ((rw c.in-Some.is at (rw c.as_slice-entries.ensures at c.in_ok-journals.ensures.fronts)) found.bytes (told_by c.args.text.now) found.found refl found.spelt found.entries found.text)

pub first_behind_machine-requires-clause-found : goal.first_behind_machine-requires-clause-found
first_behind_machine-requires-clause-found c =
    let (claim, found, up) = c.requires in
    let (upto, journals) = (rw c.in-Some.is at (rw c.as_slice-entries.ensures at c.in_ok-journals.ensures.machine)) (told_by c.args.text.now) found.found claim refl found.spelt found.entries found.placed.tells up in
    rw c.deref.ensures.value (claim, found, journals, upto)
