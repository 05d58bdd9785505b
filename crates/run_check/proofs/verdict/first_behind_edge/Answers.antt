use Rattle.std.proofs.Common.{refl, arith}
use Rattle.record_text.specs.Reads.{told_by}
use Rattle.record_clauses.specs.declared.clause.Clause.TheVariants.{Edge, End, Stop}
use Rattle.run_check.proofs.FoundVerdicts.{fails, found_of, holds_so, stops_at}
use Rattle.run_check.proofs.verdict.first_behind_edge.Goals as goal

pub returns-then-not-has_ends : goal.returns-then-not-has_ends
returns-then-not-has_ends c =
    let (claim, found, journals, up) = c.requires in
    let told = told_by c.args.text.now in
    let is = found_of told c.args.findings.now claim found c.workers-workers.ensures.readable in
    let ends = (rw c.as_slice-lines.ensures at c.has_ends.ensures) told found.found claim is refl found.lines up in
    stops_at told c.args.findings.now claim found Edge End (omega arith) refl up (fails _ c.if-not-has_ends.true ends)

pub returns-then-not-stop_holds : goal.returns-then-not-stop_holds
returns-then-not-stop_holds c =
    let (claim, found, journals, up) = c.requires in
    let told = told_by c.args.text.now in
    let is = found_of told c.args.findings.now claim found c.workers-workers.ensures.readable in
    let upto = holds_so _ c.if-not-has_ends.false ((rw c.as_slice-lines.ensures at c.has_ends.ensures) told found.found claim is refl found.lines up) in
    let stops = (rw c.as_slice-lines.ensures at (rw c.as_slice-lists.ensures at c.stop_holds.ensures)) told found.found claim is refl found.all found.lines (λ account has. c.stops_in.ensures claim account journals has) upto in
    stops_at told c.args.findings.now claim found End Stop (omega arith) refl upto (fails _ c.if-not-stop_holds.true stops)

pub returns : goal.returns
returns c =
    let (claim, found, journals, up) = c.requires in
    let told = told_by c.args.text.now in
    let is = found_of told c.args.findings.now claim found c.workers-workers.ensures.readable in
    let upto = holds_so _ c.if-not-has_ends.false ((rw c.as_slice-lines.ensures at c.has_ends.ensures) told found.found claim is refl found.lines up) in
    let stops = (rw c.as_slice-lines.ensures at (rw c.as_slice-lists.ensures at c.stop_holds.ensures)) told found.found claim is refl found.all found.lines (λ account has. c.stops_in.ensures claim account journals has) upto in
    (claim, found, holds_so _ c.if-not-stop_holds.false stops)
