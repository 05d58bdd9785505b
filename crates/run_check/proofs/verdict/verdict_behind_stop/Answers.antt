use Rattle.std.proofs.Common.{refl, arith}
use Rattle.record_text.specs.Reads.{told_by}
use Rattle.record_clauses.specs.declared.clause.Clause.TheVariants.{Stop, Report}
use Rattle.run_check.proofs.FoundVerdicts.{fails, holds_so, stopped_of, stops_at}
use Rattle.run_check.proofs.PlacedVerdicts.{comes_to_yes}
use Rattle.run_check.proofs.verdict.verdict_behind_stop.Goals as goal

pub report_holds-requires : goal.report_holds-requires
report_holds-requires c =
    let (claim, found, up) = c.requires in
    rw c.deref.ensures.value (found.found, c.args.findings.marked.items, claim, found.lines, stopped_of (told_by c.args.text.now) c.args.findings claim found c.workers-workers.ensures.readable up)

pub returns-then-branch : goal.returns-then-branch
returns-then-branch c =
    let (claim, found, up) = c.requires in
    let told = told_by c.args.text.now in
    let stopped = stopped_of told c.args.findings claim found c.workers-workers.ensures.readable up in
    let report = (rw c.deref.ensures.value at c.in_ok-report_holds.ensures) found.found c.args.findings.marked.items claim found.lines stopped in
    comes_to_yes told c.args.findings.marked.items c.args.findings.history.items claim found.placed (holds_so _ c.if-branch.true report)

pub returns : goal.returns
returns c =
    let (claim, found, up) = c.requires in
    let told = told_by c.args.text.now in
    let stopped = stopped_of told c.args.findings claim found c.workers-workers.ensures.readable up in
    let report = (rw c.deref.ensures.value at c.in_ok-report_holds.ensures) found.found c.args.findings.marked.items claim found.lines stopped in
    stops_at told c.args.findings claim found Stop Report (omega arith) refl up (fails _ c.if-branch.false report)
