use Rattle.std.proofs.Common.{◌+◌, length, drop, get_or, ap, subst, ◌∙◌, arith}
use Rattle.std.specs.Prelude.{pos}
use Rattle.sync_types.specs.declared.atomic_object.Number.TheVariants.{Int32}
use Rattle.sync_types.specs.declared.end.End.{End}
use Rattle.sync_types.specs.declared.end.End.TheVariants.{Number}
use Rattle.sync_outside.specs.Bytes.{Appends, AppendsFront}
use Rattle.workload_text.specs.ReportLines.{end_line}
use Rattle.run_report.specs.ReportText.{ends_text}
use Rattle.run_report.proofs.Lines.{drop_item}
use Rattle.run_report.proofs.WriteCounts.{write_cut, write_on}
use Rattle.run_report.proofs.Writing.{goes_on, goes_cut, on_err}
use Rattle.run_report.proofs.report.write_ends.Goals as goal

-- what stands for an end where there is none
abbrev none : End
none = Number 0 (Int32 (pos 0))

pub returns-in_err-write-clause-err : goal.returns-in_err-write-clause-err
returns-in_err-write-clause-err g c =
    let plan = c.args.workload.now in
    let ends = c.args.ends.now in
    let i = c.loop-end.end-index in
    let left = ends_text plan (drop (i + 1) ends) in
    let end = get_or ends i none in
    let step = ap (ends_text plan) (drop_item ends i none c.loop-end-test.true) in
    let line = c.deref.ensures.value ∙ c.set_end_line.ensures.line in
    on_err c.from_residual.result (goes_cut _ _ _ _ _ (end_line plan end) left step c.loop-end.invariant.goes (subst (AppendsFront _ _) line c.in_err-write.ensures.err))

pub returns-in_err-write-clause-cut : goal.returns-in_err-write-clause-cut
returns-in_err-write-clause-cut g c =
    let ends = c.args.ends.now in
    let i = c.loop-end.end-index in
    let lines = ap length (drop_item ends i none c.loop-end-test.true) in
    on_err c.from_residual.result (write_cut _ _ _ _ _ _ lines c.loop-end.invariant.writes c.in_err-write.ensures.writes)

pub loop-end-preserved : goal.loop-end-preserved
loop-end-preserved g c =
    let plan = c.args.workload.now in
    let ends = c.args.ends.now in
    let i = c.loop-end.end-index in
    let left = ends_text plan (drop (i + 1) ends) in
    let end = get_or ends i none in
    let step = ap (ends_text plan) (drop_item ends i none c.loop-end-test.true) in
    let line = c.deref.ensures.value ∙ c.set_end_line.ensures.line in
    let lines = ap length (drop_item ends i none c.loop-end-test.true) in
    record {
      goes = goes_on _ _ _ _ _ (end_line plan end) left step c.loop-end.invariant.goes (subst (Appends _ _) line c.in_ok-write.ensures.ok);
      writes = write_on _ _ _ _ _ _ lines c.loop-end.invariant.writes c.in_ok-write.ensures.writes;
      faults = omega (arith, c.loop-end.invariant.faults, c.in_ok-write.ensures.faults);
      room = omega (arith, c.loop-end.invariant.room, c.set_end_line.ensures.room);
    }
