use Rattle.std.proofs.Common.{◌+◌, ◌++◌, get_or, drop, ap, ◌∙◌, arith}
use Rattle.std.specs.Prelude.{pos}
use Rattle.sync_types.specs.declared.atomic_object.Number.TheVariants.{Int32}
use Rattle.sync_types.specs.declared.end.End.{End}
use Rattle.sync_types.specs.declared.end.End.TheVariants.{Number}
use Rattle.workload_text.specs.ReportLines.{end_line}
use Rattle.run_report.specs.ReportText.{ends_text}
use Rattle.run_check.proofs.ReportRest.{drop_item, goes_on}
use Rattle.run_check.proofs.report.behind_ends.Goals as goal

-- what stands for an end where there is none
abbrev none : End
none = Number 0 (Int32 (pos 0))

pub loop-end-preserved : goal.loop-end-preserved
loop-end-preserved c =
    let plan = c.args.workload.now in
    let ends = c.args.ends.now in
    let i = c.loop-end.end-index in
    let step = ap (ends_text plan) (drop_item ends i none c.loop-end-test.true) in
    let line = c.deref.ensures.value ∙ c.set_end_line.ensures.line in
    record {
      goes = goes_on c.args.bytes.now _ _ _ (end_line plan (get_or ends i none)) (ends_text plan (drop (i + 1) ends)) c.in-Some.left.now step (c.in-Some.ensures ∙ ap (λ t. t ++ c.in-Some.left.now) line) c.loop-end.invariant.goes;
      room = omega (arith, c.loop-end.invariant.room, c.set_end_line.ensures.room);
    }
