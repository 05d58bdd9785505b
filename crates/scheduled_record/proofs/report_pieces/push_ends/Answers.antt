use Rattle.std.proofs.Common.{◌+◌, true, drop, get_or, ap, refl, subst, ◌∙◌}
use Rattle.std.specs.Prelude.{pos}
use Rattle.sync_types.specs.declared.atomic_object.Number.TheVariants.{Int32}
use Rattle.sync_types.specs.declared.end.End.{End}
use Rattle.sync_types.specs.declared.end.End.TheVariants.{Number}
use Rattle.workload_text.specs.ReportLines.{end_line}
use Rattle.run_report.specs.ReportText.{ends_text}
use Rattle.scheduled_record.specs.Pushed.{Gains}
use Rattle.scheduled_record.proofs.Gaining.{goes_wrong, item_at}
use Rattle.scheduled_record.proofs.report_pieces.push_ends.Goals as goal

-- what stands for an end where there is none
abbrev none : End
none = Number 0 (Int32 (pos 0))

pub returns-then-not-branch : goal.returns-then-not-branch
returns-then-not-branch c =
    let plan = c.args.workload.now in
    let ends = c.args.ends.now in
    let i = c.loop-end.end-index in
    let here = ap (ends_text plan) (item_at ends i none c.loop-end-test.true) in
    let line = c.deref.ensures.value ∙ c.set_end_line.ensures.line in
    let gains = subst (λ piece. Gains c.loop-end.text.items c.push_piece.new.text.items piece true c.in_ok-push_piece.field-0) line c.in_ok-push_piece.ensures in
    goes_wrong _ _ _ _ _ (end_line plan (get_or ends i none)) (ends_text plan (drop (i + 1) ends)) c.push_piece.new.text.items true true true true c.in_ok-push_piece.field-0 c.if-not-branch.true here refl gains c.loop-end.invariant.goes
