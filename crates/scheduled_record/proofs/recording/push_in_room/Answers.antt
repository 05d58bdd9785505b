use Rattle.std.proofs.Common.{◌≡◌, ◌≤◌, true, None, length, map, sym, ap, subst, arith, length-append, refl}
use Rattle.std.specs.List.{list_all}
use Rattle.run_report.specs.ReportText.{report_text}
use Rattle.record_text.specs.declared.limits.TheConstants.{MAX_RECORD}
use Rattle.record_text.specs.ItemLines.{item_text}
use Rattle.record_text.specs.Told.{is_short_line, joined}
use Rattle.record_text.specs.WrittenLines.{record_lines}
use Rattle.scheduled_record.specs.Pushed.{Gains}
use Rattle.scheduled_record.proofs.Gaining.{keeps_limit}
use Rattle.scheduled_record.proofs.ShortLines.{all_gained}
use Rattle.scheduled_record.proofs.recording.push_in_room.Goals as goal

pub has_short_lines_from-requires-clause-within : goal.has_short_lines_from-requires-clause-within
has_short_lines_from-requires-clause-within c =
    let report = report_text c.args.workload.now c.args.outcome.now in
    let second = subst (λ fits. Gains c.push_record_lines.new.text.items c.push_report.new.text.items report true fits) c.if-not-branch-2.false c.in_ok-push_report.ensures in
    subst (λ text. length text ≤ MAX_RECORD) (sym c.deref.ensures.value) (keeps_limit c.push_record_lines.new.text.items c.push_report.new.text.items report true second)

pub has_short_lines_from-requires-clause-start : goal.has_short_lines_from-requires-clause-start
has_short_lines_from-requires-clause-start c =
    let mid = c.push_record_lines.new.text.items in
    let report = report_text c.args.workload.now c.args.outcome.now in
    let second = subst (λ fits. Gains mid c.push_report.new.text.items report true fits) c.if-not-branch-2.false c.in_ok-push_report.ensures in
    omega (arith, ap length c.deref.ensures.value, ap length (second.gained refl), length-append mid report, c.len-start.ensures)

pub returns : goal.returns
returns c =
    let plan = c.args.workload.now in
    let items = c.args.items.now in
    let old = c.args.text.now.items in
    let mid = c.push_record_lines.new.text.items in
    let new = c.push_report.new.text.items in
    let lines = joined (record_lines plan items None) in
    let report = report_text plan c.args.outcome.now in
    let short = list_all is_short_line (map (item_text plan) items) in
    let first = subst (λ fits. Gains old mid lines short fits) c.if-not-branch.false c.in_ok-push_record_lines.ensures.gains in
    let second = subst (λ fits. Gains mid new report true fits) c.if-not-branch-2.false c.in_ok-push_report.ensures in
    let start : c.len-start.result ≡ length mid = omega (arith, c.len-start.ensures) in
    all_gained old mid new lines report c.deref.result.now short c.has_short_lines_from.result c.len-start.result first second start c.deref.ensures.value c.has_short_lines_from.ensures
