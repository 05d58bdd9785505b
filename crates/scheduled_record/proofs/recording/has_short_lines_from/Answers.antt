use Rattle.std.proofs.Common.{List, ℕ, sym, ap, ◌∙◌}
use Rattle.std.specs.List.{list_all}
use Rattle.workload.specs.Lines.{lines_of}
use Rattle.record_text.specs.Told.{is_short_line}
use Rattle.scheduled_record.proofs.ShortLines.{long_lines}
use Rattle.scheduled_record.proofs.recording.has_short_lines_from.Goals as goal

pub returns-in-Some : goal.returns-in-Some
returns-in-Some c =
    sym (sym (ap (λ (t : List ℕ). list_all is_short_line (lines_of t)) c.text_from-report.ensures.text) ∙ long_lines (lines_of c.text_from-report.result.now) 0 c.in-Some.field-0 c.in-Some.ensures)
