-- What a report and the line on the error output tell together. Laws alone speak of it.
use Rattle.std.specs.Prelude.{◌≡◌}
use Rattle.script_calls.specs.declared.outcome.Outcome.{Outcome}
use Rattle.workload.specs.Plan.{Plan}
use Rattle.run_report.specs.ReportText.{report_text}
use Rattle.run_report.specs.Told.{IsOutcomeOf}
use Rattle.gosync_call.specs.Messages.{ending_line, ending_of}

-- two outcomes with one report and one line on the error output are equal
abbrev pub MessageTellsTheEnding : Plan → Type 0
MessageTellsTheEnding plan = (one other : Outcome) → IsOutcomeOf plan one → IsOutcomeOf plan other → report_text plan one ≡ report_text plan other → ending_line (ending_of one) ≡ ending_line (ending_of other) → one ≡ other
