-- What a run by schedule leaves as a record: its text, unless that passes a limit or the run isn't done.
use Rattle.std.specs.Prelude.{◌≡◌, ℕ, Bool, true, false, ◌&&◌, nat_le, List, length, map, None}
use Rattle.std.specs.List.{list_all}
use Rattle.script_calls.specs.declared.outcome.Outcome.TheVariants as outcomes
use Rattle.script_calls.specs.declared.outcome.Report.{Report}
use Rattle.workload.specs.Lines.{lines_of}
use Rattle.workload.specs.Plan.{Plan}
use Rattle.run_report.specs.ReportText.{report_text}
use Rattle.record_text.specs.declared.item_line.ItemLine.{ItemLine}
use Rattle.record_text.specs.declared.limits.TheConstants.{MAX_ITEMS, MAX_RECORD}
use Rattle.record_text.specs.ItemLines.{item_text}
use Rattle.record_text.specs.Told.{Told, is_short_line}
use Rattle.record_text.specs.WrittenLines.{record_text}
use Rattle.step_runner.specs.Outcomes.{StepsTo}
use Rattle.scheduled_record.specs.declared.recorded_run.Recorded.{Recorded}
use Rattle.scheduled_record.specs.declared.recorded_run.Recorded.TheVariants.{Text, TooLong, Misused, Deadlocked}
use Rattle.scheduled_record.specs.ToldItems.{AreIn64Bits, told_items}

-- the lines of these items, and of this report, have at most 400 bytes each. The line of the outcome always has fewer
abbrev pub has_short_lines : Plan → List ItemLine → (report : List ℕ) → Bool
has_short_lines plan items report = list_all is_short_line (map (item_text plan) items) && list_all is_short_line (lines_of report)

-- the text of a record is within its limits: at most 40,000 items, 400 bytes a line behind the line `record`, and 16,777,216 bytes
abbrev pub is_within : Plan → List ItemLine → (report : List ℕ) → Bool
is_within plan items report = nat_le (length items) MAX_ITEMS && (nat_le (length (record_text plan items None report)) MAX_RECORD && has_short_lines plan items report)

-- the report of a run that is done
abbrev pub done_report : Plan → Report → List ℕ
done_report plan left = report_text plan (outcomes.Done left)

-- the text of its record: the workload in its canonical form, the items in the order of the turns, `outcome done`, and the report
abbrev pub done_text : Plan → Report → List ℕ
done_text plan left = record_text plan (told_items plan) None (done_report plan left)

-- the run by schedule is done and leaves this, its numbers have 64 bits, and the text of its record is within the limits, or not
pub record IsDoneWithin (plan : Plan) (within : Bool) (left : Report) : Type 0 where
  pub done : StepsTo plan (outcomes.Done left)
  pub numbers : AreIn64Bits plan
  pub limits : is_within plan (told_items plan) (done_report plan left) ≡ within

abbrev pub IsRecorded : Plan → Recorded → Type 0
IsRecorded plan (Text bytes) = (left : Report) × IsDoneWithin plan true left × (bytes.items ≡ done_text plan left)
IsRecorded plan TooLong = (left : Report) × IsDoneWithin plan false left
IsRecorded plan (Misused misuse) = (left : Report) × StepsTo plan (outcomes.Misused left misuse)
IsRecorded plan Deadlocked = (left : Report) × StepsTo plan (outcomes.Deadlocked left)

-- what the text of a run that is done tells
abbrev pub told_done : Plan → Report → Told
told_done plan left = record { plan = plan; items = told_items plan; misused = None; report = lines_of (done_report plan left) }

-- the same text, or the same reason that there is none
abbrev pub AreSame : Recorded → Recorded → Type 0
AreSame (Text bytes) (Text other) = bytes.items ≡ other.items
AreSame TooLong TooLong = Unit {0}
AreSame (Misused misuse) (Misused other) = misuse ≡ other
AreSame Deadlocked Deadlocked = Unit {0}
AreSame one other = ⊥
