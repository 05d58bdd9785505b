-- What a text that was read tells.
use Rattle.std.specs.Prelude.{ℕ, List}
use Rattle.workload.specs.Lines.{lines_of}
use Rattle.workload.specs.Plan.{Plan}
use Rattle.record_text.specs.declared.reading.Behind.{Behind}
use Rattle.record_text.specs.declared.reading.RecordText.{RecordText}
use Rattle.record_text.specs.Told.{Told, IsBehind}

-- what it tells
abbrev pub told_by : RecordText → Told
told_by text = record { plan = text.workload; items = text.items; misused = text.misused; report = lines_of text.report.now }

-- what the lines behind the line `record` were read as
abbrev pub IsReadBehind : Plan → List (List ℕ) → Behind → Type 0
IsReadBehind plan lines behind = IsBehind (record { plan = plan; items = behind.items; misused = behind.misused; report = lines_of behind.report.now }) lines
