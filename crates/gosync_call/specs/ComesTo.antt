-- What a status says of the bytes of the file and of the report. `Comes plan outcome` stands for: a run of the plan comes to
-- this outcome. Where the run is the one by its schedule, that is `StepsTo`.
use Rattle.std.specs.Prelude.{◌≡◌, ℕ, true, List, Option}
use Rattle.sync_outside.specs.Bytes.{Appends, AppendsFront}
use Rattle.script_calls.specs.declared.outcome.Outcome.{Outcome}
use Rattle.workload.specs.Plan.{Plan, is_valid}
use Rattle.workload.specs.Reads.{ReadsIn, IsRefusedIn}
use Rattle.workload.specs.declared.keyword.Dialect.{Dialect}
use Rattle.workload.specs.declared.keyword.Dialect.TheVariants.{Runs}
use Rattle.gosync_call.specs.declared.status.Status.{Status}
use Rattle.gosync_call.specs.declared.status.Status.TheVariants as statuses
use Rattle.gosync_call.specs.declared.status.Ending.{Ending}
use Rattle.gosync_call.specs.declared.status.Unread.{Unread}
use Rattle.gosync_call.specs.declared.status.Unread.TheVariants as unreads
use Rattle.gosync_call.specs.declared.status.Fault.{Fault}
use Rattle.gosync_call.specs.declared.status.Fault.TheVariants as faults
use Rattle.gosync_call.specs.Input.{AreBytesOf}
use Rattle.gosync_call.specs.Messages.{ending_of}
use Rattle.run_report.specs.ReportText.{report_text}

-- all bytes of the file, where they are told, are read in this dialect as this workload, with each place and number in range
abbrev pub IsReadIn : Dialect → Option (List ℕ) → Plan → Type 0
IsReadIn dialect told plan = (bytes : List ℕ) × AreBytesOf told bytes × ReadsIn dialect bytes plan × (is_valid plan ≡ true)

-- as a text that is run, and of whose run a report is told
abbrev pub IsReadFromFile : Option (List ℕ) → Plan → Type 0
IsReadFromFile told plan = IsReadIn Runs told plan

-- why no workload is read in this dialect from a file: its text is refused, it can't be read, or memory is out
abbrev pub IsUnreadIn : Dialect → Option (List ℕ) → Unread → Type 0
IsUnreadIn dialect told (unreads.NotAccepted line reason) = (bytes : List ℕ) × AreBytesOf told bytes × IsRefusedIn dialect bytes line reason × ((plan : Plan) → ReadsIn dialect bytes plan → ⊥)
IsUnreadIn dialect told (unreads.NoRecord line reason) = ⊥
IsUnreadIn dialect told unreads.CannotRead = Unit {0}
IsUnreadIn dialect told unreads.Memory = Unit {0}

-- as such a text
abbrev pub IsUnread : Option (List ℕ) → Unread → Type 0
IsUnread told why = IsUnreadIn Runs told why

-- the workload's run came to an outcome that ends so, and its report was written
abbrev pub EndsWithReport : (Plan → Outcome → Type 0) → Plan → Option (List ℕ) → Option (List ℕ) → Ending → Type 0
EndsWithReport Comes plan old new ending = (outcome : Outcome) × Comes plan outcome × (ending ≡ ending_of outcome) × Appends old new (report_text plan outcome)

-- what a fault leaves of the report of an outcome that the workload's run came to: a first part, or nothing
abbrev pub Fails : (Plan → Outcome → Type 0) → Plan → Option (List ℕ) → Option (List ℕ) → Fault → Type 0
Fails Comes plan old new faults.CannotWrite = (outcome : Outcome) × Comes plan outcome × AppendsFront old new (report_text plan outcome)
Fails Comes plan old new faults.CannotStart = new ≡ old
Fails Comes plan old new faults.Memory = new ≡ old
Fails Comes plan old new faults.TooLong = ⊥

-- What the bytes of a file come to, where they are told, with what was written before and after. `Ends plan ending` stands for: a run
-- of the plan ended so, and all that is told of it was written; `Stops plan fault` for: this fault came, and left as much of that
abbrev pub ComesBy : Dialect → (Plan → Ending → Type 0) → (Plan → Fault → Type 0) → Option (List ℕ) → Option (List ℕ) → Option (List ℕ) → Status → Type 0
ComesBy dialect Ends Stops told old new (statuses.Ended ending) = (plan : Plan) × IsReadIn dialect told plan × Ends plan ending
ComesBy dialect Ends Stops told old new (statuses.Judged verdict) = ⊥
ComesBy dialect Ends Stops told old new (statuses.Unread why) = IsUnreadIn dialect told why × (new ≡ old)
ComesBy dialect Ends Stops told old new (statuses.Failed fault) = (plan : Plan) × IsReadIn dialect told plan × Stops plan fault
ComesBy dialect Ends Stops told old new statuses.Usage = ⊥

-- what those of such a text come to
abbrev pub ComesTo : (Plan → Outcome → Type 0) → Option (List ℕ) → Option (List ℕ) → Option (List ℕ) → Status → Type 0
ComesTo Comes told old new status = ComesBy Runs (λ plan ending. EndsWithReport Comes plan old new ending) (λ plan fault. Fails Comes plan old new fault) told old new status
