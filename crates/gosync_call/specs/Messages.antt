-- What the program says of how it ended.
use Rattle.std.specs.Prelude.{◌≡◌, ℕ, List, [], ◌++◌, ◌⊎◌, Option, codes}
use Rattle.sync_outside.specs.Bytes.{Appends, AppendsFront}
use Rattle.sync_outside.specs.Faults.{Rose}
use Rattle.std.specs.Fmt.{decimal}
use Rattle.sync_types.specs.Misuse.{text_of}
use Rattle.record_clauses.specs.declared.clause.Verdict.TheVariants as verdicts
use Rattle.record_text.specs.Texts as records
use Rattle.workload.specs.Reason.{reason_text}
use Rattle.script_calls.specs.declared.outcome.Outcome.{Outcome}
use Rattle.script_calls.specs.declared.outcome.Outcome.TheVariants as outcomes
use Rattle.gosync_call.specs.declared.status.Status.{Status}
use Rattle.gosync_call.specs.declared.status.Status.TheVariants as statuses
use Rattle.gosync_call.specs.declared.status.Ending.{Ending}
use Rattle.gosync_call.specs.declared.status.Ending.TheVariants as endings
use Rattle.gosync_call.specs.declared.status.Unread.{Unread}
use Rattle.gosync_call.specs.declared.status.Unread.TheVariants as unreads
use Rattle.gosync_call.specs.declared.status.Fault.{Fault}
use Rattle.gosync_call.specs.declared.status.Fault.TheVariants as faults

-- the status of a program that ends so
abbrev pub code_of : Status → ℕ
code_of (statuses.Ended endings.Done) = 0
code_of (statuses.Ended (endings.Misused misuse)) = 2
code_of (statuses.Ended endings.Deadlocked) = 2
code_of (statuses.Ended endings.Raced) = 6
code_of (statuses.Judged verdicts.Yes) = 0
code_of (statuses.Judged (verdicts.No clause)) = 7
code_of (statuses.Unread (unreads.NotAccepted line reason)) = 1
code_of (statuses.Unread (unreads.NoRecord line reason)) = 1
code_of (statuses.Unread unreads.CannotRead) = 3
code_of (statuses.Unread unreads.Memory) = 4
code_of (statuses.Failed faults.CannotWrite) = 3
code_of (statuses.Failed faults.CannotStart) = 3
code_of (statuses.Failed faults.Memory) = 4
code_of (statuses.Failed faults.TooLong) = 1
code_of statuses.Usage = 5

-- how a run ended that came to this
abbrev pub ending_of : Outcome → Ending
ending_of (outcomes.Done left) = endings.Done
ending_of (outcomes.Misused left misuse) = endings.Misused misuse
ending_of (outcomes.Deadlocked left) = endings.Deadlocked

-- memory is out, before or after a workload was read
abbrev pub IsOutOfMemory : Status → Type 0
IsOutOfMemory status = code_of status ≡ 4

-- a text is written out: all of it, or a first part where the count of faults rose
abbrev pub WritesOut : Option (List ℕ) → Option (List ℕ) → ℕ → ℕ → List ℕ → Type 0
WritesOut old new before after text = Appends old new text ⊎ (AppendsFront old new text × Rose before after)

-- how a run ended; the texts of a misuse and of a deadlock are Go's
abbrev pub ending_line : Ending → List ℕ
ending_line endings.Done = []
ending_line (endings.Misused misuse) = text_of misuse ++ codes "\n"
ending_line endings.Deadlocked = codes "fatal error: all goroutines are asleep - deadlock!\n"
ending_line endings.Raced = []

-- where a text has its first fault, and which
abbrev pub refusal_line : ℕ → List ℕ → List ℕ
refusal_line line reason = codes "gosync: line " ++ decimal line ++ codes ": " ++ reason ++ codes "\n"

-- why no workload is read from this file, or no record
abbrev pub unread_line : List ℕ → Unread → List ℕ
unread_line file (unreads.NotAccepted line reason) = refusal_line line (reason_text reason)
unread_line file (unreads.NoRecord line reason) = refusal_line line (records.reason_text reason)
unread_line file unreads.CannotRead = codes "gosync: cannot read " ++ file ++ codes "\n"
unread_line file unreads.Memory = codes "gosync: out of memory\n"

-- why there is no whole report
abbrev pub fault_line : Fault → List ℕ
fault_line faults.CannotWrite = codes "gosync: cannot write the report\n"
fault_line faults.CannotStart = codes "gosync: cannot start the workers\n"
fault_line faults.Memory = codes "gosync: out of memory\n"
fault_line faults.TooLong = codes "gosync: line 0: record too long\n"

-- the line on the error output, of a run of this file
abbrev pub message_of : List ℕ → Status → List ℕ
message_of file (statuses.Ended ending) = ending_line ending
message_of file (statuses.Judged verdict) = []
message_of file (statuses.Unread why) = unread_line file why
message_of file (statuses.Failed fault) = fault_line fault
message_of file statuses.Usage = codes "usage: gosync run FILE | gosync step FILE | gosync make SEED | gosync race FILE | gosync check FILE | gosync trace FILE\n"
