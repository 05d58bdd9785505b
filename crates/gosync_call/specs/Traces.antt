-- What a run by schedule comes to whose record is asked for: the text of the record where the run is done, and nothing where it isn't.
use Rattle.std.specs.Prelude.{◌≡◌, ℕ, true, false, List, Option}
use Rattle.sync_outside.specs.Bytes.{Appends, AppendsFront}
use Rattle.script_calls.specs.declared.outcome.Outcome.TheVariants as outcomes
use Rattle.script_calls.specs.declared.outcome.Report.{Report}
use Rattle.workload.specs.Dialect.{has_unrecorded}
use Rattle.workload.specs.Plan.{Plan}
use Rattle.workload.specs.Readable.{IsReadable}
use Rattle.workload.specs.declared.keyword.Dialect.TheVariants.{Plain}
use Rattle.step_runner.specs.Outcomes.{StepsTo}
use Rattle.scheduled_record.specs.Recorded.{IsDoneWithin, done_text}
use Rattle.gosync_call.specs.ComesTo.{ComesBy}
use Rattle.gosync_call.specs.declared.status.Ending.{Ending}
use Rattle.gosync_call.specs.declared.status.Ending.TheVariants as endings
use Rattle.gosync_call.specs.declared.status.Fault.{Fault}
use Rattle.gosync_call.specs.declared.status.Fault.TheVariants as faults
use Rattle.gosync_call.specs.declared.status.Status.{Status}

-- the workload has a plain text, and its run by schedule is done, with a record within the limits
abbrev pub IsTraced : Plan → Report → Type 0
IsTraced plan left = IsReadable plan × (has_unrecorded plan ≡ false) × IsDoneWithin plan true left

-- the run is done, and the text of its record was written; or it ended otherwise, and nothing was
abbrev pub EndsWithRecord : Plan → Option (List ℕ) → Option (List ℕ) → Ending → Type 0
EndsWithRecord plan old new endings.Done = (left : Report) × IsTraced plan left × Appends old new (done_text plan left)
EndsWithRecord plan old new (endings.Misused misuse) = ((left : Report) × StepsTo plan (outcomes.Misused left misuse)) × (new ≡ old)
EndsWithRecord plan old new endings.Deadlocked = ((left : Report) × StepsTo plan (outcomes.Deadlocked left)) × (new ≡ old)
EndsWithRecord plan old new endings.Raced = ⊥

-- what a fault leaves of the text: a first part, or nothing. It is a fault, too, that the run is done and its record passes a limit
abbrev pub FailsWithRecord : Plan → Option (List ℕ) → Option (List ℕ) → Fault → Type 0
FailsWithRecord plan old new faults.CannotWrite = (left : Report) × IsDoneWithin plan true left × AppendsFront old new (done_text plan left)
FailsWithRecord plan old new faults.CannotStart = new ≡ old
FailsWithRecord plan old new faults.Memory = new ≡ old
FailsWithRecord plan old new faults.TooLong = ((left : Report) × IsDoneWithin plan false left) × (new ≡ old)

-- what the bytes of a file come to, where they are told, with what was written before and after
abbrev pub TracesTo : Option (List ℕ) → Option (List ℕ) → Option (List ℕ) → Status → Type 0
TracesTo told old new status = ComesBy Plain (λ plan ending. EndsWithRecord plan old new ending) (λ plan fault. FailsWithRecord plan old new fault) told old new status
