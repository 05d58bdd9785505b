-- What the run of a made workload comes to.
use Rattle.std.specs.Prelude.{◌≡◌, ℕ, List, Option}
use Rattle.sync_outside.specs.Bytes.{Appends, AppendsFront}
use Rattle.sync_outside.specs.Faults.{RoseBy}
use Rattle.made_workload.specs.Summary.{summary, summary_text}
use Rattle.gosync_call.specs.declared.status.Status.{Status}
use Rattle.gosync_call.specs.declared.status.Status.TheVariants as statuses
use Rattle.gosync_call.specs.declared.status.Ending.TheVariants as endings
use Rattle.gosync_call.specs.declared.status.Unread.TheVariants as unreads
use Rattle.gosync_call.specs.declared.status.Fault.{Fault}
use Rattle.gosync_call.specs.declared.status.Fault.TheVariants as faults

-- the five lines of the seed were written, and came from a job for each of its eight workers
abbrev pub IsMade : ℕ → ℕ → ℕ → Option (List ℕ) → Option (List ℕ) → Type 0
IsMade seed ran ran_now old new = Appends old new (summary_text (summary seed)) × RoseBy 8 ran ran_now

-- what a fault leaves of the five lines: a first part, or nothing
abbrev pub IsUnmade : ℕ → ℕ → ℕ → Option (List ℕ) → Option (List ℕ) → Fault → Type 0
IsUnmade seed ran ran_now old new faults.CannotWrite = AppendsFront old new (summary_text (summary seed)) × RoseBy 8 ran ran_now
IsUnmade seed ran ran_now old new faults.CannotStart = new ≡ old
IsUnmade seed ran ran_now old new faults.Memory = new ≡ old
IsUnmade seed ran ran_now old new faults.TooLong = ⊥

-- what a status says of a seed, with how many jobs were done and what was written before and after: no misuse, no deadlock and no
-- race comes, and nothing is refused
abbrev pub MakesTo : ℕ → ℕ → ℕ → Option (List ℕ) → Option (List ℕ) → Status → Type 0
MakesTo seed ran ran_now old new (statuses.Ended endings.Done) = IsMade seed ran ran_now old new
MakesTo seed ran ran_now old new (statuses.Ended (endings.Misused misuse)) = ⊥
MakesTo seed ran ran_now old new (statuses.Ended endings.Deadlocked) = ⊥
MakesTo seed ran ran_now old new (statuses.Ended endings.Raced) = ⊥
MakesTo seed ran ran_now old new (statuses.Judged verdict) = ⊥
MakesTo seed ran ran_now old new (statuses.Unread (unreads.NotAccepted line reason)) = ⊥
MakesTo seed ran ran_now old new (statuses.Unread (unreads.NoRecord line reason)) = ⊥
MakesTo seed ran ran_now old new (statuses.Unread unreads.CannotRead) = ⊥
MakesTo seed ran ran_now old new (statuses.Unread unreads.Memory) = new ≡ old
MakesTo seed ran ran_now old new (statuses.Failed fault) = IsUnmade seed ran ran_now old new fault
MakesTo seed ran ran_now old new statuses.Usage = ⊥
