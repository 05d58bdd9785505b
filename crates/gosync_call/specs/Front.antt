-- What is done before any thread is started.
use Rattle.std.specs.Prelude.{◌≡◌, ℕ, ◌⊎◌, List, Option}
use Rattle.workload.specs.Plan.{Plan}
use Rattle.gosync_call.specs.ComesTo.{IsReadFromFile, IsUnread}
use Rattle.gosync_call.specs.declared.status.Front.{Front}
use Rattle.gosync_call.specs.declared.status.Front.TheVariants as fronts
use Rattle.gosync_call.specs.declared.status.Status.{Status}
use Rattle.gosync_call.specs.declared.status.Status.TheVariants as statuses
use Rattle.gosync_call.specs.declared.status.Unread.{Unread}
use Rattle.gosync_call.specs.declared.status.Unread.TheVariants as unreads
use Rattle.gosync_call.specs.declared.status.Fault.TheVariants as faults

-- what is left of a file that is to be run with threads: its workload, or why none is read
abbrev pub IsFrontOfRun : Option (List ℕ) → Front → Type 0
IsFrontOfRun told front = ((plan : Plan) × (front ≡ fronts.Run plan) × IsReadFromFile told plan) ⊎ ((why : Unread) × (front ≡ fronts.Ended (statuses.Unread why)) × IsUnread told why)

-- a text was refused, not its reading
abbrev pub IsRefusal : Unread → Type 0
IsRefusal (unreads.NotAccepted line reason) = Unit {0}
IsRefusal (unreads.NoRecord line reason) = Unit {0}
IsRefusal unreads.CannotRead = ⊥
IsRefusal unreads.Memory = ⊥

-- what is told of a file is told of all its bytes: it was run, its record was judged, or its text was refused
abbrev pub IsOfAllBytes : Status → Type 0
IsOfAllBytes (statuses.Ended ending) = Unit {0}
IsOfAllBytes (statuses.Judged verdict) = Unit {0}
IsOfAllBytes (statuses.Unread why) = IsRefusal why
IsOfAllBytes (statuses.Failed fault) = Unit {0}
IsOfAllBytes statuses.Usage = ⊥

-- and what is left of it is so
abbrev pub IsLeftOfAllBytes : Front → Type 0
IsLeftOfAllBytes (fronts.Ended status) = IsOfAllBytes status
IsLeftOfAllBytes (fronts.Run plan) = Unit {0}
IsLeftOfAllBytes (fronts.Make seed) = ⊥

-- no worker made a call: a record was judged, no workload is read, or there was a fault before the first start ended
abbrev pub IsUnstarted : Status → Type 0
IsUnstarted (statuses.Ended ending) = ⊥
IsUnstarted (statuses.Judged verdict) = Unit {0}
IsUnstarted (statuses.Unread why) = Unit {0}
IsUnstarted (statuses.Failed faults.CannotWrite) = ⊥
IsUnstarted (statuses.Failed faults.CannotStart) = Unit {0}
IsUnstarted (statuses.Failed faults.Memory) = Unit {0}
IsUnstarted (statuses.Failed faults.TooLong) = Unit {0}
IsUnstarted statuses.Usage = Unit {0}
