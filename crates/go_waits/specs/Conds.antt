-- What contracts see of a running Cond and of the passes to it.
use Rattle.std.specs.Prelude.{ℕ, true, List}
use Rattle.sync_model.specs.declared.journal.Entry.{Entry}
use Rattle.mutex_core.specs.declared.event.MutexEvent.{MutexEvent}
use Rattle.mutex_core.specs.declared.reply.MutexReply.{MutexReply}
use Rattle.mutex_core.specs.Edges.{acquires, releases}
use Rattle.mutex_core.specs.MutexMachine as mutexes
use Rattle.wait_cores.specs.declared.notify.NotifyEvent.{NotifyEvent}
use Rattle.wait_cores.specs.declared.notify.NotifyReply.{NotifyReply}
use Rattle.wait_cores.specs.NotifyEdges.{notify_releases, notify_acquires}
use Rattle.wait_cores.specs.NotifyMachine.{NotifyState, next}
use Rattle.ruled_object.specs.declared.pass.Pass.{Pass}
use Rattle.ruled_object.specs.Gathered as gathered
use Rattle.ruled_object.specs.Growth.{IsLawful}
use Rattle.ruled_object.specs.Passes as object
use Rattle.go_locks.specs.declared.mutex.Mutex.{Mutex}
use Rattle.go_locks.specs.Mutexes.{mutex_start}
use Rattle.go_waits.specs.declared.cond.Cond.{Cond}

-- an entry of a cond's journal
abbrev pub CondMade : Type 0
CondMade = Entry NotifyEvent NotifyReply

-- what was done on a cond, in its one order
abbrev pub CondJournal : Type 0
CondJournal = List CondMade

-- the pass of a caller, and its pass to the cond's mutex
abbrev pub CondPass : Type 0 → Type 0
CondPass N = Pass NotifyState N NotifyEvent NotifyReply

abbrev pub MutexPass : Type 0 → Type 0
MutexPass N = Pass mutexes.State N MutexEvent MutexReply

module _ {N H : Type 0} where
  -- how many callers it has, and the state that its machine started from
  abbrev pub callers_of : Cond N H → ℕ
  callers_of cond = object.callers_of cond.object

  abbrev pub start_of : Cond N H → NotifyState
  start_of cond = object.start_of cond.object

  -- it is the home of the note that the cond was made with
  abbrev pub IsHomeOf : (H → N → Type 0) → Cond N H → H → Type 0
  IsHomeOf at cond home = object.IsHomeOf at cond.object home

  -- it is the pass of a caller of this cond
  abbrev pub IsPassOf : Cond N H → CondPass N → Type 0
  IsPassOf cond pass = object.IsPassOf cond.object pass

  -- all passes of the cond, in order of number
  abbrev pub AreAllPasses : Cond N H → List (CondPass N) → Type 0
  AreAllPasses cond passes = gathered.AreAllPasses cond.object passes

  -- all passes of a new cond, each good for so many calls. Nothing was done yet
  abbrev pub AreNew : Cond N H → ℕ → List (CondPass N) → Type 0
  AreNew cond calls passes = gathered.AreNew cond.object calls passes

  -- what a pass shows of the journal follows the machine, keeps the edge law, and has of its caller what the pass has
  abbrev pub IsCondLawful : Cond N H → CondPass N → Type 0
  IsCondLawful cond pass = IsLawful next true notify_releases notify_acquires (start_of cond) pass

  -- the same of a pass to the cond's mutex
  abbrev pub IsMutexLawful : Mutex N H → MutexPass N → Type 0
  IsMutexLawful mutex pass = IsLawful mutexes.next true (λ event reply. releases reply) (λ event reply. acquires reply) (mutex_start mutex) pass

  -- the caller halted the cond by this entry
  abbrev pub CondHalts : Cond N H → CondPass N → CondMade → CondPass N → Type 0
  CondHalts cond old e new = object.Adds next true notify_releases notify_acquires (start_of cond) old e new

  -- the journal is all that the passes' callers did on the cond
  abbrev pub IsCondWhole : Cond N H → CondJournal → List (CondPass N) → Type 0
  IsCondWhole cond journal passes = gathered.IsWhole next true notify_releases notify_acquires (start_of cond) journal passes

  -- the same, and each pass has seen all of it
  abbrev pub IsCondSeen : Cond N H → CondJournal → List (CondPass N) → Type 0
  IsCondSeen cond journal passes = gathered.IsSeen next true notify_releases notify_acquires (start_of cond) journal passes
