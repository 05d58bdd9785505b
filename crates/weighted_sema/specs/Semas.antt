-- What contracts see of a running Sema and of the passes to it.
use Rattle.std.specs.Prelude.{ℕ, ◌≤◌, true, false, List, All}
use Rattle.sync_model.specs.declared.journal.Entry.{Entry}
use Rattle.sync_model.specs.Front.{Front}
use Rattle.sema_core.specs.declared.event.SemaEvent.{SemaEvent}
use Rattle.sema_core.specs.declared.event.SemaReply.{SemaReply}
use Rattle.sema_core.specs.SemaEdges.{sema_releases, sema_acquires}
use Rattle.sema_core.specs.SemaMachine.{SemaState, next}
use Rattle.sema_core.specs.SemaStanding.{waits_after}
use Rattle.ruled_object.specs.declared.pass.Pass.{Pass}
use Rattle.ruled_object.specs.Gathered as gathered
use Rattle.ruled_object.specs.Growth.{Placed, Grows, IsLawful}
use Rattle.ruled_object.specs.Passes as object
use Rattle.call_loop.specs.Between.{IsBetween, AreAllBetween, AreNewBetween}
use Rattle.weighted_sema.specs.declared.sema.Sema.{Sema}

-- an entry of a sema's journal
abbrev pub SemaMade : Type 0
SemaMade = Entry SemaEvent SemaReply

-- what was done on a sema, in its one order
abbrev pub SemaJournal : Type 0
SemaJournal = List SemaMade

-- the pass of a caller
abbrev pub SemaPass : Type 0 → Type 0
SemaPass N = Pass SemaState N SemaEvent SemaReply

module _ {N H : Type 0} where
  -- how many callers it has, and the state that its machine started from
  abbrev pub callers_of : Sema N H → ℕ
  callers_of sema = object.callers_of sema.object

  abbrev pub start_of : Sema N H → SemaState
  start_of sema = object.start_of sema.object

  -- the weight that callers may hold together
  abbrev pub size_of : Sema N H → ℕ
  size_of sema = (start_of sema).size

  -- a weight that callers may come for: 1 up to its size
  abbrev pub IsWeightOf : Sema N H → ℕ → Type 0
  IsWeightOf sema weight = (1 ≤ weight) × (weight ≤ size_of sema)

  -- it is the home of the note that the sema was made with
  abbrev pub IsHomeOf : (H → N → Type 0) → Sema N H → H → Type 0
  IsHomeOf at sema home = object.IsHomeOf at sema.object home

  -- it is the pass of a caller of this sema that is between two calls: by its own entries it doesn't wait
  abbrev pub IsPassOf : Sema N H → SemaPass N → Type 0
  IsPassOf sema pass = IsBetween false waits_after sema.object pass

  -- each of these is the pass of a caller of the sema
  abbrev pub AreSemaPasses : Sema N H → List (SemaPass N) → Type 0
  AreSemaPasses sema passes = All (IsPassOf sema) passes

  -- all passes of the sema, in order of number, each between two calls
  abbrev pub AreAllPasses : Sema N H → List (SemaPass N) → Type 0
  AreAllPasses sema passes = AreAllBetween false waits_after sema.object passes

  -- all passes of a new sema, each good for so many calls. Nothing was done yet
  abbrev pub AreNew : Sema N H → ℕ → List (SemaPass N) → Type 0
  AreNew sema calls passes = AreNewBetween false waits_after sema.object calls passes

  -- the caller made these entries, in order and no others; the fronts along them never fall
  abbrev pub SemaGrows : Sema N H → SemaPass N → Front → List (Placed SemaEvent SemaReply) → SemaPass N → Front → Type 0
  SemaGrows sema old from es new to = Grows next true (start_of sema) old from es new to

  -- what a pass shows of the journal follows the machine, keeps the edge law, and has of its caller what the pass has
  abbrev pub IsSemaLawful : Sema N H → SemaPass N → Type 0
  IsSemaLawful sema pass = IsLawful next true sema_releases sema_acquires (start_of sema) pass

  -- the caller halted the sema by this entry
  abbrev pub SemaHalts : Sema N H → SemaPass N → SemaMade → SemaPass N → Type 0
  SemaHalts sema old e new = object.Adds next true sema_releases sema_acquires (start_of sema) old e new

  -- the journal is all that the passes' callers did on the sema
  abbrev pub IsSemaWhole : Sema N H → SemaJournal → List (SemaPass N) → Type 0
  IsSemaWhole sema journal passes = gathered.IsWhole next true sema_releases sema_acquires (start_of sema) journal passes

  -- the same, and each pass has seen all of it
  abbrev pub IsSemaSeen : Sema N H → SemaJournal → List (SemaPass N) → Type 0
  IsSemaSeen sema journal passes = gathered.IsSeen next true sema_releases sema_acquires (start_of sema) journal passes
