-- What contracts see of running Starts and of the passes to it.
use Rattle.std.specs.Prelude.{ℕ, true, List}
use Rattle.sync_model.specs.declared.journal.Entry.{Entry}
use Rattle.starts_core.specs.declared.starts.StartEvent.{StartEvent}
use Rattle.starts_core.specs.declared.starts.StartReply.{StartReply}
use Rattle.starts_core.specs.StartsEdges.{starts_releases, starts_acquires}
use Rattle.starts_core.specs.StartsMachine.{StartsState, next}
use Rattle.ruled_object.specs.declared.pass.Pass.{Pass}
use Rattle.ruled_object.specs.Gathered as gathered
use Rattle.ruled_object.specs.Growth.{IsLawful}
use Rattle.ruled_object.specs.Passes as object
use Rattle.go_waits.specs.declared.starts.Starts.{Starts}

-- an entry of the journal of starts
abbrev pub StartsMade : Type 0
StartsMade = Entry StartEvent StartReply

-- all starts, ends and goings, in their one order
abbrev pub StartsJournal : Type 0
StartsJournal = List StartsMade

-- the pass of a worker
abbrev pub StartsPass : Type 0 → Type 0
StartsPass N = Pass StartsState N StartEvent StartReply

module _ {N H : Type 0} where
  -- how many workers there are, and the state that the machine started from
  abbrev pub callers_of : Starts N H → ℕ
  callers_of starts = object.callers_of starts.object

  abbrev pub start_of : Starts N H → StartsState
  start_of starts = object.start_of starts.object

  -- it is the home of the note that the starts were made with
  abbrev pub IsHomeOf : (H → N → Type 0) → Starts N H → H → Type 0
  IsHomeOf at starts home = object.IsHomeOf at starts.object home

  -- it is the pass of one of the workers
  abbrev pub IsPassOf : Starts N H → StartsPass N → Type 0
  IsPassOf starts pass = object.IsPassOf starts.object pass

  -- all passes of the starts, in order of number
  abbrev pub AreAllPasses : Starts N H → List (StartsPass N) → Type 0
  AreAllPasses starts passes = gathered.AreAllPasses starts.object passes

  -- all passes of new starts, each good for so many calls. Nothing was done yet
  abbrev pub AreNew : Starts N H → ℕ → List (StartsPass N) → Type 0
  AreNew starts calls passes = gathered.AreNew starts.object calls passes

  -- what a pass shows of the journal follows the machine, keeps the edge law, and has of its worker what the pass has
  abbrev pub IsStartsLawful : Starts N H → StartsPass N → Type 0
  IsStartsLawful starts pass = IsLawful next true starts_releases starts_acquires (start_of starts) pass

  -- the worker halted the starts by this entry
  abbrev pub StartsHalts : Starts N H → StartsPass N → StartsMade → StartsPass N → Type 0
  StartsHalts starts old e new = object.Adds next true starts_releases starts_acquires (start_of starts) old e new

  -- the journal is all that the passes' workers did on the starts
  abbrev pub IsStartsWhole : Starts N H → StartsJournal → List (StartsPass N) → Type 0
  IsStartsWhole starts journal passes = gathered.IsWhole next true starts_releases starts_acquires (start_of starts) journal passes

  -- the same, and each pass has seen all of it
  abbrev pub IsStartsSeen : Starts N H → StartsJournal → List (StartsPass N) → Type 0
  IsStartsSeen starts journal passes = gathered.IsSeen next true starts_releases starts_acquires (start_of starts) journal passes
