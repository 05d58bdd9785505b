-- What contracts see of a running RWMutex and of the passes to it.
use Rattle.std.specs.Prelude.{◌≡◌, ℕ, false, List, [], Some, slice_get}
use Rattle.sync_model.specs.declared.journal.Entry.{Entry}
use Rattle.rw_core.specs.declared.event.RwEvent.{RwEvent}
use Rattle.rw_core.specs.declared.reply.RwReply.{RwReply}
use Rattle.rw_core.specs.RwMachine.{State}
use Rattle.protocols.specs.RwMutexStages.{rw_stands}
use Rattle.ruled_object.specs.declared.pass.Pass.{Pass}
use Rattle.ruled_object.specs.Passes.{left_of, seen_by, own_by, callers_of, start_of, IsHomeOf}
use Rattle.call_loop.specs.Between.{IsBetween, AreAllBetween}
use Rattle.go_locks.specs.declared.rw_mutex.RwMutex.{RwMutex}

-- the journal of a running RWMutex, the earliest entry first
abbrev pub RwJournal : Type 0
RwJournal = List (Entry RwEvent RwReply)

module _ {N H : Type 0} where
  -- how many callers it has, and the state of the machine that it started from
  abbrev pub rw_callers : RwMutex N H → ℕ
  rw_callers lock = callers_of lock.object

  abbrev pub rw_start : RwMutex N H → State
  rw_start lock = start_of lock.object

  -- it is the home of the note that the lock was made with
  abbrev pub IsHomeOfRwMutex : (H → N → Type 0) → RwMutex N H → H → Type 0
  IsHomeOfRwMutex at lock home = IsHomeOf at lock.object home

  -- it is the pass of a caller of this lock that is between two calls
  abbrev pub IsPassOfRwMutex : RwMutex N H → Pass State N RwEvent RwReply → Type 0
  IsPassOfRwMutex lock pass = IsBetween false rw_stands lock.object pass

  -- all passes of the lock, in order of number, each between two calls
  abbrev pub AreAllOfRwMutex : RwMutex N H → List (Pass State N RwEvent RwReply) → Type 0
  AreAllOfRwMutex lock passes = AreAllBetween false rw_stands lock.object passes

  -- all passes of a new lock, each good for so many calls. Nothing was done yet
  pub record AreNewOfRwMutex (lock : RwMutex N H) (calls : ℕ) (passes : List (Pass State N RwEvent RwReply)) : Type 0 where
    pub all : AreAllOfRwMutex lock passes
    pub each : (i : ℕ) (pass : Pass State N RwEvent RwReply) → slice_get passes i ≡ Some pass → (left_of pass ≡ calls) × (seen_by pass ≡ []) × (own_by pass ≡ [])
