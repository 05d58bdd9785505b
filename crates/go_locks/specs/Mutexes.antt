-- What contracts see of a running Mutex and of the passes to it.
use Rattle.std.specs.Prelude.{◌≡◌, ℕ, false, List, [], Some, slice_get}
use Rattle.sync_model.specs.declared.journal.Entry.{Entry}
use Rattle.mutex_core.specs.declared.event.MutexEvent.{MutexEvent}
use Rattle.mutex_core.specs.declared.reply.MutexReply.{MutexReply}
use Rattle.mutex_core.specs.MutexMachine.{State}
use Rattle.protocols.specs.MutexStages.{mutex_stands}
use Rattle.ruled_object.specs.declared.pass.Pass.{Pass}
use Rattle.ruled_object.specs.Passes.{left_of, seen_by, own_by, callers_of, start_of, IsHomeOf}
use Rattle.call_loop.specs.Between.{IsBetween, AreAllBetween}
use Rattle.go_locks.specs.declared.mutex.Mutex.{Mutex}

-- the journal of a running Mutex, the earliest entry first
abbrev pub MutexJournal : Type 0
MutexJournal = List (Entry MutexEvent MutexReply)

module _ {N H : Type 0} where
  -- how many callers it has, and the state of the machine that it started from
  abbrev pub mutex_callers : Mutex N H → ℕ
  mutex_callers mutex = callers_of mutex.object

  abbrev pub mutex_start : Mutex N H → State
  mutex_start mutex = start_of mutex.object

  -- it is the home of the note that the mutex was made with
  abbrev pub IsHomeOfMutex : (H → N → Type 0) → Mutex N H → H → Type 0
  IsHomeOfMutex at mutex home = IsHomeOf at mutex.object home

  -- it is the pass of a caller of this mutex that is between two calls
  abbrev pub IsPassOfMutex : Mutex N H → Pass State N MutexEvent MutexReply → Type 0
  IsPassOfMutex mutex pass = IsBetween false mutex_stands mutex.object pass

  -- all passes of the mutex, in order of number, each between two calls
  abbrev pub AreAllOfMutex : Mutex N H → List (Pass State N MutexEvent MutexReply) → Type 0
  AreAllOfMutex mutex passes = AreAllBetween false mutex_stands mutex.object passes

  -- all passes of a new mutex, each good for so many calls. Nothing was done yet
  pub record AreNewOfMutex (mutex : Mutex N H) (calls : ℕ) (passes : List (Pass State N MutexEvent MutexReply)) : Type 0 where
    pub all : AreAllOfMutex mutex passes
    pub each : (i : ℕ) (pass : Pass State N MutexEvent MutexReply) → slice_get passes i ≡ Some pass → (left_of pass ≡ calls) × (seen_by pass ≡ []) × (own_by pass ≡ [])
