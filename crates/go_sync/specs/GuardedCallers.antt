-- Who may reach a value that a mutex guards, and what a call on it did that waits at a cond.
use Rattle.std.specs.Prelude.{◌≡◌, ◌≢◌, ◌⊎◌, ℕ, Result, Ok}
use Rattle.sync_types.specs.declared.misuse.Misuse.{Misuse}
use Rattle.sync_model.specs.declared.answer.Answer.{Answer}
use Rattle.sync_model.specs.declared.answer.Answer.TheVariants.{Done, Halted}
use Rattle.sync_outside.specs.declared.clock.Clock.{Ghosts}
use Rattle.go_locks.specs.MutexCalls.{Unlocks}
use Rattle.go_sync.specs.declared.cond.CondCaller.{CondCaller}
use Rattle.go_sync.specs.declared.mutex.MutexCaller.{MutexCaller}
use Rattle.go_sync.specs.CondCallers.{Waited}
use Rattle.go_sync.specs.MutexCallers.{LocksSoon, Makes}

module _ {C : Type 0} {clock : Ghosts C} (shows : C → ℕ → Type 0) where
  -- what the caller did last locked the mutex, by a lock or at the end of a wait at a cond
  abbrev pub HasLocked : MutexCaller C clock → Type 0
  HasLocked caller =
      ((before : MutexCaller C clock) × LocksSoon shows before (Done tt) caller)
      ⊎ ((cond left : CondCaller C clock) × (before : MutexCaller C clock) × Waited (shows cond.clock.now) cond before (Done (Ok tt)) left caller)

  -- it waited at the cond any number of times, one after the other, and each time locked the mutex again
  pub data WaitsFor (cond : CondCaller C clock) (held : MutexCaller C clock) : CondCaller C clock → MutexCaller C clock → Type 0 where
    at_once : WaitsFor cond held cond held
    woken : (mid : CondCaller C clock) (between : MutexCaller C clock) (new : CondCaller C clock) (again : MutexCaller C clock) → WaitsFor cond held mid between → Waited (shows mid.clock.now) mid between (Done (Ok tt)) new again → WaitsFor cond held new again

  -- it locked the mutex, waited so, and unlocked
  pub record WaitsHeld (cond : CondCaller C clock) (old : MutexCaller C clock) (left : CondCaller C clock) (new : MutexCaller C clock) : Type 0 where
    pub held : MutexCaller C clock
    pub locks : LocksSoon shows old (Done tt) held
    pub again : MutexCaller C clock
    pub waits : WaitsFor cond held left again
    pub unlocks : (end : _) × Makes Unlocks (shows again.clock.now) again end new

  -- It waited so, and then one wait more was answered otherwise: the cond or the mutex was halted, or another caller had unlocked the mutex
  pub record IsCutOff (cond : CondCaller C clock) (held : MutexCaller C clock) (left : CondCaller C clock) (again : MutexCaller C clock) : Type 0 where
    pub mid : CondCaller C clock
    pub between : MutexCaller C clock
    pub waits : WaitsFor cond held mid between
    pub answer : Answer (Result (Unit {0}) Misuse)
    pub cut : Waited (shows mid.clock.now) mid between answer left again
    pub other : answer ≢ Done (Ok tt)

  -- it changed nothing: the mutex was halted before it was locked, or a wait was cut off
  abbrev pub IsUnchanged : CondCaller C clock → MutexCaller C clock → CondCaller C clock → MutexCaller C clock → Type 0
  IsUnchanged cond old left new =
      ((misuse : Misuse) × LocksSoon shows old (Halted misuse) new × (left ≡ cond))
      ⊎ ((held : MutexCaller C clock) × LocksSoon shows old (Done tt) held × IsCutOff cond held left new)
