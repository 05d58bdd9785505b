-- What one call of a mutex's caller did.
use Rattle.std.specs.Prelude.{◌≡◌, ◌≢◌, ◌⊎◌, ℕ, Bool, true, List}
use Rattle.sync_model.specs.declared.answer.Answer.{Answer}
use Rattle.sync_model.specs.declared.answer.Answer.TheVariants.{Done}
use Rattle.mutex_core.specs.Edges.{acquires, releases}
use Rattle.mutex_core.specs.MutexMachine.{next}
use Rattle.ruled_object.specs.Growth.{IsLawful}
use Rattle.go_locks.specs.Calls.{Did}
use Rattle.go_locks.specs.MutexCalls.{MutexDeed, AreClocked, Locks, Tries}
use Rattle.go_locks.specs.Mutexes.{mutex_start}
use Rattle.sync_outside.specs.declared.clock.Clock.{Ghosts}
use Rattle.go_sync.specs.declared.mutex.MutexCaller.{MutexCaller}
use Rattle.go_sync.specs.Made.{no_front}

-- The caller made the events of a call that is spelt so, and no others, each the machine's at its place; it is still at its mutex, and what it has now seen follows the machine.
pub record Makes {C A : Type 0} {clock : Ghosts C} (spells : List MutexDeed → Answer A → Type 0) (shows : ℕ → Type 0) (old : MutexCaller C clock) (answer : Answer A) (new : MutexCaller C clock) : Type 0 where
  pub mutex : new.mutex ≡ old.mutex
  pub at : new.clock ≡ old.clock
  pub did : (time : ℕ) × Did next (mutex_start old.mutex.now) spells (AreClocked shows) old.pass (no_front 0) answer new.pass (no_front time)
  pub lawful : IsLawful next true (λ event reply. releases reply) (λ event reply. acquires reply) (mutex_start old.mutex.now) new.pass

-- The caller acquired the mutex by a try, or tried it in vain, which it was told, and then locked it.
abbrev pub LocksSoon : {C : Type 0} {clock : Ghosts C} → (C → ℕ → Type 0) → MutexCaller C clock → Answer (Unit {0}) → MutexCaller C clock → Type 0
LocksSoon {C} {clock} shows old answer new =
    (Makes Tries (shows old.clock.now) old (Done true) new × (answer ≡ Done tt))
    ⊎ ((tried : Answer Bool) × (mid : MutexCaller C clock) × (tried ≢ Done true) × Makes Tries (shows old.clock.now) old tried mid × Makes Locks (shows mid.clock.now) mid answer new)
