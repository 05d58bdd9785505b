-- What one call of a reader/writer lock's caller did.
use Rattle.std.specs.Prelude.{◌≡◌, ℕ, true, List}
use Rattle.sync_model.specs.declared.answer.Answer.{Answer}
use Rattle.sync_model.specs.declared.answer.Answer.TheVariants.{Done}
use Rattle.rw_core.specs.Edges.{acquires, releases}
use Rattle.rw_core.specs.RwMachine.{next}
use Rattle.ruled_object.specs.Growth.{IsLawful}
use Rattle.go_locks.specs.Calls.{Did}
use Rattle.go_locks.specs.RwCalls.{RwDeed, AreClocked}
use Rattle.go_locks.specs.RwMutexes.{rw_start}
use Rattle.sync_outside.specs.declared.clock.Clock.{Ghosts}
use Rattle.go_sync.specs.declared.rw_mutex.RwCaller.{RwCaller}
use Rattle.go_sync.specs.Made.{no_front}

-- The caller made the events of a call that is spelt so, and no others, each the machine's at its place; it is still at its lock, and what it has now seen follows the machine.
pub record Makes {C A : Type 0} {clock : Ghosts C} (spells : List RwDeed → Answer A → Type 0) (shows : ℕ → Type 0) (old : RwCaller C clock) (answer : Answer A) (new : RwCaller C clock) : Type 0 where
  pub lock : new.lock ≡ old.lock
  pub at : new.clock ≡ old.clock
  pub did : (time : ℕ) × Did next (rw_start old.lock.now) spells (AreClocked shows) old.pass (no_front 0) answer new.pass (no_front time)
  pub lawful : IsLawful next true (λ event reply. releases reply) (λ event reply. acquires reply) (rw_start old.lock.now) new.pass

-- what the caller did last locked the lock, by a call that is spelt so
abbrev pub HasLocked : {C : Type 0} {clock : Ghosts C} → (List RwDeed → Answer (Unit {0}) → Type 0) → (C → ℕ → Type 0) → RwCaller C clock → Type 0
HasLocked {C} {clock} spells shows caller = (before : RwCaller C clock) × Makes spells (shows before.clock.now) before (Done tt) caller
