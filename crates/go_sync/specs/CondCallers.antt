-- What one call of a cond's caller did.
use Rattle.std.specs.Prelude.{◌≡◌, ℕ, Result}
use Rattle.sync_types.specs.declared.misuse.Misuse.{Misuse}
use Rattle.sync_model.specs.declared.answer.Answer.{Answer}
use Rattle.sync_model.specs.declared.no_note.NoNote.{NoNote}
use Rattle.wait_cores.specs.declared.notify.NotifyEvent.{NotifyEvent}
use Rattle.ruled_object.specs.Passes.{IsSpent}
use Rattle.sync_outside.specs.declared.clock.Clock.{Ghosts}
use Rattle.go_waits.specs.CondCalls.{CondDid, Makes, Waits}
use Rattle.go_waits.specs.Conds.{CondPass, MutexPass, IsCondLawful}
use Rattle.go_sync.specs.declared.cond.CondCaller.{CondCaller}
use Rattle.go_sync.specs.declared.mutex.MutexCaller.{MutexCaller}
use Rattle.go_sync.specs.Made.{no_front}
use Rattle.go_sync.specs.Renewing.{IsSame}

-- The caller signalled or broadcast, by one event, which is the machine's at its place; it is still at its cond, and what it has now seen follows the machine.
pub record Notifies {C : Type 0} {clock : Ghosts C} (event : NotifyEvent) (old : CondCaller C clock) (answer : Answer (Unit {0})) (new : CondCaller C clock) : Type 0 where
  pub cond : new.cond ≡ old.cond
  pub at : new.clock ≡ old.clock
  pub did : (time : ℕ) × CondDid old.cond.now (Makes event) old.pass (no_front 0) answer new.pass (no_front time)
  pub lawful : IsCondLawful old.cond.now new.pass

-- The caller waited at the cond: it took a ticket, unlocked the mutex, left once the ticket was notified, and locked the mutex again, each event the machine's at its place. Both callers are still where they were.
pub record Waited {C : Type 0} {clock : Ghosts C} (shows : ℕ → Type 0) (old : CondCaller C clock) (held : MutexCaller C clock) (answer : Answer (Result (Unit {0}) Misuse)) (new : CondCaller C clock) (again : MutexCaller C clock) : Type 0 where
  pub cond : new.cond ≡ old.cond
  pub mutex : again.mutex ≡ held.mutex
  pub at : (new.clock ≡ old.clock) × (again.clock ≡ held.clock)
  pub ready : CondPass NoNote
  pub ready_is : IsSame old.pass ready
  pub lent : MutexPass NoNote
  pub lent_is : IsSame held.pass lent
  pub did : (spent : MutexPass NoNote) × (time : ℕ) × IsSpent lent spent × Waits shows old.cond.now held.mutex.now ready spent (no_front 0) answer new.pass again.pass (no_front time)
  pub lawful : IsCondLawful old.cond.now new.pass
