-- Who waits at a cond any number of times, and has locked the mutex again, has locked it.
use Rattle.std.proofs.Common.{ℕ, inr}
use Rattle.sync_outside.specs.declared.clock.Clock.{Ghosts}
use Rattle.go_sync.specs.declared.cond.CondCaller.{CondCaller}
use Rattle.go_sync.specs.declared.mutex.MutexCaller.{MutexCaller}
use Rattle.go_sync.specs.GuardedCallers.{HasLocked, WaitsFor, at_once, woken}

pub still_locked : {C : Type 0} {clock : Ghosts C} (shows : C → ℕ → Type 0) (cond left : CondCaller C clock) (held again : MutexCaller C clock) → HasLocked shows held → WaitsFor shows cond held left again → HasLocked shows again
still_locked shows cond left held again locked at_once = locked
still_locked shows cond left held again locked (woken mid between new last waits waited) = inr (mid, new, between, waited)
