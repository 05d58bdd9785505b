use Rattle.std.proofs.Common.{◌≡◌, ◌+◌, All, vec_len}
use Rattle.go_locks.specs.RwMutexes.{IsPassOfRwMutex}
use Rattle.go_sync.proofs.rw_guarded.RwGuarded.callers.Given as goal

abbrev pub invariant-loop-caller : goal.invariant-loop-caller
invariant-loop-caller g l = All (IsPassOfRwMutex l.self.lock) l.passes.items × (vec_len l.callers + vec_len l.passes ≡ vec_len l.fn.passes) × All (λ caller. caller.caller.lock.now ≡ l.self.lock) l.callers.items

abbrev pub decreases-loop-caller : goal.decreases-loop-caller
decreases-loop-caller g l = vec_len l.passes
