use Rattle.std.proofs.Common.{◌≡◌, ◌+◌, All, vec_len}
use Rattle.go_locks.specs.Mutexes.{IsPassOfMutex}
use Rattle.go_sync.proofs.mutex.mutex_callers.Given as goal

abbrev pub invariant-loop-caller : goal.invariant-loop-caller
invariant-loop-caller g l = All (IsPassOfMutex l.mutex) l.passes.items × (vec_len l.callers + vec_len l.passes ≡ vec_len l.fn.passes) × All (λ caller. caller.mutex.now ≡ l.mutex) l.callers.items

abbrev pub decreases-loop-caller : goal.decreases-loop-caller
decreases-loop-caller g l = vec_len l.passes
