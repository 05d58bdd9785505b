-- A wait that was made with a new note.
use Rattle.std.proofs.Common.{◌≡◌, ℕ, Result, subst}
use Rattle.sync_types.specs.declared.misuse.Misuse.{Misuse}
use Rattle.sync_model.specs.declared.answer.Answer.{Answer}
use Rattle.ruled_object.specs.Passes.{IsSpent}
use Rattle.go_locks.specs.declared.mutex.Mutex.{Mutex}
use Rattle.go_waits.specs.declared.cond.Cond.{Cond}
use Rattle.go_waits.specs.CondCalls.{Waits}
use Rattle.go_waits.specs.Conds.{CondPass, MutexPass}
use Rattle.go_sync.specs.Made.{no_front}

pub waited_so : {N H : Type 0} (shows : ℕ → Type 0) (cond : Cond N H) (mutex : Mutex N H) (ready new : CondPass N) (lent again : MutexPass N) (first last : ℕ) (answer : Answer (Result (Unit {0}) Misuse))
    → first ≡ 0 → ((spent : MutexPass N) × IsSpent lent spent × Waits shows cond mutex ready spent (no_front first) answer new again (no_front last))
    → (spent : MutexPass N) × (time : ℕ) × IsSpent lent spent × Waits shows cond mutex ready spent (no_front 0) answer new again (no_front time)
waited_so shows cond mutex ready new lent again first last answer fresh did =
    (did.0, last, did.1, subst (λ t. Waits shows cond mutex ready did.0 (no_front t) answer new again (no_front last)) fresh did.2)
