-- The texts of the misuses, which are Go's.
use Rattle.std.specs.Prelude.{ℕ, List, codes}
use Rattle.sync_types.specs.declared.misuse.Misuse.{Misuse}
use Rattle.sync_types.specs.declared.misuse.Misuse.TheVariants.{UnlockOfUnlockedMutex, RUnlockOfUnlockedRwMutex, UnlockOfUnlockedRwMutex, NegativeWaitGroupCounter, WaitGroupReused, SemaphoreOverReleased}

-- the line that Go's runtime prints for it
abbrev pub text_of : Misuse → List ℕ
text_of UnlockOfUnlockedMutex = codes "fatal error: sync: unlock of unlocked mutex"
text_of RUnlockOfUnlockedRwMutex = codes "fatal error: sync: RUnlock of unlocked RWMutex"
text_of UnlockOfUnlockedRwMutex = codes "fatal error: sync: Unlock of unlocked RWMutex"
text_of NegativeWaitGroupCounter = codes "panic: sync: negative WaitGroup counter"
text_of WaitGroupReused = codes "panic: sync: WaitGroup is reused before previous Wait has returned"
text_of SemaphoreOverReleased = codes "panic: semaphore: released more than held"
