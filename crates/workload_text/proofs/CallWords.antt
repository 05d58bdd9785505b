-- How long words are.
use Rattle.std.proofs.Common.{◌≤◌, length, arith}
use Rattle.workload.specs.declared.keyword.Verb.{Verb}
use Rattle.workload.specs.declared.keyword.Verb.TheVariants.{Load, Store, LoadOrStore, LoadAndDelete, Delete, Swap, CompareAndSwap, CompareAndDelete, Clear, Range, Add, And, Or, Lock, Unlock, TryLock, RLock, RUnlock, TryRLock, Wait, Signal, Broadcast, Done, Do, Call, Value, Put, Get, Sweep, IfEqual, WaitFor, Go, Acquire, TryAcquire, Release, Fly, Read, Write}
use Rattle.workload.specs.KeywordWords.{verb_word}

pub verb_short : (verb : Verb) → length (verb_word verb) ≤ 10
verb_short Load = omega arith
verb_short Store = omega arith
verb_short LoadOrStore = omega arith
verb_short LoadAndDelete = omega arith
verb_short Delete = omega arith
verb_short Swap = omega arith
verb_short CompareAndSwap = omega arith
verb_short CompareAndDelete = omega arith
verb_short Clear = omega arith
verb_short Range = omega arith
verb_short Add = omega arith
verb_short And = omega arith
verb_short Or = omega arith
verb_short Lock = omega arith
verb_short Unlock = omega arith
verb_short TryLock = omega arith
verb_short RLock = omega arith
verb_short RUnlock = omega arith
verb_short TryRLock = omega arith
verb_short Wait = omega arith
verb_short Signal = omega arith
verb_short Broadcast = omega arith
verb_short Done = omega arith
verb_short Do = omega arith
verb_short Call = omega arith
verb_short Value = omega arith
verb_short Put = omega arith
verb_short Get = omega arith
verb_short Sweep = omega arith
verb_short IfEqual = omega arith
verb_short WaitFor = omega arith
verb_short Go = omega arith
verb_short Acquire = omega arith
verb_short TryAcquire = omega arith
verb_short Release = omega arith
verb_short Fly = omega arith
verb_short Read = omega arith
verb_short Write = omega arith
