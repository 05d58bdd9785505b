-- The words of what is done on an object.
use Rattle.std.specs.Prelude.{ℕ, Bool, true, nat_lt, List, ◌++◌, codes}
use Rattle.std.specs.Fmt.{decimal, signed_decimal}
use Rattle.sync_types.specs.declared.misuse.Misuse.{Misuse}
use Rattle.sync_types.specs.declared.misuse.Misuse.TheVariants.{UnlockOfUnlockedMutex, RUnlockOfUnlockedRwMutex, UnlockOfUnlockedRwMutex, NegativeWaitGroupCounter, WaitGroupReused, SemaphoreOverReleased}
use Rattle.record_text.specs.declared.event.EventWord.{EventWord}
use Rattle.record_text.specs.declared.event.EventWord.TheVariants.{Arrive, Try, Unlock, Woken, ReadArrive, ReadTry, ReadUnlock, WriteArrive, WriteTry, WriteWoken, WriteUnlock, Leave, Ticket, Signal, Broadcast, Add, Wait, Begin, End, Put, LookOwn, LookOther, LookVictim, Sweep, Acquire, TryAcquire, Release, Join, Land, Start, Halt}
use Rattle.record_text.specs.Numbers.{has_32_bits, has_64_bits, is_int64, is_whole, whole_word}

-- the word of a misuse
abbrev pub misuse_word : Misuse → List ℕ
misuse_word UnlockOfUnlockedMutex = codes "M1"
misuse_word RUnlockOfUnlockedRwMutex = codes "M2"
misuse_word UnlockOfUnlockedRwMutex = codes "M3"
misuse_word NegativeWaitGroupCounter = codes "M4"
misuse_word WaitGroupReused = codes "M5"
misuse_word SemaphoreOverReleased = codes "M6"

-- what the word of an event begins with: all of it, or up to an `@` or a `=`
abbrev pub event_name : EventWord → List ℕ
event_name (Arrive now) = codes "arrive@"
event_name Try = codes "try"
event_name Unlock = codes "unlock"
event_name (Woken now) = codes "woken@"
event_name ReadArrive = codes "r_arrive"
event_name ReadTry = codes "r_try"
event_name ReadUnlock = codes "r_unlock"
event_name (WriteArrive now) = codes "w_arrive@"
event_name WriteTry = codes "w_try"
event_name (WriteWoken now) = codes "w_woken@"
event_name WriteUnlock = codes "w_unlock"
event_name Leave = codes "leave"
event_name Ticket = codes "ticket"
event_name Signal = codes "signal"
event_name Broadcast = codes "broadcast"
event_name (Add amount) = codes "add="
event_name Wait = codes "wait"
event_name Begin = codes "begin"
event_name End = codes "end"
event_name (Put item) = codes "put="
event_name LookOwn = codes "look_own"
event_name LookOther = codes "look_other"
event_name LookVictim = codes "look_victim"
event_name Sweep = codes "sweep"
event_name (Acquire weight) = codes "acquire="
event_name (TryAcquire weight) = codes "try="
event_name (Release weight) = codes "release="
event_name (Join key) = codes "join="
event_name (Land value) = codes "land="
event_name (Start worker) = codes "start="
event_name (Halt misuse) = codes "halt="

-- what stands behind that
abbrev pub event_operand : EventWord → List ℕ
event_operand (Arrive now) = decimal now
event_operand (Woken now) = decimal now
event_operand (WriteArrive now) = decimal now
event_operand (WriteWoken now) = decimal now
event_operand (Add amount) = whole_word amount
event_operand (Put item) = decimal item
event_operand (Acquire weight) = decimal weight
event_operand (TryAcquire weight) = decimal weight
event_operand (Release weight) = decimal weight
event_operand (Join key) = decimal key
event_operand (Land value) = signed_decimal value
event_operand (Start worker) = decimal worker
event_operand (Halt misuse) = misuse_word misuse
event_operand event = codes ""

abbrev pub event_word : EventWord → List ℕ
event_word event = event_name event ++ event_operand event

-- the event's numbers are in range, in a run of so many workers
abbrev pub is_event : ℕ → EventWord → Bool
is_event workers (Arrive now) = has_64_bits now
is_event workers (Woken now) = has_64_bits now
is_event workers (WriteArrive now) = has_64_bits now
is_event workers (WriteWoken now) = has_64_bits now
is_event workers (Add amount) = is_whole amount
is_event workers (Put item) = has_64_bits item
is_event workers (Acquire weight) = has_64_bits weight
is_event workers (TryAcquire weight) = has_64_bits weight
is_event workers (Release weight) = has_64_bits weight
is_event workers (Join key) = has_32_bits key
is_event workers (Land value) = is_int64 value
is_event workers (Start worker) = nat_lt worker workers
is_event workers event = true
