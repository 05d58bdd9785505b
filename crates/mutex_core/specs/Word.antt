-- The packed word of a mutex: what it tells of the state.
use Rattle.std.specs.Prelude.{ℕ, ◌+◌, ◌*◌, Bool, true, false, ◌&&◌, not, ◌==◌, if◌then◌else◌, List, [], ◌∷◌, length}
use Rattle.mutex_core.specs.declared.event.MutexEvent.{MutexEvent}
use Rattle.mutex_core.specs.declared.reply.Arrival.TheVariants.{Acquired, Queued}
use Rattle.mutex_core.specs.declared.reply.MutexReply.{MutexReply}
use Rattle.mutex_core.specs.declared.reply.MutexReply.TheVariants.{Arrived, Tried, Unlocked, Resumed, Still}
use Rattle.mutex_core.specs.declared.waiter.Flight.{Flight}
use Rattle.mutex_core.specs.declared.waiter.Flight.TheVariants as flight
use Rattle.mutex_core.specs.declared.waiter.Waiter.{Waiter}
use Rattle.mutex_core.specs.MutexMachine.{State, next}

-- 1 for yes, 0 for no
abbrev pub bit : Bool → ℕ
bit true = 1
bit false = 0

-- The word of a state: 1 where it is locked, 2 where a waiter is woken, 4 in starvation mode, and 8 for each waiter in the queue. A handed waiter stands in the queue, a woken one doesn't.
abbrev pub word_of : State → ℕ
word_of s = bit s.locked + 2 * bit s.woken + 4 * bit s.starving + 8 * length s.queue

-- nobody is in flight
abbrev pub is_nobody : Flight → Bool
is_nobody flight.Nobody = true
is_nobody (flight.Woken waiter) = false
is_nobody flight.Handed = false

-- nobody waits in the queue
abbrev pub is_empty : List Waiter → Bool
is_empty [] = true
is_empty (_ ∷ _) = false

-- nobody waits, and nobody is in flight
abbrev pub is_quiet : State → Bool
is_quiet s = is_empty s.queue && is_nobody s.flight

-- The state that a kept one and the word stand for. Events that find nobody waiting and nobody in flight leave all as it is kept, but whether the mutex is locked, which the word tells
abbrev pub told_by : State → ℕ → State
told_by s word = if is_quiet s then record s { locked = word == 1 } else s

-- an answer by which the caller waits at the tail
abbrev pub queues : MutexReply → Bool
queues (Arrived (Queued ticket)) = true
queues (Arrived Acquired) = false
queues (Tried acquired) = false
queues (Unlocked unlocking) = false
queues (Resumed resumption) = false
queues Still = false

-- an event of a caller is uncontended: it finds an empty queue and nobody in flight, and its caller isn't queued
abbrev pub is_uncontended : State → ℕ → MutexEvent → Bool
is_uncontended s caller event = is_quiet s && not (queues (next s caller event).1)
