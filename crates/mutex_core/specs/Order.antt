-- Who joins and who leaves the queue with an answer, as first in, first out says.
use Rattle.std.specs.Prelude.{◌≡◌, ℕ, List, [], ◌∷◌, ◌++◌}
use Rattle.mutex_core.specs.declared.event.MutexEvent.{MutexEvent}
use Rattle.mutex_core.specs.declared.event.MutexEvent.TheVariants as event
use Rattle.mutex_core.specs.declared.reply.MutexReply.{MutexReply}
use Rattle.mutex_core.specs.declared.reply.MutexReply.TheVariants.{Arrived, Tried, Unlocked, Resumed, Still}
use Rattle.mutex_core.specs.declared.reply.Arrival.TheVariants as arrival
use Rattle.mutex_core.specs.declared.reply.Resumption.TheVariants as resumption
use Rattle.mutex_core.specs.declared.reply.Unlocking.TheVariants as unlocking
use Rattle.mutex_core.specs.declared.waiter.Waiter.{Waiter}
use Rattle.mutex_core.specs.declared.waiter.Flight.{Flight}
use Rattle.mutex_core.specs.declared.waiter.Flight.TheVariants as flight
use Rattle.mutex_core.specs.MutexMachine.{State}

-- a newcomer's arrival is the moment at which it came
abbrev pub ArrivesAt : MutexEvent → ℕ → Type 0
ArrivesAt (event.Arrive now) moment = moment ≡ now
ArrivesAt event.Try moment = ⊥
ArrivesAt event.Unlock moment = ⊥
ArrivesAt (event.Woken now) moment = ⊥

-- one that acquires after waiting was out of the queue, woken, or leaves it from the front, handed the mutex
abbrev pub LeavesBy : Flight → List Waiter → List Waiter → Type 0
LeavesBy flight.Nobody before later = ⊥
LeavesBy (flight.Woken waiter) before later = later ≡ before
LeavesBy flight.Handed before later = (front : Waiter) × (before ≡ front ∷ later)

-- The queue after an answer. A newcomer joins at the tail, with the moment at which it came. An unlock tells the front, which leaves the queue where it is
-- woken. A woken waiter that loses joins again, at the front, with the arrival that it came with. Nobody else joins or leaves.
abbrev pub QueuesOn : State → ℕ → MutexEvent → MutexReply → State → Type 0
QueuesOn old caller event (Arrived arrival.Acquired) new = new.queue ≡ old.queue
QueuesOn old caller event (Arrived (arrival.Queued ticket)) new = (last : Waiter) × (last.caller ≡ caller) × ArrivesAt event last.arrival × (new.queue ≡ old.queue ++ last ∷ [])
QueuesOn old caller event (Tried acquired) new = new.queue ≡ old.queue
QueuesOn old caller event (Unlocked unlocking.Free) new = new.queue ≡ old.queue
QueuesOn old caller event (Unlocked (unlocking.Woke ticket)) new = (front : Waiter) × (front.caller ≡ ticket) × (old.queue ≡ front ∷ new.queue) × (new.flight ≡ flight.Woken front)
QueuesOn old caller event (Unlocked (unlocking.Handed ticket)) new = (front : Waiter) × (rest : List Waiter) × (front.caller ≡ ticket) × (old.queue ≡ front ∷ rest) × (new.queue ≡ old.queue)
QueuesOn old caller event (Unlocked (unlocking.Misuse misuse)) new = new.queue ≡ old.queue
QueuesOn old caller event (Resumed resumption.Acquired) new = LeavesBy old.flight old.queue new.queue
QueuesOn old caller event (Resumed resumption.Requeued) new = (waiter front : Waiter) × (old.flight ≡ flight.Woken waiter) × (front.caller ≡ waiter.caller) × (front.arrival ≡ waiter.arrival) × (new.queue ≡ front ∷ old.queue)
QueuesOn old caller event Still new = new.queue ≡ old.queue
