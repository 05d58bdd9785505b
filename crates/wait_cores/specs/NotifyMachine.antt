-- The machine of `sync.Cond`, whose documentation says: Signal wakes one goroutine waiting on c, if there is any;
-- Broadcast wakes all. Tickets give the order.
use Rattle.std.specs.Prelude.{ℕ, ◌+◌, ◌-◌, ◌^◌, min, nat_lt, if◌then◌else◌, List, length, replicate, slice_get, slice_set, Option, Some, None}
use Rattle.wait_cores.specs.declared.notify.NotifyEvent.{NotifyEvent}
use Rattle.wait_cores.specs.declared.notify.NotifyEvent.TheVariants.{Ticket, Signal, Broadcast, Leave}
use Rattle.wait_cores.specs.declared.notify.NotifyReply.{NotifyReply}
use Rattle.wait_cores.specs.declared.notify.NotifyReply.TheVariants.{Done, Still}
use Rattle.wait_cores.specs.declared.notify.NotifyPlace.{NotifyPlace}
use Rattle.wait_cores.specs.declared.notify.NotifyPlace.TheVariants.{Out, Waiting, Notified}

-- the next ticket and the number of those notified, which are the tickets below it; and for each caller the ticket that it took last
pub record NotifyState : Type 0 where
  pub next_ticket : ℕ
  pub notified : ℕ
  pub tickets : List (Option ℕ)

-- both numbers begin at 0, and nobody has a ticket
abbrev pub start : ℕ → NotifyState
start callers = record { next_ticket = 0; notified = 0; tickets = replicate callers None }

-- how many callers the cond is for
abbrev pub callers_of : NotifyState → ℕ
callers_of state = length state.tickets

-- the number after a ticket's. The last number of 64 bits, which no run reaches, is followed by itself: its ticket is never notified
abbrev pub following : ℕ → ℕ
following ticket = min (ticket + 1) (2 ^ 64 - 1)

-- a caller with a ticket waits until the ticket is notified
abbrev pub place_with : ℕ → Option (Option ℕ) → NotifyPlace
place_with notified (Some (Some ticket)) = if nat_lt ticket notified then Notified else Waiting
place_with notified (Some None) = Out
place_with notified None = Out

-- where a caller stands
abbrev pub place_of : NotifyState → ℕ → NotifyPlace
place_of state caller = place_with state.notified (slice_get state.tickets caller)

-- a notified caller leaves, and nobody else does
abbrev pub leave_from : NotifyPlace → NotifyState → ℕ → NotifyState × NotifyReply
leave_from Notified state caller = (record state { tickets = slice_set state.tickets caller None }, Done)
leave_from Waiting state caller = (state, Still)
leave_from Out state caller = (state, Still)

-- what each event of one of the callers does
abbrev pub made : NotifyState → ℕ → NotifyEvent → NotifyState × NotifyReply
made state caller Ticket = (record state { next_ticket = following state.next_ticket; tickets = slice_set state.tickets caller (Some state.next_ticket) }, Done)
made state caller Signal = (if nat_lt state.notified state.next_ticket then record state { notified = state.notified + 1 } else state, Done)
made state caller Broadcast = (record state { notified = state.next_ticket }, Done)
made state caller Leave = leave_from (place_of state caller) state caller

-- the state and the reply after an event. A caller that isn't one of the cond's changes nothing
abbrev pub next : NotifyState → ℕ → NotifyEvent → NotifyState × NotifyReply
next state caller event = if nat_lt caller (callers_of state) then made state caller event else (state, Still)
