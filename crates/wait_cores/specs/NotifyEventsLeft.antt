-- What the callers of a cond can still do there without a call returning: take a ticket.
use Rattle.std.specs.Prelude.{ℕ, Option, Some, None, sum_by}
use Rattle.wait_cores.specs.declared.notify.NotifyEvent.{NotifyEvent}
use Rattle.wait_cores.specs.declared.notify.NotifyEvent.TheVariants as notify
use Rattle.wait_cores.specs.declared.notify.NotifyPlace.{NotifyPlace}
use Rattle.wait_cores.specs.declared.notify.NotifyPlace.TheVariants as place
use Rattle.wait_cores.specs.NotifyMachine.{NotifyState}

-- one for a caller that has no ticket, and may take one
abbrev pub left_with : Option ℕ → ℕ
left_with None = 1
left_with (Some ticket) = 0

abbrev pub notify_left : NotifyState → ℕ
notify_left state = sum_by left_with state.tickets

-- what an event uses up of it: a caller without a ticket takes one
abbrev pub notify_used : NotifyPlace → NotifyEvent → ℕ
notify_used place.Out notify.Ticket = 1
notify_used place event = 0

-- what an event gives back of it: a caller leaves
abbrev pub notify_given : NotifyEvent → ℕ
notify_given notify.Ticket = 0
notify_given notify.Signal = 0
notify_given notify.Broadcast = 0
notify_given notify.Leave = 1
