-- What is said of the logs of a cond.
use Rattle.std.specs.Prelude.{ℕ, ◌<◌, ◌-◌, ◌⊎◌, Bool, true, false, List, count_by, IsTrue}
use Rattle.std.specs.List.{list_any}
use Rattle.wait_cores.specs.declared.notify.NotifyEvent.{NotifyEvent}
use Rattle.wait_cores.specs.declared.notify.NotifyEvent.TheVariants.{Ticket, Signal, Broadcast, Leave}
use Rattle.wait_cores.specs.declared.notify.NotifyReply.{NotifyReply}
use Rattle.wait_cores.specs.declared.notify.NotifyReply.TheVariants.{Done, Still}
use Rattle.sync_model.specs.Log.{Entry, entry, after, Follows}
use Rattle.wait_cores.specs.NotifyMachine.{NotifyState, start, next}

abbrev pub NotifyEntry : Type 0
NotifyEntry = Entry NotifyEvent NotifyReply

abbrev pub Log : Type 0
Log = List NotifyEntry

-- the log is one of a cond for so many callers, from its start on
abbrev pub IsLog : ℕ → Log → Type 0
IsLog callers log = Follows next (start callers) log

-- the state after it
abbrev pub state_after : ℕ → Log → NotifyState
state_after callers log = after next (start callers) log

-- the caller takes a ticket
abbrev pub ticket_by : ℕ → NotifyEntry
ticket_by caller = entry caller Ticket Done

-- the caller leaves
abbrev pub leave_by : ℕ → NotifyEntry
leave_by caller = entry caller Leave Done

abbrev pub is_done : NotifyReply → Bool
is_done Done = true
is_done Still = false

-- the entry takes a ticket
abbrev pub is_ticket_of : NotifyEvent → NotifyReply → Bool
is_ticket_of Ticket reply = is_done reply
is_ticket_of _ reply = false

abbrev pub is_ticket : NotifyEntry → Bool
is_ticket e = is_ticket_of e.event e.reply

-- the entry signals
abbrev pub is_signal_of : NotifyEvent → NotifyReply → Bool
is_signal_of Signal reply = is_done reply
is_signal_of _ reply = false

abbrev pub is_signal : NotifyEntry → Bool
is_signal e = is_signal_of e.event e.reply

-- the entry broadcasts
abbrev pub is_broadcast_of : NotifyEvent → NotifyReply → Bool
is_broadcast_of Broadcast reply = is_done reply
is_broadcast_of _ reply = false

abbrev pub is_broadcast : NotifyEntry → Bool
is_broadcast e = is_broadcast_of e.event e.reply

-- how many tickets are taken and not notified
abbrev pub pending_of : NotifyState → ℕ
pending_of state = state.next_ticket - state.notified

-- a ticket that so many others stand before is notified in these events: by a broadcast, or when each before it and then it had its signal
abbrev pub NotifiesAfter : ℕ → Log → Type 0
NotifiesAfter pending log = IsTrue (list_any is_broadcast log) ⊎ (pending < count_by is_signal log)

-- each event of a caller of the cond is made, but a leaving, which is where the caller's ticket is notified
abbrev pub answers : NotifyEvent → NotifyReply → Bool
answers Ticket reply = is_done reply
answers Signal reply = is_done reply
answers Broadcast reply = is_done reply
answers Leave reply = true
