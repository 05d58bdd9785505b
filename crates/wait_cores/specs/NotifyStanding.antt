-- What a caller of a cond knows from its own answers of whether it has a ticket.
use Rattle.std.specs.Prelude.{ℕ, Bool, true, false, ◌&&◌, nat_lt, None, is_some, slice_get, unwrap_or}
use Rattle.wait_cores.specs.declared.notify.NotifyEvent.{NotifyEvent}
use Rattle.wait_cores.specs.declared.notify.NotifyEvent.TheVariants.{Ticket, Signal, Broadcast, Leave}
use Rattle.wait_cores.specs.declared.notify.NotifyReply.{NotifyReply}
use Rattle.wait_cores.specs.declared.notify.NotifyReply.TheVariants.{Done, Still}
use Rattle.wait_cores.specs.declared.notify.NotifyPlace.{NotifyPlace}
use Rattle.wait_cores.specs.declared.notify.NotifyPlace.TheVariants.{Out, Waiting, Notified}
use Rattle.wait_cores.specs.NotifyMachine.{NotifyState, callers_of, place_of}

-- it took a ticket, and hasn't left
abbrev pub has_ticket : NotifyState → ℕ → Bool
has_ticket state caller = is_some (unwrap_or (slice_get state.tickets caller) None)

abbrev pub after_taking : Bool → NotifyReply → Bool
after_taking has Done = true
after_taking has Still = has

abbrev pub after_leaving : Bool → NotifyReply → Bool
after_leaving has Done = false
after_leaving has Still = has

-- whether it has one after an event of its own, by whether it had one before
abbrev pub has_after : Bool → NotifyEvent → NotifyReply → Bool
has_after has Ticket reply = after_taking has reply
has_after has Signal reply = has
has_after has Broadcast reply = has
has_after has Leave reply = after_leaving has reply

-- whether the place is one that the event needs
abbrev pub is_needed : NotifyEvent → NotifyPlace → Bool
is_needed Ticket place = true
is_needed Signal place = true
is_needed Broadcast place = true
is_needed Leave Notified = true
is_needed Leave Out = false
is_needed Leave Waiting = false

-- whether the caller may make the event: it is one of the cond's, and where the event needs it
abbrev pub may_make : NotifyState → ℕ → NotifyEvent → Bool
may_make state caller event = nat_lt caller (callers_of state) && is_needed event (place_of state caller)
