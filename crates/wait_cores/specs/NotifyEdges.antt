-- Which events of a cond synchronize before which others, as the documentation of Go's `sync` says: an entry that releases
-- does so before each later one of the same object that acquires. An event that changes nothing does neither.
use Rattle.std.specs.Prelude.{Bool, true, false}
use Rattle.wait_cores.specs.declared.notify.NotifyEvent.{NotifyEvent}
use Rattle.wait_cores.specs.declared.notify.NotifyEvent.TheVariants as notify
use Rattle.wait_cores.specs.declared.notify.NotifyReply.{NotifyReply}
use Rattle.wait_cores.specs.declared.notify.NotifyReply.TheVariants as notified

-- the event was made at the cond
abbrev pub is_made : NotifyReply → Bool
is_made notified.Done = true
is_made notified.Still = false

-- a call to Broadcast or Signal synchronizes before the return of any Wait call that it unblocks
abbrev pub notify_releases : NotifyEvent → NotifyReply → Bool
notify_releases notify.Ticket reply = false
notify_releases notify.Signal reply = is_made reply
notify_releases notify.Broadcast reply = is_made reply
notify_releases notify.Leave reply = false

-- that return begins with the leaving of the ticket
abbrev pub notify_acquires : NotifyEvent → NotifyReply → Bool
notify_acquires notify.Ticket reply = false
notify_acquires notify.Signal reply = false
notify_acquires notify.Broadcast reply = false
notify_acquires notify.Leave reply = is_made reply
