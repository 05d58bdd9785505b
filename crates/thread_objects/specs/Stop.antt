-- Stop has one event, which nobody makes.
use Rattle.std.specs.Prelude.{ℕ, false}
use Rattle.mutex_core.specs.declared.event.MutexEvent.TheVariants.{Try}
use Rattle.mutex_core.specs.declared.reply.MutexReply.TheVariants.{Tried}
use Rattle.run_record.specs.declared.entered.ObjectEvent.{ObjectEvent}
use Rattle.run_record.specs.declared.entered.ObjectReply.{ObjectReply}
use Rattle.run_record.specs.declared.entered.ObjectEvent.TheVariants as event
use Rattle.run_record.specs.declared.entered.ObjectReply.TheVariants as reply
use Rattle.thread_objects.specs.declared.parts.stop.NoEvent.{NoEvent}

-- it begins in the one state that it has
abbrev pub StopBegins : ℕ → Unit {0} → Type 0
StopBegins callers state = Unit {0}

-- what stands for its event and the answer among those of all kinds: nobody makes it, so which ones these are is of no account
abbrev pub no_event : NoEvent → ObjectEvent
no_event e = event.Mutex Try

abbrev pub no_reply : NoEvent → ObjectReply
no_reply r = reply.Mutex (Tried false)

-- where a caller stands: nobody calls it
abbrev pub stop_stands : Unit {0} → NoEvent → NoEvent → Unit {0}
stop_stands stand event reply = tt
