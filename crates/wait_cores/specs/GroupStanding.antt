-- What a caller of a wait group knows from its own answers of where it stands.
use Rattle.std.specs.Prelude.{ℕ, Bool, true, false, ◌&&◌, nat_lt}
use Rattle.wait_cores.specs.declared.group.GroupEvent.{GroupEvent}
use Rattle.wait_cores.specs.declared.group.GroupEvent.TheVariants.{Add, Wait, Leave}
use Rattle.wait_cores.specs.declared.group.GroupReply.{GroupReply}
use Rattle.wait_cores.specs.declared.group.GroupReply.TheVariants.{Done, Queued, Misused, Still}
use Rattle.wait_cores.specs.declared.group.GroupPlace.{GroupPlace}
use Rattle.wait_cores.specs.declared.group.GroupPlace.TheVariants.{Out, Waiting, Released}
use Rattle.wait_cores.specs.GroupMachine.{GroupState, callers_of, place_of}

-- it waits, or was released and hasn't left
abbrev pub is_in : GroupPlace → Bool
is_in Out = false
is_in Waiting = true
is_in Released = true

abbrev pub waits_at : GroupState → ℕ → Bool
waits_at state caller = is_in (place_of state caller)

abbrev pub after_wait : Bool → GroupReply → Bool
after_wait waits Queued = true
after_wait waits Done = waits
after_wait waits (Misused misuse) = waits
after_wait waits Still = waits

abbrev pub after_leaving : Bool → GroupReply → Bool
after_leaving waits Done = false
after_leaving waits (Misused misuse) = false
after_leaving waits Queued = waits
after_leaving waits Still = waits

-- whether it waits after an event of its own, by whether it waited before
abbrev pub waits_after : Bool → GroupEvent → GroupReply → Bool
waits_after waits (Add delta) reply = waits
waits_after waits Wait reply = after_wait waits reply
waits_after waits Leave reply = after_leaving waits reply

-- an addition is made or a misuse
abbrev pub answers_add : GroupReply → Bool
answers_add Done = true
answers_add (Misused misuse) = true
answers_add Queued = false
answers_add Still = false

-- one that is out returns at once, or is queued; one that isn't gets no wait
abbrev pub answers_wait : Bool → GroupReply → Bool
answers_wait true Still = true
answers_wait true Done = false
answers_wait true Queued = false
answers_wait true (Misused misuse) = false
answers_wait false Done = true
answers_wait false Queued = true
answers_wait false (Misused misuse) = false
answers_wait false Still = false

abbrev pub answers_leaving : GroupReply → Bool
answers_leaving Done = true
answers_leaving (Misused misuse) = true
answers_leaving Still = true
answers_leaving Queued = false

-- what an event of a caller of the group may be answered, by whether it waits
abbrev pub answers : Bool → GroupEvent → GroupReply → Bool
answers waits (Add delta) reply = answers_add reply
answers waits Wait reply = answers_wait waits reply
answers waits Leave reply = answers_leaving reply

-- whether the place is one that the event needs
abbrev pub is_needed : GroupEvent → GroupPlace → Bool
is_needed (Add delta) place = true
is_needed Wait Out = true
is_needed Wait Waiting = false
is_needed Wait Released = false
is_needed Leave Released = true
is_needed Leave Out = false
is_needed Leave Waiting = false

-- whether the caller may make the event: it is one of the group's, and where the event needs it
abbrev pub may_make : GroupState → ℕ → GroupEvent → Bool
may_make state caller event = nat_lt caller (callers_of state) && is_needed event (place_of state caller)
