-- What is said of the logs of a wait group.
use Rattle.std.specs.Prelude.{ℕ, ◌≡◌, ℤ, pos, ◌+ℤ◌, List, [], ◌∷◌, ◌++◌}
use Rattle.wait_cores.specs.declared.group.GroupEvent.{GroupEvent}
use Rattle.wait_cores.specs.declared.group.GroupEvent.TheVariants.{Add, Wait, Leave}
use Rattle.wait_cores.specs.declared.group.GroupReply.{GroupReply}
use Rattle.wait_cores.specs.declared.group.GroupReply.TheVariants.{Done, Queued, Misused, Still}
use Rattle.sync_model.specs.Log.{Entry, entry, after}
use Rattle.wait_cores.specs.GroupMachine.{GroupState, start, next}

abbrev pub GroupEntry : Type 0
GroupEntry = Entry GroupEvent GroupReply

abbrev pub Log : Type 0
Log = List GroupEntry

-- the state after a log of a group for so many callers, from its start on
abbrev pub state_after : ℕ → Log → GroupState
state_after callers log = after next (start callers) log

-- the caller comes to wait, and is answered this
abbrev pub wait_by : ℕ → GroupReply → GroupEntry
wait_by caller reply = entry caller Wait reply

-- the caller returns from a wait that queued, and is answered this
abbrev pub leave_by : ℕ → GroupReply → GroupEntry
leave_by caller reply = entry caller Leave reply

-- what an addition that is answered this adds to the counter
abbrev pub added_where : ℤ → GroupReply → ℤ
added_where delta Done = delta
added_where delta Queued = pos 0
added_where delta (Misused misuse) = pos 0
added_where delta Still = pos 0

-- what an event that is answered this adds to the counter
abbrev pub added_in : GroupEvent → GroupReply → ℤ
added_in (Add delta) reply = added_where delta reply
added_in Wait reply = pos 0
added_in Leave reply = pos 0

-- the sum of all additions of a log
abbrev pub additions : Log → ℤ
additions [] = pos 0
additions (e ∷ log) = added_in e.event e.reply +ℤ additions log

-- after some of the events of a log the counter was 0
pub record WasZero (state : GroupState) (log : Log) : Type 0 where
  pub done : Log
  pub left : Log
  pub parts : log ≡ done ++ left
  pub zero_then : (after next state done).counter ≡ 0
