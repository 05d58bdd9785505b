-- What is said of the logs of Starts.
use Rattle.std.specs.Prelude.{◌≡◌, ℕ, ◌==◌, Bool, false, ◌&&◌, List, [], ◌∷◌, ◌++◌}
use Rattle.starts_core.specs.declared.starts.StartEvent.{StartEvent}
use Rattle.starts_core.specs.declared.starts.StartEvent.TheVariants.{Start, End, Leave}
use Rattle.starts_core.specs.declared.starts.StartReply.{StartReply}
use Rattle.starts_core.specs.declared.starts.StartPlace.{StartPlace}
use Rattle.starts_core.specs.declared.starts.StartPlace.TheVariants.{Live}
use Rattle.sync_model.specs.Log.{Entry, entry, after, Follows}
use Rattle.protocols.specs.Stands.{stand_from}
use Rattle.starts_core.specs.StartsMachine.{StartsState, begun, next, place_of}
use Rattle.starts_core.specs.StartsEdges.{goes, is_made}
use Rattle.starts_core.specs.StartsStanding.{stands_after}

abbrev pub StartsEntry : Type 0
StartsEntry = Entry StartEvent StartReply

abbrev pub Log : Type 0
Log = List StartsEntry

-- the log is one of workers of whom these wait to be started
abbrev pub IsLog : List Bool → Log → Type 0
IsLog dormant log = Follows next (begun dormant) log

-- the state after it
abbrev pub state_after : List Bool → Log → StartsState
state_after dormant log = after next (begun dormant) log

-- a worker asks whether it was started, and is answered this
abbrev pub leave_by : ℕ → StartReply → StartsEntry
leave_by caller reply = entry caller Leave reply

-- a worker starts another one, and is answered this
abbrev pub start_by : ℕ → ℕ → StartReply → StartsEntry
start_by caller worker reply = entry caller (Start worker) reply

abbrev pub is_start_of : ℕ → StartEvent → Bool
is_start_of worker (Start other) = other == worker
is_start_of worker End = false
is_start_of worker Leave = false

-- the entry starts the worker
abbrev pub starts : ℕ → StartsEntry → Bool
starts worker e = is_start_of worker e.event && is_made e.reply

-- the entry is the going of a worker that was started
abbrev pub is_going : StartsEntry → Bool
is_going e = goes e.reply

-- who makes this event may make it: only a live worker starts another
abbrev pub IsByLive : StartsState → ℕ → StartEvent → Type 0
IsByLive state caller (Start worker) = place_of state caller ≡ Live
IsByLive state caller End = Unit {0}
IsByLive state caller Leave = Unit {0}

-- from this state on each start is made by a worker that is live
abbrev pub StartsByLive : StartsState → Log → Type 0
StartsByLive state [] = Unit {0}
StartsByLive state (e ∷ log) = IsByLive state e.caller e.event × StartsByLive (next state e.caller e.event).0 log

-- where a worker stands after a log, as far as its own entries tell: it goes once it is told so, and has ended with its first end
abbrev pub stands_by : List Bool → ℕ → Log → StartPlace
stands_by dormant worker log = stand_from stands_after (place_of (begun dormant) worker) worker log

-- each start stands between its worker's going and its end, or between the beginning and the end of one that doesn't wait
abbrev pub StartInTurn : List Bool → Log → Type 0
StartInTurn dormant log =
    (before rest : Log) (caller worker : ℕ) (reply : StartReply) → log ≡ before ++ start_by caller worker reply ∷ rest → stands_by dormant caller before ≡ Live
