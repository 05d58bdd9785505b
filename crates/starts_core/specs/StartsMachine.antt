-- The machine Starts: which workers of a run wait to be started, which make their calls, and which have made them. `WaitGroup.Go`
-- adds to a wait group and then starts a worker here; a worker that waits goes once it is started, and never where nobody is left
-- who could start it.
use Rattle.std.specs.Prelude.{ℕ, Bool, true, false, nat_lt, if◌then◌else◌, List, length, map, slice_get, slice_set, unwrap_or}
use Rattle.std.specs.List.{list_any}
use Rattle.starts_core.specs.declared.starts.StartEvent.{StartEvent}
use Rattle.starts_core.specs.declared.starts.StartEvent.TheVariants.{Start, End, Leave}
use Rattle.starts_core.specs.declared.starts.StartReply.{StartReply}
use Rattle.starts_core.specs.declared.starts.StartReply.TheVariants.{Done, Go, Never, Still}
use Rattle.starts_core.specs.declared.starts.StartPlace.{StartPlace}
use Rattle.starts_core.specs.declared.starts.StartPlace.TheVariants.{Dormant, Live, Ended}

-- where each worker stands
pub record StartsState : Type 0 where
  pub places : List StartPlace

abbrev pub first_place : Bool → StartPlace
first_place true = Dormant
first_place false = Live

-- at the beginning some workers wait to be started, and all others are live
abbrev pub begun : List Bool → StartsState
begun dormant = record { places = map first_place dormant }

-- how many workers there are
abbrev pub callers_of : StartsState → ℕ
callers_of state = length state.places

-- where a worker stands; who isn't one makes no calls
abbrev pub place_of : StartsState → ℕ → StartPlace
place_of state worker = unwrap_or (slice_get state.places worker) Ended

abbrev pub is_live : StartPlace → Bool
is_live Dormant = false
is_live Live = true
is_live Ended = false

-- whether any worker is live
abbrev pub is_any_live : StartsState → Bool
is_any_live state = list_any is_live state.places

-- a dormant worker becomes live, and any other is as it was
abbrev pub started : StartPlace → StartPlace
started Dormant = Live
started Live = Live
started Ended = Ended

-- a live worker becomes ended, and any other is as it was
abbrev pub ended : StartPlace → StartPlace
ended Dormant = Dormant
ended Live = Ended
ended Ended = Ended

-- a worker that was started goes. One that waits never goes where nobody is live, and waits else
abbrev pub left_from : StartPlace → StartsState → StartReply
left_from Live state = Go
left_from Dormant state = if is_any_live state then Still else Never
left_from Ended state = Still

-- the worker comes to stand there; who isn't one stands nowhere
abbrev pub with_place : StartsState → ℕ → StartPlace → StartsState
with_place state worker place = record { places = slice_set state.places worker place }

-- what each event of one of the workers does
abbrev pub made : StartsState → ℕ → StartEvent → StartsState × StartReply
made state caller (Start worker) = (with_place state worker (started (place_of state worker)), Done)
made state caller End = (with_place state caller (ended (place_of state caller)), Done)
made state caller Leave = (state, left_from (place_of state caller) state)

-- the state and the reply after an event. A caller that isn't one of the workers changes nothing
abbrev pub next : StartsState → ℕ → StartEvent → StartsState × StartReply
next state caller event = if nat_lt caller (callers_of state) then made state caller event else (state, Still)
