-- Which events of Starts are answered `Still`, what an event does to each worker, and what a worker knows from its own answers of where it stands.
use Rattle.std.specs.Prelude.{ℕ, Bool, true, false, ◌&&◌, ◌==◌, nat_lt, if◌then◌else◌, not}
use Rattle.starts_core.specs.declared.starts.StartEvent.{StartEvent}
use Rattle.starts_core.specs.declared.starts.StartEvent.TheVariants.{Start, End, Leave}
use Rattle.starts_core.specs.declared.starts.StartReply.{StartReply}
use Rattle.starts_core.specs.declared.starts.StartReply.TheVariants.{Done, Go, Never, Still}
use Rattle.starts_core.specs.declared.starts.StartPlace.{StartPlace}
use Rattle.starts_core.specs.declared.starts.StartPlace.TheVariants.{Dormant, Live, Ended}
use Rattle.starts_core.specs.StartsMachine.{StartsState, callers_of, place_of, is_any_live, started, ended}

-- one that waits may leave where nobody is live
abbrev pub may_leave : StartPlace → Bool → Bool
may_leave Live any = true
may_leave Dormant any = not any
may_leave Ended any = false

abbrev pub is_needed : StartsState → ℕ → StartEvent → Bool
is_needed state caller (Start worker) = true
is_needed state caller End = true
is_needed state caller Leave = may_leave (place_of state caller) (is_any_live state)

-- whether the event is made: its caller is one of the workers, and one that leaves needn't wait
abbrev pub may_make : StartsState → ℕ → StartEvent → Bool
may_make state caller event = nat_lt caller (callers_of state) && is_needed state caller event

-- what an event of a caller does to where a worker stands
abbrev pub moved : ℕ → ℕ → StartEvent → StartPlace → StartPlace
moved caller worker (Start other) place = if other == worker then started place else place
moved caller worker End place = if caller == worker then ended place else place
moved caller worker Leave place = place

-- one that waits goes once it is told so
abbrev pub told : StartPlace → StartReply → StartPlace
told Dormant Go = Live
told Dormant Done = Dormant
told Dormant Never = Dormant
told Dormant Still = Dormant
told Live reply = Live
told Ended reply = Ended

-- where a worker stands after an event of its own, as far as its own answers tell, by where it stood before
abbrev pub stands_after : StartPlace → StartEvent → StartReply → StartPlace
stands_after stand (Start other) reply = stand
stands_after stand End reply = Ended
stands_after stand Leave reply = told stand reply
