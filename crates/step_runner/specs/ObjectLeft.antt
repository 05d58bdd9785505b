-- What is left to do at objects: a number that each event lowers, but one that completes a call.
use Rattle.std.specs.Prelude.{ℕ, ◌+◌, ◌*◌, ◌<◌}
use Rattle.mutex_core.specs.EventsLeft as mutex
use Rattle.rw_core.specs.EventsLeft as rw
use Rattle.wait_cores.specs.NotifyEventsLeft.{notify_left}
use Rattle.wait_cores.specs.GroupEventsLeft.{group_left}
use Rattle.wait_cores.specs.OnceEventsLeft.{once_left}
use Rattle.sema_core.specs.SemaEventsLeft.{sema_left}
use Rattle.flight_core.specs.FlightEventsLeft.{flight_left}
use Rattle.step_runner.specs.declared.turns.answer.Answer.{Answer}
use Rattle.step_runner.specs.declared.turns.answer.Answer.TheVariants as answers
use Rattle.step_runner.specs.declared.turns.object_state.ObjectState.{ObjectState}
use Rattle.step_runner.specs.declared.turns.object_state.ObjectState.TheVariants as states

-- what workers can still do at an object without completing a call. Who comes to wait at a cond unlocks its mutex, and arrives there later
abbrev pub object_left : ObjectState → ℕ
object_left (states.Map m) = 0
object_left (states.Atomic number) = 0
object_left (states.Mutex m) = 2 * mutex.events_left m
object_left (states.RwMutex m) = rw.events_left m
object_left (states.Cond c place) = 3 * notify_left c
object_left (states.WaitGroup g first) = group_left g
object_left (states.Once o place delta) = once_left o
object_left (states.OnceFunc o code) = once_left o
object_left (states.OnceValue o value) = once_left o
object_left (states.Pool p) = 0
object_left (states.Sema s size) = sema_left s
object_left (states.Flight f keys place delta) = flight_left f
object_left (states.Var held) = 0

-- what a turn's answer says of what was left and is left. No event: all is the same; an event that completes no call: less is left; one that
-- completes a call: less than 4 more
abbrev pub UsesBy : ℕ → ℕ → Type 0 → Answer → Type 0
UsesBy old new same answers.Still = same
UsesBy old new same answers.Unfinished = new < old
UsesBy old new same (answers.Completed reply) = new < old + 4
UsesBy old new same (answers.Misused misuse) = Unit {0}
