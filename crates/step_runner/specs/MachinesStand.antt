-- What the laws of the machines say, together, of where callers stand, of what they are answered, and of what the events of wait groups, onces, semaphores and flights use up.
use Rattle.std.specs.Prelude.{◌≡◌, ◌≢◌, ℕ, ℤ, ◌+◌, ◌<◌, ◌≤◌, IsTrue, IsFalse}
use Rattle.mutex_core.specs.MutexMachine as mutex
use Rattle.mutex_core.specs.Moves as mutex_moves
use Rattle.mutex_core.specs.Standing as mutex_standing
use Rattle.mutex_core.specs.declared.event.MutexEvent.{MutexEvent}
use Rattle.mutex_core.specs.declared.event.MutexEvent.TheVariants as mutex_event
use Rattle.mutex_core.specs.declared.place.Place.TheVariants as mutex_place
use Rattle.rw_core.specs.RwMachine as rw
use Rattle.rw_core.specs.Moves as rw_moves
use Rattle.rw_core.specs.Standing as rw_standing
use Rattle.rw_core.specs.declared.event.RwEvent.{RwEvent}
use Rattle.rw_core.specs.declared.reply.RwReply.TheVariants as rw_reply
use Rattle.wait_cores.specs.NotifyMachine as notify
use Rattle.wait_cores.specs.NotifyLaws as notify_laws
use Rattle.wait_cores.specs.NotifyStanding as notify_standing
use Rattle.wait_cores.specs.GroupEventsLeft.{group_left}
use Rattle.wait_cores.specs.GroupMachine as group
use Rattle.wait_cores.specs.OnceEventsLeft.{once_left, once_used, once_given}
use Rattle.wait_cores.specs.OnceMachine as once
use Rattle.wait_cores.specs.OnceStanding as once_standing
use Rattle.wait_cores.specs.declared.notify.NotifyEvent.{NotifyEvent}
use Rattle.wait_cores.specs.declared.notify.NotifyReply.TheVariants as notify_reply
use Rattle.wait_cores.specs.declared.once.OnceEvent.{OnceEvent}
use Rattle.wait_cores.specs.declared.once.OnceReply.TheVariants as once_reply
use Rattle.sema_core.specs.SemaEventsLeft.{sema_left}
use Rattle.sema_core.specs.SemaMachine as sema
use Rattle.sema_core.specs.SemaStages.{sema_event, sema_meaning}
use Rattle.flight_core.specs.FlightEventsLeft.{flight_left, flight_used, flight_given}
use Rattle.flight_core.specs.FlightMachine as flight
use Rattle.flight_core.specs.FlightStanding as flight_standing
use Rattle.flight_core.specs.declared.event.FlightEvent.{FlightEvent}
use Rattle.flight_core.specs.declared.event.FlightReply.TheVariants as flight_reply
use Rattle.protocols.specs.GroupStages.{group_event, group_meaning}
use Rattle.step_runner.specs.Due.{group_turn, group_behind, GroupFits, group_from, sema_turn, sema_behind, SemaFits, sema_from}
use Rattle.step_runner.specs.TurnKinds.{TurnsStand}

pub record MutexStands : Type 0 where
  pub moved : (m : mutex.State) (x by : ℕ) (e : MutexEvent) → mutex.IsValid m → mutex.place_of (mutex.next m by e).0 x ≡ mutex_moves.place_after x by (mutex.place_of m x) (mutex.next m by e).1
  pub told : (m : mutex.State) (x by : ℕ) (e : MutexEvent) → mutex.IsValid m → IsTrue (mutex_moves.tells x (mutex.next m by e).1) → (e ≡ mutex_event.Unlock) × (mutex.place_of m x ≡ mutex_place.Waiting)
  pub unmoved : (m : mutex.State) (x by : ℕ) (e : MutexEvent) → mutex.IsValid m → x ≢ by → IsFalse (mutex_moves.tells x (mutex.next m by e).1) → mutex.place_of (mutex.next m by e).0 x ≡ mutex.place_of m x
  pub answered : (m : mutex.State) (c : ℕ) (e : MutexEvent) → IsTrue (mutex.may_make m c e) → IsTrue (mutex_standing.is_answer e (mutex.next m c e).1)

pub record RwStands : Type 0 where
  pub others : (m : rw.State) (x by : ℕ) (e : RwEvent) → rw.IsValid m → x ≢ by → rw_moves.MovesOther e (rw.place_of m x) (rw.place_of (rw.next m by e).0 x)
  pub own : (m : rw.State) (c : ℕ) (e : RwEvent) → rw.IsValid m → rw_moves.MovesOwn (rw.next m c e).1 (rw.place_of m c) (rw.place_of (rw.next m c e).0 c)
  pub answered : (m : rw.State) (c : ℕ) (e : RwEvent) → IsTrue (rw.may_make m c e) → IsTrue (rw_standing.is_answer e (rw.next m c e).1)
  pub unmade : (m : rw.State) (c : ℕ) (e : RwEvent) → IsFalse (rw.may_make m c e) → rw.next m c e ≡ (m, rw_reply.Still)

pub record CondStands : Type 0 where
  pub own : (c : notify.NotifyState) (x : ℕ) (e : NotifyEvent) → notify_standing.has_ticket (notify.next c x e).0 x ≡ notify_standing.has_after (notify_standing.has_ticket c x) e (notify.next c x e).1
  pub others : (c : notify.NotifyState) (x by : ℕ) (e : NotifyEvent) → x ≢ by → notify_standing.has_ticket (notify.next c by e).0 x ≡ notify_standing.has_ticket c x
  pub answers : (c : notify.NotifyState) (x : ℕ) (e : NotifyEvent) → x < notify.callers_of c → IsTrue (notify_laws.answers e (notify.next c x e).1)
  pub made : (c : notify.NotifyState) (x : ℕ) (e : NotifyEvent) → IsTrue (notify_standing.may_make c x e) → (notify.next c x e).1 ≢ notify_reply.Still

abbrev pub GroupTurns : Type 0
GroupTurns = TurnsStand group.next group_event group_meaning group.callers_of group_turn group_behind GroupFits group_from group_left

abbrev pub SemaTurns : Type 0
SemaTurns = TurnsStand sema.next sema_event sema_meaning sema.callers_of sema_turn sema_behind SemaFits sema_from sema_left

pub record OnceUses (T : Type 0) : Type 0 where
  pub answers : (o : once.OnceState T) (c : ℕ) (e : OnceEvent T) → c < once.callers_of o → IsTrue (once_standing.answers (once_standing.waits_at o c) (once_standing.runs_at o c) e (once.next o c e).1)
  pub made : (o : once.OnceState T) (c : ℕ) (e : OnceEvent T) → IsTrue (once_standing.may_make o c e) → (once.next o c e).1 ≢ once_reply.Still
  pub used : (o : once.OnceState T) (c : ℕ) (e : OnceEvent T) → once_left (once.next o c e).0 + once_used (once.next o c e).1 ≤ once_left o + once_given (once.next o c e).1

pub record OnceStands (T : Type 0) : Type 0 where
  pub own_wait : (o : once.OnceState T) (x : ℕ) (e : OnceEvent T) → once_standing.waits_at (once.next o x e).0 x ≡ once_standing.waits_after (once_standing.waits_at o x) (once.next o x e).1
  pub own_run : (o : once.OnceState T) (x : ℕ) (e : OnceEvent T) → once_standing.runs_at (once.next o x e).0 x ≡ once_standing.runs_after (once_standing.runs_at o x) (once.next o x e).1
  pub others_wait : (o : once.OnceState T) (x by : ℕ) (e : OnceEvent T) → x ≢ by → once_standing.waits_at (once.next o by e).0 x ≡ once_standing.waits_at o x
  pub others_run : (o : once.OnceState T) (x by : ℕ) (e : OnceEvent T) → x ≢ by → once_standing.runs_at (once.next o by e).0 x ≡ once_standing.runs_at o x
  pub uses : OnceUses T

pub record FlightStands : Type 0 where
  pub own : (f : flight.FlightState) (x : ℕ) (e : FlightEvent) → flight_standing.stands_at (flight.next f x e).0 x ≡ flight_standing.stands_after (flight_standing.stands_at f x) (flight.next f x e).1
  pub others : (f : flight.FlightState) (x by : ℕ) (e : FlightEvent) → x ≢ by → flight_standing.stands_at (flight.next f by e).0 x ≡ flight_standing.stands_at f x
  pub answers : (f : flight.FlightState) (x : ℕ) (e : FlightEvent) → x < flight.callers_of f → IsTrue (flight_standing.answers (flight_standing.stands_at f x) e (flight.next f x e).1)
  pub made : (f : flight.FlightState) (x : ℕ) (e : FlightEvent) → IsTrue (flight_standing.may_make f x e) → (flight.next f x e).1 ≢ flight_reply.Still
  pub used : (f : flight.FlightState) (x : ℕ) (e : FlightEvent) → flight_left (flight.next f x e).0 + flight_used (flight.next f x e).1 ≤ flight_left f + flight_given (flight.next f x e).1

-- all of them; a once adds amounts or gives values
pub record MachinesStand : Type 0 where
  pub mutexes : MutexStands
  pub rw_mutexes : RwStands
  pub conds : CondStands
  pub groups : GroupTurns
  pub adding : OnceStands ℤ
  pub giving : OnceStands ℕ
  pub semas : SemaTurns
  pub flights : FlightStands
