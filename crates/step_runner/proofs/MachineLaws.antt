-- What the laws of the machines say that the objects of a run are.
use Rattle.std.proofs.Common.{◌≡◌, ℕ, ◌+◌, ◌<◌, ◌≤◌}
use Rattle.std.specs.Prelude.{ℤ, IsTrue, length}
use Rattle.mutex_core.specs.MutexMachine as mutex
use Rattle.mutex_core.specs.EventsLeft as mutex_left
use Rattle.mutex_core.specs.Standing.{is_answer}
use Rattle.mutex_core.specs.declared.event.MutexEvent.{MutexEvent}
use Rattle.rw_core.specs.RwMachine as rw
use Rattle.rw_core.specs.EventsLeft as rw_left
use Rattle.rw_core.specs.declared.event.RwEvent.{RwEvent}
use Rattle.rw_core.specs.Standing as rw_standing
use Rattle.wait_cores.specs.NotifyEventsLeft.{notify_left, notify_used, notify_given}
use Rattle.wait_cores.specs.NotifyMachine as notify
use Rattle.wait_cores.specs.GroupMachine as group
use Rattle.wait_cores.specs.OnceMachine as once
use Rattle.pool_core.specs.PoolMachine as pool
use Rattle.sema_core.specs.SemaMachine as sema
use Rattle.sema_core.specs.declared.event.SemaEvent.{SemaEvent}
use Rattle.flight_core.specs.FlightMachine as flight
use Rattle.flight_core.specs.declared.event.FlightEvent.{FlightEvent}
use Rattle.wait_cores.specs.declared.notify.NotifyEvent.{NotifyEvent}
use Rattle.wait_cores.specs.declared.group.GroupEvent.{GroupEvent}
use Rattle.wait_cores.specs.declared.once.OnceEvent.{OnceEvent}
use Rattle.pool_core.specs.declared.pool_event.PoolEvent.{PoolEvent}
use Rattle.step_runner.specs.MachinesStand.{GroupTurns, SemaTurns, OnceUses, FlightStands}

-- ---- their states stay valid, and their callers the same

pub record MutexLaw : Type 0 where
  pub goes_on : (m : mutex.State) (c : ℕ) (e : MutexEvent) → mutex.IsValid m → mutex.IsValid (mutex.next m c e).0
  pub same_callers : (m : mutex.State) (c : ℕ) (e : MutexEvent) → (mutex.next m c e).0.callers ≡ m.callers

pub record RwLaw : Type 0 where
  pub goes_on : (m : rw.State) (c : ℕ) (e : RwEvent) → rw.IsValid m → rw.IsValid (rw.next m c e).0
  pub same_callers : (m : rw.State) (c : ℕ) (e : RwEvent) → (rw.next m c e).0.callers ≡ m.callers

abbrev pub OnceLaw : Type 0 → Type 0
OnceLaw T = (o : once.OnceState T) (c : ℕ) (e : OnceEvent T) → once.callers_of (once.next o c e).0 ≡ once.callers_of o

pub record Laws : Type 0 where
  pub mutexes : MutexLaw
  pub rw_mutexes : RwLaw
  pub conds : (s : notify.NotifyState) (c : ℕ) (e : NotifyEvent) → notify.callers_of (notify.next s c e).0 ≡ notify.callers_of s
  pub groups : (g : group.GroupState) (c : ℕ) (e : GroupEvent) → group.callers_of (group.next g c e).0 ≡ group.callers_of g
  pub adding : OnceLaw ℤ
  pub giving : OnceLaw ℕ
  pub semas : (s : sema.SemaState) (c : ℕ) (e : SemaEvent) → sema.callers_of (sema.next s c e).0 ≡ sema.callers_of s
  pub flights : (f : flight.FlightState) (c : ℕ) (e : FlightEvent) → flight.callers_of (flight.next f c e).0 ≡ flight.callers_of f
  pub pools : (p : pool.PoolState ℕ) (c n : ℕ) (e : PoolEvent ℕ) → length p.primary ≡ n → length p.victims ≡ n
      → (length (pool.next p c e).0.primary ≡ n) × (length (pool.next p c e).0.victims ≡ n)

-- ---- what their events use up

pub record MutexUses : Type 0 where
  pub answered : (m : mutex.State) (c : ℕ) (e : MutexEvent) → IsTrue (mutex.may_make m c e) → IsTrue (is_answer e (mutex.next m c e).1)
  pub used : (m : mutex.State) (c : ℕ) (e : MutexEvent) → mutex.IsValid m
      → mutex_left.events_left (mutex.next m c e).0 + mutex_left.used_by (mutex.next m c e).1 ≤ mutex_left.events_left m + mutex_left.given_by (mutex.next m c e).1

pub record RwUses : Type 0 where
  pub answered : (m : rw.State) (c : ℕ) (e : RwEvent) → IsTrue (rw.may_make m c e) → IsTrue (rw_standing.is_answer e (rw.next m c e).1)
  pub used : (m : rw.State) (c : ℕ) (e : RwEvent) → rw.IsValid m
      → rw_left.events_left (rw.next m c e).0 + rw_left.used_by (rw.next m c e).1 ≤ rw_left.events_left m + rw_left.given_by (rw.next m c e).1

abbrev pub NotifyUses : Type 0
NotifyUses = (s : notify.NotifyState) (c : ℕ) (e : NotifyEvent) → c < notify.callers_of s
    → notify_left (notify.next s c e).0 + notify_used (notify.place_of s c) e ≤ notify_left s + notify_given e

pub record Uses : Type 0 where
  pub mutexes : MutexUses
  pub rw_mutexes : RwUses
  pub conds : NotifyUses
  pub groups : GroupTurns
  pub adding : OnceUses ℤ
  pub giving : OnceUses ℕ
  pub semas : SemaTurns
  pub flights : FlightStands
