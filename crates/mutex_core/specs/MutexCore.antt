-- The fields of a `MutexCore` as a state of the machine.
use Rattle.std.specs.Prelude.{◌≤◌}
use Rattle.std.specs.VecDeque.{deque_capacity}
use Rattle.mutex_core.specs.declared.mutex.MutexCore.TheInside.{Inside}
use Rattle.mutex_core.specs.MutexMachine.{State, is_woken, IsValid}

-- the state that the fields stand for
abbrev pub state_of : Inside → State
state_of core = record {
  callers = core.callers;
  locked = core.locked;
  woken = is_woken core.flight;
  starving = core.starving;
  queue = core.queue.items;
  flight = core.flight;
}

-- the state is one that the machine comes to, and there is room for every caller to wait
pub record IsSound (core : Inside) : Type 0 where
  pub valid : IsValid (state_of core)
  pub room : core.callers ≤ deque_capacity core.queue
