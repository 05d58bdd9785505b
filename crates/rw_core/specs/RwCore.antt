-- The fields of an `RwCore` as a state of the machine.
use Rattle.std.specs.Prelude.{◌≤◌, vec_capacity}
use Rattle.rw_core.specs.declared.rw.RwCore.TheInside.{Inside}
use Rattle.rw_core.specs.RwMachine.{State, IsValid}

-- the state that the fields stand for
abbrev pub state_of : Inside → State
state_of core = record {
  callers = core.callers;
  readers = core.readers;
  writer = core.writer;
  queue = core.queue.items;
  admitted = core.admitted.items;
  granted = core.granted.items;
  inner = core.inner;
}

-- the state is one that the machine comes to, and there is room for every caller in each list
pub record IsSound (core : Inside) : Type 0 where
  pub valid : IsValid (state_of core)
  pub queue_room : core.callers ≤ vec_capacity core.queue
  pub admitted_room : core.callers ≤ vec_capacity core.admitted
  pub granted_room : core.callers ≤ vec_capacity core.granted
