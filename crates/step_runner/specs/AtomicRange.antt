-- That an atomic's number is in the range of its type.
use Rattle.std.specs.Prelude.{◌≡◌, true}
use Rattle.sync_types.specs.SequentialAtomic as atomics
use Rattle.step_runner.specs.declared.turns.object_state.ObjectState.{ObjectState}
use Rattle.step_runner.specs.declared.turns.object_state.ObjectState.TheVariants as states

abbrev pub IsInRange : ObjectState → Type 0
IsInRange (states.Atomic number) = atomics.is_of (atomics.kind_of number) number ≡ true
IsInRange object = Unit {0}
