-- An object as a run begins with it.
use Rattle.std.proofs.Common.{◌≡◌, ℕ, false, List, None, refl, ap, ◌∙◌}
use Rattle.std.proofs.lemmas.List.{length-replicate}
use Rattle.std.specs.Prelude.{pos}
use Rattle.mutex_core.specs.MutexMachine as mutex
use Rattle.rw_core.specs.RwMachine as rw
use Rattle.wait_cores.specs.GroupMachine as group
use Rattle.pool_core.specs.PoolParts.{empty}
use Rattle.sema_core.specs.declared.event.SemaPlace.TheVariants as sema_place
use Rattle.flight_core.specs.declared.event.FlightPlace.TheVariants as flight_place
use Rattle.wait_cores.specs.declared.group.GroupEvent.{GroupEvent}
use Rattle.wait_cores.specs.declared.group.GroupEvent.TheVariants.{Add}
use Rattle.wait_cores.specs.declared.group.GroupPlace.TheVariants.{Out}
use Rattle.sync_types.specs.declared.atomic_object.AtomicKind.{AtomicKind}
use Rattle.workload.specs.declared.object.ObjectKind.{ObjectKind}
use Rattle.workload.specs.declared.object.ObjectKind.TheVariants as kinds
use Rattle.step_runner.specs.Objects.{new_object, kind_of, IsMachineOf}
use Rattle.step_runner.proofs.AtomicTypes.{zero_type}

-- what the laws say of the machines' first states
pub record Begins : Type 0 where
  pub mutexes : (n : ℕ) → mutex.IsValid (mutex.start n)
  pub rw_mutexes : (n : ℕ) → rw.IsValid (rw.start n)
  pub groups : (g : group.GroupState) (c : ℕ) (e : GroupEvent) → group.callers_of (group.next g c e).0 ≡ group.callers_of g

pub new_kind : (workers room : ℕ) (keys : List (List ℕ)) (kind : ObjectKind) → kind_of (new_object workers room keys kind) ≡ kind
new_kind workers room keys kinds.Map = refl
new_kind workers room keys (kinds.Atomic kind) = ap (λ (type : AtomicKind). kinds.Atomic type) (zero_type kind)
new_kind workers room keys kinds.Mutex = refl
new_kind workers room keys kinds.RwMutex = refl
new_kind workers room keys (kinds.Cond place) = refl
new_kind workers room keys (kinds.WaitGroup first) = refl
new_kind workers room keys (kinds.Once place delta) = refl
new_kind workers room keys (kinds.OnceFunc code) = refl
new_kind workers room keys (kinds.OnceValue value) = refl
new_kind workers room keys kinds.Pool = refl
new_kind workers room keys (kinds.Sema size) = refl
new_kind workers room keys (kinds.Flight place delta) = refl
new_kind workers room keys kinds.Var = refl

pub new_machine : Begins → (workers room : ℕ) (keys : List (List ℕ)) (kind : ObjectKind) → IsMachineOf workers (new_object workers room keys kind)
new_machine begins workers room keys kinds.Map = tt
new_machine begins workers room keys (kinds.Atomic kind) = tt
new_machine begins workers room keys kinds.Mutex = (begins.mutexes workers, refl)
new_machine begins workers room keys kinds.RwMutex = (begins.rw_mutexes workers, refl)
new_machine begins workers room keys (kinds.Cond place) = length-replicate workers None
new_machine begins workers room keys (kinds.WaitGroup first) = begins.groups (group.start workers) 0 (Add (pos first)) ∙ length-replicate workers Out
new_machine begins workers room keys (kinds.Once place delta) = length-replicate workers false
new_machine begins workers room keys (kinds.OnceFunc code) = length-replicate workers false
new_machine begins workers room keys (kinds.OnceValue value) = length-replicate workers false
new_machine begins workers room keys kinds.Pool = (length-replicate workers (empty room), length-replicate workers (empty room))
new_machine begins workers room keys (kinds.Sema size) = length-replicate workers sema_place.Out
new_machine begins workers room keys (kinds.Flight place delta) = length-replicate workers flight_place.Out
new_machine begins workers room keys kinds.Var = tt
