-- What an object comes to by items: those on it are its log, which its machine follows; those on a map or an atomic are calls that answer what the
-- one-thread object answers where they are made.
use Rattle.std.specs.Prelude.{◌≡◌, ℕ, ◌==◌, List, [], ◌∷◌, map}
use Rattle.std.specs.List.{filter}
use Rattle.std.specs.FinMap.{FinMap, entries}
use Rattle.std.specs.Ordering.{nat_cmp}
use Rattle.std.specs.Cmp.Lexicographic.{slice_cmp}
use Rattle.sync_model.specs.Log.{Entry, after, Follows}
use Rattle.sync_types.specs.SequentialAtomic.{atomic_reply, atomic_after}
use Rattle.sync_types.specs.SequentialMap.{map_reply, map_after}
use Rattle.sync_types.specs.declared.atomic_object.Number.{Number}
use Rattle.script_calls.specs.declared.call.Operation.{Operation}
use Rattle.script_calls.specs.declared.call.Operation.TheVariants as operations
use Rattle.script_calls.specs.declared.call.Reply.{Reply}
use Rattle.script_calls.specs.declared.call.Reply.TheVariants as replies
use Rattle.mutex_core.specs.MutexMachine as mutex
use Rattle.rw_core.specs.RwMachine as rw
use Rattle.wait_cores.specs.NotifyMachine as notify
use Rattle.wait_cores.specs.GroupMachine as group
use Rattle.wait_cores.specs.OnceMachine as once
use Rattle.pool_core.specs.PoolMachine as pool
use Rattle.sema_core.specs.SemaMachine as sema
use Rattle.flight_core.specs.FlightMachine as flight
use Rattle.run_record.specs.declared.entered.ObjectEvent.{ObjectEvent}
use Rattle.run_record.specs.declared.entered.ObjectEvent.TheVariants as events
use Rattle.run_record.specs.declared.entered.ObjectReply.{ObjectReply}
use Rattle.run_record.specs.declared.entered.ObjectReply.TheVariants as answered
use Rattle.step_runner.specs.declared.turns.object_state.ObjectState.{ObjectState}
use Rattle.step_runner.specs.declared.turns.object_state.ObjectState.TheVariants as states
use Rattle.step_runner.specs.declared.turns.item.Deed.{Deed}
use Rattle.step_runner.specs.declared.turns.item.Deed.TheVariants as deeds
use Rattle.step_runner.specs.declared.turns.item.Item.{Item}
use Rattle.step_runner.specs.Variables.{var_reply, var_after}

-- the items on the object at a place, in order
abbrev pub on_object : ℕ → List Item → List Item
on_object place made = filter (λ item. item.object == place) made

-- what an item says beside its object
abbrev pub told_in : Item → ℕ × Deed
told_in item = (item.caller, item.deed)

module _ {E R : Type 0} (event : E → ObjectEvent) (answer : R → ObjectReply) where
  -- an entry of one kind's log, as an item says it
  abbrev pub told_by : Entry E R → ℕ × Deed
  told_by e = (e.caller, deeds.Entered (event e.event) (answer e.reply))

module _ {S E R : Type 0} (event : E → ObjectEvent) (answer : R → ObjectReply) (next : S → ℕ → E → S × R) where
  -- the items are a log that follows the machine from the first state, and leads to the last
  abbrev pub FollowsTo : S → List Item → S → Type 0
  FollowsTo first made last = (log : List (Entry E R)) × (map told_in made ≡ map (told_by event answer) log) × Follows next first log × (after next first log ≡ last)

module _ {S : Type 0} (goes : Operation → S → Reply (List ℕ) → S → Type 0) where
  -- the items are calls, each of which goes so from what stands after those before it, and the last stands after all of them
  abbrev pub CallsTo : S → List Item → S → Type 0
  CallsTo first [] last = last ≡ first
  CallsTo first (item ∷ made) last = (operation : Operation) × (reply : Reply (List ℕ)) × (next : S) × (item.deed ≡ deeds.Placed operation reply) × goes operation first reply next × CallsTo next made last

-- what a call of a map answers and leaves, as the one-thread map does. A `range` is one call here
abbrev pub MapGoes : Operation → FinMap (slice_cmp nat_cmp) ℕ → Reply (List ℕ) → FinMap (slice_cmp nat_cmp) ℕ → Type 0
MapGoes (operations.Map call) m reply next = (reply ≡ replies.Map (map_reply call m)) × (next ≡ map_after call m)
MapGoes operations.Range m reply next = (reply ≡ replies.Pairs (entries m)) × (next ≡ m)
MapGoes operation m reply next = ⊥

-- the same of an atomic
abbrev pub AtomicGoes : Operation → Number → Reply (List ℕ) → Number → Type 0
AtomicGoes (operations.Atomic call) number reply next = (reply ≡ replies.Atomic (atomic_reply call number)) × (next ≡ atomic_after call number)
AtomicGoes operation number reply next = ⊥

-- and of a plain variable
abbrev pub VarGoes : Operation → ℕ → Reply (List ℕ) → ℕ → Type 0
VarGoes (operations.Var call) held reply next = (reply ≡ replies.Var (var_reply call held)) × (next ≡ var_after call held)
VarGoes operation held reply next = ⊥

-- the object comes from one state to another by just these items on it
abbrev pub LeadsTo : ObjectState → List Item → ObjectState → Type 0
LeadsTo (states.Map m) made (states.Map n) = CallsTo MapGoes m made n
LeadsTo (states.Atomic m) made (states.Atomic n) = CallsTo AtomicGoes m made n
LeadsTo (states.Mutex m) made (states.Mutex n) = FollowsTo events.Mutex answered.Mutex mutex.next m made n
LeadsTo (states.RwMutex m) made (states.RwMutex n) = FollowsTo events.RwMutex answered.RwMutex rw.next m made n
LeadsTo (states.Cond m place) made (states.Cond n other) = FollowsTo events.Cond answered.Cond notify.next m made n
LeadsTo (states.WaitGroup m first) made (states.WaitGroup n other) = FollowsTo events.WaitGroup answered.WaitGroup group.next m made n
LeadsTo (states.Once m place delta) made (states.Once n other amount) = FollowsTo events.Once answered.Once once.next m made n
LeadsTo (states.OnceFunc m code) made (states.OnceFunc n other) = FollowsTo events.OnceFunc answered.OnceFunc once.next m made n
LeadsTo (states.OnceValue m value) made (states.OnceValue n other) = FollowsTo events.OnceValue answered.OnceValue once.next m made n
LeadsTo (states.Pool m) made (states.Pool n) = FollowsTo events.Pool answered.Pool pool.next m made n
LeadsTo (states.Sema m size) made (states.Sema n other) = FollowsTo events.Sema answered.Sema sema.next m made n
LeadsTo (states.Flight m keys place delta) made (states.Flight n later other amount) = FollowsTo events.Flight answered.Flight flight.next m made n
LeadsTo (states.Var m) made (states.Var n) = CallsTo VarGoes m made n
LeadsTo first made last = ⊥
