-- What makes entries the journal of an object, in two parts: they follow the object's machine, and they keep the edge law.
use Rattle.std.specs.Prelude.{◌≡◌, ℕ, ◌+◌, ◌<◌, Bool, true, List, [], length, map, None, Some, slice_get, get_or}
use Rattle.sync_model.specs.declared.journal.Entry.{Entry}
use Rattle.sync_model.specs.Journal.{by, Follows, KeepsEdges}
use Rattle.sync_model.specs.SharedCalls.{Lawful}
use Rattle.flight_core.specs.FlightMachine as flight
use Rattle.mutex_core.specs.MutexMachine as mutex
use Rattle.pool_core.specs.PartMachine.{part_next, part_start}
use Rattle.rw_core.specs.RwMachine as rw
use Rattle.sema_core.specs.SemaMachine as sema
use Rattle.starts_core.specs.StartsMachine as starts
use Rattle.wait_cores.specs.GroupMachine as group
use Rattle.wait_cores.specs.NotifyMachine as notify
use Rattle.wait_cores.specs.OnceMachine as once
use Rattle.workload.specs.declared.object.ObjectKind.{ObjectKind}
use Rattle.workload.specs.declared.object.ObjectKind.TheVariants as kinds
use Rattle.workload.specs.declared.object.ObjectLine.{ObjectLine}
use Rattle.workload.specs.Plan.{Plan, has_dormant}
use Rattle.workload.specs.Puts.{puts_at}
use Rattle.run_record.specs.declared.entered.ObjectEvent.{ObjectEvent}
use Rattle.run_record.specs.declared.entered.ObjectEvent.TheVariants as event
use Rattle.run_record.specs.declared.entered.ObjectReply.{ObjectReply}
use Rattle.run_record.specs.declared.entered.ObjectReply.TheVariants as reply
use Rattle.run_record.specs.Edges.{frees, takes}
use Rattle.run_record.specs.Explains.{KeepsFronts}
use Rattle.run_record.specs.Journals.{IsStops}
use Rattle.run_record.specs.Objects.{contents_of, first_part, object_count, starts_number}
use Rattle.run_record.specs.Parts.{lifted}
use Rattle.run_record.specs.Record.{Record, ObjectEntry, stop, object_number, journal_of, list_of, entries_in, calls_of}
use Rattle.run_record.specs.WaitGroupKind.{group_start}

module _ {S E R : Type 0} (event : E → ObjectEvent) (reply : R → ObjectReply) where
  -- the entries are all of one kind, and follow its machine from this state
  abbrev pub FollowsMachine : (S → ℕ → E → S × R) → S → List ObjectEntry → Type 0
  FollowsMachine next start journal = (own : List (Entry E R)) × (journal ≡ map (lifted event reply) own) × Follows next true start None own

-- the journal follows the machine of the object's kind from the declared start. A map and an atomic have none, and a pool has those of its parts
abbrev pub IsMachineJournal : ℕ → ObjectKind → List ObjectEntry → Type 0
IsMachineJournal workers kinds.Map journal = journal ≡ []
IsMachineJournal workers kinds.Var journal = journal ≡ []
IsMachineJournal workers (kinds.Atomic type) journal = journal ≡ []
IsMachineJournal workers kinds.Mutex journal = FollowsMachine event.Mutex reply.Mutex mutex.next (mutex.start workers) journal
IsMachineJournal workers kinds.RwMutex journal = FollowsMachine event.RwMutex reply.RwMutex rw.next (rw.start workers) journal
IsMachineJournal workers (kinds.Cond mutex) journal = FollowsMachine event.Cond reply.Cond notify.next (notify.start workers) journal
IsMachineJournal workers (kinds.WaitGroup start) journal = FollowsMachine event.WaitGroup reply.WaitGroup group.next (group_start workers start) journal
IsMachineJournal workers (kinds.Once atomic delta) journal = FollowsMachine event.Once reply.Once once.next (once.start workers) journal
IsMachineJournal workers (kinds.OnceFunc code) journal = FollowsMachine event.OnceFunc reply.OnceFunc once.next (once.start workers) journal
IsMachineJournal workers (kinds.OnceValue value) journal = FollowsMachine event.OnceValue reply.OnceValue once.next (once.start workers) journal
IsMachineJournal workers kinds.Pool journal = journal ≡ []
IsMachineJournal workers (kinds.Sema size) journal = FollowsMachine event.Sema reply.Sema sema.next (sema.start workers size) journal
IsMachineJournal workers (kinds.Flight atomic delta) journal = FollowsMachine event.Flight reply.Flight flight.next (flight.start workers) journal

-- that of a part of a pool, which has this much room
abbrev pub IsMachinePart : ℕ → List ObjectEntry → Type 0
IsMachinePart room journal = FollowsMachine event.Pool reply.Pool part_next (part_start room) journal

-- that of Starts, where these workers wait to be started
abbrev pub IsMachineStarts : List Bool → List ObjectEntry → Type 0
IsMachineStarts dormant journal = FollowsMachine event.Starts reply.Starts starts.next (starts.begun dormant) journal

-- the journal of an object, by its number; none, where there is no such object
abbrev pub journal_at : List (List ObjectEntry) → ℕ → List ObjectEntry
journal_at journals object = get_or journals object []

-- the journal of each of these objects follows the machine of the object's kind
abbrev pub DeclaredFollow : ℕ → List ObjectLine → List (List ObjectEntry) → Type 0
DeclaredFollow workers objects journals = (place : ℕ) (object : ObjectLine) → slice_get objects place ≡ Some object → IsMachineJournal workers object.kind (journal_at journals (object_number place))

-- that of each part of each pool that of a part, with room for all items that the scripts put into the pool
abbrev pub PartsFollow : Plan → List (List ObjectEntry) → Type 0
PartsFollow plan journals = (place part : ℕ) (object : ObjectLine) → slice_get plan.objects place ≡ Some object → object.kind ≡ kinds.Pool → part < plan.workers
    → IsMachinePart (puts_at place plan.scripts) (journal_at journals (first_part plan place + part))

-- of so many parts of a pool, the first of which has this number
abbrev pub PoolFollows : ℕ → ℕ → ℕ → List (List ObjectEntry) → Type 0
PoolFollows room first workers journals = (part : ℕ) → part < workers → IsMachinePart room (journal_at journals (first + part))

-- and that of Starts its own, where some workers wait to be started
abbrev pub StartsFollow : Plan → List (List ObjectEntry) → Type 0
StartsFollow plan journals = has_dormant plan ≡ true → IsMachineStarts plan.dormant (journal_at journals (starts_number plan))

-- each object of the workload has a journal that follows its machine
pub record FollowMachines (plan : Plan) (journals : List (List ObjectEntry)) : Type 0 where
  pub objects : length journals ≡ object_count plan
  pub stops : IsStops (journal_at journals stop)
  pub declared : DeclaredFollow plan.workers plan.objects journals
  pub parts : PartsFollow plan journals
  pub starts : StartsFollow plan journals

-- the journal of each object keeps the edge law
abbrev pub KeepAllEdges : List (List ObjectEntry) → Type 0
KeepAllEdges journals = (object : ℕ) → KeepsEdges frees takes (journal_at journals object)

-- what makes a record a lawful one of a workload's objects, part by part: the law of the shared history, the fronts along each worker's list, that each entry stands in the list of its worker alone, the machines, and the edge law
pub record RecordParts (plan : Plan) (r : Record) : Type 0 where
  pub shared : Lawful (contents_of plan) r.history (calls_of r)
  pub fronts : KeepsFronts r
  pub once : (worker object : ℕ) → entries_in object (list_of r worker) ≡ by worker (journal_of r object)
  pub machines : FollowMachines plan r.journals
  pub edges : KeepAllEdges r.journals
