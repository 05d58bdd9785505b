-- The law of a journal of each kind falls into its two parts.
use Rattle.std.proofs.Common.{◌≡◌, ◌↔◌, ℕ, List, []}
use Rattle.sync_model.specs.Journal.{KeepsEdges}
use Rattle.flight_core.specs.FlightMachine as flight
use Rattle.mutex_core.specs.MutexMachine as mutex
use Rattle.rw_core.specs.RwMachine as rw
use Rattle.sema_core.specs.SemaMachine as sema
use Rattle.wait_cores.specs.GroupMachine as group
use Rattle.wait_cores.specs.NotifyMachine as notify
use Rattle.wait_cores.specs.OnceMachine as once
use Rattle.workload.specs.declared.object.ObjectKind.{ObjectKind}
use Rattle.workload.specs.declared.object.ObjectKind.TheVariants as kinds
use Rattle.workload.specs.Plan.{Plan}
use Rattle.run_record.specs.declared.entered.ObjectEvent.TheVariants as event
use Rattle.run_record.specs.declared.entered.ObjectReply.TheVariants as reply
use Rattle.run_record.specs.Calls.{IsJournalOf}
use Rattle.run_record.specs.Edges.{frees, takes}
use Rattle.run_record.specs.Record.{ObjectEntry}
use Rattle.run_record.specs.WaitGroupKind.{group_start}
use Rattle.object_checks.specs.JournalParts.{IsMachineJournal}
use Rattle.object_checks.proofs.Lifting.{is_two, none_keep}

no_journal : (journal : List ObjectEntry) → (journal ≡ [] ↔ (journal ≡ []) × KeepsEdges frees takes journal)
no_journal journal = (λ none. (none, none_keep journal none), λ both. both.0)

pub halves : (plan : Plan) (place : ℕ) (kind : ObjectKind) (journal : List ObjectEntry) → (IsJournalOf plan place kind journal ↔ IsMachineJournal plan.workers kind journal × KeepsEdges frees takes journal)
halves plan place kinds.Map journal = no_journal journal
halves plan place kinds.Var journal = no_journal journal
halves plan place (kinds.Atomic type) journal = no_journal journal
halves plan place kinds.Mutex journal = is_two event.Mutex reply.Mutex mutex.next (mutex.start plan.workers) journal
halves plan place kinds.RwMutex journal = is_two event.RwMutex reply.RwMutex rw.next (rw.start plan.workers) journal
halves plan place (kinds.Cond m) journal = is_two event.Cond reply.Cond notify.next (notify.start plan.workers) journal
halves plan place (kinds.WaitGroup start) journal = is_two event.WaitGroup reply.WaitGroup group.next (group_start plan.workers start) journal
halves plan place (kinds.Once atomic delta) journal = is_two event.Once reply.Once once.next (once.start plan.workers) journal
halves plan place (kinds.OnceFunc code) journal = is_two event.OnceFunc reply.OnceFunc once.next (once.start plan.workers) journal
halves plan place (kinds.OnceValue value) journal = is_two event.OnceValue reply.OnceValue once.next (once.start plan.workers) journal
halves plan place kinds.Pool journal = no_journal journal
halves plan place (kinds.Sema size) journal = is_two event.Sema reply.Sema sema.next (sema.start plan.workers size) journal
halves plan place (kinds.Flight atomic delta) journal = is_two event.Flight reply.Flight flight.next (flight.start plan.workers) journal
