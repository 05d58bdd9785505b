use Rattle.std.proofs.Common.{◌≡◌, ◌↔◌, List, [], ◌∷◌, ap, refl}
use Rattle.mutex_core.specs.MutexMachine as mutex
use Rattle.pool_core.specs.PartMachine.{part_start}
use Rattle.rw_core.specs.RwMachine as rw
use Rattle.sema_core.specs.SemaMachine as sema
use Rattle.flight_core.specs.FlightMachine as flight
use Rattle.starts_core.specs.StartsMachine.{begun}
use Rattle.wait_cores.specs.NotifyMachine as notify
use Rattle.wait_cores.specs.OnceMachine as once
use Rattle.workload.specs.declared.object.ObjectKind.{ObjectKind}
use Rattle.workload.specs.declared.object.ObjectKind.TheVariants as kinds
use Rattle.run_record.specs.declared.entered.ObjectEvent.TheVariants as event
use Rattle.run_record.specs.declared.entered.ObjectReply.TheVariants as reply
use Rattle.run_record.specs.Calls.{IsJournalOf}
use Rattle.run_record.specs.Record.{ObjectEntry}
use Rattle.run_record.specs.WaitGroupKind.{group_start}
use Rattle.object_checks.specs.JournalParts.{IsMachineJournal}
use Rattle.record_clauses.specs.Journals.{without_fronts}
use Rattle.run_check.proofs.journals.follows_without_fronts.Goals as goal

none_left : (journal : List ObjectEntry) → without_fronts journal ≡ [] → journal ≡ []
none_left [] none = refl
none_left (x ∷ journal) none = absurd cc

no_journal : (journal : List ObjectEntry) → (without_fronts journal ≡ [] ↔ journal ≡ [])
no_journal journal = (none_left journal, λ none. ap (λ (es : List ObjectEntry). without_fronts es) none)

pub returns-clause-declared : goal.returns-clause-declared
returns-clause-declared c plan place kind journal = by kind where
  by : (of : ObjectKind) → (IsJournalOf plan place of (without_fronts journal) ↔ IsMachineJournal plan.workers of journal)
  by kinds.Map = no_journal journal
  by kinds.Var = no_journal journal
  by (kinds.Atomic type) = no_journal journal
  by kinds.Mutex = c.a_machine_sees_no_fronts.ensures event.Mutex reply.Mutex (mutex.start plan.workers) journal
  by kinds.RwMutex = c.a_machine_sees_no_fronts-2.ensures event.RwMutex reply.RwMutex (rw.start plan.workers) journal
  by (kinds.Cond m) = c.a_machine_sees_no_fronts-3.ensures event.Cond reply.Cond (notify.start plan.workers) journal
  by (kinds.WaitGroup start) = c.a_machine_sees_no_fronts-4.ensures event.WaitGroup reply.WaitGroup (group_start plan.workers start) journal
  by (kinds.Once atomic delta) = c.a_machine_sees_no_fronts-5.ensures event.Once reply.Once (once.start plan.workers) journal
  by (kinds.OnceFunc code) = c.a_machine_sees_no_fronts-6.ensures event.OnceFunc reply.OnceFunc (once.start plan.workers) journal
  by (kinds.OnceValue value) = c.a_machine_sees_no_fronts-7.ensures event.OnceValue reply.OnceValue (once.start plan.workers) journal
  by (kinds.Sema size) = c.a_machine_sees_no_fronts-8.ensures event.Sema reply.Sema (sema.start plan.workers size) journal
  by (kinds.Flight atomic delta) = c.a_machine_sees_no_fronts-9.ensures event.Flight reply.Flight (flight.start plan.workers) journal
  by kinds.Pool = no_journal journal

pub returns-clause-part : goal.returns-clause-part
returns-clause-part c room journal = c.a_machine_sees_no_fronts-10.ensures event.Pool reply.Pool (part_start room) journal

pub returns-clause-starts : goal.returns-clause-starts
returns-clause-starts c dormant journal = c.a_machine_sees_no_fronts-11.ensures event.Starts reply.Starts (begun dormant) journal
