-- What the items of each call of a workload are.
use Rattle.std.proofs.Common.{ℕ, ℤ, List, map}
use Rattle.script_calls.specs.declared.call.Call.{Call}
use Rattle.script_calls.specs.declared.call.Reply.TheVariants as replies
use Rattle.sync_model.specs.declared.journal.Deed.{Deed}
use Rattle.flight_core.specs.FlightStages.{flight_event, flight_meaning}
use Rattle.protocols.specs.CondStages.{cond_event, cond_meaning}
use Rattle.protocols.specs.GroupStages.{group_event, group_meaning}
use Rattle.protocols.specs.MutexStages.{mutex_event, mutex_meaning}
use Rattle.protocols.specs.OnceStages.{once_event, once_meaning}
use Rattle.protocols.specs.PoolStages.{pool_event, pool_meaning}
use Rattle.protocols.specs.RwMutexStages.{rw_event, rw_meaning}
use Rattle.protocols.specs.Spelling.{CallAnswer, Spells, Ends}
use Rattle.protocols.specs.declared.step.Step.{Step}
use Rattle.protocols.specs.declared.wait_group.GroupStage.TheVariants as group_stage
use Rattle.sema_core.specs.SemaStages.{sema_event, sema_meaning}
use Rattle.starts_core.specs.declared.protocol.StartsStage.{StartsStage}
use Rattle.starts_core.specs.declared.protocol.StartsStage.TheVariants as stage
use Rattle.starts_core.specs.StartsStages.{starts_event, starts_meaning}
use Rattle.workload.specs.Plan.{Plan}
use Rattle.run_record.specs.declared.entered.ObjectEvent.TheVariants as event
use Rattle.run_record.specs.declared.entered.ObjectReply.TheVariants as reply
use Rattle.run_record.specs.Calls.{SpellsCall}
use Rattle.run_record.specs.StartsKind.{starts_part, opening, closing}
use Rattle.run_record.proofs.CallParts as holds
use Rattle.run_record.proofs.CallParts.{GoesThrough, HoldsOfParts, holds_of_call, of_fly}
use Rattle.run_record.proofs.PartLemmas.{IsSound, of_returns, of_never, of_and_then, of_read_as, of_places, of_entries, of_stages}
use Rattle.run_record.proofs.WriteLocks.{lock_ends}

-- each call of a protocol ends as calls do
abbrev pub EndsAlike : {G O E R : Type 0} → (G → ℕ → E) → (G → R → Step G O) → Type 0
EndsAlike {G} {O} {E} {R} event_of meaning = (stage : G) (deeds : List (Deed E R)) (answer : CallAnswer O) → Spells event_of meaning stage deeds answer → Ends deeds answer

pub record AllEndAlike : Type 0 where
  pub mutex : EndsAlike mutex_event mutex_meaning
  pub rw_mutex : EndsAlike rw_event rw_meaning
  pub cond : EndsAlike cond_event cond_meaning
  pub wait_group : EndsAlike group_event group_meaning
  pub once : EndsAlike (once_event {T = ℤ}) (once_meaning {T = ℤ})
  pub func : EndsAlike (once_event {T = ℕ}) (once_meaning {T = ℕ})
  pub pool : EndsAlike pool_event pool_meaning
  pub sema : EndsAlike sema_event sema_meaning
  pub flight : EndsAlike flight_event flight_meaning
  pub starts : EndsAlike starts_event starts_meaning

abbrev through : GoesThrough (λ O part. IsSound part)
through = record {
  returned = λ O outcome. of_returns outcome;
  none = λ O. of_never;
  behind = λ O P first next one later. of_and_then first next one later;
  read = λ O P f part one. of_read_as f part one;
}

abbrev sound : AllEndAlike → HoldsOfParts (λ O part. IsSound part)
sound alike = record {
  through = through;
  mutex = λ object stage. of_stages event.Mutex reply.Mutex object mutex_event mutex_meaning stage (alike.mutex stage);
  rw_mutex = λ object stage. of_stages event.RwMutex reply.RwMutex object rw_event rw_meaning stage (alike.rw_mutex stage);
  writes = λ object items answer locks. of_entries event.RwMutex reply.RwMutex object locks.0 items answer locks.1 (lock_ends (map (λ entry. entry.deed) locks.0) answer locks.2);
  cond = λ object stage. of_stages event.Cond reply.Cond object cond_event cond_meaning stage (alike.cond stage);
  wait_group = λ object stage. of_stages event.WaitGroup reply.WaitGroup object group_event group_meaning stage (alike.wait_group stage);
  once = λ object stage. of_stages event.Once reply.Once object once_event once_meaning stage (alike.once stage);
  func = λ object stage. of_stages event.OnceFunc reply.OnceFunc object once_event once_meaning stage (alike.func stage);
  value = λ object stage. of_stages event.OnceValue reply.OnceValue object once_event once_meaning stage (alike.func stage);
  pool = λ object stage. of_stages event.Pool reply.Pool object pool_event pool_meaning stage (alike.pool stage);
  sema = λ object stage. of_stages event.Sema reply.Sema object sema_event sema_meaning stage (alike.sema stage);
  added = λ a amount items answer spelt. of_places _ items answer spelt.0 spelt.1 spelt.2;
  atomic = λ a call items answer spelt. of_places _ items answer (replies.Atomic spelt.0) spelt.1 spelt.2;
  range = λ keys m begin items answer spelt. of_places _ items answer (replies.Pairs spelt.1) spelt.2 spelt.4;
}

of_starts : AllEndAlike → (object : ℕ) (from : StartsStage) → IsSound (starts_part object from)
of_starts alike object from = of_stages event.Starts reply.Starts object starts_event starts_meaning from (alike.starts from)

pub of_call : AllEndAlike → (plan : Plan) (worker before : ℕ) (call : Call) → IsSound (SpellsCall plan worker before call)
of_call alike plan worker before call =
    holds_of_call (λ O part. IsSound part) (sound alike) plan worker before call (λ m op is items answer spelt. of_places _ items answer (replies.Map spelt.0) spelt.1 spelt.2)
    (λ object started is. of_starts alike object (stage.Start started))
    (λ object atomic amount key there is called. of_fly (λ O part. IsSound part) through _ _ amount _ (λ stage. of_stages event.Flight reply.Flight _ flight_event flight_meaning stage (alike.flight stage)) ((sound alike).added _ amount))

-- and what stands before a script, and behind it
pub of_opening : AllEndAlike → (plan : Plan) (worker : ℕ) → IsSound (opening plan worker)
of_opening alike plan worker = holds.of_opening (λ O part. IsSound part) through plan worker (λ object. of_starts alike object stage.WaitStart)

pub of_closing : AllEndAlike → (plan : Plan) (worker : ℕ) → IsSound (closing plan worker)
of_closing alike plan worker =
    holds.of_closing (λ O part. IsSound part) through plan worker
    (λ object. of_stages event.WaitGroup reply.WaitGroup object group_event group_meaning group_stage.Done (alike.wait_group group_stage.Done)) (λ object. of_starts alike object stage.End)
