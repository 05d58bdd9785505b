-- Each item of a call is one that a call's protocol makes, with an answer that means something there.
use Rattle.std.proofs.Common.{◌≡◌, ℕ, zero, suc, ◌+◌, ◌<◌, ℤ, Bool, true, false, List, [], ◌∷◌, map, slice_get, Option, Some, None, refl, sym, subst}
use Rattle.std.specs.Prelude.{cond, ◌&&◌, ◌*◌, ◌%◌, nat_lt, if◌then◌else◌}
use Rattle.std.specs.List.{AllByRecursion, range_with_len}
use Rattle.std.proofs.lemmas.Bool.{false≢true}
use Rattle.sync_types.specs.declared.map_object.MapCall.{MapCall}
use Rattle.sync_types.specs.declared.map_object.MapCall.TheVariants as map_calls
use Rattle.sync_types.specs.Renaming.{renamed_call}
use Rattle.sync_types.specs.SequentialMap.{map_key}
use Rattle.sync_types.specs.declared.lock_call.RwMutexCall.{RwMutexCall}
use Rattle.sync_types.specs.declared.lock_call.RwMutexCall.TheVariants as rw_calls
use Rattle.sync_types.specs.declared.misuse.Misuse.{Misuse}
use Rattle.sync_types.specs.declared.once_call.DoReply.TheVariants as do_replies
use Rattle.sync_types.specs.declared.pool_call.PoolCall.{PoolCall}
use Rattle.sync_types.specs.declared.pool_call.PoolCall.TheVariants as pool_calls
use Rattle.sync_types.specs.declared.wait_call.CondCall.{CondCall}
use Rattle.sync_types.specs.declared.wait_call.CondCall.TheVariants as cond_calls
use Rattle.sync_types.specs.declared.atomic_object.Number.{Number}
use Rattle.script_calls.specs.declared.call.Call.{Call}
use Rattle.script_calls.specs.declared.call.ComposedCall.TheVariants.{IfEqual, WaitFor, Go}
use Rattle.script_calls.specs.declared.call.Operation.{Operation}
use Rattle.script_calls.specs.declared.call.Operation.TheVariants as operations
use Rattle.script_calls.specs.declared.call.Reply.{Reply}
use Rattle.script_calls.specs.declared.call.Reply.TheVariants as replies
use Rattle.script_calls.specs.Starts.{group_of, started_by}
use Rattle.sync_model.specs.declared.item.Item.{Item}
use Rattle.sync_model.specs.declared.item.SharedCall.{SharedCall}
use Rattle.sync_model.specs.declared.item.SharedCall.TheVariants as calls
use Rattle.sync_model.specs.declared.item.SharedReply.{SharedReply}
use Rattle.sync_model.specs.declared.item.SharedReply.TheVariants as answers
use Rattle.sync_model.specs.declared.journal.Deed.{Deed}
use Rattle.sync_model.specs.declared.journal.Deed.TheVariants.{Event, Refused, Halt}
use Rattle.rw_core.specs.declared.event.RwEvent.{RwEvent}
use Rattle.rw_core.specs.declared.event.RwEvent.TheVariants as rw_events
use Rattle.rw_core.specs.declared.reply.RwReply.{RwReply}
use Rattle.rw_core.specs.declared.reply.RwReply.TheVariants as rw_replies
use Rattle.pool_core.specs.declared.pool_event.PoolEvent.{PoolEvent}
use Rattle.pool_core.specs.declared.pool_event.PoolEvent.TheVariants as pool_events
use Rattle.pool_core.specs.declared.pool_event.PoolReply.{PoolReply}
use Rattle.pool_core.specs.declared.pool_event.PoolReply.TheVariants as pool_replies
use Rattle.pool_core.specs.Looks.{look}
use Rattle.sema_core.specs.declared.calls.SemaStage.{SemaStage}
use Rattle.sema_core.specs.SemaStages.{sema_event, sema_meaning}
use Rattle.flight_core.specs.declared.calls.FlightStage.{FlightStage}
use Rattle.flight_core.specs.FlightStages.{flight_event, flight_meaning}
use Rattle.starts_core.specs.declared.protocol.StartsStage.{StartsStage}
use Rattle.starts_core.specs.declared.protocol.StartsStage.TheVariants as starts_stage
use Rattle.starts_core.specs.declared.starts.StartEvent.TheVariants as start_events
use Rattle.starts_core.specs.declared.starts.StartReply.{StartReply}
use Rattle.starts_core.specs.declared.starts.StartReply.TheVariants as start_replies
use Rattle.starts_core.specs.StartsStages.{starts_event, starts_meaning}
use Rattle.protocols.specs.declared.cond.CondStage.{CondStage}
use Rattle.protocols.specs.declared.cond.CondStage.TheVariants as cond_stage
use Rattle.protocols.specs.declared.mutex.MutexStage.{MutexStage}
use Rattle.protocols.specs.declared.mutex.MutexStage.TheVariants as mutex_stage
use Rattle.protocols.specs.declared.once.OnceOutcome.{OnceOutcome}
use Rattle.protocols.specs.declared.once.OnceOutcome.TheVariants.{Run, Already, Ended}
use Rattle.protocols.specs.declared.once.OnceStage.{OnceStage}
use Rattle.protocols.specs.declared.once.OnceStage.TheVariants as once_stage
use Rattle.protocols.specs.declared.pool.PoolOutcome.{PoolOutcome}
use Rattle.protocols.specs.declared.pool.PoolOutcome.TheVariants.{Kept, Dropped, Item as Taken, Nothing, Swept}
use Rattle.protocols.specs.declared.pool.PoolStage.{PoolStage}
use Rattle.protocols.specs.declared.pool.PoolStage.TheVariants as pool_stage
use Rattle.protocols.specs.declared.rw_mutex.RwMutexStage.{RwMutexStage}
use Rattle.protocols.specs.declared.rw_mutex.RwMutexStage.TheVariants as rw_stage
use Rattle.protocols.specs.declared.step.Step.{Step}
use Rattle.protocols.specs.declared.wait_group.GroupStage.{GroupStage}
use Rattle.protocols.specs.declared.wait_group.GroupStage.TheVariants as group_stage
use Rattle.protocols.specs.CondStages.{cond_event, cond_meaning}
use Rattle.protocols.specs.GroupStages.{group_event, group_meaning}
use Rattle.protocols.specs.MutexStages.{mutex_event, mutex_meaning}
use Rattle.protocols.specs.OnceStages.{once_event, once_meaning}
use Rattle.protocols.specs.PoolStages.{look_meaning, pool_event, pool_meaning, put_meaning, sweep_meaning}
use Rattle.protocols.specs.RwMutexStages.{rw_event, rw_meaning}
use Rattle.workload.specs.declared.object.ObjectKind.{ObjectKind}
use Rattle.workload.specs.declared.object.ObjectKind.TheVariants as object_kinds
use Rattle.workload.specs.declared.object.ObjectLine.{ObjectLine}
use Rattle.workload.specs.Keys.{key_number, keys_in}
use Rattle.workload.specs.Plan.{Plan, has_dormant, is_dormant}
use Rattle.run_record.specs.declared.entered.ObjectEvent.{ObjectEvent}
use Rattle.run_record.specs.declared.entered.ObjectEvent.TheVariants as object_events
use Rattle.run_record.specs.declared.entered.ObjectReply.{ObjectReply}
use Rattle.run_record.specs.declared.entered.ObjectReply.TheVariants as object_replies
use Rattle.run_record.specs.declared.made.Made.{Made}
use Rattle.run_record.specs.declared.made.Made.TheVariants.{Entered, Shared}
use Rattle.run_record.specs.AtomicKind.{adds, atomic_call}
use Rattle.run_record.specs.Calls.{SpellsCall, call_at, call_on}
use Rattle.run_record.specs.CondKind.{cond_call, cond_part, wait_part}
use Rattle.run_record.specs.FlightKind.{flight_part}
use Rattle.run_record.specs.MapKind.{cursor_showing, map_call, range_call, step_showing}
use Rattle.run_record.specs.MutexKind.{mutex_part}
use Rattle.run_record.specs.OnceKind.{failure, goes_on_once, once_part}
use Rattle.run_record.specs.Parts.{Part, and_then, lifted_deed, returns, stages}
use Rattle.run_record.specs.PoolKind.{found_by, found_or, looks_of, part_of, pool_call, pool_part, stage_of, swept_by}
use Rattle.run_record.specs.RwMutexKind.{RwDeed, asks, is_still, rw_part, says_still, write_part}
use Rattle.run_record.specs.SemaKind.{sema_part}
use Rattle.run_record.specs.StartsKind.{closing, done_part, done_under, end_part, opening, starts_part, wait_start_part, was_started}
use Rattle.run_record.specs.Objects.{starts_number}
use Rattle.run_record.specs.Record.{object_number}
use Rattle.run_record.specs.Tests.{compared, holds, tests, unless_met, waits_for}
use Rattle.run_record.specs.WaitGroupKind.{wait_group_part}
use Rattle.record_text.proofs.EachDeed.{EachOf, IsMeantBy, IsStep, LeadsOn, any_leads, by_flight, by_never, by_read, by_returns, by_then, each_deed, of_deeds, of_entries, of_places, with_stills}
use Rattle.record_text.proofs.OneItem.{same_some}
use Rattle.record_text.proofs.OwnWords.{each_both}

-- the call on a map or an atomic has a reply to such a call
abbrev pub IsReplyTo : SharedCall → SharedReply → Type 0
IsReplyTo (calls.Map m call) (answers.Map reply) = Unit {0}
IsReplyTo (calls.Atomic a call) (answers.Atomic reply) = Unit {0}
IsReplyTo (calls.Begin m) answers.Begun = Unit {0}
IsReplyTo (calls.Next begin) (answers.Shown shown) = Unit {0}
IsReplyTo call reply = ⊥

-- a call on a map is by a key whose number is below this
abbrev pub KeyBelow : ℕ → SharedCall → Type 0
KeyBelow count (calls.Map m call) = (key : ℕ) → map_key call ≡ Some key → key < count
KeyBelow count (calls.Begin m) = Unit {0}
KeyBelow count (calls.Next begin) = Unit {0}
KeyBelow count (calls.Atomic a call) = Unit {0}

abbrev pub IsPlaced : ℕ → SharedCall → SharedReply → Type 0
IsPlaced count call reply = IsReplyTo call reply × KeyBelow count call

-- some stage of the kind's calls makes the event, and the reply means something there
abbrev pub IsMeant : ObjectEvent → ObjectReply → Type 0
IsMeant (object_events.Mutex e) (object_replies.Mutex r) = IsMeantBy mutex_event mutex_meaning e r
IsMeant (object_events.RwMutex e) (object_replies.RwMutex r) = IsMeantBy rw_event rw_meaning e r
IsMeant (object_events.Cond e) (object_replies.Cond r) = IsMeantBy cond_event cond_meaning e r
IsMeant (object_events.WaitGroup e) (object_replies.WaitGroup r) = IsMeantBy group_event group_meaning e r
IsMeant (object_events.Once e) (object_replies.Once r) = IsMeantBy once_event once_meaning e r
IsMeant (object_events.OnceFunc e) (object_replies.OnceFunc r) = IsMeantBy once_event once_meaning e r
IsMeant (object_events.OnceValue e) (object_replies.OnceValue r) = IsMeantBy once_event once_meaning e r
IsMeant (object_events.Pool e) (object_replies.Pool r) = IsMeantBy pool_event pool_meaning e r
IsMeant (object_events.Sema e) (object_replies.Sema r) = IsMeantBy sema_event sema_meaning e r
IsMeant (object_events.Flight e) (object_replies.Flight r) = IsMeantBy flight_event flight_meaning e r
IsMeant (object_events.Starts e) (object_replies.Starts r) = IsMeantBy starts_event starts_meaning e r
IsMeant event reply = ⊥

-- whom it starts is one of so many workers
abbrev pub StartsOne : ℕ → ObjectEvent → Type 0
StartsOne workers (object_events.Starts (start_events.Start worker)) = worker < workers
StartsOne workers event = Unit {0}

abbrev pub IsMeantDeed : ℕ → Deed ObjectEvent ObjectReply → Type 0
IsMeantDeed workers (Event event reply) = IsMeant event reply × StartsOne workers event
IsMeantDeed workers (Refused event misuse) = StartsOne workers event
IsMeantDeed workers (Halt misuse) = Unit {0}

abbrev pub IsMeantItem : ℕ → ℕ → Made → Type 0
IsMeantItem workers count (Shared x) = IsPlaced count x.call x.reply
IsMeantItem workers count (Entered object entry) = IsMeantDeed workers entry.deed

-- a call starts no worker but one of so many
abbrev pub StartsAmong : ℕ → Operation → Type 0
StartsAmong workers operation = (worker : ℕ) → started_by operation ≡ Some worker → worker < workers

-- the key of a call on a map, if it has one, has a number below this
abbrev pub KeysAmong : ℕ → List (List ℕ) → Operation → Type 0
KeysAmong count keys operation = (call : MapCall (List ℕ)) → operation ≡ operations.Map call → (name : List ℕ) → map_key call ≡ Some name → key_number keys name < count

abbrev pub IsAmong : ℕ → ℕ → List (List ℕ) → Operation → Type 0
IsAmong workers count keys operation = StartsAmong workers operation × KeysAmong count keys operation

-- a put is made only where puts may be
abbrev pub MayPut : Type 0 → ObjectEvent → Type 0
MayPut Puts (object_events.Pool (pool_events.Put item)) = Puts
MayPut Puts event = Unit {0}

abbrev pub MayPutDeed : Type 0 → Deed ObjectEvent ObjectReply → Type 0
MayPutDeed Puts (Event event reply) = MayPut Puts event
MayPutDeed Puts (Refused event misuse) = Unit {0}
MayPutDeed Puts (Halt misuse) = Unit {0}

abbrev pub MayPutItem : Type 0 → Made → Type 0
MayPutItem Puts (Shared x) = Unit {0}
MayPutItem Puts (Entered object entry) = MayPutDeed Puts entry.deed

-- the operation puts only where puts may be
abbrev pub PutsAmong : Type 0 → Operation → Type 0
PutsAmong Puts (operations.Pool (pool_calls.Put item)) = Puts
PutsAmong Puts operation = Unit {0}

pub any_puts : (operation : Operation) → PutsAmong (Unit {0}) operation
any_puts (operations.Pool (pool_calls.Put item)) = tt
any_puts operation = tt

module _ (Puts : Type 0) (workers count : ℕ) where
  abbrev Is : Made → Type 0
  Is item = IsMeantItem workers count item × MayPutItem Puts item

  module _ {E R : Type 0} (event : E → ObjectEvent) (reply : R → ObjectReply) where
    abbrev IsDeed : Deed E R → Type 0
    IsDeed deed = IsMeantDeed workers (lifted_deed event reply deed) × MayPutDeed Puts (lifted_deed event reply deed)

    -- a part of one kind
    of_kind : {G O : Type 0} (event_of : G → ℕ → E) (meaning : G → R → Step G O) → ((stage : G) (now : ℕ) (r : R) → IsStep (meaning stage r) → IsDeed (Event (event_of stage now) r)) → ((stage : G) (now : ℕ) (misuse : Misuse) → IsDeed (Refused (event_of stage now) misuse))
        → (object : ℕ) (from : G) → EachOf Is (stages event reply event_of meaning object from)
    of_kind event_of meaning takes refuses object from items answer (entries, is, spelt) =
        subst (AllByRecursion Is) (sym is)
        (of_entries Is event reply object entries (of_deeds IsDeed entries
        (each_deed event_of meaning (λ stage. Unit {0}) IsDeed (λ stage r such. any_leads (meaning stage r)) (λ stage now r such means. takes stage now r means) (λ stage now misuse such. refuses stage now misuse)
        from (map (λ entry. entry.deed) entries) answer tt spelt)))

  of_mutex : (object : ℕ) (from : MutexStage) → EachOf Is (mutex_part object from)
  of_mutex = of_kind object_events.Mutex object_replies.Mutex mutex_event mutex_meaning (λ stage now r means. (((stage, now, refl, means), tt), tt)) (λ stage now misuse. (tt, tt))

  of_rw : (object : ℕ) (from : RwMutexStage) → EachOf Is (stages object_events.RwMutex object_replies.RwMutex rw_event rw_meaning object from)
  of_rw = of_kind object_events.RwMutex object_replies.RwMutex rw_event rw_meaning (λ stage now r means. (((stage, now, refl, means), tt), tt)) (λ stage now misuse. (tt, tt))

  -- an answer `Still` to a writer that asks means something
  rw_still : (deed : RwDeed) → is_still deed ≡ true → IsDeed object_events.RwMutex object_replies.RwMutex deed
  rw_still (Event e r) is = asked r e is where
    asked : (r : RwReply) (e : RwEvent) → (says_still r && asks e) ≡ true → IsDeed object_events.RwMutex object_replies.RwMutex (Event e r)
    asked rw_replies.Still (rw_events.WriteWoken now) is = (((rw_stage.Resume, now, refl, tt), tt), tt)
    asked rw_replies.Still rw_events.Leave is = (((rw_stage.Behind, 0, refl, tt), tt), tt)
    asked rw_replies.Still e is = absurd (false≢true is)
    asked r e is = absurd (false≢true is)
  rw_still (Refused e m) is = absurd (false≢true is)
  rw_still (Halt m) is = absurd (false≢true is)

  of_write : (object : ℕ) → EachOf Is (write_part object)
  of_write object items answer (entries, is, (spelt, same, spells)) =
      let abbrev_deed = IsDeed object_events.RwMutex object_replies.RwMutex in
      subst (AllByRecursion Is) (sym is)
      (of_entries Is object_events.RwMutex object_replies.RwMutex object entries (of_deeds abbrev_deed entries
      (with_stills abbrev_deed rw_still (map (λ entry. entry.deed) entries) spelt same
      (each_deed rw_event rw_meaning (λ stage. Unit {0}) abbrev_deed (λ stage r such. any_leads (rw_meaning stage r)) (λ stage now r such means. (((stage, now, refl, means), tt), tt)) (λ stage now misuse such. (tt, tt)) rw_stage.Lock spelt answer tt spells))))

  of_cond : (object : ℕ) (from : CondStage) → EachOf Is (cond_part object from)
  of_cond = of_kind object_events.Cond object_replies.Cond cond_event cond_meaning (λ stage now r means. (((stage, now, refl, means), tt), tt)) (λ stage now misuse. (tt, tt))

  of_group : (object : ℕ) (from : GroupStage) → EachOf Is (wait_group_part object from)
  of_group = of_kind object_events.WaitGroup object_replies.WaitGroup group_event group_meaning (λ stage now r means. (((stage, now, refl, means), tt), tt)) (λ stage now misuse. (tt, tt))

  of_sema : (object : ℕ) (from : SemaStage) → EachOf Is (sema_part object from)
  of_sema = of_kind object_events.Sema object_replies.Sema sema_event sema_meaning (λ stage now r means. (((stage, now, refl, means), tt), tt)) (λ stage now misuse. (tt, tt))

  of_flight : (object : ℕ) (from : FlightStage) → EachOf Is (flight_part object from)
  of_flight = of_kind object_events.Flight object_replies.Flight flight_event flight_meaning (λ stage now r means. (((stage, now, refl, means), tt), tt)) (λ stage now misuse. (tt, tt))

  -- a stage puts only where puts may be
  abbrev MayStage : PoolStage → Type 0
  MayStage (pool_stage.Put item) = Puts
  MayStage pool_stage.LookOwn = Unit {0}
  MayStage (pool_stage.LookOther part) = Unit {0}
  MayStage (pool_stage.LookVictim part) = Unit {0}
  MayStage pool_stage.Sweep = Unit {0}

  put_leads : (r : PoolReply ℕ) → LeadsOn MayStage (put_meaning r)
  put_leads pool_replies.Kept = tt
  put_leads (pool_replies.Dropped item) = tt
  put_leads (pool_replies.Item item) = tt
  put_leads pool_replies.Nothing = tt
  put_leads pool_replies.Swept = tt
  put_leads pool_replies.Still = tt

  look_leads : (r : PoolReply ℕ) → LeadsOn MayStage (look_meaning r)
  look_leads pool_replies.Kept = tt
  look_leads (pool_replies.Dropped item) = tt
  look_leads (pool_replies.Item item) = tt
  look_leads pool_replies.Nothing = tt
  look_leads pool_replies.Swept = tt
  look_leads pool_replies.Still = tt

  sweep_leads : (r : PoolReply ℕ) → LeadsOn MayStage (sweep_meaning r)
  sweep_leads pool_replies.Kept = tt
  sweep_leads (pool_replies.Dropped item) = tt
  sweep_leads (pool_replies.Item item) = tt
  sweep_leads pool_replies.Nothing = tt
  sweep_leads pool_replies.Swept = tt
  sweep_leads pool_replies.Still = tt

  pool_leads : (stage : PoolStage) (r : PoolReply ℕ) → LeadsOn MayStage (pool_meaning stage r)
  pool_leads (pool_stage.Put item) r = put_leads r
  pool_leads pool_stage.LookOwn r = look_leads r
  pool_leads (pool_stage.LookOther part) r = look_leads r
  pool_leads (pool_stage.LookVictim part) r = look_leads r
  pool_leads pool_stage.Sweep r = sweep_leads r

  stage_puts : (stage : PoolStage) (now : ℕ) → MayStage stage → MayPut Puts (object_events.Pool (pool_event stage now))
  stage_puts (pool_stage.Put item) now may = may
  stage_puts pool_stage.LookOwn now may = tt
  stage_puts (pool_stage.LookOther part) now may = tt
  stage_puts (pool_stage.LookVictim part) now may = tt
  stage_puts pool_stage.Sweep now may = tt

  of_pool : (object : ℕ) (from : PoolStage) → MayStage from → EachOf Is (pool_part object from)
  of_pool object from may items answer (entries, is, spelt) =
      let abbrev_deed = IsDeed object_events.Pool object_replies.Pool in
      subst (AllByRecursion Is) (sym is)
      (of_entries Is object_events.Pool object_replies.Pool object entries (of_deeds abbrev_deed entries
      (each_deed pool_event pool_meaning MayStage abbrev_deed (λ stage r there. pool_leads stage r) (λ stage now r there means. (((stage, now, refl, means), tt), stage_puts stage now there)) (λ stage now misuse there. (tt, tt))
      from (map (λ entry. entry.deed) entries) answer may spelt)))

  -- whom a stage starts is there
  abbrev StartsThere : StartsStage → Type 0
  StartsThere (starts_stage.Start worker) = worker < workers
  StartsThere starts_stage.End = Unit {0}
  StartsThere starts_stage.WaitStart = Unit {0}

  starts_lead : (stage : StartsStage) (r : StartReply) → StartsThere stage → LeadsOn StartsThere (starts_meaning stage r)
  starts_lead (starts_stage.Start worker) start_replies.Done such = tt
  starts_lead (starts_stage.Start worker) start_replies.Go such = tt
  starts_lead (starts_stage.Start worker) start_replies.Never such = tt
  starts_lead (starts_stage.Start worker) start_replies.Still such = tt
  starts_lead starts_stage.End start_replies.Done such = tt
  starts_lead starts_stage.End start_replies.Go such = tt
  starts_lead starts_stage.End start_replies.Never such = tt
  starts_lead starts_stage.End start_replies.Still such = tt
  starts_lead starts_stage.WaitStart start_replies.Done such = tt
  starts_lead starts_stage.WaitStart start_replies.Go such = tt
  starts_lead starts_stage.WaitStart start_replies.Never such = tt
  starts_lead starts_stage.WaitStart start_replies.Still such = tt

  starts_one : (stage : StartsStage) (now : ℕ) → StartsThere stage → StartsOne workers (object_events.Starts (starts_event stage now))
  starts_one (starts_stage.Start worker) now such = such
  starts_one starts_stage.End now such = tt
  starts_one starts_stage.WaitStart now such = tt

  of_starts : (object : ℕ) (from : StartsStage) → StartsThere from → EachOf Is (starts_part object from)
  of_starts object from such items answer (entries, is, spelt) =
      let abbrev_deed = IsDeed object_events.Starts object_replies.Starts in
      subst (AllByRecursion Is) (sym is)
      (of_entries Is object_events.Starts object_replies.Starts object entries (of_deeds abbrev_deed entries
      (each_deed starts_event starts_meaning StartsThere abbrev_deed starts_lead (λ stage now r there means. (((stage, now, refl, means), starts_one stage now there), tt)) (λ stage now misuse there. (starts_one stage now there, tt))
      from (map (λ entry. entry.deed) entries) answer such spelt)))

  -- ---- calls

  of_wait : (object mutex : ℕ) → EachOf Is (wait_part object mutex)
  of_wait object mutex = by_then Is _ _ (of_cond object cond_stage.Ticket) (λ ticket.
      by_then Is _ _ (of_mutex mutex mutex_stage.Unlock) (λ unlocked.
      by_then Is _ _ (of_cond object cond_stage.Leave) (λ left.
      by_read Is (λ locked. replies.Returned) _ (of_mutex mutex mutex_stage.Lock))))

  of_cond_call : (object mutex : ℕ) (call : CondCall) → EachOf Is (cond_call object mutex call)
  of_cond_call object mutex cond_calls.Wait = of_wait object mutex
  of_cond_call object mutex cond_calls.Signal = by_read Is (λ done. replies.Returned) _ (of_cond object cond_stage.Signal)
  of_cond_call object mutex cond_calls.Broadcast = by_read Is (λ done. replies.Returned) _ (of_cond object cond_stage.Broadcast)

  of_rw_part : (object : ℕ) (call : RwMutexCall) → EachOf Is (rw_part object call)
  of_rw_part object rw_calls.Lock = of_write object
  of_rw_part object rw_calls.Unlock = of_rw object rw_stage.Unlock
  of_rw_part object rw_calls.TryLock = of_rw object rw_stage.TryLock
  of_rw_part object rw_calls.RLock = of_rw object rw_stage.RLock
  of_rw_part object rw_calls.RUnlock = of_rw object rw_stage.RUnlock
  of_rw_part object rw_calls.TryRLock = of_rw object rw_stage.TryRLock

  module _ {T : Type 0} (part : OnceStage T → Part (OnceOutcome T)) (function : Part T) (ran returned : T → Reply ℕ) (of_part : (stage : OnceStage T) → EachOf Is (part stage)) (of_function : EachOf Is function) where
    of_goes_on : (outcome : OnceOutcome T) → EachOf Is (goes_on_once part function ran returned outcome)
    of_goes_on Run = by_then Is function _ of_function (λ value. by_read Is (λ ended. ran value) _ (of_part (once_stage.End value)))
    of_goes_on (Already kept) = by_returns Is (returned kept)
    of_goes_on Ended = by_never Is

    of_once : EachOf Is (once_part part function ran returned)
    of_once = by_then Is _ _ (of_part once_stage.Begin) of_goes_on

  of_found : (rest : Part (Reply ℕ)) → EachOf Is rest → (outcome : PoolOutcome) → EachOf Is (found_or rest outcome)
  of_found rest each (Taken item) = by_returns Is _
  of_found rest each Nothing = each
  of_found rest each Kept = by_never Is
  of_found rest each (Dropped item) = by_never Is
  of_found rest each Swept = by_never Is

  of_looks : (worker first : ℕ) (looks : List (PoolEvent ℕ)) → AllByRecursion (λ (look : PoolEvent ℕ). MayStage (stage_of look)) looks → EachOf Is (found_by worker first looks)
  of_looks worker first [] each = by_returns Is _
  of_looks worker first (look ∷ looks) each = by_then Is _ _ (of_pool (first + part_of worker look) (stage_of look) each.0) (of_found (found_by worker first looks) (of_looks worker first looks each.1))

  a_look : (workers worker k : ℕ) → MayStage (stage_of (look workers worker k))
  a_look workers worker zero = tt
  a_look workers worker (suc k) = by (nat_lt (suc k) workers) where
    by : (b : Bool) → MayStage (stage_of (if b then pool_events.LookOther ((worker + suc k) % workers) else pool_events.LookVictim ((worker + suc k) % workers)))
    by true = tt
    by false = tt

  all_looks : (workers worker : ℕ) (ks : List ℕ) → AllByRecursion (λ (l : PoolEvent ℕ). MayStage (stage_of l)) (map (look workers worker) ks)
  all_looks workers worker [] = tt
  all_looks workers worker (k ∷ ks) = (a_look workers worker k, all_looks workers worker ks)

  of_sweeps : (first : ℕ) (parts : List ℕ) → EachOf Is (swept_by first parts)
  of_sweeps first [] = by_returns Is _
  of_sweeps first (part ∷ parts) = by_then Is _ _ (of_pool (first + part) pool_stage.Sweep tt) (λ swept. of_sweeps first parts)

  of_pool_call : (count worker first : ℕ) (call : PoolCall) → PutsAmong Puts (operations.Pool call) → EachOf Is (pool_call count worker first call)
  of_pool_call count worker first (pool_calls.Put item) may = by_read Is _ _ (of_pool (first + worker) (pool_stage.Put item) may)
  of_pool_call count worker first pool_calls.Get may = of_looks worker first (looks_of count worker) (all_looks count worker (range_with_len 0 (2 * count)))
  of_pool_call count worker first pool_calls.Sweep may = of_sweeps first (range_with_len 0 count)

  -- an item that is placed
  placed : (x : Item) → IsPlaced count x.call x.reply → Is (Shared x)
  placed x is = (is, tt)

  of_atomic : (a : ℕ) → (call : _) → EachOf Is (atomic_call a call)
  of_atomic a call items answer (reply, places, is) = of_places Is (IsPlaced count) placed _ ((tt, tt), tt) items places

  of_adds : (a : ℕ) (amount : ℤ) → EachOf Is (adds a amount)
  of_adds a amount items answer (sum, places, is) = of_places Is (IsPlaced count) placed _ ((tt, tt), tt) items places

  of_shown : (keys : List (List ℕ)) (m begin : ℕ) (shown : List (ℕ × ℕ)) → AllByRecursion (λ (told : SharedCall × SharedReply). IsPlaced count told.0 told.1) (map (step_showing keys m begin) shown)
  of_shown keys m begin [] = tt
  of_shown keys m begin (pair ∷ shown) = ((tt, tt), of_shown keys m begin shown)

  of_cursor : (keys : List (List ℕ)) (m begin : ℕ) (shown : List (ℕ × ℕ)) → AllByRecursion (λ (told : SharedCall × SharedReply). IsPlaced count told.0 told.1) (cursor_showing keys m begin shown)
  of_cursor keys m begin shown = ((tt, tt), each_both (λ (told : SharedCall × SharedReply). IsPlaced count told.0 told.1) (map (step_showing keys m begin) shown) _ (of_shown keys m begin shown) ((tt, tt), tt))

  of_test : (a : ℕ) (value : Number) → EachOf Is (tests a value)
  of_test a value = by_read Is (holds value) _ (of_atomic a _)

  of_unless_met : (next : Part Bool) → EachOf Is next → (met : Bool) → EachOf Is (unless_met next met)
  of_unless_met next later true = by_returns Is true
  of_unless_met next later false = later

  of_waits_for : (object mutex a : ℕ) (value : Number) (tries : ℕ) → EachOf Is (waits_for object mutex a value tries)
  of_waits_for object mutex a value zero = of_test a value
  of_waits_for object mutex a value (suc tries) = by_then Is _ _ (of_test a value) (of_unless_met _ (by_then Is _ _ (of_wait object mutex) (λ waited. of_waits_for object mutex a value tries)))

  of_once_kind : (object : ℕ) (stage : OnceStage ℤ) → EachOf Is (stages object_events.Once object_replies.Once once_event once_meaning object stage)
  of_once_kind = of_kind object_events.Once object_replies.Once once_event once_meaning (λ stage now r means. (((stage, now, refl, means), tt), tt)) (λ stage now misuse. (tt, tt))

  of_func_kind : (object : ℕ) (stage : OnceStage ℕ) → EachOf Is (stages object_events.OnceFunc object_replies.OnceFunc once_event once_meaning object stage)
  of_func_kind = of_kind object_events.OnceFunc object_replies.OnceFunc once_event once_meaning (λ stage now r means. (((stage, now, refl, means), tt), tt)) (λ stage now misuse. (tt, tt))

  of_value_kind : (object : ℕ) (stage : OnceStage ℕ) → EachOf Is (stages object_events.OnceValue object_replies.OnceValue once_event once_meaning object stage)
  of_value_kind = of_kind object_events.OnceValue object_replies.OnceValue once_event once_meaning (λ stage now r means. (((stage, now, refl, means), tt), tt)) (λ stage now misuse. (tt, tt))

  below : (number key : ℕ) → number < count → Some number ≡ Some key → key < count
  below number key low is = subst (λ (n : ℕ). n < count) (same_some number key is) low

  -- a key's number is that of its name
  renamed_below : (keys : List (List ℕ)) (call : MapCall (List ℕ)) → ((name : List ℕ) → map_key call ≡ Some name → key_number keys name < count) → (key : ℕ) → map_key (renamed_call (key_number keys) call) ≡ Some key → key < count
  renamed_below keys (map_calls.Load name) low key is = below (key_number keys name) key (low name refl) is
  renamed_below keys (map_calls.Store name value) low key is = below (key_number keys name) key (low name refl) is
  renamed_below keys (map_calls.LoadOrStore name value) low key is = below (key_number keys name) key (low name refl) is
  renamed_below keys (map_calls.LoadAndDelete name) low key is = below (key_number keys name) key (low name refl) is
  renamed_below keys (map_calls.Delete name) low key is = below (key_number keys name) key (low name refl) is
  renamed_below keys (map_calls.Swap name value) low key is = below (key_number keys name) key (low name refl) is
  renamed_below keys (map_calls.CompareAndSwap name old new) low key is = below (key_number keys name) key (low name refl) is
  renamed_below keys (map_calls.CompareAndDelete name old) low key is = below (key_number keys name) key (low name refl) is
  renamed_below keys map_calls.Clear low key is = absurd cc

  of_map : (keys : List (List ℕ)) (m : ℕ) (call : MapCall (List ℕ)) → ((name : List ℕ) → map_key call ≡ Some name → key_number keys name < count) → EachOf Is (map_call keys m call)
  of_map keys m call low items answer (reply, places, is) = of_places Is (IsPlaced count) placed _ ((tt, renamed_below keys call low), tt) items places

  of_range : (keys : List (List ℕ)) (m begin : ℕ) → EachOf Is (range_call keys m begin)
  of_range keys m begin items answer (shown, pairs, places, sorted, is) = of_places Is (IsPlaced count) placed _ (of_cursor keys m begin shown) items places

  module _ (plan : Plan) (worker before : ℕ) where
    of_call_on : (place : ℕ) (kind : ObjectKind) (operation : Operation) → IsAmong workers count (keys_in plan.scripts) operation → PutsAmong Puts operation → EachOf Is (call_on plan worker before place kind operation)
    of_call_on place object_kinds.Map (operations.Map call) among may = of_map _ _ call (among.1 call refl)
    of_call_on place object_kinds.Map operations.Range among may = of_range _ _ before
    of_call_on place (object_kinds.Atomic type) (operations.Atomic call) among may = of_atomic _ call
    of_call_on place (object_kinds.Atomic type) (operations.Composed (IfEqual value passes)) among may = by_read Is compared _ (of_test _ value)
    of_call_on place object_kinds.Mutex (operations.Mutex call) among may = by_read Is replies.Lock _ (of_mutex _ _)
    of_call_on place object_kinds.RwMutex (operations.RwMutex call) among may = by_read Is replies.Lock _ (of_rw_part _ call)
    of_call_on place (object_kinds.Cond mutex) (operations.Cond call) among may = of_cond_call _ _ call
    of_call_on place (object_kinds.Cond mutex) (operations.Composed (WaitFor atomic value tries)) among may = by_read Is compared _ (of_waits_for _ _ _ value tries)
    of_call_on place (object_kinds.WaitGroup start) (operations.WaitGroup call) among may = by_read Is (λ done. replies.Returned) _ (of_group _ _)
    of_call_on place (object_kinds.WaitGroup start) (operations.Composed (Go started)) among may =
        by_then Is _ _ (by_read Is (λ done. replies.Returned) _ (of_group _ _)) (λ added. by_read Is (λ started. replies.Returned) _ (of_starts _ (starts_stage.Start started) (among.0 started refl)))
    of_call_on place (object_kinds.Once atomic delta) operations.Once among may =
        of_once (stages object_events.Once object_replies.Once once_event once_meaning _) (adds _ delta) (λ sum. replies.Once (do_replies.Ran sum)) (λ kept. replies.Once do_replies.Done) (of_once_kind _) (of_adds _ delta)
    of_call_on place (object_kinds.OnceFunc code) operations.OnceFunc among may =
        of_once (stages object_events.OnceFunc object_replies.OnceFunc once_event once_meaning _) (returns code) (λ kept. replies.OnceFunc (failure kept)) (λ kept. replies.OnceFunc (failure kept)) (of_func_kind _) (by_returns Is code)
    of_call_on place (object_kinds.OnceValue value) operations.OnceValue among may =
        of_once (stages object_events.OnceValue object_replies.OnceValue once_event once_meaning _) (returns value) replies.OnceValue replies.OnceValue (of_value_kind _) (by_returns Is value)
    of_call_on place object_kinds.Pool (operations.Pool call) among may = of_pool_call _ _ _ call may
    of_call_on place (object_kinds.Sema size) (operations.Sema call) among may = by_read Is replies.Lock _ (of_sema _ _)
    of_call_on place (object_kinds.Flight atomic delta) (operations.Fly key) among may = by_flight Is (flight_part _) (adds _ delta) (of_flight _) (of_adds _ delta) _
    of_call_on place kind operation among may = λ items answer spelt. absurd spelt

    of_call_at : (place : ℕ) (object : Option ObjectLine) (operation : Operation) → IsAmong workers count (keys_in plan.scripts) operation → PutsAmong Puts operation → EachOf Is (call_at plan worker before place object operation)
    of_call_at place None operation among may = by_never Is
    of_call_at place (Some object) operation among may = of_call_on place object.kind operation among may

    pub of_call : (call : Call) → IsAmong workers count (keys_in plan.scripts) call.operation → PutsAmong Puts call.operation → EachOf Is (SpellsCall plan worker before call)
    of_call call among may = of_call_at call.object (slice_get plan.objects call.object) call.operation among may

  -- ---- what stands before a script, and behind it

  of_chosen : {O : Type 0} (b : Bool) (first second : Part O) → EachOf Is first → EachOf Is second → EachOf Is (cond b first second)
  of_chosen true first second one other = one
  of_chosen false first second one other = other

  pub of_opening : (plan : Plan) (worker : ℕ) → EachOf Is (opening plan worker)
  of_opening plan worker = of_chosen (is_dormant plan worker) (wait_start_part (starts_number plan)) (returns true) (by_read Is was_started _ (of_starts (starts_number plan) starts_stage.WaitStart tt)) (by_returns Is true)

  of_done : (group : Option ℕ) → EachOf Is (done_under group)
  of_done None = by_returns Is tt
  of_done (Some group) = by_read Is (λ done. tt) _ (by_read Is (λ done. replies.Returned) _ (of_group (object_number group) group_stage.Done))

  pub of_closing : (plan : Plan) (worker : ℕ) → EachOf Is (closing plan worker)
  of_closing plan worker =
      of_chosen (has_dormant plan) (and_then (done_part plan worker) (λ done. end_part (starts_number plan))) (returns tt)
      (by_then Is (done_part plan worker) (λ done. end_part (starts_number plan))
      (of_chosen (is_dormant plan worker) (done_under (group_of worker plan.scripts)) (returns tt) (of_done (group_of worker plan.scripts)) (by_returns Is tt))
      (λ done. by_read Is (λ ended. tt) _ (of_starts (starts_number plan) starts_stage.End tt)))
      (by_returns Is tt)
