-- Each entry of a line is of its object's kind, and what its word leaves out is what the object's place says.
use Rattle.std.proofs.Common.{◌≡◌, ℕ, zero, suc, ◌+◌, ◌-◌, ◌*◌, ◌^◌, ◌<◌, ◌≤◌, ℤ, Bool, true, false, cond, List, [], ◌∷◌, ◌++◌, map, length, take, get_or, Option, Some, None, slice_get, refl, sym, ap, ◌∙◌, subst, arith}
use Rattle.std.specs.Prelude.{pos, negsuc, ◌%◌, ◌&&◌, nat_lt, nat_le, if◌then◌else◌}
use Rattle.std.specs.List.{AllByRecursion, flat_map, list_all, range_with_len}
use Rattle.std.specs.Option.{option_map_or}
use Rattle.std.proofs.lemmas.Bool.{and_parts, false≢true, le-leb, le-ltb, leb-true, lt-ltb, ltb-true, ne_eqb}
use Rattle.std.proofs.lemmas.List.Elements.{recursion_from_All}
use Rattle.std.proofs.lemmas.Nat.{mod-mul-add, mod_below}
use Rattle.std.proofs.lemmas.Option.{none-some, same_Some, slice_get_past}
use Rattle.sync_types.specs.declared.lock_call.RwMutexCall.{RwMutexCall}
use Rattle.sync_types.specs.declared.lock_call.RwMutexCall.TheVariants as rw_calls
use Rattle.sync_types.specs.declared.atomic_object.AtomicCall.{AtomicCall}
use Rattle.sync_types.specs.declared.atomic_object.Number.{Number}
use Rattle.sync_types.specs.declared.map_object.MapCall.{MapCall}
use Rattle.sync_types.specs.declared.misuse.Misuse.{Misuse}
use Rattle.sync_types.specs.declared.once_call.DoReply.TheVariants as do_replies
use Rattle.sync_types.specs.declared.pool_call.PoolCall.{PoolCall}
use Rattle.sync_types.specs.declared.pool_call.PoolCall.TheVariants as pool_calls
use Rattle.sync_types.specs.declared.wait_call.CondCall.{CondCall}
use Rattle.sync_types.specs.declared.wait_call.CondCall.TheVariants as cond_calls
use Rattle.sync_types.specs.declared.wait_call.WaitGroupCall.{WaitGroupCall}
use Rattle.sync_types.specs.declared.wait_call.WaitGroupCall.TheVariants as group_calls
use Rattle.sync_model.specs.declared.item.Item.{Item}
use Rattle.sync_model.specs.declared.item.SharedCall.{SharedCall}
use Rattle.sync_model.specs.declared.item.SharedReply.{SharedReply}
use Rattle.sync_model.specs.declared.journal.Deed.{Deed}
use Rattle.sync_model.specs.declared.journal.Deed.TheVariants.{Event, Refused, Halt}
use Rattle.script_calls.specs.declared.call.Call.{Call}
use Rattle.script_calls.specs.declared.call.ComposedCall.TheVariants.{IfEqual, WaitFor, Go}
use Rattle.script_calls.specs.declared.call.Operation.{Operation}
use Rattle.script_calls.specs.declared.call.Operation.TheVariants as operations
use Rattle.script_calls.specs.declared.call.Reply.{Reply}
use Rattle.script_calls.specs.declared.call.Reply.TheVariants as replies
use Rattle.script_calls.specs.Runs.{RunsAlong}
use Rattle.script_calls.specs.Starts.{group_of}
use Rattle.script_calls.proofs.StartLemmas.{found_there}
use Rattle.workload.specs.declared.limits.TheConstants.{MAX_AMOUNT}
use Rattle.workload.specs.declared.object.ObjectKind.{ObjectKind}
use Rattle.workload.specs.declared.object.ObjectKind.TheVariants as kinds
use Rattle.workload.specs.declared.object.ObjectLine.{ObjectLine}
use Rattle.workload.specs.Draft.{is_call, is_group_call, is_operation}
use Rattle.workload.specs.Plan.{Plan, has_among, has_dormant, is_amount, is_dormant, is_on, is_target, refers}
use Rattle.workload.specs.Readable.{IsReadable}
use Rattle.list_checks.proofs.SpellObjects.{each_refers}
use Rattle.rw_core.specs.declared.event.RwEvent.{RwEvent}
use Rattle.rw_core.specs.declared.event.RwEvent.TheVariants as rw_events
use Rattle.rw_core.specs.declared.reply.RwReply.{RwReply}
use Rattle.rw_core.specs.declared.reply.RwReply.TheVariants as rw_replies
use Rattle.wait_cores.specs.declared.group.GroupReply.{GroupReply}
use Rattle.wait_cores.specs.declared.group.GroupReply.TheVariants as group_replies
use Rattle.wait_cores.specs.declared.once.OnceReply.{OnceReply}
use Rattle.wait_cores.specs.declared.once.OnceReply.TheVariants as once_replies
use Rattle.pool_core.specs.declared.pool_event.PoolEvent.{PoolEvent}
use Rattle.pool_core.specs.declared.pool_event.PoolEvent.TheVariants as pool_events
use Rattle.pool_core.specs.declared.pool_event.PoolReply.{PoolReply}
use Rattle.pool_core.specs.declared.pool_event.PoolReply.TheVariants as pool_replies
use Rattle.pool_core.specs.Looks.{look}
use Rattle.sema_core.specs.declared.calls.SemaStage.{SemaStage}
use Rattle.sema_core.specs.SemaStages.{sema_event, sema_meaning}
use Rattle.flight_core.specs.declared.calls.FlightStage.{FlightStage}
use Rattle.flight_core.specs.FlightStages.{flight_event, flight_meaning}
use Rattle.starts_core.specs.declared.protocol.StartsStage.{StartsStage}
use Rattle.starts_core.specs.declared.protocol.StartsStage.TheVariants as starts_stage
use Rattle.starts_core.specs.StartsStages.{starts_event, starts_meaning}
use Rattle.protocols.specs.declared.cond.CondStage.{CondStage}
use Rattle.protocols.specs.declared.cond.CondStage.TheVariants as cond_stage
use Rattle.protocols.specs.declared.mutex.MutexStage.{MutexStage}
use Rattle.protocols.specs.declared.mutex.MutexStage.TheVariants as mutex_stage
use Rattle.protocols.specs.declared.once.OnceOutcome.{OnceOutcome}
use Rattle.protocols.specs.declared.once.OnceOutcome.TheVariants.{Run, Already, Ended}
use Rattle.protocols.specs.declared.once.OnceStage.{OnceStage}
use Rattle.protocols.specs.declared.once.OnceStage.TheVariants as once_stage
use Rattle.protocols.specs.declared.pool.PoolOutcome.{PoolOutcome}
use Rattle.protocols.specs.declared.pool.PoolOutcome.TheVariants.{Kept as Stays, Dropped, Item as Taken, Nothing, Swept}
use Rattle.protocols.specs.declared.pool.PoolStage.{PoolStage}
use Rattle.protocols.specs.declared.pool.PoolStage.TheVariants as pool_stage
use Rattle.protocols.specs.declared.rw_mutex.RwMutexStage.{RwMutexStage}
use Rattle.protocols.specs.declared.rw_mutex.RwMutexStage.TheVariants as rw_stage
use Rattle.protocols.specs.declared.step.Step.{Step}
use Rattle.protocols.specs.declared.wait_group.GroupStage.{GroupStage}
use Rattle.protocols.specs.declared.wait_group.GroupStage.TheVariants as group_stage
use Rattle.protocols.specs.CondStages.{cond_event, cond_meaning}
use Rattle.protocols.specs.GroupStages.{group_event, group_meaning}
use Rattle.protocols.specs.MutexStages.{mutex_event, mutex_meaning}
use Rattle.protocols.specs.OnceStages.{once_event, once_meaning}
use Rattle.protocols.specs.PoolStages.{pool_event, pool_meaning}
use Rattle.protocols.specs.RwMutexStages.{rw_event, rw_meaning}
use Rattle.protocols.specs.Spelling.{CallAnswer, Spells}
use Rattle.run_record.specs.declared.entered.ObjectEvent.{ObjectEvent}
use Rattle.run_record.specs.declared.entered.ObjectEvent.TheVariants as object_events
use Rattle.run_record.specs.declared.entered.ObjectReply.{ObjectReply}
use Rattle.run_record.specs.declared.entered.ObjectReply.TheVariants as object_replies
use Rattle.run_record.specs.declared.made.Made.{Made}
use Rattle.run_record.specs.declared.made.Made.TheVariants.{Shared, Entered}
use Rattle.run_record.specs.AtomicKind.{adds, atomic_call}
use Rattle.run_record.specs.Calls.{call_at, call_on}
use Rattle.run_record.specs.CondKind.{cond_call, cond_part, wait_part}
use Rattle.run_record.specs.FlightKind.{flight_part}
use Rattle.run_record.specs.Lines.{AreHalts, IsHalt, IsLineOf, Line, LineEnd, SpeltCall, whole, misused, halted, unfinished, stayed, calls_made, items_of}
use Rattle.run_record.specs.MapKind.{map_call, range_call}
use Rattle.run_record.specs.MutexKind.{mutex_part, mutex_stage as stage_of_call}
use Rattle.run_record.specs.Objects.{atomic_number, first_part, is_pool, pool_number, starts_number}
use Rattle.run_record.specs.OnceKind.{failure, goes_on_once, once_part}
use Rattle.run_record.specs.Parts.{GoesOn, Part, Places, and_then, lifted_deed, read_as, returns, stages}
use Rattle.run_record.specs.PoolKind.{found_by, found_or, looks_of, part_of, pool_call, pool_part, stage_of, swept_by}
use Rattle.run_record.specs.Record.{object_number}
use Rattle.run_record.specs.RwMutexKind.{RwDeed, asks, is_still, rw_part, says_still, write_part}
use Rattle.run_record.specs.SemaKind.{sema_part, sema_stage}
use Rattle.run_record.specs.StartsKind.{closing, done_part, done_under, end_part, opening, starts_part, wait_start_part, was_started}
use Rattle.run_record.specs.Tests.{compared, holds, tests, unless_met, waits_for}
use Rattle.run_record.specs.WaitGroupKind.{wait_group_part, wait_group_stage}
use Rattle.record_text.proofs.Decimals.{pair}
use Rattle.record_text.proofs.EachDeed.{EachOf, IsStep, LeadsOn, any_leads, by_flight, by_never, by_read, by_returns, by_then, each_deed, of_deeds, of_entries, with_stills}
use Rattle.record_text.proofs.MeantItems.{IsMeant}
use Rattle.record_text.proofs.ObjectNumbers.{pools_cons, pools_in, times}
use Rattle.record_text.proofs.OwnWords.{each_both, each_mono, each_split}
use Rattle.run_check.specs.declared.told.deeds.Speaker.{Speaker}
use Rattle.run_check.specs.declared.told.deeds.Speaker.TheVariants as speakers
use Rattle.run_check.specs.ToldItems.{Kept, declared_speaker, script_call, speaker_at, speaker_behind, speaker_of}
use Rattle.run_check.proofs.ToldEntries.{GroupEventIs, IsSmall, OnceEventIs, PoolEventIs}
use Rattle.run_check.proofs.ToldPlaces.{AllOf, of_line}

-- the event is of the object's kind, and what its words leave out is what the object's place says; but what a once's function came to isn't asked here
abbrev pub EventFits : Speaker → ObjectEvent → Type 0
EventFits (speakers.Mutex worker) (object_events.Mutex event) = Unit {0}
EventFits speakers.RwMutex (object_events.RwMutex event) = Unit {0}
EventFits speakers.Cond (object_events.Cond event) = Unit {0}
EventFits speakers.WaitGroup (object_events.WaitGroup event) = GroupEventIs event
EventFits (speakers.Once comes_to kept) (object_events.Once event) = Unit {0}
EventFits (speakers.OnceFunc code) (object_events.OnceFunc event) = OnceEventIs code event
EventFits (speakers.OnceValue value) (object_events.OnceValue event) = OnceEventIs value event
EventFits (speakers.PoolPart part) (object_events.Pool event) = PoolEventIs part event
EventFits speakers.Sema (object_events.Sema event) = Unit {0}
EventFits speakers.Flight (object_events.Flight event) = Unit {0}
EventFits speakers.Starts (object_events.Starts event) = Unit {0}
EventFits speaker event = ⊥

-- so is a deed's event, and its answer means something there
abbrev pub DeedFits : Speaker → Deed ObjectEvent ObjectReply → Type 0
DeedFits speaker (Event event reply) = EventFits speaker event × IsMeant event reply
DeedFits speaker (Refused event misuse) = EventFits speaker event
DeedFits speaker (Halt misuse) = Unit {0}

-- so is an entry's deed, whatever each once keeps and whatever the worker's last `add` answered
abbrev pub ItemFits : Plan → (worker : ℕ) → Made → Type 0
ItemFits plan worker (Shared x) = Unit {0}
ItemFits plan worker (Entered object entry) = (kept : Kept) (sum : ℤ) → DeedFits (speaker_of plan kept object worker sum) entry.deed

-- ---- what the words of events leave out

-- an amount that a workload may have
amount_small : (delta : ℤ) → is_amount delta ≡ true → IsSmall delta
amount_small (pos n) h = let few = leb-true n MAX_AMOUNT h in ap (λ (b : Bool). cond b (Some (pos n)) None) (lt-ltb n (2 ^ 31) (omega (arith, few)))
amount_small (negsuc n) h =
    let few = ltb-true n MAX_AMOUNT h in
    ap (λ (b : Bool). cond b (Some (negsuc (n + 1 - 1))) None) (pair (nat_lt 0 (n + 1)) (nat_le (n + 1) (2 ^ 31)) (lt-ltb 0 (n + 1) (omega arith)) (le-leb (n + 1) (2 ^ 31) (omega (arith, few))))
    ∙ ap (λ (k : ℕ). Some (negsuc k)) (let same : n + 1 - 1 ≡ n = omega arith in same)

-- a stage adds such an amount, if it adds one
abbrev AddsSmall : GroupStage → Type 0
AddsSmall (group_stage.Add delta) = IsSmall delta
AddsSmall stage = Unit {0}

group_leads : (stage : GroupStage) (r : GroupReply) → AddsSmall stage → LeadsOn AddsSmall (group_meaning stage r)
group_leads (group_stage.Add delta) group_replies.Done such = tt
group_leads group_stage.Done group_replies.Done such = tt
group_leads group_stage.Wait group_replies.Done such = tt
group_leads group_stage.Leave group_replies.Done such = tt
group_leads stage r such = tt

group_fits : (stage : GroupStage) (now : ℕ) → AddsSmall stage → GroupEventIs (group_event stage now)
group_fits (group_stage.Add delta) now such = such
group_fits group_stage.Done now such = amount_small (negsuc 0) refl
group_fits group_stage.Wait now such = tt
group_fits group_stage.Leave now such = tt

call_small : (call : WaitGroupCall) → is_group_call call ≡ true → AddsSmall (wait_group_stage call)
call_small (group_calls.Add delta) h = amount_small delta h
call_small group_calls.Done h = tt
call_small group_calls.Wait h = tt

module _ {T : Type 0} (value : T) where
  -- the function comes to this, if a stage ends it
  abbrev ComesTo : OnceStage T → Type 0
  ComesTo (once_stage.End came_to) = value ≡ came_to
  ComesTo stage = Unit {0}

  once_leads : (stage : OnceStage T) (r : OnceReply T) → ComesTo stage → LeadsOn ComesTo (once_meaning stage r)
  once_leads once_stage.Begin once_replies.Run such = tt
  once_leads (once_stage.End came_to) once_replies.Run such = tt
  once_leads once_stage.Leave once_replies.Run such = tt
  once_leads stage r such = tt

  once_fits : (stage : OnceStage T) (now : ℕ) → ComesTo stage → OnceEventIs value (once_event stage now)
  once_fits once_stage.Begin now such = tt
  once_fits (once_stage.End came_to) now such = such
  once_fits once_stage.Leave now such = tt

module _ (part : ℕ) where
  -- a stage looks at this part, if it names one
  abbrev LooksAt : PoolStage → Type 0
  LooksAt (pool_stage.LookOther other) = part ≡ other
  LooksAt (pool_stage.LookVictim other) = part ≡ other
  LooksAt stage = Unit {0}

  pool_leads : (stage : PoolStage) (r : PoolReply ℕ) → LooksAt stage → LeadsOn LooksAt (pool_meaning stage r)
  pool_leads (pool_stage.Put item) pool_replies.Kept such = tt
  pool_leads pool_stage.LookOwn pool_replies.Kept such = tt
  pool_leads (pool_stage.LookOther other) pool_replies.Kept such = tt
  pool_leads (pool_stage.LookVictim other) pool_replies.Kept such = tt
  pool_leads pool_stage.Sweep pool_replies.Kept such = tt
  pool_leads stage r such = tt

  pool_fits : (stage : PoolStage) (now : ℕ) → LooksAt stage → PoolEventIs part (pool_event stage now)
  pool_fits (pool_stage.Put item) now such = tt
  pool_fits pool_stage.LookOwn now such = tt
  pool_fits (pool_stage.LookOther other) now such = such
  pool_fits (pool_stage.LookVictim other) now such = such
  pool_fits pool_stage.Sweep now such = tt

-- ---- how the objects speak

-- a part of a pool is among the parts of all pools
part_below : (workers place part : ℕ) (objects : List ObjectLine) (object : ObjectLine) → slice_get objects place ≡ Some object → object.kind ≡ kinds.Pool → part < workers
    → pools_in (take place objects) * workers + part < pools_in objects * workers
part_below workers place part [] object at pool below = absurd (none-some object at)
part_below workers zero part (first ∷ objects) object at pool below =
    let count = ap (λ (n : ℕ). n * workers) (pools_cons first objects) ∙ times (cond (is_pool first.kind) 1 0) (pools_in objects) workers in
    let own : cond (is_pool first.kind) 1 0 * workers ≡ workers =
    ap (λ (kind : ObjectKind). cond (is_pool kind) 1 0 * workers) (ap (λ (o : ObjectLine). o.kind) (same_Some first object at) ∙ pool) ∙ (let all : 1 * workers ≡ workers = omega arith in all) in
    let none : pools_in (take zero (first ∷ objects)) * workers ≡ 0 = omega arith in
    omega (arith, count, own, none, below)
part_below workers (suc place) part (first ∷ objects) object at pool below =
    let count = ap (λ (n : ℕ). n * workers) (pools_cons first objects) ∙ times (cond (is_pool first.kind) 1 0) (pools_in objects) workers in
    let taken = ap (λ (n : ℕ). n * workers) (pools_cons first (take place objects)) ∙ times (cond (is_pool first.kind) 1 0) (pools_in (take place objects)) workers in
    let rest = part_below workers place part objects object at pool below in
    omega (arith, count, taken, rest)

module _ (plan : Plan) (worker : ℕ) where
  -- the object speaks so, by what each once keeps and by a sum
  abbrev Speaks : ℕ → (Kept → ℤ → Speaker) → Type 0
  Speaks object speaker = (kept : Kept) (sum : ℤ) → speaker_of plan kept object worker sum ≡ speaker kept sum

  -- the object at a place is of this kind
  abbrev IsOfKind : ℕ → ObjectKind → Type 0
  IsOfKind place kind = (object : ObjectLine) × (slice_get plan.objects place ≡ Some object) × (object.kind ≡ kind)

  speaks_at : (object place : ℕ) (found : Option ObjectLine) → object ≡ object_number place → slice_get plan.objects place ≡ found → Speaks object (λ kept sum. speaker_at plan kept object worker sum found place)
  speaks_at object place found is at kept sum =
      ap (λ (b : Bool). cond b speakers.Silent (speaker_behind plan kept object worker sum (object - 1))) (ne_eqb object 0 (λ none. omega (arith, is, none)))
      ∙ ap (speaker_behind plan kept object worker sum) (let before : object - 1 ≡ place = omega (arith, is) in before)
      ∙ ap (λ (o : Option ObjectLine). speaker_at plan kept object worker sum o place) at

  speaks_kind : (place : ℕ) (kind : ObjectKind) → IsOfKind place kind → Speaks (object_number place) (λ kept sum. declared_speaker kept (object_number place) worker sum kind)
  speaks_kind place kind (object, at, is) kept sum =
      speaks_at (object_number place) place (Some object) refl at kept sum ∙ ap (declared_speaker kept (object_number place) worker sum) is

  speaks_part : (place part : ℕ) → IsOfKind place kinds.Pool → part < plan.workers → Speaks (first_part plan place + part) (λ kept sum. speakers.PoolPart part)
  speaks_part place part (object, at, pool) below kept sum =
      let later = pool_number plan.objects place * plan.workers + part in
      let among = part_below plan.workers place part plan.objects object at pool below in
      speaks_at (first_part plan place + part) (length plan.objects + later) None (omega arith) (slice_get_past plan.objects (length plan.objects + later) (omega arith)) kept sum
      ∙ ap (λ (b : Bool). cond b (speakers.PoolPart ((length plan.objects + later - length plan.objects) % plan.workers)) speakers.Starts) (lt-ltb (first_part plan place + part) (starts_number plan) (omega (arith, among)))
      ∙ ap speakers.PoolPart (ap (λ (k : ℕ). k % plan.workers) (let behind : length plan.objects + later - length plan.objects ≡ later = omega arith in behind) ∙ mod-mul-add (pool_number plan.objects place) plan.workers part below)

  speaks_starts : Speaks (starts_number plan) (λ kept sum. speakers.Starts)
  speaks_starts kept sum =
      let later = pools_in plan.objects * plan.workers in
      speaks_at (starts_number plan) (length plan.objects + later) None (omega arith) (slice_get_past plan.objects (length plan.objects + later) (omega arith)) kept sum
      ∙ ap (λ (b : Bool). cond b (speakers.PoolPart ((length plan.objects + later - length plan.objects) % plan.workers)) speakers.Starts) (le-ltb (starts_number plan) (starts_number plan) (omega arith))

  -- ---- parts of one kind

  -- the item is so
  abbrev Is : Made → Type 0
  Is = ItemFits plan worker

  module _ {E R : Type 0} (event : E → ObjectEvent) (reply : R → ObjectReply) (object : ℕ) where
    -- the deed is one of this object
    abbrev IsDeed : Deed E R → Type 0
    IsDeed deed = (kept : Kept) (sum : ℤ) → DeedFits (speaker_of plan kept object worker sum) (lifted_deed event reply deed)

    fits_so : (speaker : Kept → ℤ → Speaker) → Speaks object speaker → (deed : Deed E R) → ((kept : Kept) (sum : ℤ) → DeedFits (speaker kept sum) (lifted_deed event reply deed)) → IsDeed deed
    fits_so speaker speaks deed fits kept sum = subst (λ (s : Speaker). DeedFits s (lifted_deed event reply deed)) (sym (speaks kept sum)) (fits kept sum)

    module _ (speaker : Kept → ℤ → Speaker) (speaks : Speaks object speaker) {G O : Type 0} (event_of : G → ℕ → E) (meaning : G → R → Step G O) (means : (stage : G) (now : ℕ) (r : R) → IsStep (meaning stage r) → IsMeant (event (event_of stage now)) (reply r)) where
      each_fits : (Such : G → Type 0) → ((stage : G) (r : R) → Such stage → LeadsOn Such (meaning stage r)) → ((stage : G) (now : ℕ) → Such stage → (kept : Kept) (sum : ℤ) → EventFits (speaker kept sum) (event (event_of stage now)))
          → (from : G) (deeds : List (Deed E R)) (answer : CallAnswer O) → Such from → Spells event_of meaning from deeds answer → AllByRecursion IsDeed deeds
      each_fits Such leads fits =
          each_deed event_of meaning Such IsDeed leads
          (λ stage now r there step. fits_so speaker speaks (Event (event_of stage now) r) (λ kept sum. (fits stage now there kept sum, means stage now r step)))
          (λ stage now misuse there. fits_so speaker speaks (Refused (event_of stage now) misuse) (λ kept sum. fits stage now there kept sum))

      of_kind : (Such : G → Type 0) → ((stage : G) (r : R) → Such stage → LeadsOn Such (meaning stage r)) → ((stage : G) (now : ℕ) → Such stage → (kept : Kept) (sum : ℤ) → EventFits (speaker kept sum) (event (event_of stage now)))
          → (from : G) → Such from → EachOf Is (stages event reply event_of meaning object from)
      of_kind Such leads fits from such items answer (entries, is, spelt) =
          subst (AllByRecursion Is) (sym is) (of_entries Is event reply object entries (of_deeds IsDeed entries (each_fits Such leads fits from (map (λ entry. entry.deed) entries) answer such spelt)))

      of_any : ((stage : G) (now : ℕ) (kept : Kept) (sum : ℤ) → EventFits (speaker kept sum) (event (event_of stage now))) → (from : G) → EachOf Is (stages event reply event_of meaning object from)
      of_any fits from = of_kind (λ stage. Unit {0}) (λ stage r such. any_leads (meaning stage r)) (λ stage now such. fits stage now) from tt

  of_mutex : (object : ℕ) → Speaks object (λ kept sum. speakers.Mutex worker) → (from : MutexStage) → EachOf Is (mutex_part object from)
  of_mutex object speaks = of_any object_events.Mutex object_replies.Mutex object (λ kept sum. speakers.Mutex worker) speaks mutex_event mutex_meaning (λ stage now r means. (stage, now, refl, means)) (λ stage now kept sum. tt)

  of_rw : (object : ℕ) → Speaks object (λ kept sum. speakers.RwMutex) → (from : RwMutexStage) → EachOf Is (stages object_events.RwMutex object_replies.RwMutex rw_event rw_meaning object from)
  of_rw object speaks = of_any object_events.RwMutex object_replies.RwMutex object (λ kept sum. speakers.RwMutex) speaks rw_event rw_meaning (λ stage now r means. (stage, now, refl, means)) (λ stage now kept sum. tt)

  module _ (object : ℕ) (speaks : Speaks object (λ kept sum. speakers.RwMutex)) where
    -- and here of a reader/writer mutex
    abbrev IsRw : RwDeed → Type 0
    IsRw = IsDeed object_events.RwMutex object_replies.RwMutex object

    -- an answer `Still` to a writer that asks means something
    rw_still : (deed : RwDeed) → is_still deed ≡ true → IsRw deed
    rw_still (Event e r) is = asked r e is where
      asked : (r : RwReply) (e : RwEvent) → (says_still r && asks e) ≡ true → IsRw (Event e r)
      asked rw_replies.Still (rw_events.WriteWoken now) is =
          fits_so object_events.RwMutex object_replies.RwMutex object (λ kept sum. speakers.RwMutex) speaks (Event (rw_events.WriteWoken now) rw_replies.Still) (λ kept sum. (tt, (rw_stage.Resume, now, refl, tt)))
      asked rw_replies.Still rw_events.Leave is =
          fits_so object_events.RwMutex object_replies.RwMutex object (λ kept sum. speakers.RwMutex) speaks (Event rw_events.Leave rw_replies.Still) (λ kept sum. (tt, (rw_stage.Behind, 0, refl, tt)))
      asked rw_replies.Still e is = absurd (false≢true is)
      asked r e is = absurd (false≢true is)
    rw_still (Refused e m) is = absurd (false≢true is)
    rw_still (Halt m) is = absurd (false≢true is)

    of_write : EachOf Is (write_part object)
    of_write items answer (entries, is, (spelt, same, spells)) =
        subst (AllByRecursion Is) (sym is)
        (of_entries Is object_events.RwMutex object_replies.RwMutex object entries (of_deeds IsRw entries
        (with_stills IsRw rw_still (map (λ entry. entry.deed) entries) spelt same
        (each_fits object_events.RwMutex object_replies.RwMutex object (λ kept sum. speakers.RwMutex) speaks rw_event rw_meaning (λ stage now r means. (stage, now, refl, means)) (λ stage. Unit {0}) (λ stage r such. any_leads (rw_meaning stage r)) (λ stage now such kept sum. tt)
        rw_stage.Lock spelt answer tt spells))))

    of_rw_part : (call : RwMutexCall) → EachOf Is (rw_part object call)
    of_rw_part rw_calls.Lock = of_write
    of_rw_part rw_calls.Unlock = of_rw object speaks rw_stage.Unlock
    of_rw_part rw_calls.TryLock = of_rw object speaks rw_stage.TryLock
    of_rw_part rw_calls.RLock = of_rw object speaks rw_stage.RLock
    of_rw_part rw_calls.RUnlock = of_rw object speaks rw_stage.RUnlock
    of_rw_part rw_calls.TryRLock = of_rw object speaks rw_stage.TryRLock

  of_cond : (object : ℕ) → Speaks object (λ kept sum. speakers.Cond) → (from : CondStage) → EachOf Is (cond_part object from)
  of_cond object speaks = of_any object_events.Cond object_replies.Cond object (λ kept sum. speakers.Cond) speaks cond_event cond_meaning (λ stage now r means. (stage, now, refl, means)) (λ stage now kept sum. tt)

  of_group : (object : ℕ) → Speaks object (λ kept sum. speakers.WaitGroup) → (from : GroupStage) → AddsSmall from → EachOf Is (wait_group_part object from)
  of_group object speaks =
      of_kind object_events.WaitGroup object_replies.WaitGroup object (λ kept sum. speakers.WaitGroup) speaks group_event group_meaning (λ stage now r means. (stage, now, refl, means)) AddsSmall group_leads (λ stage now such kept sum. group_fits stage now such)

  of_sema : (object : ℕ) → Speaks object (λ kept sum. speakers.Sema) → (from : SemaStage) → EachOf Is (sema_part object from)
  of_sema object speaks = of_any object_events.Sema object_replies.Sema object (λ kept sum. speakers.Sema) speaks sema_event sema_meaning (λ stage now r means. (stage, now, refl, means)) (λ stage now kept sum. tt)

  of_flight : (object : ℕ) → Speaks object (λ kept sum. speakers.Flight) → (from : FlightStage) → EachOf Is (flight_part object from)
  of_flight object speaks = of_any object_events.Flight object_replies.Flight object (λ kept sum. speakers.Flight) speaks flight_event flight_meaning (λ stage now r means. (stage, now, refl, means)) (λ stage now kept sum. tt)

  of_starts : (from : StartsStage) → EachOf Is (starts_part (starts_number plan) from)
  of_starts = of_any object_events.Starts object_replies.Starts (starts_number plan) (λ kept sum. speakers.Starts) speaks_starts starts_event starts_meaning (λ stage now r means. (stage, now, refl, means)) (λ stage now kept sum. tt)

  of_pool : (place part : ℕ) → IsOfKind place kinds.Pool → part < plan.workers → (from : PoolStage) → LooksAt part from → EachOf Is (pool_part (first_part plan place + part) from)
  of_pool place part pool below =
      of_kind object_events.Pool object_replies.Pool (first_part plan place + part) (λ kept sum. speakers.PoolPart part) (speaks_part place part pool below) pool_event pool_meaning (λ stage now r means. (stage, now, refl, means))
      (LooksAt part) (pool_leads part) (λ stage now such kept sum. pool_fits part stage now such)

  -- ---- calls

  all_shared : (made : List Item) → AllByRecursion Is (map Shared made)
  all_shared [] = tt
  all_shared (x ∷ made) = (tt, all_shared made)

  -- a call on a map or an atomic is no entry
  of_shared : (calls : List (SharedCall × SharedReply)) (items : List Made) → Places calls items → AllByRecursion Is items
  of_shared calls items (made, is, told) = subst (AllByRecursion Is) (sym is) (all_shared made)

  of_atomic : (a : ℕ) (call : AtomicCall) → EachOf Is (atomic_call a call)
  of_atomic a call items answer (reply, places, is) = of_shared _ items places

  of_adds : (a : ℕ) (amount : ℤ) → EachOf Is (adds a amount)
  of_adds a amount items answer (sum, places, is) = of_shared _ items places

  of_map : (keys : List (List ℕ)) (m : ℕ) (call : MapCall (List ℕ)) → EachOf Is (map_call keys m call)
  of_map keys m call items answer (reply, places, is) = of_shared _ items places

  of_range : (keys : List (List ℕ)) (m begin : ℕ) → EachOf Is (range_call keys m begin)
  of_range keys m begin items answer (shown, pairs, places, sorted, is) = of_shared _ items places

  of_test : (a : ℕ) (value : Number) → EachOf Is (tests a value)
  of_test a value = by_read Is (holds value) _ (of_atomic a _)

  module _ (object mutex : ℕ) (cond_speaks : Speaks object (λ kept sum. speakers.Cond)) (mutex_speaks : Speaks mutex (λ kept sum. speakers.Mutex worker)) where
    of_wait : EachOf Is (wait_part object mutex)
    of_wait = by_then Is _ _ (of_cond object cond_speaks cond_stage.Ticket) (λ ticket.
        by_then Is _ _ (of_mutex mutex mutex_speaks mutex_stage.Unlock) (λ unlocked.
        by_then Is _ _ (of_cond object cond_speaks cond_stage.Leave) (λ left.
        by_read Is (λ locked. replies.Returned) _ (of_mutex mutex mutex_speaks mutex_stage.Lock))))

    of_cond_call : (call : CondCall) → EachOf Is (cond_call object mutex call)
    of_cond_call cond_calls.Wait = of_wait
    of_cond_call cond_calls.Signal = by_read Is (λ done. replies.Returned) _ (of_cond object cond_speaks cond_stage.Signal)
    of_cond_call cond_calls.Broadcast = by_read Is (λ done. replies.Returned) _ (of_cond object cond_speaks cond_stage.Broadcast)

    of_unless_met : (next : Part Bool) → EachOf Is next → (met : Bool) → EachOf Is (unless_met next met)
    of_unless_met next later true = by_returns Is true
    of_unless_met next later false = later

    of_waits_for : (a : ℕ) (value : Number) (tries : ℕ) → EachOf Is (waits_for object mutex a value tries)
    of_waits_for a value zero = of_test a value
    of_waits_for a value (suc tries) = by_then Is _ _ (of_test a value) (of_unless_met _ (by_then Is _ _ of_wait (λ waited. of_waits_for a value tries)))

  -- behind a function that comes to a value of its own
  by_value : {O Q : Type 0} (value : O) (next : O → Part Q) → EachOf Is (next value) → EachOf Is (and_then (returns value) next)
  by_value {O = O} value next each items answer (xs, ys, given, is, (none, so), goes) =
      subst (AllByRecursion Is) (sym (is ∙ ap (λ (l : List Made). l ++ ys) none)) (each ys answer (subst (λ (g : CallAnswer O). GoesOn next g ys answer) so goes))

  module _ {T : Type 0} (part : OnceStage T → Part (OnceOutcome T)) (function : Part T) (ran returned : T → Reply ℕ) (begins : EachOf Is (part once_stage.Begin)) (runs : EachOf Is (and_then function (λ value. read_as (λ ended. ran value) (part (once_stage.End value))))) where
    of_goes_on : (outcome : OnceOutcome T) → EachOf Is (goes_on_once part function ran returned outcome)
    of_goes_on Run = runs
    of_goes_on (Already kept) = by_returns Is (returned kept)
    of_goes_on Ended = by_never Is

    of_once : EachOf Is (once_part part function ran returned)
    of_once = by_then Is _ _ begins of_goes_on

  module _ (place : ℕ) (pool : IsOfKind place kinds.Pool) (below : worker < plan.workers) where
    of_found : (rest : Part (Reply ℕ)) → EachOf Is rest → (outcome : PoolOutcome) → EachOf Is (found_or rest outcome)
    of_found rest each (Taken item) = by_returns Is _
    of_found rest each Nothing = each
    of_found rest each Stays = by_never Is
    of_found rest each (Dropped item) = by_never Is
    of_found rest each Swept = by_never Is

    -- a look is at a part that is there, and names it if any
    abbrev LookFits : PoolEvent ℕ → Type 0
    LookFits look = (part_of worker look < plan.workers) × LooksAt (part_of worker look) (stage_of look)

    of_looks : (looks : List (PoolEvent ℕ)) → AllByRecursion LookFits looks → EachOf Is (found_by worker (first_part plan place) looks)
    of_looks [] each = by_returns Is _
    of_looks (look ∷ looks) each =
        by_then Is _ _ (of_pool place (part_of worker look) pool each.0.0 (stage_of look) each.0.1) (of_found (found_by worker (first_part plan place) looks) (of_looks looks each.1))

    a_look : (k : ℕ) → LookFits (look plan.workers worker k)
    a_look zero = (below, tt)
    a_look (suc k) = by (nat_lt (suc k) plan.workers) where
      by : (b : Bool) → LookFits (if b then pool_events.LookOther ((worker + suc k) % plan.workers) else pool_events.LookVictim ((worker + suc k) % plan.workers))
      by true = (mod_below (worker + suc k) plan.workers (omega (arith, below)), refl)
      by false = (mod_below (worker + suc k) plan.workers (omega (arith, below)), refl)

    all_looks : (ks : List ℕ) → AllByRecursion LookFits (map (look plan.workers worker) ks)
    all_looks [] = tt
    all_looks (k ∷ ks) = (a_look k, all_looks ks)

    of_sweeps : (first count : ℕ) → first + count ≤ plan.workers → EachOf Is (swept_by (first_part plan place) (range_with_len first count))
    of_sweeps first zero low = by_returns Is _
    of_sweeps first (suc count) low = by_then Is _ _ (of_pool place first pool (omega (arith, low)) pool_stage.Sweep tt) (λ swept. of_sweeps (first + 1) count (omega (arith, low)))

    of_pool_call : (call : PoolCall) → EachOf Is (pool_call plan.workers worker (first_part plan place) call)
    of_pool_call (pool_calls.Put item) = by_read Is _ _ (of_pool place worker pool below (pool_stage.Put item) tt)
    of_pool_call pool_calls.Get = of_looks (looks_of plan.workers worker) (all_looks (range_with_len 0 (2 * plan.workers)))
    of_pool_call pool_calls.Sweep = of_sweeps 0 plan.workers (omega arith)

  -- ---- what a readable workload says

  module _ (readable : IsReadable plan) where
    is_mutex : (mutex : ℕ) (kind : ObjectKind) → is_target (kinds.Cond mutex) kind ≡ true → kind ≡ kinds.Mutex
    is_mutex mutex kinds.Mutex h = refl
    is_mutex mutex kind h = absurd (false≢true h)

    -- the mutex of a cond
    mutex_of : (place mutex : ℕ) → IsOfKind place (kinds.Cond mutex) → IsOfKind mutex kinds.Mutex
    mutex_of place mutex (object, at, is) = by (slice_get plan.objects mutex) refl (subst (λ (kind : ObjectKind). refers plan.objects kind ≡ true) is (each_refers plan readable.valid place object at)) where
      by : (found : Option ObjectLine) → slice_get plan.objects mutex ≡ found → option_map_or (λ (o : ObjectLine). is_target (kinds.Cond mutex) o.kind) found false ≡ true → IsOfKind mutex kinds.Mutex
      by None there h = absurd (false≢true h)
      by (Some other) there h = (other, there, is_mutex mutex other.kind h)

    all_at : {X : Type 0} (p : X → Bool) (xs : List X) (i : ℕ) (x : X) → list_all p xs ≡ true → slice_get xs i ≡ Some x → p x ≡ true
    all_at p [] i x all at = absurd (none-some x at)
    all_at p (y ∷ xs) zero x all at = subst (λ z. p z ≡ true) (same_Some y x at) (and_parts (p y) (list_all p xs) all).0
    all_at p (y ∷ xs) (suc i) x all at = all_at p xs i x (and_parts (p y) (list_all p xs) all).1 at

    has_go : (kind : ObjectKind) (started : ℕ) → has_among plan.objects kind (operations.Composed (Go started)) ≡ true → (start : ℕ) × (kind ≡ kinds.WaitGroup start)
    has_go (kinds.WaitGroup start) started h = (start, refl)
    has_go kind started h = absurd (false≢true h)

    -- the group under which a worker is started
    group_there : (started group : ℕ) → group_of started plan.scripts ≡ Some group → (start : ℕ) × IsOfKind group (kinds.WaitGroup start)
    group_there started group is =
        let (at, place, script, call, here, stands, goes, same) = found_there started plan.scripts group is in
        let on = λ (c : Call). is_on plan.objects (slice_get plan.objects c.object) c in
        let has = all_at on script place call (all_at (list_all on) plan.scripts at script (and_parts _ _ (and_parts _ _ readable.valid).1).0 here) stands in
        subst (λ (place : ℕ). (start : ℕ) × IsOfKind place (kinds.WaitGroup start)) same (by call goes (slice_get plan.objects call.object) refl has)
      where
        by : (call : Call) → call.operation ≡ operations.Composed (Go started) → (found : Option ObjectLine) → slice_get plan.objects call.object ≡ found → is_on plan.objects found call ≡ true → (start : ℕ) × IsOfKind call.object (kinds.WaitGroup start)
        by call goes None there h = absurd (false≢true h)
        by call goes (Some object) there h =
            let (start, kind) = has_go object.kind started (subst (λ (operation : Operation). has_among plan.objects object.kind operation ≡ true) goes h) in
            (start, (object, there, kind))

    module _ (below : worker < plan.workers) where
      of_call_on : (before place : ℕ) (kind : ObjectKind) (operation : Operation) → IsOfKind place kind → is_operation operation ≡ true → EachOf Is (call_on plan worker before place kind operation)
      of_call_on before place kinds.Map (operations.Map call) is good = of_map _ _ call
      of_call_on before place kinds.Map operations.Range is good = of_range _ _ before
      of_call_on before place (kinds.Atomic type) (operations.Atomic call) is good = of_atomic _ call
      of_call_on before place (kinds.Atomic type) (operations.Composed (IfEqual value passes)) is good = by_read Is compared _ (of_test (atomic_number plan.objects place) value)
      of_call_on before place kinds.Mutex (operations.Mutex call) is good = by_read Is replies.Lock _ (of_mutex (object_number place) (speaks_kind place kinds.Mutex is) (stage_of_call call))
      of_call_on before place kinds.RwMutex (operations.RwMutex call) is good = by_read Is replies.Lock _ (of_rw_part (object_number place) (speaks_kind place kinds.RwMutex is) call)
      of_call_on before place (kinds.Cond mutex) (operations.Cond call) is good =
          of_cond_call (object_number place) (object_number mutex) (speaks_kind place (kinds.Cond mutex) is) (speaks_kind mutex kinds.Mutex (mutex_of place mutex is)) call
      of_call_on before place (kinds.Cond mutex) (operations.Composed (WaitFor atomic value tries)) is good =
          by_read Is compared _ (of_waits_for (object_number place) (object_number mutex) (speaks_kind place (kinds.Cond mutex) is) (speaks_kind mutex kinds.Mutex (mutex_of place mutex is)) (atomic_number plan.objects atomic) value tries)
      of_call_on before place (kinds.WaitGroup start) (operations.WaitGroup call) is good =
          by_read Is (λ done. replies.Returned) _ (of_group (object_number place) (speaks_kind place (kinds.WaitGroup start) is) (wait_group_stage call) (call_small call good))
      of_call_on before place (kinds.WaitGroup start) (operations.Composed (Go started)) is good =
          by_then Is _ _ (by_read Is (λ done. replies.Returned) _ (of_group (object_number place) (speaks_kind place (kinds.WaitGroup start) is) (group_stage.Add (pos 1)) (amount_small (pos 1) refl)))
          (λ added. by_read Is (λ started. replies.Returned) _ (of_starts (starts_stage.Start started)))
      of_call_on before place (kinds.Once atomic delta) operations.Once is good =
          let part = of_any object_events.Once object_replies.Once (object_number place) _ (speaks_kind place (kinds.Once atomic delta) is) once_event once_meaning (λ stage now r means. (stage, now, refl, means)) (λ stage now kept sum. tt) in
          of_once (stages object_events.Once object_replies.Once once_event once_meaning (object_number place)) (adds (atomic_number plan.objects atomic) delta) (λ sum. replies.Once (do_replies.Ran sum)) (λ kept. replies.Once do_replies.Done) (part once_stage.Begin)
          (by_then Is _ _ (of_adds (atomic_number plan.objects atomic) delta) (λ value. by_read Is (λ ended. replies.Once (do_replies.Ran value)) _ (part (once_stage.End value))))
      of_call_on before place (kinds.OnceFunc code) operations.OnceFunc is good =
          let part = of_kind object_events.OnceFunc object_replies.OnceFunc (object_number place) _ (speaks_kind place (kinds.OnceFunc code) is) once_event once_meaning (λ stage now r means. (stage, now, refl, means))
          (ComesTo code) (once_leads code) (λ stage now such kept sum. once_fits code stage now such) in
          of_once (stages object_events.OnceFunc object_replies.OnceFunc once_event once_meaning (object_number place)) (returns code) (λ kept. replies.OnceFunc (failure kept)) (λ kept. replies.OnceFunc (failure kept)) (part once_stage.Begin tt)
          (by_value code _ (by_read Is (λ ended. replies.OnceFunc (failure code)) _ (part (once_stage.End code) refl)))
      of_call_on before place (kinds.OnceValue value) operations.OnceValue is good =
          let part = of_kind object_events.OnceValue object_replies.OnceValue (object_number place) _ (speaks_kind place (kinds.OnceValue value) is) once_event once_meaning (λ stage now r means. (stage, now, refl, means))
          (ComesTo value) (once_leads value) (λ stage now such kept sum. once_fits value stage now such) in
          of_once (stages object_events.OnceValue object_replies.OnceValue once_event once_meaning (object_number place)) (returns value) replies.OnceValue replies.OnceValue (part once_stage.Begin tt)
          (by_value value _ (by_read Is (λ ended. replies.OnceValue value) _ (part (once_stage.End value) refl)))
      of_call_on before place kinds.Pool (operations.Pool call) is good = of_pool_call place is below call
      of_call_on before place (kinds.Sema size) (operations.Sema call) is good = by_read Is replies.Lock _ (of_sema (object_number place) (speaks_kind place (kinds.Sema size) is) (sema_stage call))
      of_call_on before place (kinds.Flight atomic delta) (operations.Fly key) is good =
          by_flight Is (flight_part (object_number place)) (adds (atomic_number plan.objects atomic) delta) (of_flight (object_number place) (speaks_kind place (kinds.Flight atomic delta) is)) (of_adds (atomic_number plan.objects atomic) delta) _
      of_call_on before place kind operation is good = λ items answer spelt. absurd spelt

      of_call_at : (before : ℕ) (object : Option ObjectLine) (call : Call) → slice_get plan.objects call.object ≡ object → is_call call ≡ true → EachOf Is (call_at plan worker before call.object object call.operation)
      of_call_at before None call at good = by_never Is
      of_call_at before (Some object) call at good = of_call_on before call.object object.kind call.operation (object, at, refl) good

    of_chosen : {O : Type 0} (b : Bool) (first second : Part O) → EachOf Is first → EachOf Is second → EachOf Is (cond b first second)
    of_chosen true first second one other = one
    of_chosen false first second one other = other

    of_opening : EachOf Is (opening plan worker)
    of_opening = of_chosen (is_dormant plan worker) (wait_start_part (starts_number plan)) (returns true) (by_read Is was_started _ (of_starts starts_stage.WaitStart)) (by_returns Is true)

    of_done : (group : Option ℕ) → group_of worker plan.scripts ≡ group → EachOf Is (done_under group)
    of_done None at = by_returns Is tt
    of_done (Some group) at =
        let (start, is) = group_there worker group at in
        by_read Is (λ done. tt) _ (by_read Is (λ done. replies.Returned) _ (of_group (object_number group) (speaks_kind group (kinds.WaitGroup start) is) group_stage.Done tt))

    of_closing : EachOf Is (closing plan worker)
    of_closing =
        of_chosen (has_dormant plan) (and_then (done_part plan worker) (λ done. end_part (starts_number plan))) (returns tt)
        (by_then Is (done_part plan worker) (λ done. end_part (starts_number plan))
        (of_chosen (is_dormant plan worker) (done_under (group_of worker plan.scripts)) (returns tt) (of_done (group_of worker plan.scripts) refl) (by_returns Is tt))
        (λ done. by_read Is (λ ended. tt) _ (of_starts starts_stage.End)))
        (by_returns Is tt)

    -- ---- a line

    -- the numbers of a call are in range
    abbrev IsGood : Option Call → Type 0
    IsGood None = Unit {0}
    IsGood (Some call) = is_call call ≡ true

    calls_good : (scripts : List (List Call)) (by : ℕ) → list_all (list_all is_call) scripts ≡ true → list_all is_call (get_or scripts by []) ≡ true
    calls_good [] by all = refl
    calls_good (script ∷ scripts) zero all = (and_parts _ _ all).0
    calls_good (script ∷ scripts) (suc by) all = calls_good scripts by (and_parts _ _ all).1

    good : (index : Option ℕ) → IsGood (script_call plan worker index)
    good None = tt
    good (Some i) = by (slice_get (get_or plan.scripts worker []) i) refl where
      by : (found : Option Call) → slice_get (get_or plan.scripts worker []) i ≡ found → IsGood found
      by None at = tt
      by (Some call) at = all_at is_call (get_or plan.scripts worker []) i call (calls_good plan.scripts worker readable.calls) at

    -- an item of a call whose numbers are in range fits
    abbrev FitsIf : Option Call → Made → Type 0
    FitsIf call item = IsGood call → Is item

    each_if : (call : Option Call) (items : List Made) → (IsGood call → AllByRecursion Is items) → AllByRecursion (FitsIf call) items
    each_if call [] each = tt
    each_if call (x ∷ items) each = ((λ is. (each is).0), each_if call items (λ is. (each is).1))

    all_fit : (items : List Made) (indices : List (Option ℕ)) → AllOf plan worker FitsIf items indices → AllByRecursion Is items
    all_fit [] [] all = tt
    all_fit [] (index ∷ indices) all = absurd all
    all_fit (x ∷ items) [] all = absurd all
    all_fit (x ∷ items) (index ∷ indices) all = (all.0 (good index), all_fit items indices all.1)

    a_halt : (misuse : Misuse) (item : Made) → IsHalt misuse item → Is item
    a_halt misuse (Shared x) is = absurd is
    a_halt misuse (Entered object entry) is = λ kept sum. subst (DeedFits (speaker_of plan kept object worker sum)) (sym is) tt

    halts_fit : (ending : LineEnd) (halts : List Made) → AreHalts ending halts → AllByRecursion Is halts
    halts_fit (misused misuse) halts are = each_mono (IsHalt misuse) Is (a_halt misuse) halts (recursion_from_All (IsHalt misuse) halts are)
    halts_fit whole halts are = subst (AllByRecursion Is) (sym are) tt
    halts_fit (halted misuse) halts are = subst (AllByRecursion Is) (sym are) tt
    halts_fit unfinished halts are = subst (AllByRecursion Is) (sym are) tt
    halts_fit (stayed stay) halts are = subst (AllByRecursion Is) (sym are) tt

-- each entry of a line is of its object's kind
pub line_events : (plan : Plan) (worker : ℕ) (line : Line) → IsReadable plan → worker < plan.workers → IsLineOf plan worker line → RunsAlong (get_or plan.scripts worker []) (calls_made line) line.rest
    → AllByRecursion (ItemFits plan worker) (items_of line)
line_events plan worker line readable below is runs =
    let P = ItemFits plan worker in
    let spelt = flat_map (λ (s : SpeltCall). s.items) line.spelt in
    let all = all_fit plan worker readable (line.first ++ (spelt ++ line.last)) _
    (of_line plan worker (FitsIf plan worker readable) (λ before call items answer made. each_if plan worker readable (Some call) items (λ good. of_call_at plan worker readable below before (slice_get plan.objects call.object) call refl good items answer made))
    (λ items answer made. each_if plan worker readable None items (λ good. of_opening plan worker readable items answer made)) (λ items answer made. each_if plan worker readable None items (λ good. of_closing plan worker readable items answer made)) line is runs) in
    let first = each_split P line.first (spelt ++ line.last) all in
    let rest = each_split P spelt line.last first.1 in
    each_both P line.first _ first.0 (each_both P spelt _ rest.0 (each_both P line.last line.halts rest.1 (halts_fit plan worker readable line.ending line.halts is.halts)))
