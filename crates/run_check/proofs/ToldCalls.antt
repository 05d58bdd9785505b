-- Each call on a map or an atomic among the items of a script's call is the one that the script's call makes.
use Rattle.std.proofs.Common.{◌≡◌, ℕ, zero, suc, ℤ, Bool, true, false, cond, List, [], ◌∷◌, map, Option, Some, None, slice_get, refl, sym, subst, get_or, ◌++◌}
use Rattle.std.specs.List.{AllByRecursion, flat_map, range_with_len}
use Rattle.sync_types.specs.declared.atomic_object.AtomicCall.{AtomicCall}
use Rattle.sync_types.specs.declared.atomic_object.AtomicCall.TheVariants.{Add, Load}
use Rattle.sync_types.specs.declared.atomic_object.Number.{Number}
use Rattle.sync_types.specs.declared.atomic_object.Number.TheVariants.{Int64}
use Rattle.sync_types.specs.declared.map_object.MapCall.{MapCall}
use Rattle.sync_types.specs.declared.once_call.DoReply.TheVariants as do_replies
use Rattle.sync_types.specs.declared.pool_call.PoolCall.{PoolCall}
use Rattle.sync_types.specs.declared.pool_call.PoolCall.TheVariants as pool_calls
use Rattle.sync_types.specs.declared.lock_call.RwMutexCall.{RwMutexCall}
use Rattle.sync_types.specs.declared.lock_call.RwMutexCall.TheVariants as rw_calls
use Rattle.sync_types.specs.declared.wait_call.CondCall.{CondCall}
use Rattle.sync_types.specs.declared.wait_call.CondCall.TheVariants as cond_calls
use Rattle.sync_types.specs.Renaming.{renamed_call}
use Rattle.sync_model.specs.declared.item.Item.{Item}
use Rattle.sync_model.specs.declared.item.SharedCall.{SharedCall}
use Rattle.sync_model.specs.declared.item.SharedCall.TheVariants as calls
use Rattle.sync_model.specs.declared.item.SharedReply.{SharedReply}
use Rattle.sync_model.specs.declared.journal.Entry.{Entry}
use Rattle.script_calls.specs.declared.call.Call.{Call}
use Rattle.script_calls.specs.declared.call.ComposedCall.TheVariants.{IfEqual, WaitFor, Go}
use Rattle.script_calls.specs.declared.call.Operation.{Operation}
use Rattle.script_calls.specs.declared.call.Operation.TheVariants as operations
use Rattle.script_calls.specs.declared.call.Reply.{Reply}
use Rattle.script_calls.specs.declared.call.Reply.TheVariants as replies
use Rattle.workload.specs.declared.object.ObjectKind.{ObjectKind}
use Rattle.workload.specs.declared.object.ObjectKind.TheVariants as kinds
use Rattle.workload.specs.declared.object.ObjectLine.{ObjectLine}
use Rattle.workload.specs.Keys.{key_number, keys_in}
use Rattle.workload.specs.Plan.{Plan, has_dormant, is_dormant}
use Rattle.script_calls.specs.Starts.{group_of}
use Rattle.protocols.specs.declared.once.OnceOutcome.{OnceOutcome}
use Rattle.protocols.specs.declared.once.OnceOutcome.TheVariants.{Run, Already, Ended}
use Rattle.protocols.specs.declared.once.OnceStage.{OnceStage}
use Rattle.protocols.specs.declared.once.OnceStage.TheVariants as once_stage
use Rattle.protocols.specs.declared.pool.PoolOutcome.{PoolOutcome}
use Rattle.protocols.specs.declared.pool.PoolOutcome.TheVariants.{Kept, Dropped, Item as Taken, Nothing, Swept}
use Rattle.protocols.specs.declared.step.Step.{Step}
use Rattle.pool_core.specs.declared.pool_event.PoolEvent.{PoolEvent}
use Rattle.run_record.specs.declared.entered.ObjectEvent.{ObjectEvent}
use Rattle.run_record.specs.declared.entered.ObjectReply.{ObjectReply}
use Rattle.run_record.specs.declared.made.Made.{Made}
use Rattle.run_record.specs.declared.made.Made.TheVariants.{Shared, Entered}
use Rattle.run_record.specs.AtomicKind.{adds, atomic_call}
use Rattle.run_record.specs.Calls.{SpellsCall, call_at, call_on}
use Rattle.run_record.specs.CondKind.{cond_call, wait_part}
use Rattle.run_record.specs.Lines.{IsLineOf, Line, SpeltCall, calls_made}
use Rattle.run_cuts.specs.CallsAlong.{calls_along}
use Rattle.script_calls.specs.Runs.{RunsAlong}
use Rattle.run_check.proofs.ToldPlaces.{AllOf, of_line}
use Rattle.run_record.specs.FlightKind.{flight_part}
use Rattle.run_record.specs.MapKind.{map_call, range_call, step_showing}
use Rattle.run_record.specs.Objects.{atomic_number, map_number, starts_number}
use Rattle.run_record.specs.OnceKind.{failure, goes_on_once, once_part}
use Rattle.run_record.specs.Parts.{Part, and_then, lifted, returns, stages}
use Rattle.run_record.specs.PoolKind.{found_by, found_or, looks_of, pool_call, swept_by}
use Rattle.run_record.specs.RwMutexKind.{rw_part}
use Rattle.run_record.specs.StartsKind.{closing, done_part, done_under, end_part, opening, wait_start_part, was_started}
use Rattle.run_record.specs.Record.{object_number}
use Rattle.run_record.specs.Tests.{compared, holds, tests, unless_met, waits_for}
use Rattle.record_text.proofs.EachDeed.{EachOf, by_flight, by_never, by_read, by_returns, by_then, of_entries, of_places}
use Rattle.record_text.proofs.OwnWords.{each_both}
use Rattle.run_check.specs.declared.told.placing.Asked.{Asked}
use Rattle.run_check.specs.ToldItems.{asked_at, asked_by, asked_on, ranged_at, ranged_by, ranged_on}

-- the call is the one that is asked, or the beginning of a cursor over the map that is ranged over
abbrev pub FitsCall : Option Asked → Option ℕ → SharedCall → Type 0
FitsCall asked ranged (calls.Map m call) = (a : Asked) × (asked ≡ Some a) × (a.call ≡ calls.Map m call)
FitsCall asked ranged (calls.Atomic atomic call) = (a : Asked) × (asked ≡ Some a) × (a.call ≡ calls.Atomic atomic call)
FitsCall asked ranged (calls.Begin m) = ranged ≡ Some m
FitsCall asked ranged (calls.Next begin) = Unit {0}

module _ (Q : SharedCall → Type 0) where
  -- a call on a map or an atomic is such a call
  abbrev pub Fits : Made → Type 0
  Fits (Shared x) = Q x.call
  Fits (Entered object entry) = Unit {0}

  all_units : {E R : Type 0} (entries : List (Entry E R)) → AllByRecursion (λ (entry : Entry E R). Unit {0}) entries
  all_units [] = tt
  all_units (entry ∷ entries) = (tt, all_units entries)

  only_entries : {E R : Type 0} (event : E → ObjectEvent) (reply : R → ObjectReply) (object : ℕ) (entries : List (Entry E R)) (items : List Made) → items ≡ map (λ entry. Entered object (lifted event reply entry)) entries → AllByRecursion Fits items
  only_entries event reply object entries items is = subst (AllByRecursion Fits) (sym is) (of_entries Fits event reply object entries (all_units entries))

  pub of_stages : {G O E R : Type 0} (event : E → ObjectEvent) (reply : R → ObjectReply) (event_of : G → ℕ → E) (meaning : G → R → Step G O) (object : ℕ) (from : G) → EachOf Fits (stages event reply event_of meaning object from)
  of_stages event reply event_of meaning object from items answer (entries, is, spelt) = only_entries event reply object entries items is

  of_wait : (object mutex : ℕ) → EachOf Fits (wait_part object mutex)
  of_wait object mutex = by_then Fits _ _ (of_stages _ _ _ _ object _) (λ ticket.
      by_then Fits _ _ (of_stages _ _ _ _ mutex _) (λ unlocked.
      by_then Fits _ _ (of_stages _ _ _ _ object _) (λ left.
      by_read Fits (λ locked. replies.Returned) _ (of_stages _ _ _ _ mutex _))))

  pub of_cond_call : (object mutex : ℕ) (call : CondCall) → EachOf Fits (cond_call object mutex call)
  of_cond_call object mutex cond_calls.Wait = of_wait object mutex
  of_cond_call object mutex cond_calls.Signal = by_read Fits (λ done. replies.Returned) _ (of_stages _ _ _ _ object _)
  of_cond_call object mutex cond_calls.Broadcast = by_read Fits (λ done. replies.Returned) _ (of_stages _ _ _ _ object _)

  pub of_rw_part : (object : ℕ) (call : RwMutexCall) → EachOf Fits (rw_part object call)
  of_rw_part object rw_calls.Lock = λ items answer spelt. only_entries _ _ object spelt.0 items spelt.1
  of_rw_part object rw_calls.Unlock = of_stages _ _ _ _ object _
  of_rw_part object rw_calls.TryLock = of_stages _ _ _ _ object _
  of_rw_part object rw_calls.RLock = of_stages _ _ _ _ object _
  of_rw_part object rw_calls.RUnlock = of_stages _ _ _ _ object _
  of_rw_part object rw_calls.TryRLock = of_stages _ _ _ _ object _

  module _ {T : Type 0} (part : OnceStage T → Part (OnceOutcome T)) (function : Part T) (ran returned : T → Reply ℕ) (of_part : (stage : OnceStage T) → EachOf Fits (part stage)) (of_function : EachOf Fits function) where
    of_goes_on : (outcome : OnceOutcome T) → EachOf Fits (goes_on_once part function ran returned outcome)
    of_goes_on Run = by_then Fits function _ of_function (λ value. by_read Fits (λ ended. ran value) _ (of_part (once_stage.End value)))
    of_goes_on (Already kept) = by_returns Fits (returned kept)
    of_goes_on Ended = by_never Fits

    pub of_once : EachOf Fits (once_part part function ran returned)
    of_once = by_then Fits _ _ (of_part once_stage.Begin) of_goes_on

  of_found : (rest : Part (Reply ℕ)) → EachOf Fits rest → (outcome : PoolOutcome) → EachOf Fits (found_or rest outcome)
  of_found rest each (Taken item) = by_returns Fits _
  of_found rest each Nothing = each
  of_found rest each Kept = by_never Fits
  of_found rest each (Dropped item) = by_never Fits
  of_found rest each Swept = by_never Fits

  of_looks : (worker first : ℕ) (looks : List (PoolEvent ℕ)) → EachOf Fits (found_by worker first looks)
  of_looks worker first [] = by_returns Fits _
  of_looks worker first (look ∷ looks) = by_then Fits _ _ (of_stages _ _ _ _ _ _) (of_found (found_by worker first looks) (of_looks worker first looks))

  of_sweeps : (first : ℕ) (parts : List ℕ) → EachOf Fits (swept_by first parts)
  of_sweeps first [] = by_returns Fits _
  of_sweeps first (part ∷ parts) = by_then Fits _ _ (of_stages _ _ _ _ _ _) (λ swept. of_sweeps first parts)

  pub of_pool_call : (count worker first : ℕ) (call : PoolCall) → EachOf Fits (pool_call count worker first call)
  of_pool_call count worker first (pool_calls.Put item) = by_read Fits _ _ (of_stages _ _ _ _ _ _)
  of_pool_call count worker first pool_calls.Get = of_looks worker first (looks_of count worker)
  of_pool_call count worker first pool_calls.Sweep = of_sweeps first (range_with_len 0 count)

  abbrev FitsPair : SharedCall → SharedReply → Type 0
  FitsPair call reply = Q call

  fits_item : (x : Item) → FitsPair x.call x.reply → Fits (Shared x)
  fits_item x fits = fits

  pub of_atomic : (a : ℕ) (call : AtomicCall) → Q (calls.Atomic a call) → EachOf Fits (atomic_call a call)
  of_atomic a call fits items answer (reply, places, is) = of_places Fits FitsPair fits_item _ (fits, tt) items places

  pub of_adds : (a : ℕ) (amount : ℤ) → Q (calls.Atomic a (Add (Int64 amount))) → EachOf Fits (adds a amount)
  of_adds a amount fits items answer (sum, places, is) = of_places Fits FitsPair fits_item _ (fits, tt) items places

  pub of_map : (keys : List (List ℕ)) (m : ℕ) (call : MapCall (List ℕ)) → Q (calls.Map m (renamed_call (key_number keys) call)) → EachOf Fits (map_call keys m call)
  of_map keys m call fits items answer (reply, places, is) = of_places Fits FitsPair fits_item _ (fits, tt) items places

  abbrev FitsTold : SharedCall × SharedReply → Type 0
  FitsTold pair = FitsPair pair.0 pair.1

  of_shown : (keys : List (List ℕ)) (m begin : ℕ) → ((next : ℕ) → Q (calls.Next next)) → (shown : List (ℕ × ℕ)) → AllByRecursion FitsTold (map (step_showing keys m begin) shown)
  of_shown keys m begin nexts [] = tt
  of_shown keys m begin nexts (pair ∷ shown) = (nexts begin, of_shown keys m begin nexts shown)

  of_range : (keys : List (List ℕ)) (m begin : ℕ) → Q (calls.Begin m) → ((next : ℕ) → Q (calls.Next next)) → EachOf Fits (range_call keys m begin)
  of_range keys m begin fits nexts items answer (shown, pairs, places, sorted, is) =
      of_places Fits FitsPair fits_item _ (fits, each_both FitsTold (map (step_showing keys m begin) shown) _ (of_shown keys m begin nexts shown) (nexts begin, tt)) items places

  pub of_test : (a : ℕ) (value : Number) → Q (calls.Atomic a Load) → EachOf Fits (tests a value)
  of_test a value fits = by_read Fits (holds value) _ (of_atomic a Load fits)

  of_unless_met : (next : Part Bool) → EachOf Fits next → (met : Bool) → EachOf Fits (unless_met next met)
  of_unless_met next later true = by_returns Fits true
  of_unless_met next later false = later

  pub of_waits_for : (object mutex a : ℕ) (value : Number) (tries : ℕ) → Q (calls.Atomic a Load) → EachOf Fits (waits_for object mutex a value tries)
  of_waits_for object mutex a value zero fits = of_test a value fits
  of_waits_for object mutex a value (suc tries) fits = by_then Fits _ _ (of_test a value fits) (of_unless_met _ (by_then Fits _ _ (of_wait object mutex) (λ waited. of_waits_for object mutex a value tries fits)))

  of_chosen : {O : Type 0} (b : Bool) (first second : Part O) → EachOf Fits first → EachOf Fits second → EachOf Fits (cond b first second)
  of_chosen true first second one other = one
  of_chosen false first second one other = other

  -- what stands before a script, and behind it, has no calls on maps and atomics
  pub of_opening : (plan : Plan) (worker : ℕ) → EachOf Fits (opening plan worker)
  of_opening plan worker = of_chosen (is_dormant plan worker) (wait_start_part (starts_number plan)) (returns true) (by_read Fits was_started _ (of_stages _ _ _ _ _ _)) (by_returns Fits true)

  of_done : (group : Option ℕ) → EachOf Fits (done_under group)
  of_done None = by_returns Fits tt
  of_done (Some group) = by_read Fits (λ done. tt) _ (by_read Fits (λ done. replies.Returned) _ (of_stages _ _ _ _ _ _))

  pub of_closing : (plan : Plan) (worker : ℕ) → EachOf Fits (closing plan worker)
  of_closing plan worker =
      of_chosen (has_dormant plan) (and_then (done_part plan worker) (λ done. end_part (starts_number plan))) (returns tt)
      (by_then Fits (done_part plan worker) (λ done. end_part (starts_number plan))
      (of_chosen (is_dormant plan worker) (done_under (group_of worker plan.scripts)) (returns tt) (of_done (group_of worker plan.scripts)) (by_returns Fits tt))
      (λ done. by_read Fits (λ ended. tt) _ (of_stages _ _ _ _ _ _)))
      (by_returns Fits tt)

module _ (plan : Plan) (worker before : ℕ) where
  of_call_on : (place : ℕ) (kind : ObjectKind) (operation : Operation) → EachOf (Fits (FitsCall (asked_on plan place kind operation) (ranged_on plan place kind operation))) (call_on plan worker before place kind operation)
  of_call_on place kinds.Map (operations.Map call) = of_map _ (keys_in plan.scripts) (map_number plan.objects place) call (_, refl, refl)
  of_call_on place kinds.Map operations.Range = of_range _ (keys_in plan.scripts) (map_number plan.objects place) before refl (λ next. tt)
  of_call_on place (kinds.Atomic type) (operations.Atomic call) = of_atomic _ (atomic_number plan.objects place) call (_, refl, refl)
  of_call_on place (kinds.Atomic type) (operations.Composed (IfEqual value passes)) = by_read _ compared _ (of_test _ (atomic_number plan.objects place) value (_, refl, refl))
  of_call_on place kinds.Mutex (operations.Mutex call) = by_read _ replies.Lock _ (of_stages _ _ _ _ _ _ _)
  of_call_on place kinds.RwMutex (operations.RwMutex call) = by_read _ replies.Lock _ (of_rw_part _ _ call)
  of_call_on place (kinds.Cond mutex) (operations.Cond call) = of_cond_call _ _ _ call
  of_call_on place (kinds.Cond mutex) (operations.Composed (WaitFor atomic value tries)) = by_read _ compared _ (of_waits_for _ _ _ (atomic_number plan.objects atomic) value tries (_, refl, refl))
  of_call_on place (kinds.WaitGroup start) (operations.WaitGroup call) = by_read _ (λ done. replies.Returned) _ (of_stages _ _ _ _ _ _ _)
  of_call_on place (kinds.WaitGroup start) (operations.Composed (Go started)) =
      by_then _ _ _ (by_read _ (λ done. replies.Returned) _ (of_stages _ _ _ _ _ _ _)) (λ added. by_read _ (λ started. replies.Returned) _ (of_stages _ _ _ _ _ _ _))
  of_call_on place (kinds.Once atomic delta) operations.Once =
      of_once _ _ (adds (atomic_number plan.objects atomic) delta) (λ sum. replies.Once (do_replies.Ran sum)) (λ kept. replies.Once do_replies.Done) (of_stages _ _ _ _ _ _) (of_adds _ (atomic_number plan.objects atomic) delta (_, refl, refl))
  of_call_on place (kinds.OnceFunc code) operations.OnceFunc =
      of_once _ _ (returns code) (λ kept. replies.OnceFunc (failure kept)) (λ kept. replies.OnceFunc (failure kept)) (of_stages _ _ _ _ _ _) (by_returns _ code)
  of_call_on place (kinds.OnceValue value) operations.OnceValue = of_once _ _ (returns value) replies.OnceValue replies.OnceValue (of_stages _ _ _ _ _ _) (by_returns _ value)
  of_call_on place kinds.Pool (operations.Pool call) = of_pool_call _ _ _ _ call
  of_call_on place (kinds.Sema size) (operations.Sema call) = by_read _ replies.Lock _ (of_stages _ _ _ _ _ _ _)
  of_call_on place (kinds.Flight atomic delta) (operations.Fly key) =
      by_flight _ (flight_part (object_number place)) (adds (atomic_number plan.objects atomic) delta) (of_stages _ _ _ _ _ _) (of_adds _ (atomic_number plan.objects atomic) delta (_, refl, refl)) _
  of_call_on place kind operation = λ items answer spelt. absurd spelt

  of_call_at : (object : Option ObjectLine) (call : Call) → EachOf (Fits (FitsCall (asked_at plan object call) (ranged_at plan object call))) (call_at plan worker before call.object object call.operation)
  of_call_at None call = by_never _
  of_call_at (Some object) call = of_call_on call.object object.kind call.operation

  -- each item of a call is of it
  pub of_call : (call : Call) → EachOf (Fits (FitsCall (asked_by plan (Some call)) (ranged_by plan (Some call)))) (SpellsCall plan worker before call)
  of_call call = of_call_at (slice_get plan.objects call.object) call

-- what an item of a call of the script fits, and one of none
abbrev pub FitsIn : Plan → Option Call → Made → Type 0
FitsIn plan call = Fits (FitsCall (asked_by plan call) (ranged_by plan call))

-- each item of a line is of the call of which it is told to be
pub line_fits : (plan : Plan) (worker : ℕ) (line : Line) → IsLineOf plan worker line → RunsAlong (get_or plan.scripts worker []) (calls_made line) line.rest
    → AllOf plan worker (FitsIn plan) (line.first ++ (flat_map (λ (s : SpeltCall). s.items) line.spelt ++ line.last)) (calls_along line)
line_fits plan worker line is runs = of_line plan worker (FitsIn plan) (λ before call. of_call plan worker before call) (of_opening (FitsCall None None) plan worker) (of_closing (FitsCall None None) plan worker) line is runs
