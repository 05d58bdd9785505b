-- What a turn makes is made by its worker, on objects that are there.
use Rattle.std.proofs.Common.{◌≡◌, ℕ, ℤ, zero, suc, ◌+◌, ◌*◌, ◌%◌, ◌<◌, nat_lt, Bool, true, false, if◌then◌else◌, List, [], ◌∷◌, ◌++◌, length, set, Option, Some, None, Result, Ok, slice_get, refl, sym, ◌∙◌, subst, arith, mod-lt}
use Rattle.std.specs.List.{AllByRecursion}
use Rattle.std.specs.Option.{option_map_or}
use Rattle.std.proofs.lemmas.List.{length-set}
use Rattle.std.proofs.lemmas.Option.{slice_get_within}
use Rattle.sync_types.specs.declared.atomic_object.AtomicCall.TheVariants.{Load, Add}
use Rattle.sync_types.specs.declared.atomic_object.Number.{Number}
use Rattle.sync_types.specs.declared.atomic_object.Number.TheVariants as numbers
use Rattle.sync_types.specs.declared.pool_call.PoolCall.{PoolCall}
use Rattle.sync_types.specs.declared.pool_call.PoolCall.TheVariants as pool_calls
use Rattle.script_calls.specs.declared.call.Call.{Call}
use Rattle.script_calls.specs.declared.call.ComposedCall.TheVariants.{IfEqual, WaitFor, Go}
use Rattle.script_calls.specs.declared.call.Operation.{Operation}
use Rattle.script_calls.specs.declared.call.Operation.TheVariants as operations
use Rattle.script_calls.specs.declared.call.Reply.{Reply}
use Rattle.pool_core.specs.Looks.{look}
use Rattle.pool_core.specs.PoolMachine as pool
use Rattle.pool_core.specs.declared.pool_event.PoolEvent.TheVariants as pool_events
use Rattle.mutex_core.specs.MutexMachine as mutex
use Rattle.rw_core.specs.RwMachine as rw
use Rattle.wait_cores.specs.GroupMachine as group
use Rattle.wait_cores.specs.NotifyMachine as notify
use Rattle.wait_cores.specs.OnceMachine as once
use Rattle.sema_core.specs.SemaMachine as sema
use Rattle.sema_core.specs.SemaStages.{sema_event}
use Rattle.flight_core.specs.FlightMachine as flight
use Rattle.flight_core.specs.FlightStages.{flight_event}
use Rattle.flight_core.specs.declared.calls.FlightOutcome.{FlightOutcome}
use Rattle.flight_core.specs.declared.calls.FlightOutcome.TheVariants.{Landed}
use Rattle.protocols.specs.CondStages.{cond_event}
use Rattle.protocols.specs.GroupStages.{group_event}
use Rattle.protocols.specs.MutexStages.{mutex_event}
use Rattle.protocols.specs.OnceStages.{once_event}
use Rattle.protocols.specs.PoolStages.{pool_event}
use Rattle.protocols.specs.RwMutexStages.{rw_event}
use Rattle.protocols.specs.declared.once.OnceOutcome.{OnceOutcome}
use Rattle.protocols.specs.declared.once.OnceOutcome.TheVariants.{Ended}
use Rattle.protocols.specs.declared.pool.PoolStage.{PoolStage}
use Rattle.run_record.specs.PoolKind.{stage_of}
use Rattle.workload.specs.Keys.{key_number}
use Rattle.workload.specs.Plan.{Plan, has_dormant, reference_of}
use Rattle.run_record.specs.declared.entered.ObjectEvent.{ObjectEvent}
use Rattle.run_record.specs.declared.entered.ObjectEvent.TheVariants as events
use Rattle.run_record.specs.declared.entered.ObjectReply.{ObjectReply}
use Rattle.run_record.specs.declared.entered.ObjectReply.TheVariants as answered
use Rattle.step_runner.specs.declared.turns.answer.Answer.{Answer}
use Rattle.step_runner.specs.declared.turns.answer.Answer.TheVariants as answers
use Rattle.step_runner.specs.declared.turns.item.Item.{Item}
use Rattle.step_runner.specs.declared.turns.object_state.ObjectState.{ObjectState}
use Rattle.step_runner.specs.declared.turns.object_state.ObjectState.TheVariants as states
use Rattle.step_runner.specs.Due.{looks_of, cond_due}
use Rattle.step_runner.specs.Items.{stage_items, once_items, unless_found, look_items, pool_items, placed_at, items_on, add_items, sum_items, landed_items, flight_items, fly_items, items_on_both, items_by, items_at}
use Rattle.step_runner.specs.Objects.{kind_of}
use Rattle.step_runner.specs.PoolTurn.{looked}
use Rattle.step_runner.specs.TurnAtObjects.{with_both, turn_on, turn_on_both, turn_by, turn_at, once_made, flight_made}
use Rattle.step_runner.specs.TurnWithin.{wait_on, load_of, add_one, is_met, unless_last_items, unless_met_items, look_items as looks_at, behind_wait_items, wait_for_items, start_item, start_items, items_by_operation, items_within}
use Rattle.scheduled_record.specs.ItemsOf.{NamesPart, HasPool, IsEventOn, has_key, AreItemsOf}

pub both : (plan : Plan) (items more : List Item) → AreItemsOf plan items → AreItemsOf plan more → AreItemsOf plan (items ++ more)
both plan [] more first second = second
both plan (item ∷ items) more first second = (first.0, both plan items more first.1 second)

-- whether the operation is a pool's
abbrev pub IsOfPool : Operation → Type 0
IsOfPool (operations.Pool call) = Unit {0}
IsOfPool operation = ⊥

-- a pool on which a call is made has a part for each worker
abbrev pub PoolFits : Plan → Operation → ℕ → ObjectState → Type 0
PoolFits plan operation object o = (p : pool.PoolState ℕ) → o ≡ states.Pool p → IsOfPool operation → HasPool plan object × (pool.callers_of p ≡ plan.workers)

-- a `go` is one where some worker waits to be started, and a call on a map is at a key of the workload's
abbrev pub IsCallOf : Plan → Operation → Type 0
IsCallOf plan (operations.Composed (Go started)) = has_dormant plan ≡ true
IsCallOf plan (operations.Map call) = has_key plan (operations.Map call) ≡ true
IsCallOf plan operation = Unit {0}

module _ (plan : Plan) (worker moment : ℕ) (within : worker < plan.workers) where
  -- the event of a stage, if one is due
  stage_in : {S E R G : Type 0} (event : E → ObjectEvent) (answer : R → ObjectReply) (next : S → ℕ → E → S × R) (event_of : G → ℕ → E) (object : ℕ) (due : Option G) (s : S) → ((e : E) → IsEventOn plan object (event e))
      → AreItemsOf plan (stage_items event answer next event_of worker moment object due s)
  stage_in event answer next event_of object None s on = tt
  stage_in event answer next event_of object (Some stage) s on = (record { caller = within; on = on (event_of stage moment) }, tt)

  placed_in : (object : ℕ) → object < length plan.objects → (operation : Operation) → has_key plan operation ≡ true → (reply : Reply (List ℕ)) → AreItemsOf plan (placed_at worker object operation reply)
  placed_in object there operation key reply = (record { caller = within; on = (there, key) }, tt)

  -- ---- a pool

  abbrev IsStageIn : PoolStage → Type 0
  IsStageIn stage = NamesPart plan.workers (pool_event stage moment)

  looks_in : (object : ℕ) → HasPool plan object → (looks : List PoolStage) (p : pool.PoolState ℕ) → AllByRecursion IsStageIn looks → AreItemsOf plan (look_items worker moment object looks p)
  looks_in object there [] p all = tt
  looks_in object there (one ∷ looks) p all = (record { caller = within; on = (there, all.0) }, rest (looked worker moment one p) (λ q. looks_in object there looks q all.1)) where
    rest : (x : pool.PoolState ℕ × Option ℕ) → ((q : pool.PoolState ℕ) → AreItemsOf plan (look_items worker moment object looks q)) → AreItemsOf plan (unless_found worker moment object x (look_items worker moment object looks))
    rest (q, Some item) each = tt
    rest (q, None) each = each q

  a_look : (number : ℕ) → IsStageIn (stage_of (look plan.workers worker number))
  a_look zero = tt
  a_look (suc k) = chosen (nat_lt (suc k) plan.workers) where
    part : (worker + suc k) % plan.workers < plan.workers
    part = mod-lt (worker + suc k) (omega arith)

    chosen : (b : Bool) → IsStageIn (stage_of (if b then pool_events.LookOther ((worker + suc k) % plan.workers) else pool_events.LookVictim ((worker + suc k) % plan.workers)))
    chosen true = part
    chosen false = part

  all_looks : (first count : ℕ) → AllByRecursion IsStageIn (looks_of plan.workers worker first count)
  all_looks first zero = tt
  all_looks first (suc count) = (a_look first, all_looks (first + 1) count)

  pool_in : (object : ℕ) (call : PoolCall) (p : pool.PoolState ℕ) → HasPool plan object → pool.callers_of p ≡ plan.workers → AreItemsOf plan (pool_items worker moment object call p)
  pool_in object (pool_calls.Put item) p there callers = (record { caller = within; on = (there, tt) }, tt)
  pool_in object pool_calls.Sweep p there callers = (record { caller = within; on = (there, tt) }, tt)
  pool_in object pool_calls.Get p there callers =
      subst (λ (n : ℕ). AreItemsOf plan (look_items worker moment object (looks_of n worker 0 (2 * n)) p)) (sym callers) (looks_in object there (looks_of plan.workers worker 0 (2 * plan.workers)) p (all_looks 0 (2 * plan.workers)))

  -- ---- at the objects

  on_in : (operation : Operation) (object : ℕ) (o : ObjectState) → object < length plan.objects → PoolFits plan operation object o → IsCallOf plan operation → AreItemsOf plan (items_on operation worker moment object o)
  on_in (operations.Map call) object (states.Map m) there fits goes = placed_in object there (operations.Map call) goes _
  on_in operations.Range object (states.Map m) there fits goes = placed_in object there operations.Range refl _
  on_in (operations.Atomic call) object (states.Atomic number) there fits goes = placed_in object there (operations.Atomic call) refl _
  on_in (operations.Composed (IfEqual value passes)) object (states.Atomic number) there fits goes = placed_in object there (operations.Atomic Load) refl _
  on_in (operations.Mutex call) object (states.Mutex m) there fits goes = stage_in events.Mutex answered.Mutex mutex.next mutex_event object _ m (λ e. there)
  on_in (operations.RwMutex call) object (states.RwMutex m) there fits goes = stage_in events.RwMutex answered.RwMutex rw.next rw_event object _ m (λ e. there)
  on_in (operations.WaitGroup call) object (states.WaitGroup g first) there fits goes = stage_in events.WaitGroup answered.WaitGroup group.next group_event object _ g (λ e. there)
  on_in (operations.Sema call) object (states.Sema s size) there fits goes = stage_in events.Sema answered.Sema sema.next sema_event object _ s (λ e. there)
  on_in operations.OnceFunc object (states.OnceFunc o code) there fits goes = stage_in events.OnceFunc answered.OnceFunc once.next once_event object _ o (λ e. there)
  on_in operations.OnceValue object (states.OnceValue o value) there fits goes = stage_in events.OnceValue answered.OnceValue once.next once_event object _ o (λ e. there)
  on_in (operations.Pool call) object (states.Pool p) there fits goes = pool_in object call p (fits p refl tt).0 (fits p refl tt).1
  on_in (operations.Var call) object (states.Var held) there fits goes = placed_in object there (operations.Var call) refl _
  on_in operation object o there fits goes = tt

  adds_in : (other : ℕ) (delta : ℤ) (number : Number) (made : Result (OnceOutcome ℤ) Answer) → other < length plan.objects → AreItemsOf plan (add_items worker other delta number made)
  adds_in other delta number (Ok Ended) here = placed_in other here (operations.Atomic (Add (numbers.Int64 delta))) refl _
  adds_in other delta number made here = tt

  sums_in : (object other : ℕ) (o : once.OnceState ℤ) (delta : ℤ) (number sum : Number) → object < length plan.objects → other < length plan.objects → AreItemsOf plan (sum_items worker moment object other o delta number sum)
  sums_in object other o delta number (numbers.Int64 sum) there here = both plan (add_items worker other delta number (once_made worker moment sum o).1) (once_items events.Once answered.Once worker moment object sum o) (adds_in other delta number (once_made worker moment sum o).1 here) (stage_in events.Once answered.Once once.next once_event object _ o (λ e. there))
  sums_in object other o delta number sum there here = tt

  landed_in : (other : ℕ) (delta : ℤ) (number : Number) (made : Result FlightOutcome Answer) → other < length plan.objects → AreItemsOf plan (landed_items worker other delta number made)
  landed_in other delta number (Ok (Landed shared)) here = placed_in other here (operations.Atomic (Add (numbers.Int64 delta))) refl _
  landed_in other delta number made here = tt

  fly_in : (key object other : ℕ) (f : flight.FlightState) (delta : ℤ) (number sum : Number) → object < length plan.objects → other < length plan.objects → AreItemsOf plan (fly_items key worker moment object other f delta number sum)
  fly_in key object other f delta number (numbers.Int64 sum) there here = both plan (landed_items worker other delta number (flight_made worker moment key sum f).1) (flight_items worker moment object key sum f) (landed_in other delta number (flight_made worker moment key sum f).1 here) (stage_in events.Flight answered.Flight flight.next flight_event object _ f (λ e. there))
  fly_in key object other f delta number sum there here = tt

  both_in : (operation : Operation) (object other : ℕ) (o target : ObjectState) → object < length plan.objects → other < length plan.objects → AreItemsOf plan (items_on_both operation worker moment object other o target)
  both_in (operations.Cond call) object other (states.Cond c place) (states.Mutex m) there here =
      let due = cond_due call (mutex.place_of m worker) (notify.place_of c worker) in
      both plan (stage_items events.Cond answered.Cond notify.next cond_event worker moment object due.0 c) (stage_items events.Mutex answered.Mutex mutex.next mutex_event worker moment other due.1 m)
      (stage_in events.Cond answered.Cond notify.next cond_event object due.0 c (λ e. there)) (stage_in events.Mutex answered.Mutex mutex.next mutex_event other due.1 m (λ e. here))
  both_in operations.Once object other (states.Once o place delta) (states.Atomic number) there here = sums_in object other o delta number _ there here
  both_in (operations.Fly key) object other (states.Flight f keys place delta) (states.Atomic number) there here = fly_in (key_number keys key) object other f delta number _ there here
  both_in operation object other o target there here = tt

  module _ (objects : List ObjectState) (long : length objects ≡ length plan.objects) where
    there : (place : ℕ) (o : ObjectState) → slice_get objects place ≡ Some o → place < length plan.objects
    there place o at = let within : place < length objects = slice_get_within objects place o at in subst (λ (n : ℕ). place < n) long within

    by_in : (reference : Option ℕ) (call : Call) (o : ObjectState) → slice_get objects call.object ≡ Some o → PoolFits plan call.operation call.object o → IsCallOf plan call.operation → AreItemsOf plan (items_by reference call worker moment objects o)
    by_in None call o at fits goes = on_in call.operation call.object o (there call.object o at) fits goes
    by_in (Some other) call o at fits goes = chosen (slice_get objects other) refl where
      chosen : (target : Option ObjectState) → slice_get objects other ≡ target → AreItemsOf plan (option_map_or (λ target. items_on_both call.operation worker moment call.object other o target) target [])
      chosen None at_other = tt
      chosen (Some target) at_other = both_in call.operation call.object other o target (there call.object o at) (there other target at_other)

    pub at_in : (call : Call) → IsCallOf plan call.operation → ((o : ObjectState) → slice_get objects call.object ≡ Some o → PoolFits plan call.operation call.object o) → AreItemsOf plan (items_at call worker moment objects)
    at_in call goes fits = chosen (slice_get objects call.object) refl where
      chosen : (o : Option ObjectState) → slice_get objects call.object ≡ o → AreItemsOf plan (option_map_or (λ object. items_by (reference_of (kind_of object)) call worker moment objects object) o [])
      chosen None at = tt
      chosen (Some o) at = by_in (reference_of (kind_of o)) call o at (fits o at) goes

    -- a turn takes no object away
    turn_long : (call : Call) → length (turn_at call worker moment objects).0 ≡ length objects
    turn_long call = chosen (slice_get objects call.object) where
      by_target : (o : ObjectState) (other : ℕ) (target : Option ObjectState)
          → length (option_map_or {U = List ObjectState × Answer} (λ (target : ObjectState). with_both call.object other objects (turn_on_both call.operation worker moment o target)) target (objects, answers.Still)).0 ≡ length objects
      by_target o other None = refl
      by_target o other (Some target) = length-set (set objects call.object (turn_on_both call.operation worker moment o target).0.0) other (turn_on_both call.operation worker moment o target).0.1 ∙ length-set objects call.object (turn_on_both call.operation worker moment o target).0.0

      by_reference : (reference : Option ℕ) (o : ObjectState) → length (turn_by reference call worker moment objects o).0 ≡ length objects
      by_reference None o = length-set objects call.object (turn_on call.operation worker moment o).0
      by_reference (Some other) o = by_target o other (slice_get objects other)

      chosen : (o : Option ObjectState) → length (option_map_or {U = List ObjectState × Answer} (λ (object : ObjectState). turn_by (reference_of (kind_of object)) call worker moment objects object) o (objects, answers.Still)).0 ≡ length objects
      chosen None = refl
      chosen (Some o) = by_reference (reference_of (kind_of o)) o

  -- ---- a `waitfor`

  module _ (cond atomic : ℕ) (value : Number) (tries : ℕ) where
    last_in : (b : Bool) (objects : List ObjectState) → length objects ≡ length plan.objects → AreItemsOf plan (unless_last_items worker moment cond atomic value tries b objects)
    last_in true objects long = tt
    last_in false objects long = at_in objects long (wait_on cond) tt (λ o at p same of. absurd of)

    met_in : (b : Bool) (begun : ℕ) (objects : List ObjectState) → length objects ≡ length plan.objects → AreItemsOf plan (unless_met_items worker moment cond atomic value tries b begun objects)
    met_in true begun objects long = tt
    met_in false begun objects long = last_in _ objects long

    look_in : (begun : ℕ) (objects : List ObjectState) → length objects ≡ length plan.objects → AreItemsOf plan (looks_at worker moment cond atomic value tries begun objects)
    look_in begun objects long = both plan (items_at (load_of atomic) worker moment objects) (unless_met_items worker moment cond atomic value tries (is_met atomic value objects) begun objects) (at_in objects long (load_of atomic) tt (λ o at p same of. absurd of)) (met_in (is_met atomic value objects) begun objects long)

    behind_in : (begun : ℕ) (x : List ObjectState × Answer) → length x.0 ≡ length plan.objects → AreItemsOf plan (behind_wait_items worker moment cond atomic value tries begun x)
    behind_in begun (objects, answers.Completed reply) long = look_in begun objects long
    behind_in begun (objects, answers.Still) long = tt
    behind_in begun (objects, answers.Unfinished) long = tt
    behind_in begun (objects, answers.Misused misuse) long = tt

    wait_for_in : (begun : ℕ) (objects : List ObjectState) → length objects ≡ length plan.objects → AreItemsOf plan (wait_for_items worker moment cond atomic value tries begun objects)
    wait_for_in zero objects long = look_in zero objects long
    wait_for_in (suc begun) objects long = both plan (items_at (wait_on cond) worker moment objects) (behind_wait_items worker moment cond atomic value tries (suc begun) (turn_at (wait_on cond) worker moment objects)) (at_in objects long (wait_on cond) tt (λ o at p same of. absurd of)) (behind_in (suc begun) (turn_at (wait_on cond) worker moment objects) (turn_long objects long (wait_on cond) ∙ long))

  -- ---- a turn

  starts_in : (answer : Answer) (count started : ℕ) → has_dormant plan ≡ true → AreItemsOf plan (start_items answer (start_item worker count started))
  starts_in answers.Still count started some = tt
  starts_in answers.Unfinished count started some = tt
  starts_in (answers.Completed reply) count started some = (record { caller = within; on = some }, tt)
  starts_in (answers.Misused misuse) count started some = tt

  module _ (call : Call) (begun : ℕ) (objects : List ObjectState) (long : length objects ≡ length plan.objects) (fits : (operation : Operation) (o : ObjectState) → slice_get objects call.object ≡ Some o → PoolFits plan operation call.object o) where
    by_operation : (operation : Operation) → call.operation ≡ operation → IsCallOf plan operation → AreItemsOf plan (items_by_operation call worker moment begun objects operation)
    by_operation (operations.Composed (WaitFor atomic value tries)) same goes = wait_for_in call.object atomic value tries begun objects long
    by_operation (operations.Composed (Go started)) same goes = both plan (items_at (add_one call.object) worker moment objects) (start_items (turn_at (add_one call.object) worker moment objects).1 (start_item worker (length objects) started)) (at_in objects long (add_one call.object) tt (λ o at p is of. absurd of)) (starts_in (turn_at (add_one call.object) worker moment objects).1 (length objects) started goes)
    by_operation operation same goes = at_in objects long call (subst (λ (operation : Operation). IsCallOf plan operation) (sym same) goes) (λ o at. fits call.operation o at)

    pub within_in : IsCallOf plan call.operation → AreItemsOf plan (items_within call worker moment begun objects)
    within_in goes = by_operation call.operation refl goes
