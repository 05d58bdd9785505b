-- Each object comes by the items of a turn on it to what stands behind the turn.
use Rattle.std.proofs.Common.{◌≡◌, ◌≢◌, ℕ, zero, suc, ◌*◌, Bool, true, false, cond, List, [], ◌∷◌, ◌++◌, set, Option, Some, None, refl, sym, ap, ◌∙◌, subst, append-nil}
use Rattle.std.specs.Prelude.{◌==◌, ℤ, slice_get, Result, Ok, Err}
use Rattle.std.specs.Int.{w64, int_wrapping_add}
use Rattle.std.proofs.lemmas.Bool.{eq-eqb, eqb-true, eqb-false}
use Rattle.std.proofs.lemmas.List.{map-append}
use Rattle.std.proofs.lemmas.List.Elements.{filter-append}
use Rattle.sync_model.specs.Log.{Entry, entry, after, Follows}
use Rattle.sync_types.specs.declared.atomic_object.AtomicCall.TheVariants.{Load, Add}
use Rattle.sync_types.specs.declared.atomic_object.Number.{Number}
use Rattle.sync_types.specs.declared.atomic_object.Number.TheVariants.{Int64}
use Rattle.script_calls.specs.declared.call.Call.{Call}
use Rattle.script_calls.specs.declared.call.ComposedCall.TheVariants.{IfEqual}
use Rattle.script_calls.specs.declared.call.Operation.{Operation}
use Rattle.script_calls.specs.declared.call.Operation.TheVariants as operations
use Rattle.script_calls.specs.declared.call.Reply.{Reply}
use Rattle.sync_types.specs.declared.pool_call.PoolCall.{PoolCall}
use Rattle.sync_types.specs.declared.pool_call.PoolCall.TheVariants as pool_calls
use Rattle.mutex_core.specs.MutexMachine as mutex
use Rattle.rw_core.specs.RwMachine as rw
use Rattle.wait_cores.specs.NotifyMachine as notify
use Rattle.wait_cores.specs.GroupMachine as group
use Rattle.wait_cores.specs.OnceMachine as once
use Rattle.wait_cores.specs.OnceStanding.{runs_at}
use Rattle.wait_cores.specs.declared.once.OnceEvent.{OnceEvent}
use Rattle.wait_cores.specs.declared.once.OnceReply.{OnceReply}
use Rattle.pool_core.specs.PoolMachine as pool
use Rattle.protocols.specs.CondStages.{cond_event, cond_meaning}
use Rattle.protocols.specs.GroupStages.{group_event, group_meaning}
use Rattle.protocols.specs.MutexStages.{mutex_event, mutex_meaning}
use Rattle.protocols.specs.OnceStages.{once_event, once_meaning}
use Rattle.protocols.specs.PoolStages.{pool_event}
use Rattle.protocols.specs.RwMutexStages.{rw_event, rw_meaning}
use Rattle.protocols.specs.declared.once.OnceOutcome.{OnceOutcome}
use Rattle.protocols.specs.declared.once.OnceOutcome.TheVariants.{Run, Already, Ended}
use Rattle.protocols.specs.declared.pool.PoolStage.{PoolStage}
use Rattle.protocols.specs.declared.pool.PoolStage.TheVariants as pool_stage
use Rattle.protocols.specs.declared.step.Step.{Step}
use Rattle.run_record.specs.declared.entered.ObjectEvent.{ObjectEvent}
use Rattle.run_record.specs.declared.entered.ObjectEvent.TheVariants as events
use Rattle.run_record.specs.declared.entered.ObjectReply.{ObjectReply}
use Rattle.run_record.specs.declared.entered.ObjectReply.TheVariants as answered
use Rattle.sema_core.specs.SemaMachine as sema
use Rattle.sema_core.specs.SemaStages.{sema_event, sema_meaning}
use Rattle.flight_core.specs.FlightMachine as flight
use Rattle.flight_core.specs.FlightStages.{flight_event, flight_meaning}
use Rattle.flight_core.specs.declared.calls.FlightOutcome.{FlightOutcome}
use Rattle.flight_core.specs.declared.calls.FlightOutcome.TheVariants.{Lead, Got, Landed}
use Rattle.workload.specs.Keys.{key_number}
use Rattle.step_runner.specs.declared.turns.answer.Answer.{Answer}
use Rattle.step_runner.specs.declared.turns.object_state.ObjectState.{ObjectState}
use Rattle.step_runner.specs.declared.turns.object_state.ObjectState.TheVariants as states
use Rattle.step_runner.specs.LeadsTo.{on_object, told_in, told_by, FollowsTo, CallsTo, MapGoes, AtomicGoes, LeadsTo, VarGoes}
use Rattle.step_runner.specs.Due.{mutex_due, rw_due, group_due, cond_due, once_due, looks_of, sema_due, flight_due}
use Rattle.step_runner.specs.declared.turns.item.Deed.{Deed}
use Rattle.step_runner.specs.declared.turns.item.Item.{Item}
use Rattle.step_runner.specs.Items.{stage_items, once_items, pool_item, unless_found, look_items, pool_items, items_on, add_items, items_on_both, items_at, landed_items, flight_items}
use Rattle.step_runner.specs.PoolTurn.{looked, found_or, found_by, pool_step}
use Rattle.step_runner.specs.Ready.{IsReady}
use Rattle.step_runner.specs.Stages.{make}
use Rattle.step_runner.specs.TurnAtObjects.{once_made, turn_on, turn_on_both, number_after, turn_at, flight_made, number_landed}
use Rattle.step_runner.proofs.AtObjects.{at_ready}
use Rattle.step_runner.proofs.CallAt.{items_alone, items_referring}

-- ---- one log behind another

module _ {S E R : Type 0} (next : S → ℕ → E → S × R) where
  joined_follow : (first : S) (one two : List (Entry E R)) → Follows next first one → Follows next (after next first one) two → Follows next first (one ++ two)
  joined_follow first [] two earlier later = later
  joined_follow first (e ∷ one) two earlier later = (earlier.0, joined_follow (next first e.caller e.event).0 one two earlier.1 later)

  joined_after : (first : S) (one two : List (Entry E R)) → after next first (one ++ two) ≡ after next (after next first one) two
  joined_after first [] two = refl
  joined_after first (e ∷ one) two = joined_after (next first e.caller e.event).0 one two

module _ {S E R : Type 0} (event : E → ObjectEvent) (answer : R → ObjectReply) (next : S → ℕ → E → S × R) where
  join_logs : (first middle last : S) (one two : List Item) → FollowsTo event answer next first one middle → FollowsTo event answer next middle two last → FollowsTo event answer next first (one ++ two) last
  join_logs first middle last one two (log, is, follows, to) (more, are, later, end) = (
    log ++ more,
    map-append told_in one two ∙ ((λ i. is i ++ are i) ∙ sym (map-append (told_by event answer) log more)),
    joined_follow next first log more follows (subst (λ (s : S). Follows next s more) (sym to) later),
    joined_after next first log more ∙ (ap (λ (s : S). after next s more) to ∙ end),
  )

module _ {S : Type 0} (goes : Operation → S → Reply (List ℕ) → S → Type 0) where
  join_calls : (first middle last : S) (one two : List Item) → CallsTo goes first one middle → CallsTo goes middle two last → CallsTo goes first (one ++ two) last
  join_calls first middle last [] two same later = subst (λ (s : S). CallsTo goes s two last) same later
  join_calls first middle last (item ∷ one) two (operation, reply, next, is, went, rest) later = (operation, reply, next, is, went, join_calls next middle last one two rest later)

pub comes_nowhere : (o : ObjectState) → LeadsTo o [] o
comes_nowhere (states.Map m) = refl
comes_nowhere (states.Atomic number) = refl
comes_nowhere (states.Mutex m) = ([], refl, tt, refl)
comes_nowhere (states.RwMutex m) = ([], refl, tt, refl)
comes_nowhere (states.Cond c place) = ([], refl, tt, refl)
comes_nowhere (states.WaitGroup g first) = ([], refl, tt, refl)
comes_nowhere (states.Once o place delta) = ([], refl, tt, refl)
comes_nowhere (states.OnceFunc o code) = ([], refl, tt, refl)
comes_nowhere (states.OnceValue o value) = ([], refl, tt, refl)
comes_nowhere (states.Pool p) = ([], refl, tt, refl)
comes_nowhere (states.Sema s size) = ([], refl, tt, refl)
comes_nowhere (states.Flight f keys place delta) = ([], refl, tt, refl)
comes_nowhere (states.Var held) = refl

pub comes_on : (a b c : ObjectState) (one two : List Item) → LeadsTo a one b → LeadsTo b two c → LeadsTo a (one ++ two) c
comes_on (states.Map l) (states.Map m) (states.Map n) one two first later = join_calls MapGoes l m n one two first later
comes_on (states.Atomic l) (states.Atomic m) (states.Atomic n) one two first later = join_calls AtomicGoes l m n one two first later
comes_on (states.Mutex l) (states.Mutex m) (states.Mutex n) one two first later = join_logs events.Mutex answered.Mutex mutex.next l m n one two first later
comes_on (states.RwMutex l) (states.RwMutex m) (states.RwMutex n) one two first later = join_logs events.RwMutex answered.RwMutex rw.next l m n one two first later
comes_on (states.Cond l p) (states.Cond m q) (states.Cond n r) one two first later = join_logs events.Cond answered.Cond notify.next l m n one two first later
comes_on (states.WaitGroup l p) (states.WaitGroup m q) (states.WaitGroup n r) one two first later = join_logs events.WaitGroup answered.WaitGroup group.next l m n one two first later
comes_on (states.Once l p d) (states.Once m q e) (states.Once n r f) one two first later = join_logs events.Once answered.Once once.next l m n one two first later
comes_on (states.OnceFunc l p) (states.OnceFunc m q) (states.OnceFunc n r) one two first later = join_logs events.OnceFunc answered.OnceFunc once.next l m n one two first later
comes_on (states.OnceValue l p) (states.OnceValue m q) (states.OnceValue n r) one two first later = join_logs events.OnceValue answered.OnceValue once.next l m n one two first later
comes_on (states.Pool l) (states.Pool m) (states.Pool n) one two first later = join_logs events.Pool answered.Pool pool.next l m n one two first later
comes_on (states.Sema l p) (states.Sema m q) (states.Sema n r) one two first later = join_logs events.Sema answered.Sema sema.next l m n one two first later
comes_on (states.Flight l k p d) (states.Flight m h q e) (states.Flight n j r g) one two first later = join_logs events.Flight answered.Flight flight.next l m n one two first later
comes_on (states.Var l) (states.Var m) (states.Var n) one two first later = join_calls VarGoes l m n one two first later
comes_on (states.Map m) (states.Map n) c one two first later = absurd later
comes_on (states.Map m) b c one two first later = absurd first
comes_on (states.Atomic m) (states.Atomic n) c one two first later = absurd later
comes_on (states.Atomic m) b c one two first later = absurd first
comes_on (states.Mutex m) (states.Mutex n) c one two first later = absurd later
comes_on (states.Mutex m) b c one two first later = absurd first
comes_on (states.RwMutex m) (states.RwMutex n) c one two first later = absurd later
comes_on (states.RwMutex m) b c one two first later = absurd first
comes_on (states.Cond m p) (states.Cond n q) c one two first later = absurd later
comes_on (states.Cond m p) b c one two first later = absurd first
comes_on (states.WaitGroup m p) (states.WaitGroup n q) c one two first later = absurd later
comes_on (states.WaitGroup m p) b c one two first later = absurd first
comes_on (states.Once m p d) (states.Once n q e) c one two first later = absurd later
comes_on (states.Once m p d) b c one two first later = absurd first
comes_on (states.OnceFunc m p) (states.OnceFunc n q) c one two first later = absurd later
comes_on (states.OnceFunc m p) b c one two first later = absurd first
comes_on (states.OnceValue m p) (states.OnceValue n q) c one two first later = absurd later
comes_on (states.OnceValue m p) b c one two first later = absurd first
comes_on (states.Pool m) (states.Pool n) c one two first later = absurd later
comes_on (states.Pool m) b c one two first later = absurd first
comes_on (states.Sema m p) (states.Sema n q) c one two first later = absurd later
comes_on (states.Sema m p) b c one two first later = absurd first
comes_on (states.Flight m k p d) (states.Flight n h q e) c one two first later = absurd later
comes_on (states.Flight m k p d) b c one two first later = absurd first
comes_on (states.Var m) (states.Var n) c one two first later = absurd later
comes_on (states.Var m) b c one two first later = absurd first

-- ---- a stage, and a pool's looks

module _ {S E R G O : Type 0} (event : E → ObjectEvent) (answer : R → ObjectReply) (next : S → ℕ → E → S × R) (event_of : G → ℕ → E) (meaning : G → R → Step G O) (worker moment object : ℕ) where
  stage_comes : (due : Option G) (s : S) → FollowsTo event answer next s (stage_items event answer next event_of worker moment object due s) (make next event_of meaning worker moment due s).0
  stage_comes None s = ([], refl, tt, refl)
  stage_comes (Some stage) s = (entry worker (event_of stage moment) (next s worker (event_of stage moment)).1 ∷ [], refl, (refl, tt), refl)

once_comes : {T : Type 0} (event : OnceEvent T → ObjectEvent) (answer : OnceReply T → ObjectReply) (worker moment object : ℕ) (value : T) (o : once.OnceState T)
    → FollowsTo event answer once.next o (once_items event answer worker moment object value o) (once_made worker moment value o).0
once_comes event answer worker moment object value o = stage_comes event answer once.next once_event once_meaning worker moment object (once_due value (runs_at o worker) (once.place_of o worker)) o

module _ (worker moment object : ℕ) where
  abbrev PoolComes : pool.PoolState ℕ → List Item → pool.PoolState ℕ → Type 0
  PoolComes p made q = FollowsTo events.Pool answered.Pool pool.next p made q

  -- one event first
  one_first : (stage : PoolStage) (p q : pool.PoolState ℕ) (made : List Item) → PoolComes (pool.next p worker (pool_event stage moment)).0 made q → PoolComes p (pool_item worker moment object stage p ∷ made) q
  one_first stage p q made (log, is, follows, to) =
      let e = entry worker (pool_event stage moment) (pool.next p worker (pool_event stage moment)).1 in
      (e ∷ log, ap (λ (l : List (ℕ × Deed)). told_by events.Pool answered.Pool e ∷ l) is, (refl, follows), to)

  looks_come : (looks : List PoolStage) (p : pool.PoolState ℕ) → PoolComes p (look_items worker moment object looks p) (found_by worker moment looks p).0
  looks_come [] p = ([], refl, tt, refl)
  looks_come (look ∷ looks) p = one_first look p (found_by worker moment (look ∷ looks) p).0 (unless_found worker moment object (looked worker moment look p) (look_items worker moment object looks)) (by_found (looked worker moment look p) (looks_come looks))
    where
      by_found : (step : pool.PoolState ℕ × Option ℕ) → ((q : pool.PoolState ℕ) → PoolComes q (look_items worker moment object looks q) (found_by worker moment looks q).0) → PoolComes step.0 (unless_found worker moment object step (look_items worker moment object looks)) (found_or step (found_by worker moment looks)).0
      by_found (q, Some item) later = ([], refl, tt, refl)
      by_found (q, None) later = later q

  pool_comes : (call : PoolCall) (p : pool.PoolState ℕ) → PoolComes p (pool_items worker moment object call p) (pool_step worker moment call p).0
  pool_comes (pool_calls.Put item) p = one_first (pool_stage.Put item) p (pool_step worker moment (pool_calls.Put item) p).0 [] ([], refl, tt, refl)
  pool_comes pool_calls.Sweep p = one_first pool_stage.Sweep p (pool_step worker moment pool_calls.Sweep p).0 [] ([], refl, tt, refl)
  pool_comes pool_calls.Get p = looks_come (looks_of (pool.callers_of p) worker 0 (2 * pool.callers_of p)) p

-- at an object that refers to no other
on_comes : (operation : Operation) (worker moment object : ℕ) (o : ObjectState) → LeadsTo o (items_on operation worker moment object o) (turn_on operation worker moment o).0
on_comes (operations.Map call) worker moment object (states.Map m) = (operations.Map call, _, _, refl, (refl, refl), refl)
on_comes operations.Range worker moment object (states.Map m) = (operations.Range, _, _, refl, (refl, refl), refl)
on_comes (operations.Atomic call) worker moment object (states.Atomic number) = (operations.Atomic call, _, _, refl, (refl, refl), refl)
on_comes (operations.Composed (IfEqual value passes)) worker moment object (states.Atomic number) = (operations.Atomic Load, _, _, refl, (refl, refl), refl)
on_comes (operations.Mutex call) worker moment object (states.Mutex m) = stage_comes events.Mutex answered.Mutex mutex.next mutex_event mutex_meaning worker moment object (mutex_due call (mutex.place_of m worker)) m
on_comes (operations.RwMutex call) worker moment object (states.RwMutex m) = stage_comes events.RwMutex answered.RwMutex rw.next rw_event rw_meaning worker moment object (rw_due call (rw.place_of m worker)) m
on_comes (operations.WaitGroup call) worker moment object (states.WaitGroup g first) = stage_comes events.WaitGroup answered.WaitGroup group.next group_event group_meaning worker moment object (group_due call (group.place_of g worker)) g
on_comes (operations.Sema call) worker moment object (states.Sema s size) = stage_comes events.Sema answered.Sema sema.next sema_event sema_meaning worker moment object (sema_due call (sema.place_of s worker)) s
on_comes operations.OnceFunc worker moment object (states.OnceFunc o code) = once_comes events.OnceFunc answered.OnceFunc worker moment object code o
on_comes operations.OnceValue worker moment object (states.OnceValue o value) = once_comes events.OnceValue answered.OnceValue worker moment object value o
on_comes (operations.Pool call) worker moment object (states.Pool p) = pool_comes worker moment object call p
on_comes (operations.Var call) worker moment object (states.Var held) = (operations.Var call, _, _, refl, (refl, refl), refl)
on_comes operation worker moment object o = comes_nowhere o

-- ---- which items are on which object

abbrev AllAt : ℕ → List Item → Type 0
AllAt place [] = Unit {0}
AllAt place (item ∷ made) = (item.object ≡ place) × AllAt place made

here : (place : ℕ) (made : List Item) → AllAt place made → on_object place made ≡ made
here place [] all = refl
here place (item ∷ made) all = ap (λ (b : Bool). cond b (item ∷ on_object place made) (on_object place made)) (eq-eqb item.object place all.0) ∙ ap (λ (l : List Item). item ∷ l) (here place made all.1)

elsewhere : (place k : ℕ) (made : List Item) → k ≢ place → AllAt place made → on_object k made ≡ []
elsewhere place k [] apart all = refl
elsewhere place k (item ∷ made) apart all = ap (λ (b : Bool). cond b (item ∷ on_object k made) (on_object k made)) (differs (item.object == k) refl) ∙ elsewhere place k made apart all.1
  where
    differs : (b : Bool) → (item.object == k) ≡ b → (item.object == k) ≡ false
    differs true e = absurd (apart (sym (eqb-true item.object k e) ∙ all.0))
    differs false e = e

module _ {S E R G : Type 0} (event : E → ObjectEvent) (answer : R → ObjectReply) (next : S → ℕ → E → S × R) (event_of : G → ℕ → E) (worker moment object : ℕ) where
  stage_at : (due : Option G) (s : S) → AllAt object (stage_items event answer next event_of worker moment object due s)
  stage_at None s = tt
  stage_at (Some stage) s = (refl, tt)

looks_at : (worker moment object : ℕ) (looks : List PoolStage) (p : pool.PoolState ℕ) → AllAt object (look_items worker moment object looks p)
looks_at worker moment object [] p = tt
looks_at worker moment object (look ∷ looks) p = (refl, by_found (looked worker moment look p) (looks_at worker moment object looks))
  where
    by_found : (step : pool.PoolState ℕ × Option ℕ) → ((q : pool.PoolState ℕ) → AllAt object (look_items worker moment object looks q)) → AllAt object (unless_found worker moment object step (look_items worker moment object looks))
    by_found (q, Some item) later = tt
    by_found (q, None) later = later q

pool_at : (worker moment object : ℕ) (call : PoolCall) (p : pool.PoolState ℕ) → AllAt object (pool_items worker moment object call p)
pool_at worker moment object (pool_calls.Put item) p = (refl, tt)
pool_at worker moment object pool_calls.Sweep p = (refl, tt)
pool_at worker moment object pool_calls.Get p = looks_at worker moment object (looks_of (pool.callers_of p) worker 0 (2 * pool.callers_of p)) p

on_at : (operation : Operation) (worker moment object : ℕ) (o : ObjectState) → AllAt object (items_on operation worker moment object o)
on_at (operations.Map call) worker moment object (states.Map m) = (refl, tt)
on_at operations.Range worker moment object (states.Map m) = (refl, tt)
on_at (operations.Atomic call) worker moment object (states.Atomic number) = (refl, tt)
on_at (operations.Composed (IfEqual value passes)) worker moment object (states.Atomic number) = (refl, tt)
on_at (operations.Mutex call) worker moment object (states.Mutex m) = stage_at events.Mutex answered.Mutex mutex.next mutex_event worker moment object (mutex_due call (mutex.place_of m worker)) m
on_at (operations.RwMutex call) worker moment object (states.RwMutex m) = stage_at events.RwMutex answered.RwMutex rw.next rw_event worker moment object (rw_due call (rw.place_of m worker)) m
on_at (operations.WaitGroup call) worker moment object (states.WaitGroup g first) = stage_at events.WaitGroup answered.WaitGroup group.next group_event worker moment object (group_due call (group.place_of g worker)) g
on_at (operations.Sema call) worker moment object (states.Sema s size) = stage_at events.Sema answered.Sema sema.next sema_event worker moment object (sema_due call (sema.place_of s worker)) s
on_at operations.OnceFunc worker moment object (states.OnceFunc o code) = stage_at events.OnceFunc answered.OnceFunc once.next once_event worker moment object (once_due code (runs_at o worker) (once.place_of o worker)) o
on_at operations.OnceValue worker moment object (states.OnceValue o value) = stage_at events.OnceValue answered.OnceValue once.next once_event worker moment object (once_due value (runs_at o worker) (once.place_of o worker)) o
on_at (operations.Pool call) worker moment object (states.Pool p) = pool_at worker moment object call p
on_at (operations.Var call) worker moment object (states.Var held) = (refl, tt)
on_at operation worker moment object o = tt

-- ---- at two objects: what is made is made on one or on the other, and each comes by its own

record Both (object other k : ℕ) (o target : ObjectState) (new : ObjectState × ObjectState) (made : List Item) : Type 0 where
  first : LeadsTo o (on_object object made) new.0
  second : LeadsTo target (on_object other made) new.1
  third : k ≢ object → k ≢ other → on_object k made ≡ []

-- items of two objects, one after the other
two_parts : (object other k : ℕ) (o target n t : ObjectState) (a b : List Item) → other ≢ object → AllAt object a → AllAt other b → LeadsTo o a n → LeadsTo target b t → Both object other k o target (n, t) (a ++ b)
two_parts object other k o target n t a b apart at there one two = record {
  first = subst (λ (made : List Item). LeadsTo o made n) (sym (filter-append (λ item. item.object == object) a b ∙ ((λ i. here object a at i ++ elsewhere other object b (λ same. apart (sym same)) there i) ∙ append-nil a))) one;
  second = subst (λ (made : List Item). LeadsTo target made t) (sym (filter-append (λ item. item.object == other) a b ∙ (λ i. elsewhere object other a apart at i ++ here other b there i))) two;
  third = λ ne nf. filter-append (λ item. item.object == k) a b ∙ (λ i. elsewhere object k a ne at i ++ elsewhere other k b nf there i);
}

swapped : (object other k : ℕ) (o target n t : ObjectState) (made : List Item) → Both other object k target o (t, n) made → Both object other k o target (n, t) made
swapped object other k o target n t made both = record { first = both.second; second = both.first; third = λ ne nf. both.third nf ne }

add_at : (worker other : ℕ) (delta : ℤ) (number : Number) (made : Result (OnceOutcome ℤ) Answer) → AllAt other (add_items worker other delta number made)
add_at worker other delta number (Ok Ended) = (refl, tt)
add_at worker other delta number (Ok Run) = tt
add_at worker other delta number (Ok (Already kept)) = tt
add_at worker other delta number (Err answer) = tt

add_comes : (worker other : ℕ) (delta held : ℤ) (made : Result (OnceOutcome ℤ) Answer)
    → LeadsTo (states.Atomic (Int64 held)) (add_items worker other delta (Int64 held) made) (states.Atomic (number_after made (Int64 (int_wrapping_add w64 held delta)) (Int64 held)))
add_comes worker other delta held (Ok Ended) = (operations.Atomic (Add (Int64 delta)), _, _, refl, (refl, refl), refl)
add_comes worker other delta held (Ok Run) = refl
add_comes worker other delta held (Ok (Already kept)) = refl
add_comes worker other delta held (Err answer) = refl

none_made : (object other k : ℕ) (o target : ObjectState) → Both object other k o target (o, target) []
none_made object other k o target = record { first = comes_nowhere o; second = comes_nowhere target; third = λ ne nf. refl }

sum_comes : (worker moment object other k : ℕ) (o : once.OnceState ℤ) (place : ℕ) (delta : ℤ) (number : Number) → other ≢ object
    → Both object other k (states.Once o place delta) (states.Atomic number) (turn_on_both operations.Once worker moment (states.Once o place delta) (states.Atomic number)).0 (items_on_both operations.Once worker moment object other (states.Once o place delta) (states.Atomic number))
sum_comes worker moment object other k o place delta (Int64 held) apart =
    let sum = int_wrapping_add w64 held delta in
    let made = (once_made worker moment sum o).1 in
    let n = states.Once (once_made worker moment sum o).0 place delta in
    let t = states.Atomic (number_after made (Int64 sum) (Int64 held)) in
    let adds = add_items worker other delta (Int64 held) made in
    let rest = once_items events.Once answered.Once worker moment object sum o in
    swapped object other k (states.Once o place delta) (states.Atomic (Int64 held)) n t (adds ++ rest)
    (two_parts other object k (states.Atomic (Int64 held)) (states.Once o place delta) t n adds rest (λ same. apart (sym same)) (add_at worker other delta (Int64 held) made)
    (stage_at events.Once answered.Once once.next once_event worker moment object (once_due sum (runs_at o worker) (once.place_of o worker)) o) (add_comes worker other delta held made) (once_comes events.Once answered.Once worker moment object sum o))
sum_comes worker moment object other k o place delta number apart = none_made object other k (states.Once o place delta) (states.Atomic number)

landed_at : (worker other : ℕ) (delta : ℤ) (number : Number) (made : Result FlightOutcome Answer) → AllAt other (landed_items worker other delta number made)
landed_at worker other delta number (Ok (Landed shared)) = (refl, tt)
landed_at worker other delta number (Ok Lead) = tt
landed_at worker other delta number (Ok (Got value)) = tt
landed_at worker other delta number (Err answer) = tt

landed_comes : (worker other : ℕ) (delta held : ℤ) (made : Result FlightOutcome Answer)
    → LeadsTo (states.Atomic (Int64 held)) (landed_items worker other delta (Int64 held) made) (states.Atomic (number_landed made (Int64 (int_wrapping_add w64 held delta)) (Int64 held)))
landed_comes worker other delta held (Ok (Landed shared)) = (operations.Atomic (Add (Int64 delta)), _, _, refl, (refl, refl), refl)
landed_comes worker other delta held (Ok Lead) = refl
landed_comes worker other delta held (Ok (Got value)) = refl
landed_comes worker other delta held (Err answer) = refl

fly_comes : (key : List ℕ) (worker moment object other k : ℕ) (f : flight.FlightState) (keys : List (List ℕ)) (place : ℕ) (delta : ℤ) (number : Number) → other ≢ object
    → Both object other k (states.Flight f keys place delta) (states.Atomic number) (turn_on_both (operations.Fly key) worker moment (states.Flight f keys place delta) (states.Atomic number)).0 (items_on_both (operations.Fly key) worker moment object other (states.Flight f keys place delta) (states.Atomic number))
fly_comes key worker moment object other k f keys place delta (Int64 held) apart =
    let sum = int_wrapping_add w64 held delta in
    let due = flight_due (key_number keys key) sum (flight.place_of f worker) in
    let made = flight_made worker moment (key_number keys key) sum f in
    let n = states.Flight made.0 keys place delta in
    let t = states.Atomic (number_landed made.1 (Int64 sum) (Int64 held)) in
    let adds = landed_items worker other delta (Int64 held) made.1 in
    let rest = flight_items worker moment object (key_number keys key) sum f in
    swapped object other k (states.Flight f keys place delta) (states.Atomic (Int64 held)) n t (adds ++ rest)
    (two_parts other object k (states.Atomic (Int64 held)) (states.Flight f keys place delta) t n adds rest (λ same. apart (sym same)) (landed_at worker other delta (Int64 held) made.1)
    (stage_at events.Flight answered.Flight flight.next flight_event worker moment object due f) (landed_comes worker other delta held made.1) (stage_comes events.Flight answered.Flight flight.next flight_event flight_meaning worker moment object due f))
fly_comes key worker moment object other k f keys place delta number apart = none_made object other k (states.Flight f keys place delta) (states.Atomic number)

both_come : (operation : Operation) (worker moment object other k : ℕ) (o target : ObjectState) → other ≢ object
    → Both object other k o target (turn_on_both operation worker moment o target).0 (items_on_both operation worker moment object other o target)
both_come (operations.Cond call) worker moment object other k (states.Cond c place) (states.Mutex m) apart =
    let due = cond_due call (mutex.place_of m worker) (notify.place_of c worker) in
    two_parts object other k (states.Cond c place) (states.Mutex m) (states.Cond (make notify.next cond_event cond_meaning worker moment due.0 c).0 place) (states.Mutex (make mutex.next mutex_event mutex_meaning worker moment due.1 m).0)
    (stage_items events.Cond answered.Cond notify.next cond_event worker moment object due.0 c) (stage_items events.Mutex answered.Mutex mutex.next mutex_event worker moment other due.1 m) apart
    (stage_at events.Cond answered.Cond notify.next cond_event worker moment object due.0 c) (stage_at events.Mutex answered.Mutex mutex.next mutex_event worker moment other due.1 m)
    (stage_comes events.Cond answered.Cond notify.next cond_event cond_meaning worker moment object due.0 c) (stage_comes events.Mutex answered.Mutex mutex.next mutex_event mutex_meaning worker moment other due.1 m)
both_come operations.Once worker moment object other k (states.Once o place delta) (states.Atomic number) apart = sum_comes worker moment object other k o place delta number apart
both_come (operations.Fly key) worker moment object other k (states.Flight f keys place delta) (states.Atomic number) apart = fly_comes key worker moment object other k f keys place delta number apart
both_come operation worker moment object other k o target apart = none_made object other k o target

-- ---- at all objects

abbrev pub ComesAt : Option ObjectState → List Item → Option ObjectState → Type 0
ComesAt None made None = Unit {0}
ComesAt (Some old) made (Some new) = LeadsTo old made new
ComesAt None made (Some new) = ⊥
ComesAt (Some old) made None = ⊥

stays : (o : Option ObjectState) → ComesAt o [] o
stays None = tt
stays (Some o) = comes_nowhere o

-- behind a write: at its place, and at any other
set_comes : (objects : List ObjectState) (place : ℕ) (object next : ObjectState) (made : List Item) → slice_get objects place ≡ Some object → LeadsTo object made next → ComesAt (slice_get objects place) made (slice_get (set objects place next) place)
set_comes [] place object next made at comes = absurd cc
set_comes (first ∷ objects) zero object next made at comes = let same : object ≡ first = cc in subst (λ (o : ObjectState). LeadsTo o made next) same comes
set_comes (first ∷ objects) (suc place) object next made at comes = set_comes objects place object next made at comes

set_stays : (objects : List ObjectState) (place k : ℕ) (next : ObjectState) → k ≢ place → slice_get (set objects place next) k ≡ slice_get objects k
set_stays [] place k next apart = refl
set_stays (first ∷ objects) zero zero next apart = absurd (apart refl)
set_stays (first ∷ objects) zero (suc k) next apart = refl
set_stays (first ∷ objects) (suc place) zero next apart = refl
set_stays (first ∷ objects) (suc place) (suc k) next apart = set_stays objects place k next (λ same. apart (ap suc same))

by_place : {P : Type 0} (k place : ℕ) → (k ≡ place → P) → (k ≢ place → P) → P
by_place {P = P} k place same apart = by_test (k == place) refl
  where
    by_test : (b : Bool) → (k == place) ≡ b → P
    by_test true e = same (eqb-true k place e)
    by_test false e = apart (eqb-false k place e)

pub at_comes : (workers worker : ℕ) (call : Call) (moment : ℕ) (objects : List ObjectState) → IsReady workers worker call objects
    → (k : ℕ) → ComesAt (slice_get objects k) (on_object k (items_at call worker moment objects)) (slice_get (turn_at call worker moment objects).0 k)
at_comes workers worker call moment objects r k = at_ready (λ y. ComesAt (slice_get objects k) (on_object k (items_at call worker moment objects)) (slice_get y.0 k)) workers worker call moment objects r
    (λ st.
    let new = (turn_on call.operation worker moment r.object).0 in
    let made = items_on call.operation worker moment call.object r.object in
    let at = on_at call.operation worker moment call.object r.object in
    subst (λ (made : List Item). ComesAt (slice_get objects k) (on_object k made) (slice_get (set objects call.object new) k)) (sym (items_alone call worker moment objects r.object st.at st.none))
    (by_place k call.object
    (λ same. subst (λ (p : ℕ). ComesAt (slice_get objects p) (on_object p made) (slice_get (set objects call.object new) p)) (sym same)
    (subst (λ (l : List Item). ComesAt (slice_get objects call.object) l (slice_get (set objects call.object new) call.object)) (sym (here call.object made at))
    (set_comes objects call.object r.object new made st.at (on_comes call.operation worker moment call.object r.object))))
    (λ apart. subst (λ (l : List Item). ComesAt (slice_get objects k) l (slice_get (set objects call.object new) k)) (sym (elsewhere call.object k made apart at))
    (subst (λ (o : Option ObjectState). ComesAt (slice_get objects k) [] o) (sym (set_stays objects call.object k new apart)) (stays (slice_get objects k))))))
    (λ other target st.
    let new = (turn_on_both call.operation worker moment r.object target).0 in
    let made = items_on_both call.operation worker moment call.object other r.object target in
    let both = both_come call.operation worker moment call.object other k r.object target st.apart in
    let first = set objects call.object new.0 in
    subst (λ (made : List Item). ComesAt (slice_get objects k) (on_object k made) (slice_get (set first other new.1) k)) (sym (items_referring call worker moment objects r.object other target st.at st.some st.there))
    (by_place k other
    (λ same. subst (λ (p : ℕ). ComesAt (slice_get objects p) (on_object p made) (slice_get (set first other new.1) p)) (sym same)
    (subst (λ (o : Option ObjectState). ComesAt o (on_object other made) (slice_get (set first other new.1) other)) (set_stays objects call.object other new.0 st.apart)
    (set_comes first other target new.1 (on_object other made) (set_stays objects call.object other new.0 st.apart ∙ st.there) both.second)))
    (λ apart. subst (λ (o : Option ObjectState). ComesAt (slice_get objects k) (on_object k made) o) (sym (set_stays first other k new.1 apart))
    (by_place k call.object
    (λ same. subst (λ (p : ℕ). ComesAt (slice_get objects p) (on_object p made) (slice_get first p)) (sym same)
    (set_comes objects call.object r.object new.0 (on_object call.object made) st.at both.first))
    (λ away. subst (λ (l : List Item). ComesAt (slice_get objects k) l (slice_get first k)) (sym (both.third away apart))
    (subst (λ (o : Option ObjectState). ComesAt (slice_get objects k) [] o) (sym (set_stays objects call.object k new.0 away)) (stays (slice_get objects k))))))))
