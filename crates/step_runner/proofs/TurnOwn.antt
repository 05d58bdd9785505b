-- A worker's own turn at the objects of its call.
use Rattle.std.proofs.Common.{◌≡◌, ℕ, ◌+◌, ◌<◌, true, false, List, [], ◌∷◌, ◌++◌, map, length, Option, Some, None, refl, sym, ap, ◌∙◌, subst, arith, append-nil}
use Rattle.std.specs.Prelude.{ℤ, Ok, Err, Result}
use Rattle.std.specs.FinMap.{entries}
use Rattle.std.specs.Int.{w64, int_wrapping_add}
use Rattle.sync_types.specs.SequentialAtomic.{is_same, atomic_reply}
use Rattle.sync_types.specs.SequentialMap.{map_reply}
use Rattle.sync_model.specs.declared.answer.Answer.TheVariants.{Done}
use Rattle.sync_types.specs.declared.atomic_object.AtomicCall.TheVariants.{Load, Add}
use Rattle.sync_types.specs.declared.atomic_object.AtomicReply.TheVariants.{Held}
use Rattle.sync_types.specs.declared.atomic_object.Number.{Number}
use Rattle.sync_types.specs.declared.atomic_object.Number.TheVariants.{Int64}
use Rattle.script_calls.specs.declared.call.ComposedCall.TheVariants.{IfEqual, WaitFor, Go}
use Rattle.script_calls.specs.declared.call.Operation.{Operation}
use Rattle.script_calls.specs.declared.call.Operation.TheVariants as operations
use Rattle.script_calls.specs.declared.call.Reply.TheVariants as replies
use Rattle.sync_types.specs.declared.once_call.DoReply.TheVariants as do_replies
use Rattle.sync_types.specs.declared.wait_call.CondCall.{CondCall}
use Rattle.sync_types.specs.declared.wait_call.CondCall.TheVariants as cond_calls
use Rattle.mutex_core.specs.MutexMachine as mutex
use Rattle.rw_core.specs.RwMachine as rw
use Rattle.wait_cores.specs.NotifyMachine as notify
use Rattle.wait_cores.specs.GroupEventsLeft.{group_left}
use Rattle.wait_cores.specs.GroupMachine as group
use Rattle.wait_cores.specs.OnceMachine as once
use Rattle.sema_core.specs.SemaEventsLeft.{sema_left}
use Rattle.sema_core.specs.SemaMachine as sema
use Rattle.sema_core.specs.SemaStages.{sema_event, sema_meaning}
use Rattle.flight_core.specs.FlightMachine as flight
use Rattle.wait_cores.specs.OnceStanding as once_standing
use Rattle.wait_cores.specs.declared.once.OnceEvent.{OnceEvent}
use Rattle.wait_cores.specs.declared.once.OnceReply.{OnceReply}
use Rattle.protocols.specs.GroupStages.{group_event, group_meaning}
use Rattle.protocols.specs.OnceStages.{once_event}
use Rattle.protocols.specs.declared.once.OnceOutcome.{OnceOutcome}
use Rattle.protocols.specs.declared.once.OnceOutcome.TheVariants.{Run, Already, Ended}
use Rattle.protocols.specs.declared.once.OnceStage.{OnceStage}
use Rattle.run_record.specs.AtomicKind.{adds}
use Rattle.run_record.specs.MapKind.{cursor_showing, range_call}
use Rattle.run_record.specs.Objects.{map_number, atomic_number, first_part}
use Rattle.run_record.specs.OnceKind.{failure}
use Rattle.run_record.specs.Parts.{returns}
use Rattle.run_record.specs.PoolKind.{pool_call}
use Rattle.run_record.specs.Record.{object_number, shared_in}
use Rattle.run_record.specs.declared.entered.ObjectEvent.{ObjectEvent}
use Rattle.run_record.specs.declared.entered.ObjectEvent.TheVariants as events
use Rattle.run_record.specs.declared.entered.ObjectReply.{ObjectReply}
use Rattle.run_record.specs.declared.entered.ObjectReply.TheVariants as answered
use Rattle.run_record.specs.declared.made.Made.{Made}
use Rattle.workload.specs.Draft.{all_keys, is_access_operation}
use Rattle.workload.specs.Keys.{keys_in, key_number}
use Rattle.workload.specs.Plan.{Plan, has_call, is_target, reference_of}
use Rattle.step_runner.specs.declared.turns.answer.Answer.{Answer}
use Rattle.step_runner.specs.declared.turns.answer.Answer.TheVariants as answers
use Rattle.step_runner.specs.declared.turns.object_state.ObjectState.{ObjectState}
use Rattle.step_runner.specs.declared.turns.object_state.ObjectState.TheVariants as states
use Rattle.step_runner.specs.Due as due
use Rattle.step_runner.specs.Items.{stage_items, add_items, items_on, items_on_both}
use Rattle.step_runner.specs.MapKeys.{HasObjectKeysIn}
use Rattle.step_runner.specs.Objects.{kind_of, IsMachineOf}
use Rattle.step_runner.specs.Stands.{may_wait, IsOutAt}
use Rattle.step_runner.specs.TurnAtObjects.{once_made, turn_on, turn_on_both}
use Rattle.step_runner.specs.Left.{left_on, left_on_both}
use Rattle.step_runner.specs.Recorded.{recorded, made_shared, shared_calls, recorded_event, made_on}
use Rattle.step_runner.specs.Tells.{Tells}
use Rattle.step_runner.specs.Within.{IsIdle, StandsAtOnce, StandsOn, StandsOnBoth}
use Rattle.step_runner.proofs.CondSpelled.{CondBehind, CondStandsAt, cond_tells}
use Rattle.step_runner.proofs.FlightSpelled.{flight_tells}
use Rattle.step_runner.proofs.SpellingLaws.{Laws}
use Rattle.step_runner.proofs.KindTurns.{Behind, kind_tells}
use Rattle.step_runner.proofs.MutexSpelled.{mutex_tells}
use Rattle.step_runner.proofs.PlacedSpelled.{places, range_sorted}
use Rattle.step_runner.proofs.PoolSpelled.{pool_whole, whole_tells}
use Rattle.step_runner.proofs.RwSpelled.{rw_tells, stands_fit, stands_on}
use Rattle.step_runner.proofs.WaitSpelled.{before_end, due_made, once_tells}
use Rattle.step_runner.proofs.Refuted.{no}

-- where the worker stands behind its turn, at the call's object
abbrev pub BehindOn : Operation → ℕ → Answer → ObjectState → Type 0
BehindOn operation x a o = Behind (StandsOn operation x o) (IsIdle x o) a

behind : (operation : Operation) (x : ℕ) (a : Answer) (o : ObjectState) → StandsOn operation x o → IsIdle x o → BehindOn operation x a o
behind operation x answers.Still o stands idle = stands
behind operation x answers.Unfinished o stands idle = stands
behind operation x (answers.Completed reply) o stands idle = idle
behind operation x (answers.Misused misuse) o stands idle = tt

-- the items of a once's stage, in a record
due_recorded : {T : Type 0} (event : OnceEvent T → ObjectEvent) (answer : OnceReply T → ObjectReply) (plan : Plan) (place worker moment before : ℕ) (stage : Option (OnceStage T)) (o : once.OnceState T)
    → ((e : OnceEvent T) (r : OnceReply T) → recorded_event plan place worker (event e) (answer r) ≡ made_on plan (object_number place) worker (event e) (answer r) ∷ [])
    → recorded plan before (stage_items event answer once.next once_event worker moment place stage o) ≡ due_made event answer place worker moment stage o
due_recorded event answer plan place worker moment before None o one = refl
due_recorded event answer plan place worker moment before (Some stage) o one = ap (λ (l : List Made). l ++ []) (one _ _)

-- a function that does nothing has no items
nothing_first : {T : Type 0} (made : Result (OnceOutcome T) Answer) (rest : List Made) → before_end [] made ++ rest ≡ rest
nothing_first (Ok Run) rest = refl
nothing_first (Ok (Already kept)) rest = refl
nothing_first (Ok Ended) rest = refl
nothing_first (Err a) rest = refl

-- an object with a call of a cond, of a once or of flights refers to another one
pub cond_refers : (o : ObjectState) (call : CondCall) → has_call (kind_of o) (operations.Cond call) ≡ true → reference_of (kind_of o) ≡ None → ⊥
cond_refers (states.Cond c place) call has alone = cc
cond_refers o call has alone = no has

pub once_refers : (o : ObjectState) → has_call (kind_of o) operations.Once ≡ true → reference_of (kind_of o) ≡ None → ⊥
once_refers (states.Once o place delta) has alone = cc
once_refers o has alone = no has

pub fly_refers : (o : ObjectState) (key : List ℕ) → has_call (kind_of o) (operations.Fly key) ≡ true → reference_of (kind_of o) ≡ None → ⊥
fly_refers (states.Flight f keys place delta) key has alone = cc
fly_refers o key has alone = no has

-- no object alone has a `waitfor`
pub wait_for_alone : (o : ObjectState) (atomic tries : ℕ) (value : Number) → has_call (kind_of o) (operations.Composed (WaitFor atomic value tries)) ≡ true → ⊥
wait_for_alone (states.Atomic number) atomic tries value has = no has
wait_for_alone o atomic tries value has = no has

-- nor a `go`
pub go_alone : (o : ObjectState) (started : ℕ) → has_call (kind_of o) (operations.Composed (Go started)) ≡ true → ⊥
go_alone (states.Atomic number) started has = no has
go_alone o started has = no has

-- where the worker stands behind its turn at two objects
abbrev pub BehindBoth : Operation → ℕ → Answer → ObjectState → ObjectState → Type 0
BehindBoth operation x a o target = Behind (StandsOnBoth operation x o target) (IsIdle x o) a

cond_stands : (call : CondCall) (x at : ℕ) (c : notify.NotifyState) (m : mutex.State) → StandsOnBoth (operations.Cond call) x (states.Cond c at) (states.Mutex m) → CondStandsAt x call c m
cond_stands cond_calls.Wait x at c m stands = stands
cond_stands cond_calls.Signal x at c m stands = stands
cond_stands cond_calls.Broadcast x at c m stands = stands

cond_behind : (call : CondCall) (x at : ℕ) (c : notify.NotifyState) (m : mutex.State) (a : Answer) → CondBehind call x c m a → BehindBoth (operations.Cond call) x a (states.Cond c at) (states.Mutex m)
cond_behind cond_calls.Wait x at c m a is = is
cond_behind cond_calls.Signal x at c m a is = is
cond_behind cond_calls.Broadcast x at c m a is = is

-- an object that refers to another one, and has the call, is a cond with its mutex, or a once or a group of flights with its int64
abbrev pub Pair : Operation → ObjectState → ObjectState → Type 0
Pair (operations.Cond call) (states.Cond c at) (states.Mutex m) = Unit {0}
Pair operations.Once (states.Once o at delta) (states.Atomic (Int64 held)) = Unit {0}
Pair (operations.Fly key) (states.Flight f keys at delta) (states.Atomic (Int64 held)) = Unit {0}
Pair operation o target = ⊥

pub only_pairs : (o : ObjectState) (operation : Operation) (target : ObjectState) → has_call (kind_of o) operation ≡ true → is_target (kind_of o) (kind_of target) ≡ true → Pair operation o target
only_pairs (states.Cond c at) (operations.Cond call) (states.Mutex m) has is = tt
only_pairs (states.Cond c at) (operations.Cond call) target has is = no is
only_pairs (states.Cond c at) operation target has is = no has
only_pairs (states.Once o at delta) operations.Once (states.Atomic (Int64 held)) has is = tt
only_pairs (states.Once o at delta) operations.Once (states.Atomic number) has is = no is
only_pairs (states.Once o at delta) operations.Once target has is = no is
only_pairs (states.Once o at delta) operation target has is = no has
only_pairs (states.Flight f keys at delta) (operations.Fly key) (states.Atomic (Int64 held)) has is = tt
only_pairs (states.Flight f keys at delta) (operations.Fly key) (states.Atomic number) has is = no is
only_pairs (states.Flight f keys at delta) (operations.Fly key) target has is = no is
only_pairs (states.Flight f keys at delta) operation target has is = no has
only_pairs o operation target has is = no is

module _ (laws : Laws) (plan : Plan) (worker before place moment : ℕ) where
  abbrev pub OwnOn : Operation → ObjectState → ObjectState × Answer → List Made → Type 0
  OwnOn operation o step made =
      Tells plan (left_on plan worker before place operation o) (left_on plan worker (before + length (shared_in made)) place operation step.0) made step.1 × BehindOn operation worker step.1 step.0

  abbrev OwnTurn : Operation → ObjectState → Type 0
  OwnTurn operation o = OwnOn operation o (turn_on operation worker moment o) (recorded plan before (items_on operation worker moment place o))

  func_own : (o : once.OnceState ℕ) (code : ℕ) → StandsAtOnce worker o → worker < once.callers_of o → OwnTurn operations.OnceFunc (states.OnceFunc o code)
  func_own o code stands below =
      let stage = due.once_due code (once_standing.runs_at o worker) (once.place_of o worker) in
      let made = once_made worker moment code o in
      let told = once_tells events.OnceFunc answered.OnceFunc laws.machines.giving plan place worker moment (returns code) (λ kept. replies.OnceFunc (failure kept)) (λ kept. replies.OnceFunc (failure kept)) code
      (replies.OnceFunc (failure code)) (λ kept. replies.OnceFunc (failure kept)) refl (λ kept. refl) [] (refl, refl) o stands below in
      let step = turn_on operations.OnceFunc worker moment (states.OnceFunc o code) in (
        subst (λ (l : List Made). Tells plan (left_on plan worker before place operations.OnceFunc (states.OnceFunc o code)) (left_on plan worker (before + length (shared_in l)) place operations.OnceFunc step.0) l step.1)
            (nothing_first made.1 (due_made events.OnceFunc answered.OnceFunc place worker moment stage o) ∙ sym (due_recorded events.OnceFunc answered.OnceFunc plan place worker moment before stage o (λ e r. refl))) told.0,
        told.1,
      )

  value_own : (o : once.OnceState ℕ) (value : ℕ) → StandsAtOnce worker o → worker < once.callers_of o → OwnTurn operations.OnceValue (states.OnceValue o value)
  value_own o value stands below =
      let stage = due.once_due value (once_standing.runs_at o worker) (once.place_of o worker) in
      let made = once_made worker moment value o in
      let told = once_tells events.OnceValue answered.OnceValue laws.machines.giving plan place worker moment (returns value) replies.OnceValue replies.OnceValue value
      (replies.OnceValue value) replies.OnceValue refl (λ kept. refl) [] (refl, refl) o stands below in
      let step = turn_on operations.OnceValue worker moment (states.OnceValue o value) in (
        subst (λ (l : List Made). Tells plan (left_on plan worker before place operations.OnceValue (states.OnceValue o value)) (left_on plan worker (before + length (shared_in l)) place operations.OnceValue step.0) l step.1)
            (nothing_first made.1 (due_made events.OnceValue answered.OnceValue place worker moment stage o) ∙ sym (due_recorded events.OnceValue answered.OnceValue plan place worker moment before stage o (λ e r. refl))) told.0,
        told.1,
      )

  pub turn_own : (operation : Operation) (o : ObjectState) → has_call (kind_of o) operation ≡ true → reference_of (kind_of o) ≡ None → worker < plan.workers → IsMachineOf plan.workers o → HasObjectKeysIn (all_keys plan.scripts) o
      → (may_wait operation ≡ false → IsOutAt worker o) → StandsOn operation worker o → is_access_operation operation ≡ false → OwnTurn operation o
  turn_own (operations.Map call) (states.Map m) has alone below is keys out stands plain =
      ((map_reply call m, places plan (shared_calls plan before place (operations.Map call) (replies.Map (map_reply call m))), refl), tt)
  turn_own operations.Range (states.Map m) has alone below is keys out stands plain =
      let pairs = map {B = ℕ × ℕ} (λ (pair : List ℕ × ℕ). (key_number (keys_in plan.scripts) pair.0, pair.1)) (entries m) in
      let cursor = cursor_showing (keys_in plan.scripts) (map_number plan.objects place) before pairs in (
        subst (λ (l : List Made). range_call (keys_in plan.scripts) (map_number plan.objects place) before l (Done (Ok (replies.Pairs pairs)))) (sym (append-nil (map (made_shared plan) cursor)))
            (pairs, pairs, places plan cursor, range_sorted laws.keys plan m keys, refl),
        tt,
      )
  turn_own (operations.Atomic call) (states.Atomic number) has alone below is keys out stands plain =
      ((atomic_reply call number, places plan (shared_calls plan before place (operations.Atomic call) (replies.Atomic (atomic_reply call number))), refl), tt)
  turn_own (operations.Composed (IfEqual value passes)) (states.Atomic number) has alone below is keys out stands plain =
      ((Done (Ok (is_same number value)), (Done (Ok (replies.Atomic (Held number))), (Held number, places plan (shared_calls plan before place (operations.Atomic Load) (replies.Atomic (Held number))), refl), refl), refl), tt)
  turn_own (operations.Mutex call) (states.Mutex m) has alone below is keys out stands plain =
      let step = turn_on (operations.Mutex call) worker moment (states.Mutex m) in
      (mutex_tells laws.machines.mutexes plan place worker moment before call (mutex.place_of m worker) m refl (omega (arith, below, is.1)) is.0, behind (operations.Mutex call) worker step.1 step.0 tt tt)
  turn_own (operations.RwMutex call) (states.RwMutex m) has alone below is keys out stands plain =
      let step = turn_on (operations.RwMutex call) worker moment (states.RwMutex m) in
      let fits = stands_fit call worker m stands out in (
        rw_tells laws.machines.rw_mutexes plan place worker moment before call (rw.place_of m worker) m refl fits (omega (arith, below, is.1)) is.0,
        behind (operations.RwMutex call) worker step.1 step.0 (stands_on laws.machines.mutexes call worker moment (rw.place_of m worker) m fits is.0 stands) tt,
      )
  turn_own (operations.WaitGroup call) (states.WaitGroup g first) has alone below is keys out stands plain =
      kind_tells group.next group_event group_meaning group.callers_of due.group_turn due.group_behind due.GroupFits due.group_from group_left laws.machines.groups (λ done. replies.Returned) call worker moment g (omega (arith, below, is))
      events.WaitGroup answered.WaitGroup plan place (λ done. replies.Returned) (λ done. refl) (λ e r. refl) before stands
  turn_own (operations.Sema call) (states.Sema s size) has alone below is keys out stands plain =
      kind_tells sema.next sema_event sema_meaning sema.callers_of due.sema_turn due.sema_behind due.SemaFits due.sema_from sema_left laws.machines.semas replies.Lock call worker moment s (omega (arith, below, is))
      events.Sema answered.Sema plan place replies.Lock (λ outcome. refl) (λ e r. refl) before stands
  turn_own operations.OnceFunc (states.OnceFunc o code) has alone below is keys out stands plain = func_own o code stands (omega (arith, below, is))
  turn_own operations.OnceValue (states.OnceValue o value) has alone below is keys out stands plain = value_own o value stands (omega (arith, below, is))
  turn_own (operations.Pool call) (states.Pool p) has alone below is keys out stands plain =
      let step = turn_on (operations.Pool call) worker moment (states.Pool p) in (
        whole_tells laws.pools plan place worker moment below (pool_call plan.workers worker (first_part plan place) call) _ _ step.1 (pool_whole laws.pools plan place worker moment below before call p is.0 is.1),
        behind (operations.Pool call) worker step.1 step.0 tt tt,
      )
  turn_own (operations.Cond call) o has alone below is keys out stands plain = absurd (cond_refers o call has alone)
  turn_own operations.Once o has alone below is keys out stands plain = absurd (once_refers o has alone)
  turn_own (operations.Fly key) o has alone below is keys out stands plain = absurd (fly_refers o key has alone)
  turn_own (operations.Composed (WaitFor atomic number tries)) o has alone below is keys out stands plain = absurd (wait_for_alone o atomic tries number has)
  turn_own (operations.Composed (Go started)) o has alone below is keys out stands plain = absurd (go_alone o started has)
  turn_own (operations.Var call) o has alone below is keys out stands plain = no (sym plain)
  turn_own operation o has alone below is keys out stands plain = no has

  -- ---- at two objects

  abbrev pub OwnBoth : ℕ → Operation → ObjectState → ObjectState → (ObjectState × ObjectState) × Answer → List Made → Type 0
  OwnBoth other operation o target step made =
      Tells plan (left_on_both plan worker before place other operation o target) (left_on_both plan worker (before + length (shared_in made)) place other operation step.0.0 step.0.1) made step.1
      × (BehindBoth operation worker step.1 step.0.0 step.0.1 × IsIdle worker step.0.1)

  abbrev BothTurn : ℕ → Operation → ObjectState → ObjectState → Type 0
  BothTurn other operation o target = OwnBoth other operation o target (turn_on_both operation worker moment o target) (recorded plan before (items_on_both operation worker moment place other o target))

  -- the function's `add` comes first, where this turn ends it
  sum_recorded : (other : ℕ) (delta held : ℤ) (made : Result (OnceOutcome ℤ) Answer) (stage : Option (OnceStage ℤ)) (o : once.OnceState ℤ)
      → before_end (map (made_shared plan) (shared_calls plan before other (operations.Atomic (Add (Int64 delta))) (replies.Atomic (atomic_reply (Add (Int64 delta)) (Int64 held))))) made ++ due_made events.Once answered.Once place worker moment stage o
      ≡ recorded plan before (add_items worker other delta (Int64 held) made ++ stage_items events.Once answered.Once once.next once_event worker moment place stage o)
  sum_recorded other delta held (Ok Run) None o = refl
  sum_recorded other delta held (Ok Run) (Some stage) o = refl
  sum_recorded other delta held (Ok (Already kept)) None o = refl
  sum_recorded other delta held (Ok (Already kept)) (Some stage) o = refl
  sum_recorded other delta held (Ok Ended) None o = refl
  sum_recorded other delta held (Ok Ended) (Some stage) o = refl
  sum_recorded other delta held (Err a) None o = refl
  sum_recorded other delta held (Err a) (Some stage) o = refl

  sum_own : (other at : ℕ) (delta held : ℤ) (o : once.OnceState ℤ) → StandsAtOnce worker o → worker < once.callers_of o → BothTurn other operations.Once (states.Once o at delta) (states.Atomic (Int64 held))
  sum_own other at delta held o stands below =
      let sum = int_wrapping_add w64 held delta in
      let stage = due.once_due sum (once_standing.runs_at o worker) (once.place_of o worker) in
      let made = once_made worker moment sum o in
      let ended = map (made_shared plan) (shared_calls plan before other (operations.Atomic (Add (Int64 delta))) (replies.Atomic (atomic_reply (Add (Int64 delta)) (Int64 held)))) in
      let told = once_tells events.Once answered.Once laws.machines.adding plan place worker moment (adds (atomic_number plan.objects other) delta) (λ sum. replies.Once (do_replies.Ran sum)) (λ kept. replies.Once do_replies.Done) sum
      (replies.Once (do_replies.Ran sum)) (λ kept. replies.Once do_replies.Done) refl (λ kept. refl) ended
      (sum, places plan (shared_calls plan before other (operations.Atomic (Add (Int64 delta))) (replies.Atomic (atomic_reply (Add (Int64 delta)) (Int64 held)))), refl) o stands below in
      let step = turn_on_both operations.Once worker moment (states.Once o at delta) (states.Atomic (Int64 held)) in (
        subst (λ (l : List Made). Tells plan (left_on_both plan worker before place other operations.Once (states.Once o at delta) (states.Atomic (Int64 held))) (left_on_both plan worker (before + length (shared_in l)) place other operations.Once step.0.0 step.0.1) l step.1)
            (sum_recorded other delta held made.1 stage o) told.0,
        (told.1, tt),
      )

  -- the group's numbers are the plan's
  fly_own : (other : ℕ) (key : List ℕ) (f : flight.FlightState) (keys : List (List ℕ)) (at : ℕ) (delta held : ℤ) → keys ≡ keys_in plan.scripts → worker < flight.callers_of f
      → BothTurn other (operations.Fly key) (states.Flight f keys at delta) (states.Atomic (Int64 held))
  fly_own other key f keys at delta held named below =
      let told = flight_tells laws.machines.flights plan place other worker moment before (key_number (keys_in plan.scripts) key) delta held f below in
      subst (λ (keys : List (List ℕ)). BothTurn other (operations.Fly key) (states.Flight f keys at delta) (states.Atomic (Int64 held))) (sym named) (told.0, (told.1, tt))

  pub both_own : (other : ℕ) (operation : Operation) (o target : ObjectState) → has_call (kind_of o) operation ≡ true → is_target (kind_of o) (kind_of target) ≡ true → worker < plan.workers → IsMachineOf plan.workers o
      → IsMachineOf plan.workers target → HasObjectKeysIn (all_keys plan.scripts) o → (may_wait operation ≡ false → IsOutAt worker target) → StandsOnBoth operation worker o target → BothTurn other operation o target
  both_own other (operations.Cond call) (states.Cond c at) (states.Mutex m) has target below is there keys out stands =
      let told = cond_tells laws.machines.mutexes laws.machines.conds plan place other worker moment before call c m (cond_stands call worker at c m stands) (omega (arith, below, is)) (omega (arith, below, there.1)) there.0 in
      (told.0, (cond_behind call worker at _ _ _ told.1, tt))
  both_own other operations.Once (states.Once o at delta) (states.Atomic (Int64 held)) has target below is there keys out stands = sum_own other at delta held o stands (omega (arith, below, is))
  both_own other (operations.Fly key) (states.Flight f keys at delta) (states.Atomic (Int64 held)) has target below is there named out stands = fly_own other key f keys at delta held named (omega (arith, below, is))
  both_own other operation o target has is_one below is there keys out stands = absurd (only_pairs o operation target has is_one)
