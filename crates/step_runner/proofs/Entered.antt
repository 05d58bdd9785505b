-- How a worker enters its next call, which is then all left to be spelt; and that whatever is left can be spelt.
use Rattle.std.proofs.Common.{◌≡◌, ◌≢◌, ℕ, ℤ, Bool, true, false, eqb, List, map, Option, Some, None, refl, sym, ap, ◌∙◌, subst}
use Rattle.std.specs.Prelude.{slice_get, pos, if◌then◌else◌}
use Rattle.std.specs.Option.{option_map}
use Rattle.std.proofs.lemmas.Bool.{eqb-true, eqb-false}
use Rattle.std.proofs.lemmas.Option.{slice_get-map}
use Rattle.sync_types.specs.declared.atomic_object.Number.TheVariants.{Int64}
use Rattle.script_calls.specs.declared.call.Call.{Call}
use Rattle.script_calls.specs.declared.call.ComposedCall.TheVariants.{IfEqual, WaitFor, Go}
use Rattle.script_calls.specs.declared.call.Operation.{Operation}
use Rattle.script_calls.specs.declared.call.Operation.TheVariants as operations
use Rattle.script_calls.specs.declared.call.Reply.{Reply}
use Rattle.script_calls.specs.declared.call.Reply.TheVariants as replies
use Rattle.sync_types.specs.declared.lock_call.RwMutexCall.TheVariants as rw_calls
use Rattle.sync_types.specs.declared.once_call.DoReply.TheVariants as do_replies
use Rattle.sync_types.specs.declared.wait_call.CondCall.TheVariants as cond_calls
use Rattle.sync_types.specs.declared.wait_call.WaitGroupCall.TheVariants as group_calls
use Rattle.wait_cores.specs.GroupMachine as group
use Rattle.wait_cores.specs.NotifyMachine as notify
use Rattle.wait_cores.specs.OnceMachine as once
use Rattle.wait_cores.specs.declared.group.GroupEvent.{GroupEvent}
use Rattle.wait_cores.specs.GroupStanding as group_standing
use Rattle.wait_cores.specs.NotifyStanding.{has_ticket}
use Rattle.wait_cores.specs.OnceStanding as once_standing
use Rattle.wait_cores.specs.declared.group.GroupEvent.TheVariants as group_event
use Rattle.protocols.specs.declared.wait_group.GroupStage.TheVariants as group_stage
use Rattle.protocols.specs.OnceStages.{once_event, once_meaning}
use Rattle.sema_core.specs.SemaMachine as sema
use Rattle.sema_core.specs.SemaStanding as sema_standing
use Rattle.sema_core.specs.declared.calls.SemaStage.TheVariants as sema_stage
use Rattle.flight_core.specs.FlightMachine as flight
use Rattle.flight_core.specs.FlightStanding as flight_standing
use Rattle.flight_core.specs.declared.calls.FlightStand.TheVariants as stand
use Rattle.protocols.specs.Spelling.{CallAnswer}
use Rattle.run_record.specs.AtomicKind.{adds}
use Rattle.run_record.specs.Calls.{call_on, call_at, SpellsCall}
use Rattle.run_record.specs.FlightKind.{flight_part}
use Rattle.run_record.specs.Objects.{atomic_number}
use Rattle.run_record.specs.OnceKind.{failure}
use Rattle.run_record.specs.Parts.{Part, returns, stages}
use Rattle.run_record.specs.Record.{object_number}
use Rattle.run_record.specs.declared.entered.ObjectEvent.TheVariants as events
use Rattle.run_record.specs.declared.entered.ObjectReply.TheVariants as answered
use Rattle.run_record.specs.declared.made.Made.{Made}
use Rattle.workload.specs.declared.object.ObjectKind.{ObjectKind}
use Rattle.workload.specs.declared.object.ObjectKind.TheVariants as kinds
use Rattle.workload.specs.declared.object.ObjectLine.{ObjectLine}
use Rattle.workload.specs.Keys.{keys_in, key_number}
use Rattle.workload.specs.Plan.{Plan, has_call, reference_of}
use Rattle.step_runner.specs.declared.turns.object_state.ObjectState.{ObjectState}
use Rattle.step_runner.specs.declared.turns.object_state.ObjectState.TheVariants as states
use Rattle.step_runner.specs.Objects.{new_object, kind_of, EachAt}
use Rattle.step_runner.specs.Ready.{IsReady}
use Rattle.step_runner.specs.Stands.{IsOutAt, IsOutBut}
use Rattle.step_runner.specs.Left.{mutex_waits, rw_waits, mutex_left, rw_left, group_left, sema_left, cond_left, once_left, flight_left, left_on, left_on_both, left_at}
use Rattle.step_runner.specs.Within.{IsIdle, StandsOn, StandsOnBoth, IsWithin}
use Rattle.step_runner.proofs.SpeltAtObjects.{left_alone, left_referring, stands_alone, stands_referring}
use Rattle.step_runner.proofs.RwSides.{out_sides}
use Rattle.step_runner.proofs.TurnOwn.{Pair, only_pairs, cond_refers, once_refers, fly_refers, wait_for_alone, go_alone}
use Rattle.step_runner.proofs.Refuted.{no}

-- ---- a new object

-- a wait group's number is added, which lets nobody in
pub record GroupBegins : Type 0 where
  pub own : (g : group.GroupState) (c : ℕ) (e : GroupEvent) → group_standing.waits_at (group.next g c e).0 c ≡ group_standing.waits_after (group_standing.waits_at g c) e (group.next g c e).1
  pub others : (g : group.GroupState) (x by : ℕ) (e : GroupEvent) → x ≢ by → group_standing.waits_at (group.next g by e).0 x ≡ group_standing.waits_at g x
  pub first : (callers c : ℕ) → group_standing.waits_at (group.start callers) c ≡ false

abbrev pub OnceBegins : Type 0 → Type 0
OnceBegins T = (callers c : ℕ) → (once_standing.waits_at {T = T} (once.start callers) c ≡ false) × (once_standing.runs_at {T = T} (once.start callers) c ≡ false)

new_group : GroupBegins → (x workers first : ℕ) → group_standing.waits_at (group.next (group.start workers) 0 (group_event.Add (pos first))).0 x ≡ false
new_group law x workers first = by_caller (eqb x 0) refl
  where
    by_caller : (b : Bool) → eqb x 0 ≡ b → group_standing.waits_at (group.next (group.start workers) 0 (group_event.Add (pos first))).0 x ≡ false
    by_caller true is =
        subst (λ (k : ℕ). group_standing.waits_at (group.next (group.start workers) 0 (group_event.Add (pos first))).0 k ≡ false) (sym (eqb-true x 0 is)) (law.own (group.start workers) 0 (group_event.Add (pos first)) ∙ law.first workers 0)
    by_caller false far = law.others (group.start workers) x 0 (group_event.Add (pos first)) (eqb-false x 0 far) ∙ law.first workers x

-- what the laws of the machines say of their first states
pub record Begins : Type 0 where
  pub tickets : (workers x : ℕ) → has_ticket (notify.start workers) x ≡ false
  pub groups : GroupBegins
  pub adding : OnceBegins ℤ
  pub giving : OnceBegins ℕ
  pub semas : (callers size x : ℕ) → sema_standing.waits_at (sema.start callers size) x ≡ false
  pub flights : (callers x : ℕ) → flight_standing.stands_at (flight.start callers) x ≡ stand.Out

pub new_idle : Begins → (x workers room : ℕ) (keys : List (List ℕ)) (kind : ObjectKind) → IsIdle x (new_object workers room keys kind)
new_idle laws x workers room keys kinds.Map = tt
new_idle laws x workers room keys (kinds.Atomic kind) = tt
new_idle laws x workers room keys kinds.Mutex = tt
new_idle laws x workers room keys kinds.RwMutex = tt
new_idle laws x workers room keys (kinds.Cond place) = laws.tickets workers x
new_idle laws x workers room keys (kinds.WaitGroup first) = ap (λ (b : Bool). if b then Some group_stage.Leave else None) (new_group laws.groups x workers first)
new_idle laws x workers room keys (kinds.Once place delta) = laws.adding workers x
new_idle laws x workers room keys (kinds.OnceFunc code) = laws.giving workers x
new_idle laws x workers room keys (kinds.OnceValue value) = laws.giving workers x
new_idle laws x workers room keys kinds.Pool = tt
new_idle laws x workers room keys (kinds.Sema size) = ap (λ (b : Bool). if b then Some sema_stage.Leave else None) (laws.semas workers size x)
new_idle laws x workers room keys (kinds.Flight place delta) = laws.flights workers x
new_idle laws x workers room keys kinds.Var = tt

-- ---- the next call

enter_on : (operation : Operation) (x : ℕ) (o : ObjectState) → IsIdle x o → IsOutAt x o → StandsOn operation x o
enter_on (operations.RwMutex rw_calls.Lock) x (states.RwMutex m) idle out = (out_sides x m out).0
enter_on (operations.RwMutex rw_calls.RLock) x (states.RwMutex m) idle out = (out_sides x m out).1
enter_on (operations.RwMutex call) x (states.RwMutex m) idle out = tt
enter_on (operations.WaitGroup group_calls.Wait) x (states.WaitGroup g first) idle out = tt
enter_on (operations.WaitGroup call) x (states.WaitGroup g first) idle out = idle
enter_on (operations.Sema call) x (states.Sema s size) idle out = tt
enter_on operations.OnceFunc x (states.OnceFunc o code) idle out = λ is. idle.0
enter_on operations.OnceValue x (states.OnceValue o value) idle out = λ is. idle.0
enter_on operation x o idle out = idle

enter_both : (operation : Operation) (x : ℕ) (o target : ObjectState) → Pair operation o target → IsIdle x o → IsOutAt x target → StandsOnBoth operation x o target
enter_both (operations.Cond cond_calls.Wait) x (states.Cond c at) (states.Mutex m) pair idle out = λ has. out
enter_both (operations.Cond cond_calls.Signal) x (states.Cond c at) (states.Mutex m) pair idle out = idle
enter_both (operations.Cond cond_calls.Broadcast) x (states.Cond c at) (states.Mutex m) pair idle out = idle
enter_both operations.Once x (states.Once o at delta) (states.Atomic (Int64 held)) pair idle out = λ is. idle.0
enter_both (operations.Fly key) x (states.Flight f keys at delta) (states.Atomic (Int64 held)) pair idle out = tt
enter_both operation x o target pair idle out = absurd pair

module _ (plan : Plan) (x before place : ℕ) where
  -- the whole call is left
  whole_on : (operation : Operation) (o : ObjectState) → has_call (kind_of o) operation ≡ true → reference_of (kind_of o) ≡ None → IsIdle x o → IsOutAt x o → left_on plan x before place operation o ≡ call_on plan x before place (kind_of o) operation
  whole_on (operations.Map call) (states.Map m) has alone idle out = refl
  whole_on operations.Range (states.Map m) has alone idle out = refl
  whole_on (operations.Atomic call) (states.Atomic number) has alone idle out = refl
  whole_on (operations.Composed (IfEqual value passes)) (states.Atomic number) has alone idle out = refl
  whole_on (operations.Mutex call) (states.Mutex m) has alone idle out = ap (mutex_left (object_number place) call) (ap mutex_waits out)
  whole_on (operations.RwMutex call) (states.RwMutex m) has alone idle out = ap (rw_left (object_number place) call) (ap rw_waits out)
  whole_on (operations.WaitGroup group_calls.Wait) (states.WaitGroup g first) has alone idle out = ap (group_left (object_number place) group_calls.Wait) idle
  whole_on (operations.WaitGroup call) (states.WaitGroup g first) has alone idle out = refl
  whole_on (operations.Sema call) (states.Sema s size) has alone idle out = ap (sema_left (object_number place) call) idle
  whole_on operations.OnceFunc (states.OnceFunc o code) has alone idle out =
      λ i. once_left (stages events.OnceFunc answered.OnceFunc once_event once_meaning (object_number place)) (returns code) (λ kept. replies.OnceFunc (failure kept)) (λ kept. replies.OnceFunc (failure kept)) (idle.1 i) (idle.0 i)
  whole_on operations.OnceValue (states.OnceValue o value) has alone idle out =
      λ i. once_left (stages events.OnceValue answered.OnceValue once_event once_meaning (object_number place)) (returns value) replies.OnceValue replies.OnceValue (idle.1 i) (idle.0 i)
  whole_on (operations.Pool call) (states.Pool p) has alone idle out = refl
  whole_on (operations.Var call) (states.Var held) has alone idle out = refl
  whole_on (operations.Cond call) o has alone idle out = absurd (cond_refers o call has alone)
  whole_on operations.Once o has alone idle out = absurd (once_refers o has alone)
  whole_on (operations.Fly key) o has alone idle out = absurd (fly_refers o key has alone)
  whole_on (operations.Composed (WaitFor atomic value tries)) o has alone idle out = absurd (wait_for_alone o atomic tries value has)
  whole_on (operations.Composed (Go started)) o has alone idle out = absurd (go_alone o started has)
  whole_on operation o has alone idle out = absurd (no has)

  some_place : {a b : ℕ} → Some a ≡ Some b → b ≡ a
  some_place e = cc

  whole_both : (other : ℕ) (operation : Operation) (o target : ObjectState) → Pair operation o target → reference_of (kind_of o) ≡ Some other → IsIdle x o → IsOutAt x target
      → left_on_both plan x before place other operation o target ≡ call_on plan x before place (kind_of o) operation
  whole_both other (operations.Cond cond_calls.Wait) (states.Cond c at) (states.Mutex m) pair some idle out = λ i. cond_left (object_number place) (object_number (some_place some i)) cond_calls.Wait (idle i) (mutex_waits (out i))
  whole_both other (operations.Cond cond_calls.Signal) (states.Cond c at) (states.Mutex m) pair some idle out = λ i. cond_left (object_number place) (object_number (some_place some i)) cond_calls.Signal (idle i) (mutex_waits (out i))
  whole_both other (operations.Cond cond_calls.Broadcast) (states.Cond c at) (states.Mutex m) pair some idle out = λ i. cond_left (object_number place) (object_number (some_place some i)) cond_calls.Broadcast (idle i) (mutex_waits (out i))
  whole_both other operations.Once (states.Once o at delta) (states.Atomic (Int64 held)) pair some idle out =
      λ i. once_left (stages events.Once answered.Once once_event once_meaning (object_number place)) (adds (atomic_number plan.objects (some_place some i)) delta) (λ sum. replies.Once (do_replies.Ran sum)) (λ kept. replies.Once do_replies.Done) (idle.1 i) (idle.0 i)
  whole_both other (operations.Fly key) (states.Flight f keys at delta) (states.Atomic (Int64 held)) pair some idle out =
      λ i. flight_left (flight_part (object_number place)) (adds (atomic_number plan.objects (some_place some i)) delta) (key_number (keys_in plan.scripts) key) (idle i)
  whole_both other operation o target pair some idle out = absurd pair

-- the line of the object at a place
pub line_there : (plan : Plan) (objects : List ObjectState) (place : ℕ) (o : ObjectState) → map kind_of objects ≡ map (λ (line : ObjectLine). line.kind) plan.objects → slice_get objects place ≡ Some o
    → (line : ObjectLine) × (slice_get plan.objects place ≡ Some line) × (kind_of o ≡ line.kind)
line_there plan objects place o same at = by_line (slice_get plan.objects place) refl
  where
    both : Some (kind_of o) ≡ option_map (λ (line : ObjectLine). line.kind) (slice_get plan.objects place)
    both = sym (ap (option_map kind_of) at) ∙ sym (slice_get-map kind_of objects place) ∙ ap (λ (ks : List ObjectKind). slice_get ks place) same ∙ slice_get-map (λ (line : ObjectLine). line.kind) plan.objects place

    by_line : (l : Option ObjectLine) → slice_get plan.objects place ≡ l → (line : ObjectLine) × (slice_get plan.objects place ≡ Some line) × (kind_of o ≡ line.kind)
    by_line None none = let e : Some (kind_of o) ≡ None = both ∙ ap (option_map (λ (line : ObjectLine). line.kind)) none in absurd cc
    by_line (Some line) is = let e : Some (kind_of o) ≡ Some line.kind = both ∙ ap (option_map (λ (line : ObjectLine). line.kind)) is in (line, is, one e)
      where
        one : {a b : ObjectKind} → Some a ≡ Some b → a ≡ b
        one e = cc

module _ (plan : Plan) (x before : ℕ) (call : Call) (objects : List ObjectState) (r : IsReady plan.workers x call objects) (same : map kind_of objects ≡ map (λ (line : ObjectLine). line.kind) plan.objects)
    (idle : EachAt (λ place. IsIdle x) objects) (out : IsOutBut None x objects) where
  abbrev Entered : Type 0
  Entered = IsWithin x call objects × ((items : List Made) (answer : CallAnswer (Reply ℕ)) → left_at plan x before call objects items answer → SpellsCall plan x before call items answer)

  out_at : (place : ℕ) (o : ObjectState) → slice_get objects place ≡ Some o → IsOutAt x o
  out_at place o at = out place o at (λ e. cc)

  by_kind : call_on plan x before call.object (kind_of r.object) call.operation ≡ SpellsCall plan x before call
  by_kind =
      let line = line_there plan objects call.object r.object same r.there in
      ap (λ (k : ObjectKind). call_on plan x before call.object k call.operation) line.2 ∙ ap (λ (l : Option ObjectLine). call_at plan x before call.object l call.operation) (sym line.1)

  pub entered : Entered
  entered = by_reference (reference_of (kind_of r.object)) refl
    where
      by_reference : (o : Option ℕ) → reference_of (kind_of r.object) ≡ o → Entered
      by_reference None none = (
        record {
          here = subst (λ (T : Type 0). T) (sym (stands_alone call objects r.object r.there x none)) (enter_on call.operation x r.object (idle call.object r.object r.there) (out_at call.object r.object r.there));
          elsewhere = λ place o at far. idle place o at;
        },
        λ items answer l.
            subst (λ (P : Part (Reply ℕ)). P items answer) by_kind
            (subst (λ (P : Part (Reply ℕ)). P items answer) (whole_on plan x before call.object call.operation r.object r.has none (idle call.object r.object r.there) (out_at call.object r.object r.there))
            (subst (λ (P : Part (Reply ℕ)). P items answer) (left_alone call objects r.object r.there plan x before none) l)),
      )
      by_reference (Some other) some =
          let t = r.refers other some in
          let pair = only_pairs r.object call.operation t.target r.has t.is in (
            record {
              here = subst (λ (T : Type 0). T) (sym (stands_referring call objects r.object r.there x other t.target some t.there)) (enter_both call.operation x r.object t.target pair (idle call.object r.object r.there) (out_at other t.target t.there));
              elsewhere = λ place o at far. idle place o at;
            },
            λ items answer l.
                subst (λ (P : Part (Reply ℕ)). P items answer) by_kind
                (subst (λ (P : Part (Reply ℕ)). P items answer) (whole_both plan x before call.object other call.operation r.object t.target pair some (idle call.object r.object r.there) (out_at other t.target t.there))
                (subst (λ (P : Part (Reply ℕ)). P items answer) (left_referring call objects r.object r.there plan x before other t.target some t.there) l)),
          )
