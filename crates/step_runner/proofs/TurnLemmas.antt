-- What one turn does to the state of a run.
use Rattle.std.proofs.Common.{◌≡◌, ◌≢◌, ℕ, zero, suc, ◌+◌, ◌*◌, ◌<◌, ◌≤◌, ◌⊎◌, inl, inr, Bool, true, false, cond, eqb, ◌&&◌, List, [], ◌∷◌, ◌++◌, map, drop, length, get_or, set, Option, Some, None, refl, sym, ap, ◌∙◌, subst, length-drop, arith}
use Rattle.std.specs.Prelude.{slice_get, sum_by, pos}
use Rattle.std.specs.List.{list_all, range_with_len}
use Rattle.std.specs.Option.{option_map, option_map_or}
use Rattle.std.proofs.lemmas.Bool.{eqb-true, eqb-false}
use Rattle.std.proofs.lemmas.List.{length-set, length-append, get_or-set_same, get_or-set_other, set-get_or}
use Rattle.std.proofs.lemmas.List.Sums.{sum_by-append, sum_by-cons, sum_by-take-drop}
use Rattle.std.proofs.lemmas.Option.{slice_get-map}
use Rattle.script_calls.specs.Runs.{passed_over, left_of, made_of}
use Rattle.script_calls.specs.Starts.{started_by, group_of}
use Rattle.script_calls.specs.declared.call.Call.{Call}
use Rattle.script_calls.specs.declared.call.ComposedCall.TheVariants.{WaitFor, Go}
use Rattle.script_calls.specs.declared.call.Operation.{Operation}
use Rattle.script_calls.specs.declared.call.Operation.TheVariants as operations
use Rattle.script_calls.specs.declared.call.Reply.{Reply}
use Rattle.sync_types.specs.declared.atomic_object.AtomicCall.TheVariants.{Load}
use Rattle.sync_types.specs.declared.atomic_object.Number.{Number}
use Rattle.sync_types.specs.declared.misuse.Misuse.{Misuse}
use Rattle.sync_types.specs.declared.wait_call.CondCall.TheVariants.{Wait}
use Rattle.sync_types.specs.declared.wait_call.WaitGroupCall.{WaitGroupCall}
use Rattle.sync_types.specs.declared.wait_call.WaitGroupCall.TheVariants as group_calls
use Rattle.workload.specs.Draft.{tries_of}
use Rattle.workload.specs.declared.object.ObjectKind.{ObjectKind}
use Rattle.workload.specs.declared.object.ObjectKind.TheVariants as kinds
use Rattle.workload.specs.declared.object.ObjectLine.{ObjectLine}
use Rattle.workload.specs.Plan.{Plan, has_among, has_call, is_on, is_target, is_turn, is_valid, may_hold, reference_of, refers, starts_dormant}
use Rattle.step_runner.specs.declared.turns.answer.Answer.{Answer}
use Rattle.step_runner.specs.declared.turns.answer.Answer.TheVariants as answers
use Rattle.step_runner.specs.declared.turns.object_state.ObjectState.{ObjectState}
use Rattle.step_runner.specs.ObjectLeft.{object_left}
use Rattle.step_runner.specs.Objects.{kind_of, IsMachineOf, EachAt}
use Rattle.step_runner.specs.Ready.{HasTarget, IsReady}
use Rattle.step_runner.specs.StandsWithin.{ReadyBy, IsReadyWithin, UsesWithin}
use Rattle.step_runner.specs.TurnWithin.{Taken, add_one, load_of, turn_within, wait_on}
use Rattle.step_runner.specs.declared.step.Step.{Step}
use Rattle.step_runner.specs.declared.step.Step.TheVariants as steps
use Rattle.step_runner.specs.declared.state.Stand.{Stand}
use Rattle.step_runner.specs.declared.state.Stand.TheVariants.{Waits, Live, Gone}
use Rattle.step_runner.specs.State.{State, next_tries, stand_of, with_reply, with_stand, with_started, StandsSo, IsStateOf}
use Rattle.step_runner.specs.Turns.{all_left, answered, begun_by, closing_calls, completed, next_call, settled, settled_by, settled_with, turn_of}
use Rattle.step_runner.proofs.NextCalls.{IsOfScript, IsClosing, all_with, gone_own, is_started, left_with, live_there, next_all, next_first, next_is, next_live, started_count, started_stand, until_started}
use Rattle.step_runner.proofs.ScriptRuns.{GoesFurther, split_first, in_script}
use Rattle.step_runner.specs.LeftToDo.{calls_left, left_to_do, waits_left, waits_left_for}

-- ---- what the laws of turns say of the objects

pub record TurnsKeep : Type 0 where
  pub kinds : (workers worker moment begun : ℕ) (call : Call) (objects : List ObjectState) → IsReadyWithin workers worker call objects → map kind_of (turn_within call worker moment begun objects).0.0 ≡ map kind_of objects
  pub machines : (workers worker moment begun : ℕ) (call : Call) (objects : List ObjectState) → IsReadyWithin workers worker call objects → EachAt (λ place. IsMachineOf workers) objects
      → EachAt (λ place. IsMachineOf workers) (turn_within call worker moment begun objects).0.0

abbrev ObjectsUse : ℕ → List ObjectState → Taken → Type 0
ObjectsUse begun old x = UsesWithin begun x.0.1 (sum_by object_left old) (sum_by object_left x.0.0) (x.0.0 ≡ old) x.1

pub record TurnsUse : Type 0 where
  pub uses : (workers worker moment begun : ℕ) (call : Call) (objects : List ObjectState) → IsReadyWithin workers worker call objects → ObjectsUse begun objects (turn_within call worker moment begun objects)
  pub few : (worker moment begun : ℕ) (call : Call) (objects : List ObjectState) → begun ≤ tries_of call.operation → (turn_within call worker moment begun objects).0.1 ≤ tries_of call.operation

-- ---- tests that pass

-- what two tests that pass together say
pub both : (a b : Bool) → (a && b) ≡ true → (a ≡ true) × (b ≡ true)
both true b e = (refl, e)
both false b e = absurd cc

pub both_true : (a b : Bool) → a ≡ true → b ≡ true → (a && b) ≡ true
both_true true b e f = f
both_true false b e f = absurd cc

pub true_false : true ≡ false → ⊥
true_false e = cc

-- ---- what a valid plan says of a call

pub all_get : {X : Type 0} (p : X → Bool) (xs : List X) (i : ℕ) (x : X) → list_all p xs ≡ true → slice_get xs i ≡ Some x → p x ≡ true
all_get p [] i x e is = absurd cc
all_get p (y ∷ xs) zero x e is =
    let same : y ≡ x = cc in
    subst (λ z. p z ≡ true) same (both (p y) (list_all p xs) e).0
all_get p (y ∷ xs) (suc i) x e is = all_get p xs i x (both (p y) (list_all p xs) e).1 is

pub all_at : {X : Type 0} (p : X → Bool) (lists : List (List X)) (i : ℕ) → list_all (list_all p) lists ≡ true → list_all p (get_or lists i []) ≡ true
all_at p [] i e = refl
all_at p (xs ∷ lists) zero e = (both (list_all p xs) (list_all (list_all p) lists) e).0
all_at p (xs ∷ lists) (suc i) e = all_at p lists i (both (list_all p xs) (list_all (list_all p) lists) e).1

pub valid_scripts : (plan : Plan) → is_valid plan ≡ true → length plan.scripts ≡ plan.workers
valid_scripts plan e =
    eqb-true (length plan.scripts) plan.workers (both (eqb (length plan.scripts) plan.workers) _ e).0

abbrev on_plan : Plan → Call → Bool
on_plan plan call = is_on plan.objects (slice_get plan.objects call.object) call

abbrev plan_scripts : Plan → Bool
plan_scripts plan = list_all (list_all (on_plan plan)) plan.scripts

abbrev plan_schedule : Plan → Bool
plan_schedule plan = list_all (is_turn plan.workers) plan.schedule

abbrev plan_refers : Plan → Bool
plan_refers plan = list_all (λ (line : ObjectLine). refers plan.objects line.kind) plan.objects

abbrev plan_dormant : Plan → Bool
plan_dormant plan = eqb (length plan.dormant) plan.workers

abbrev plan_starts : Plan → Bool
plan_starts plan = list_all (list_all (λ (call : Call). starts_dormant plan.dormant call.operation)) plan.scripts

valid_rest : (plan : Plan) → is_valid plan ≡ true → (plan_scripts plan ≡ true) × ((plan_schedule plan && (plan_refers plan && (plan_dormant plan && plan_starts plan))) ≡ true)
valid_rest plan e =
    let later = plan_schedule plan && (plan_refers plan && (plan_dormant plan && plan_starts plan)) in
    both (plan_scripts plan) later (both (eqb (length plan.scripts) plan.workers) (plan_scripts plan && later) e).1

valid_schedules : (plan : Plan) → is_valid plan ≡ true → (plan_schedule plan ≡ true) × ((plan_refers plan && (plan_dormant plan && plan_starts plan)) ≡ true)
valid_schedules plan e = both (plan_schedule plan) (plan_refers plan && (plan_dormant plan && plan_starts plan)) (valid_rest plan e).1

pub valid_schedule : (plan : Plan) → is_valid plan ≡ true → list_all (is_turn plan.workers) plan.schedule ≡ true
valid_schedule plan e = (valid_schedules plan e).0

valid_objects : (plan : Plan) → is_valid plan ≡ true → (plan_refers plan ≡ true) × ((plan_dormant plan && plan_starts plan) ≡ true)
valid_objects plan e = both (plan_refers plan) (plan_dormant plan && plan_starts plan) (valid_schedules plan e).1

valid_refers : (plan : Plan) → is_valid plan ≡ true → plan_refers plan ≡ true
valid_refers plan e = (valid_objects plan e).0

valid_last : (plan : Plan) → is_valid plan ≡ true → (plan_dormant plan ≡ true) × (plan_starts plan ≡ true)
valid_last plan e = both (plan_dormant plan) (plan_starts plan) (valid_objects plan e).1

pub valid_dormant : (plan : Plan) → is_valid plan ≡ true → length plan.dormant ≡ plan.workers
valid_dormant plan e = eqb-true (length plan.dormant) plan.workers (valid_last plan e).0

-- a call of the scripts is on an object that has it
script_is_on : (plan : Plan) (by place : ℕ) (call : Call) → is_valid plan ≡ true → slice_get (get_or plan.scripts by []) place ≡ Some call → is_on plan.objects (slice_get plan.objects call.object) call ≡ true
script_is_on plan by place call valid there = all_get (on_plan plan) (get_or plan.scripts by []) place call (all_at (on_plan plan) plan.scripts by (valid_rest plan valid).0) there

-- so is the next call of a worker's script
call_is_on : (plan : Plan) (worker : ℕ) (given : List (Reply (List ℕ))) (call : Call) → is_valid plan ≡ true → IsOfScript plan worker given call → is_on plan.objects (slice_get plan.objects call.object) call ≡ true
call_is_on plan worker given call valid is =
    let at = in_script (get_or plan.scripts worker []) given call is.first in
    script_is_on plan worker at.0 call valid at.1

-- the kind of an object is the one that the plan says
pub kind_there : (plan : Plan) (s : State) (object : ℕ) → IsStateOf plan s → option_map kind_of (slice_get s.objects object) ≡ option_map (λ (line : ObjectLine). line.kind) (slice_get plan.objects object)
kind_there plan s object of =
    sym (slice_get-map kind_of s.objects object)
    ∙ ap (λ (ks : List ObjectKind). slice_get ks object) of.objects
    ∙ slice_get-map (λ (line : ObjectLine). line.kind) plan.objects object

-- where no call is next, none is left
some_none : {X : Type 0} (x : X) → Some x ≡ None → ⊥
some_none x e = cc

-- an object that has the call
abbrev Has : Plan → Option ObjectState → Call → Type 0
Has plan o call = (object : ObjectState) × (o ≡ Some object) × (has_among plan.objects (kind_of object) call.operation ≡ true)

found : (plan : Plan) (o : Option ObjectState) (l : Option ObjectLine) (call : Call) → option_map kind_of o ≡ option_map (λ (line : ObjectLine). line.kind) l → is_on plan.objects l call ≡ true → Has plan o call
found plan None None call e on = absurd cc
found plan None (Some line) call e on = absurd cc
found plan (Some object) None call e on = absurd cc
found plan (Some object) (Some line) call e on =
    let same : kind_of object ≡ line.kind = cc in
    (object, refl, subst (λ kind. has_among plan.objects kind call.operation ≡ true) (sym same) on)

-- what it says of its kind: a `waitfor` is a call of a cond, whose atomic may hold the value, a `go` one of a wait group, and every other call hangs on no other object
abbrev HasBy : List ObjectLine → ObjectKind → Operation → Type 0
HasBy lines kind (operations.Composed (WaitFor atomic value tries)) = (has_call kind (operations.Cond Wait) ≡ true) × (option_map_or (λ (line : ObjectLine). may_hold value line.kind) (slice_get lines atomic) false ≡ true)
HasBy lines kind (operations.Composed (Go started)) = (call : WaitGroupCall) → has_call kind (operations.WaitGroup call) ≡ true
HasBy lines kind operation = has_call kind operation ≡ true

has_by : (lines : List ObjectLine) (kind : ObjectKind) (operation : Operation) → has_among lines kind operation ≡ true → HasBy lines kind operation
has_by lines (kinds.Cond mutex) (operations.Composed (WaitFor atomic value tries)) has = (refl, has)
has_by lines kind (operations.Composed (WaitFor atomic value tries)) has = absurd cc
has_by lines (kinds.WaitGroup start) (operations.Composed (Go started)) has = λ call. refl
has_by lines kind (operations.Composed (Go started)) has = absurd cc
has_by lines kind operation has = has

-- an object that may hold a number has its load
may_load : (value : Number) (kind : ObjectKind) → may_hold value kind ≡ true → has_call kind (operations.Atomic Load) ≡ true
may_load value (kinds.Atomic kind) is = refl
may_load value kind is = absurd cc

abbrev Loads : Option ObjectState → Type 0
Loads o = (object : ObjectState) × (o ≡ Some object) × (has_call (kind_of object) (operations.Atomic Load) ≡ true)

loads : (o : Option ObjectState) (l : Option ObjectLine) (value : Number) → option_map kind_of o ≡ option_map (λ (line : ObjectLine). line.kind) l → option_map_or (λ (line : ObjectLine). may_hold value line.kind) l false ≡ true → Loads o
loads None None value e is = absurd cc
loads None (Some line) value e is = absurd cc
loads (Some object) None value e is = absurd cc
loads (Some object) (Some line) value e is =
    let same : kind_of object ≡ line.kind = cc in
    (object, refl, subst (λ kind. has_call kind (operations.Atomic Load) ≡ true) (sym same) (may_load value line.kind is))

-- what an object's line says of the object to which it refers, as the objects of a run have it
abbrev Targets : Option ObjectState → ObjectKind → Type 0
Targets o kind = (target : ObjectState) × (o ≡ Some target) × (is_target kind (kind_of target) ≡ true)

target_found : (o : Option ObjectState) (l : Option ObjectLine) (kind : ObjectKind) → option_map kind_of o ≡ option_map (λ (line : ObjectLine). line.kind) l
    → option_map_or (λ (line : ObjectLine). is_target kind line.kind) l false ≡ true → Targets o kind
target_found None None kind e is = absurd cc
target_found None (Some line) kind e is = absurd cc
target_found (Some object) None kind e is = absurd cc
target_found (Some object) (Some line) kind e is =
    let same : kind_of object ≡ line.kind = cc in
    (object, refl, subst (λ k. is_target kind k ≡ true) (sym same) is)

refers_to : (plan : Plan) (kind : ObjectKind) (place : ℕ) → refers plan.objects kind ≡ true → reference_of kind ≡ Some place
    → option_map_or (λ (line : ObjectLine). is_target kind line.kind) (slice_get plan.objects place) false ≡ true
refers_to plan kind place is at =
    sym (ap (λ o. option_map_or (λ place. option_map_or (λ (line : ObjectLine). is_target kind line.kind) (slice_get plan.objects place) false) o true) at) ∙ is

-- the line of the object at a place refers to one of the right kind
line_refers : (plan : Plan) (s : State) (place : ℕ) (object : ObjectState) (l : Option ObjectLine) → IsStateOf plan s → slice_get s.objects place ≡ Some object → slice_get plan.objects place ≡ l
    → option_map kind_of (Some object) ≡ option_map (λ (line : ObjectLine). line.kind) l → refers plan.objects (kind_of object) ≡ true
line_refers plan s place object None of at there e = absurd cc
line_refers plan s place object (Some line) of at there e =
    let same : kind_of object ≡ line.kind = cc in
    subst (λ kind. refers plan.objects kind ≡ true) (sym same) (all_get (λ (line : ObjectLine). refers plan.objects line.kind) plan.objects place line (valid_refers plan of.valid) there)

pub has_target : (plan : Plan) (s : State) (place : ℕ) (object : ObjectState) → IsStateOf plan s → slice_get s.objects place ≡ Some object
    → (other : ℕ) → reference_of (kind_of object) ≡ Some other → HasTarget plan.workers s.objects object other
has_target plan s place object of at other refers_other =
    let line = sym (ap (option_map kind_of) at) ∙ kind_there plan s place of in
    let is = line_refers plan s place object (slice_get plan.objects place) of at refl line in
    let t = target_found (slice_get s.objects other) (slice_get plan.objects other) (kind_of object) (kind_there plan s other of) (refers_to plan (kind_of object) other is refers_other) in
    record { target = t.0; there = t.1; is = t.2; machine = of.machines other t.0 t.1 }

-- how many waits the first of some calls may make
first_tries : (calls : List Call) (call : Call) → slice_get calls 0 ≡ Some call → next_tries calls ≡ tries_of call.operation
first_tries [] call at = absurd cc
first_tries (first ∷ calls) call at =
    let same : first ≡ call = cc in
    ap (λ (c : Call). tries_of c.operation) same

-- and the call before which a worker stands: no waits, where it is the one behind the script
tries_next : (plan : Plan) (worker : ℕ) (given : List (Reply (List ℕ))) (call : Call) → IsOfScript plan worker given call ⊎ IsClosing plan worker given call → next_tries (left_of (get_or plan.scripts worker []) given) ≡ tries_of call.operation
tries_next plan worker given call (inl is) = first_tries (left_of (get_or plan.scripts worker []) given) call is.first
tries_next plan worker given call (inr is) = ap next_tries is.none ∙ ap (λ (c : Call). tries_of c.operation) (sym is.is)

-- a worker that has a call left is there
pub is_there : (plan : Plan) (worker : ℕ) (s : State) (call : Call) → IsStateOf plan s → next_call plan worker s ≡ Some call → worker < plan.workers
is_there plan worker s call of is = omega (arith, live_there s.stands worker (next_live plan worker s call is), of.count)

-- ---- what is ready for a turn

module _ (plan : Plan) (worker : ℕ) (s : State) (of : IsStateOf plan s) (below : worker < plan.workers) where
  ready_at : (call : Call) (object : ObjectState) → slice_get s.objects call.object ≡ Some object → has_call (kind_of object) call.operation ≡ true → IsReady plan.workers worker call s.objects
  ready_at call object at has = record {
    object = object;
    there = at;
    has = has;
    below = below;
    machine = of.machines call.object object at;
    refers = has_target plan s call.object object of at;
  }

  ready_by : (call : Call) (object : ObjectState) → slice_get s.objects call.object ≡ Some object → (operation : Operation) → call.operation ≡ operation → HasBy plan.objects (kind_of object) operation
      → ReadyBy plan.workers worker call s.objects operation
  ready_by call object at (operations.Composed (WaitFor atomic value tries)) is has =
      let there = loads (slice_get s.objects atomic) (slice_get plan.objects atomic) value (kind_there plan s atomic of) has.1 in
      (ready_at (wait_on call.object) object at has.0, ready_at (load_of atomic) there.0 there.1 there.2)
  ready_by call object at (operations.Composed (Go started)) is has = ready_at (add_one call.object) object at (has (group_calls.Add (pos 1)))
  ready_by call object at operation is has = ready_at call object at (subst (λ (o : Operation). has_call (kind_of object) o ≡ true) (sym is) has)

  -- a call that the scripts may make
  ready_on : (call : Call) → is_on plan.objects (slice_get plan.objects call.object) call ≡ true → IsReadyWithin plan.workers worker call s.objects
  ready_on call on =
      let has = found plan (slice_get s.objects call.object) (slice_get plan.objects call.object) call (kind_there plan s call.object of) on in
      ready_by call has.0 has.1 call.operation refl (has_by plan.objects (kind_of has.0) call.operation has.2)

  -- a call of the group under which a worker is started
  ready_group : (group : ℕ) (by : ℕ) (call : WaitGroupCall) → group_of by plan.scripts ≡ Some group → IsReady plan.workers worker (record { object = group; operation = operations.WaitGroup call }) s.objects
  ready_group group by call under =
      let started = is_started by plan.scripts group under in
      let on = script_is_on plan started.by started.place started.call of.valid started.there in
      let has = found plan (slice_get s.objects started.call.object) (slice_get plan.objects started.call.object) started.call (kind_there plan s started.call.object of) on in
      let goes : HasBy plan.objects (kind_of has.0) (operations.Composed (Go by)) = has_by plan.objects (kind_of has.0) (operations.Composed (Go by))
      (ap (has_among plan.objects (kind_of has.0)) (sym started.goes) ∙ has.2) in
      ready_at (record { object = group; operation = operations.WaitGroup call }) has.0 (ap (slice_get s.objects) (sym started.on) ∙ has.1) (goes call)

  ready_is : (given : List (Reply (List ℕ))) (call : Call) → IsOfScript plan worker given call ⊎ IsClosing plan worker given call → IsReadyWithin plan.workers worker call s.objects
  ready_is given call (inl is) = ready_on call (call_is_on plan worker given call of.valid is)
  ready_is given call (inr is) = subst (λ (c : Call). IsReadyWithin plan.workers worker c s.objects) (sym is.is) (ready_group is.group worker group_calls.Done is.under)

-- what the call before which a worker stands needs is ready for it
pub ready : (plan : Plan) (worker : ℕ) (s : State) (call : Call) → IsStateOf plan s → next_call plan worker s ≡ Some call → IsReadyWithin plan.workers worker call s.objects
ready plan worker s call of is = ready_is plan worker s of (is_there plan worker s call of is) (get_or s.replies worker []) call (next_is plan worker s call is)

-- it has begun no more waits than that call may make
pub few_begun : (plan : Plan) (worker : ℕ) (s : State) (call : Call) → IsStateOf plan s → next_call plan worker s ≡ Some call → begun_by worker s ≤ tries_of call.operation
few_begun plan worker s call of is = subst (λ (n : ℕ). begun_by worker s ≤ n) (tries_next plan worker (get_or s.replies worker []) call (next_is plan worker s call is)) (of.few worker)

-- ---- the cases of a turn

-- a worker stands before the call or within it, and its turn comes to these objects, so many waits that were begun by then, and this answer
pub record Takes (plan : Plan) (worker : ℕ) (s : State) (call : Call) (objects : List ObjectState) (waits : ℕ) (answer : Answer) : Type 0 where
  pub next : next_call plan worker s ≡ Some call
  pub below : worker < plan.workers
  pub turn : turn_within call worker s.moment (begun_by worker s) s.objects ≡ ((objects, waits), answer)

abbrev pub moved : ℕ → List ObjectState → ℕ → State → State
moved worker objects waits s = record s { objects = objects; begun = set s.begun worker waits }

pub completed_script : (plan : Plan) (worker : ℕ) (s : State) (call : Call) (reply : Reply (List ℕ)) → IsOfScript plan worker (get_or s.replies worker []) call → completed plan worker call reply s ≡ answered worker call reply s
completed_script plan worker s call reply is = ap (λ b. cond b (with_stand worker Gone s) (answered worker call reply s)) is.within

pub completed_closing : (plan : Plan) (worker : ℕ) (s : State) (call : Call) (reply : Reply (List ℕ)) → IsClosing plan worker (get_or s.replies worker []) call → completed plan worker call reply s ≡ with_stand worker Gone s
completed_closing plan worker s call reply is = ap (λ b. cond b (with_stand worker Gone s) (answered worker call reply s)) is.behind

-- and so any answer of the one, or of the other
pub settled_script : (plan : Plan) (worker : ℕ) (s : State) (call : Call) (answer : Answer) → IsOfScript plan worker (get_or s.replies worker []) call → settled plan worker call answer s ≡ settled_by (answered worker call) answer s
settled_script plan worker s call answers.Still is = refl
settled_script plan worker s call answers.Unfinished is = refl
settled_script plan worker s call (answers.Completed reply) is = ap (λ (t : State). (t, steps.Made)) (completed_script plan worker s call reply is)
settled_script plan worker s call (answers.Misused misuse) is = refl

pub settled_closing : (plan : Plan) (worker : ℕ) (s : State) (call : Call) (answer : Answer) → IsClosing plan worker (get_or s.replies worker []) call → settled plan worker call answer s ≡ settled_by (λ reply. with_stand worker Gone) answer s
settled_closing plan worker s call answers.Still is = refl
settled_closing plan worker s call answers.Unfinished is = refl
settled_closing plan worker s call (answers.Completed reply) is = ap (λ (t : State). (t, steps.Made)) (completed_closing plan worker s call reply is)
settled_closing plan worker s call (answers.Misused misuse) is = refl

-- by what the turn is answered
pub record Cases (P : State × Step → Type 0) (plan : Plan) (worker : ℕ) (s : State) : Type 0 where
  pub ended : next_call plan worker s ≡ None → P (s, steps.Still)
  pub still : (call : Call) (objects : List ObjectState) (waits : ℕ) → Takes plan worker s call objects waits answers.Still → P (moved worker objects waits s, steps.Still)
  pub unfinished : (call : Call) (objects : List ObjectState) (waits : ℕ) → Takes plan worker s call objects waits answers.Unfinished → P (moved worker objects waits s, steps.Made)
  pub completed : (call : Call) (objects : List ObjectState) (waits : ℕ) (reply : Reply (List ℕ)) → Takes plan worker s call objects waits (answers.Completed reply) → IsOfScript plan worker (get_or s.replies worker []) call
      → P (answered worker call reply (moved worker objects waits s), steps.Made)
  pub closed : (call : Call) (objects : List ObjectState) (waits : ℕ) (reply : Reply (List ℕ)) → Takes plan worker s call objects waits (answers.Completed reply) → IsClosing plan worker (get_or s.replies worker []) call
      → P (with_stand worker Gone (moved worker objects waits s), steps.Made)
  pub misused : (call : Call) (objects : List ObjectState) (waits : ℕ) (misuse : Misuse) → Takes plan worker s call objects waits (answers.Misused misuse) → P (moved worker objects waits s, steps.Misused misuse)

module _ (P : State × Step → Type 0) (plan : Plan) (worker : ℕ) (s : State) (cases : Cases P plan worker s) (call : Call) (objects : List ObjectState) (waits : ℕ) where
  by_completed : (reply : Reply (List ℕ)) → Takes plan worker s call objects waits (answers.Completed reply) → IsOfScript plan worker (get_or s.replies worker []) call ⊎ IsClosing plan worker (get_or s.replies worker []) call
      → P (settled plan worker call (answers.Completed reply) (moved worker objects waits s))
  by_completed reply takes (inl is) = subst (λ (t : State). P (t, steps.Made)) (sym (completed_script plan worker (moved worker objects waits s) call reply is)) (cases.completed call objects waits reply takes is)
  by_completed reply takes (inr is) = subst (λ (t : State). P (t, steps.Made)) (sym (completed_closing plan worker (moved worker objects waits s) call reply is)) (cases.closed call objects waits reply takes is)

  by_answer : (a : Answer) → Takes plan worker s call objects waits a → P (settled plan worker call a (moved worker objects waits s))
  by_answer answers.Still takes = cases.still call objects waits takes
  by_answer answers.Unfinished takes = cases.unfinished call objects waits takes
  by_answer (answers.Completed reply) takes = by_completed reply takes (next_is plan worker s call takes.next)
  by_answer (answers.Misused misuse) takes = cases.misused call objects waits misuse takes

by_next : (P : State × Step → Type 0) (plan : Plan) (worker : ℕ) (s : State) → IsStateOf plan s → Cases P plan worker s → (o : Option Call) → next_call plan worker s ≡ o
    → P (option_map_or (λ call. settled_with plan worker call (turn_within call worker s.moment (begun_by worker s) s.objects) s) o (s, steps.Still))
by_next P plan worker s of cases None is = cases.ended is
by_next P plan worker s of cases (Some call) is =
    let x = turn_within call worker s.moment (begun_by worker s) s.objects in
    by_answer P plan worker s cases call x.0.0 x.0.1 x.1 (record { next = is; below = is_there plan worker s call of is; turn = refl })

pub turn_cases : (P : State × Step → Type 0) (plan : Plan) (worker : ℕ) (s : State) → IsStateOf plan s → Cases P plan worker s → P (turn_of plan worker s)
turn_cases P plan worker s of cases = by_next P plan worker s of cases (next_call plan worker s) refl

-- ---- the state behind a turn

-- what is so of the objects behind any turn is so of them behind this one
pub takes_by : (P : Taken → Type 0) (plan : Plan) (worker : ℕ) (s : State) (call : Call) (objects : List ObjectState) (waits : ℕ) (answer : Answer) → IsStateOf plan s → Takes plan worker s call objects waits answer
    → (IsReadyWithin plan.workers worker call s.objects → P (turn_within call worker s.moment (begun_by worker s) s.objects)) → P ((objects, waits), answer)
takes_by P plan worker s call objects waits answer of takes each = subst P takes.turn (each (ready plan worker s call of takes.next))

pub takes_use : TurnsUse → (plan : Plan) (worker : ℕ) (s : State) (call : Call) (objects : List ObjectState) (waits : ℕ) (answer : Answer) → IsStateOf plan s → Takes plan worker s call objects waits answer
    → ObjectsUse (begun_by worker s) s.objects ((objects, waits), answer)
takes_use laws plan worker s call objects waits answer of takes =
    takes_by (ObjectsUse (begun_by worker s) s.objects) plan worker s call objects waits answer of takes (laws.uses plan.workers worker s.moment (begun_by worker s) call s.objects)

-- the call has begun no more waits than it may make
pub takes_few : TurnsUse → (plan : Plan) (worker : ℕ) (s : State) (call : Call) (objects : List ObjectState) (waits : ℕ) (answer : Answer) → IsStateOf plan s → Takes plan worker s call objects waits answer → waits ≤ tries_of call.operation
takes_few laws plan worker s call objects waits answer of takes =
    takes_by (λ x. x.0.1 ≤ tries_of call.operation) plan worker s call objects waits answer of takes (λ r. laws.few worker s.moment (begun_by worker s) call s.objects (few_begun plan worker s call of takes.next))

-- how many waits each worker has begun then
pub begun_own : (worker waits : ℕ) (objects : List ObjectState) (s : State) → worker < length s.begun → begun_by worker (moved worker objects waits s) ≡ waits
begun_own worker waits objects s here = get_or-set_same s.begun worker waits 0 here

pub begun_other : (worker other waits : ℕ) (objects : List ObjectState) (s : State) → other ≢ worker → begun_by other (moved worker objects waits s) ≡ begun_by other s
begun_other worker other waits objects s apart = get_or-set_other s.begun worker other waits 0 apart

pub replied_begun : (worker : ℕ) (reply : Reply (List ℕ)) (s : State) → worker < length s.begun → begun_by worker (with_reply worker reply s) ≡ 0
replied_begun worker reply s here = get_or-set_same s.begun worker 0 0 here

pub replied_begun_other : (worker other : ℕ) (reply : Reply (List ℕ)) (s : State) → other ≢ worker → begun_by other (with_reply worker reply s) ≡ begun_by other s
replied_begun_other worker other reply s apart = get_or-set_other s.begun worker other 0 0 apart

moved_few : (plan : Plan) (worker : ℕ) (s : State) (call : Call) (objects : List ObjectState) (waits : ℕ) → IsStateOf plan s → worker < plan.workers → next_call plan worker s ≡ Some call → waits ≤ tries_of call.operation
    → (k : ℕ) → begun_by k (moved worker objects waits s) ≤ next_tries (left_of (get_or plan.scripts k []) (get_or s.replies k []))
moved_few plan worker s call objects waits of below next few k = elim (eqb k worker) as (λ b. eqb k worker ≡ b → begun_by k (moved worker objects waits s) ≤ next_tries (left_of (get_or plan.scripts k []) (get_or s.replies k []))) [
  | true ↦ λ e.
      let same : worker ≡ k = sym (eqb-true k worker e) in
      let given = get_or s.replies worker [] in
      let own : begun_by worker (moved worker objects waits s) ≤ next_tries (left_of (get_or plan.scripts worker []) given) =
      omega (arith, begun_own worker waits objects s (omega (arith, below, of.waits)), few, tries_next plan worker given call (next_is plan worker s call next)) in
      subst (λ (w : ℕ). begun_by w (moved worker objects waits s) ≤ next_tries (left_of (get_or plan.scripts w []) (get_or s.replies w []))) same own
  | false ↦ λ e. omega (arith, begun_other worker k waits objects s (eqb-false k worker e), of.few k)
] refl

pub moved_of : TurnsKeep → TurnsUse → (plan : Plan) (worker : ℕ) (s : State) (call : Call) (objects : List ObjectState) (waits : ℕ) (answer : Answer) → IsStateOf plan s → Takes plan worker s call objects waits answer
    → IsStateOf plan (moved worker objects waits s)
moved_of laws uses plan worker s call objects waits answer of takes = record {
  valid = of.valid;
  objects = takes_by (λ x. map kind_of x.0.0 ≡ map kind_of s.objects) plan worker s call objects waits answer of takes (laws.kinds plan.workers worker s.moment (begun_by worker s) call s.objects) ∙ of.objects;
  machines = takes_by (λ x. EachAt (λ place. IsMachineOf plan.workers) x.0.0) plan worker s call objects waits answer of takes (λ r. laws.machines plan.workers worker s.moment (begun_by worker s) call s.objects r of.machines);
  workers = of.workers;
  within = of.within;
  waits = length-set s.begun worker waits ∙ of.waits;
  few = moved_few plan worker s call objects waits of takes.below takes.next (takes_few uses plan worker s call objects waits answer of takes);
  made = of.made;
  count = of.count;
  each = of.each;
}

-- one reply more
pub replied_more : (worker : ℕ) (reply : Reply (List ℕ)) (s : State) → worker < length s.replies → length (get_or (with_reply worker reply s).replies worker []) ≡ length (get_or s.replies worker []) + 1
replied_more worker reply s here =
    let more = get_or s.replies worker [] ++ reply ∷ [] in
    ap (length {A = (Reply (List ℕ))}) (get_or-set_same s.replies worker more [] here) ∙ length-append (get_or s.replies worker []) (reply ∷ [])

pub replied_other : (worker other : ℕ) (reply : Reply (List ℕ)) (s : State) → other ≢ worker → get_or (with_reply worker reply s).replies other [] ≡ get_or s.replies other []
replied_other worker other reply s apart = get_or-set_other s.replies worker other (get_or s.replies worker [] ++ reply ∷ []) [] apart

-- what is so of each worker's replies behind one more
pub replied_each : (P : ℕ → List (Reply (List ℕ)) → Type 0) (worker : ℕ) (reply : Reply (List ℕ)) (s : State) → worker < length s.replies → P worker (get_or s.replies worker [] ++ reply ∷ [])
    → ((k : ℕ) → P k (get_or s.replies k [])) → (k : ℕ) → P k (get_or (with_reply worker reply s).replies k [])
replied_each P worker reply s here own others k = elim (eqb k worker) as (λ b. eqb k worker ≡ b → P k (get_or (with_reply worker reply s).replies k [])) [
  | true ↦ λ e.
      let same : worker ≡ k = sym (eqb-true k worker e) in
      subst (λ (w : ℕ). P w (get_or (with_reply worker reply s).replies w [])) same
      (subst (P worker) (sym (get_or-set_same s.replies worker (get_or s.replies worker [] ++ reply ∷ []) [] here)) own)
  | false ↦ λ e. subst (P k) (sym (replied_other worker k reply s (eqb-false k worker e))) (others k)
] refl

replied_of : GoesFurther → (plan : Plan) (worker : ℕ) (s : State) (call : Call) (reply : Reply (List ℕ)) → IsStateOf plan s → worker < plan.workers → stand_of worker s ≡ Live → IsOfScript plan worker (get_or s.replies worker []) call
    → IsStateOf plan (with_reply worker reply s)
replied_of further plan worker s call reply of below live is =
    let here : worker < length s.replies = omega (arith, of.workers) in
    let script = get_or plan.scripts worker [] in
    let given = get_or s.replies worker [] in
    let room : length given < length script = omega (arith, of.made worker, further.few script given, ap (length {A = Call}) is.left) in
    let more : length (given ++ reply ∷ []) ≡ length given + 1 = length-append given (reply ∷ []) in
    let made : length (made_of script (given ++ reply ∷ [])) ≡ length given + 1 =
    ap (length {A = Call}) (further.made script given call is.rest reply is.left) ∙ length-append (made_of script given) (call ∷ []) ∙ ap (λ (n : ℕ). n + 1) (of.made worker) in
    let none_begun : begun_by worker (with_reply worker reply s) ≡ 0 = replied_begun worker reply s (omega (arith, of.waits, below)) in
    record {
      valid = of.valid;
      objects = of.objects;
      machines = of.machines;
      workers = length-set s.replies worker (given ++ reply ∷ []) ∙ of.workers;
      waits = length-set s.begun worker 0 ∙ of.waits;
      few = λ k. elim (eqb k worker) as (λ b. eqb k worker ≡ b → begun_by k (with_reply worker reply s) ≤ next_tries (left_of (get_or plan.scripts k []) (get_or (with_reply worker reply s).replies k []))) [
        | true ↦ λ e.
            let none : begun_by k (with_reply worker reply s) ≡ 0 = ap (λ (w : ℕ). begun_by w (with_reply worker reply s)) (eqb-true k worker e) ∙ none_begun in
            omega (arith, none)
        | false ↦ λ e.
            let apart : k ≢ worker = eqb-false k worker e in
            subst (λ (replies : List (Reply (List ℕ))). begun_by k (with_reply worker reply s) ≤ next_tries (left_of (get_or plan.scripts k []) replies)) (sym (replied_other worker k reply s apart))
            (omega (arith, replied_begun_other worker k reply s apart, of.few k))
      ] refl;
      within = replied_each (λ k replies. length replies ≤ length (get_or plan.scripts k [])) worker reply s here (omega (arith, more, room)) of.within;
      made = replied_each (λ k replies. length (made_of (get_or plan.scripts k []) replies) ≡ length replies) worker reply s here (made ∙ sym more) of.made;
      count = of.count;
      each = replied_each (λ k replies. k < plan.workers → StandsSo plan k replies (stand_of k s)) worker reply s here (λ there. subst (StandsSo plan worker (given ++ reply ∷ [])) (sym live) tt) of.each;
    }

-- a worker is started, if any is
started_of : (plan : Plan) (started : Option ℕ) (s : State) → IsStateOf plan s → IsStateOf plan (with_started started s)
started_of plan started s of = record {
  valid = of.valid;
  objects = of.objects;
  machines = of.machines;
  workers = of.workers;
  within = of.within;
  waits = of.waits;
  few = of.few;
  made = of.made;
  count = started_count started s.stands ∙ of.count;
  each = λ k below. elim (started_stand started s.stands k) [
    | inl stays ↦ subst (StandsSo plan k (get_or s.replies k [])) (sym stays) (of.each k below)
    | inr wakes ↦ subst (StandsSo plan k (get_or s.replies k [])) (sym wakes.live) tt
  ];
}

-- a call of the script is answered
pub answered_of : GoesFurther → (plan : Plan) (worker : ℕ) (s : State) (call : Call) (reply : Reply (List ℕ)) → IsStateOf plan s → worker < plan.workers → stand_of worker s ≡ Live → IsOfScript plan worker (get_or s.replies worker []) call
    → IsStateOf plan (answered worker call reply s)
answered_of further plan worker s call reply of below live is = started_of plan (started_by call.operation) (with_reply worker reply s) (replied_of further plan worker s call reply of below live is)

-- what is so of how each worker stands behind the `done` of one
pub gone_each : (P : ℕ → Stand → Type 0) (worker : ℕ) (s : State) → P worker Gone → ((k : ℕ) → P k (stand_of k s)) → (k : ℕ) → P k (stand_of k (with_stand worker Gone s))
gone_each P worker s own others k = elim (eqb k worker) as (λ b. eqb k worker ≡ b → P k (stand_of k (with_stand worker Gone s))) [
  | true ↦ λ e.
      let same : worker ≡ k = sym (eqb-true k worker e) in
      subst (λ (w : ℕ). P w (stand_of w (with_stand worker Gone s))) same (subst (P worker) (sym (gone_own s.stands worker)) own)
  | false ↦ λ e. subst (P k) (sym (get_or-set_other s.stands worker k Gone Gone (eqb-false k worker e))) (others k)
] refl

pub closed_of : (plan : Plan) (worker : ℕ) (s : State) (call : Call) → IsStateOf plan s → IsClosing plan worker (get_or s.replies worker []) call → IsStateOf plan (with_stand worker Gone s)
closed_of plan worker s call of is = record {
  valid = of.valid;
  objects = of.objects;
  machines = of.machines;
  workers = of.workers;
  within = of.within;
  waits = of.waits;
  few = of.few;
  made = of.made;
  count = length-set s.stands worker Gone ∙ of.count;
  each = gone_each (λ k stand. k < plan.workers → StandsSo plan k (get_or s.replies k []) stand) worker s (λ below. (is.waits, is.none)) of.each;
}

-- a turn keeps what states keep
pub turn_valid : TurnsKeep → TurnsUse → GoesFurther → (plan : Plan) (worker : ℕ) (s : State) → IsStateOf plan s → IsStateOf plan (turn_of plan worker s).0
turn_valid laws uses further plan worker s of = turn_cases (λ step. IsStateOf plan step.0) plan worker s of (record {
  ended = λ is. of;
  still = λ call objects waits takes. moved_of laws uses plan worker s call objects waits answers.Still of takes;
  unfinished = λ call objects waits takes. moved_of laws uses plan worker s call objects waits answers.Unfinished of takes;
  completed = λ call objects waits reply takes is.
      answered_of further plan worker (moved worker objects waits s) call reply (moved_of laws uses plan worker s call objects waits (answers.Completed reply) of takes) takes.below (next_live plan worker s call takes.next) is;
  closed = λ call objects waits reply takes is. closed_of plan worker (moved worker objects waits s) call (moved_of laws uses plan worker s call objects waits (answers.Completed reply) of takes) is;
  misused = λ call objects waits misuse takes. moved_of laws uses plan worker s call objects waits (answers.Misused misuse) of takes;
})

-- ---- before which call another worker stands behind a completed one

-- before the same as it did, unless it waited to be started
pub next_other : (plan : Plan) (worker other : ℕ) (call : Call) (reply : Reply (List ℕ)) (s : State) → other ≢ worker → (next_call plan other (answered worker call reply s) ≡ next_call plan other s) ⊎ (stand_of other s ≡ Waits)
next_other plan worker other call reply s apart = elim (started_stand (started_by call.operation) s.stands other) [
  | inl stays ↦ inl (λ i. slice_get (left_with plan other (stays i) (replied_other worker other reply s apart i)) 0)
  | inr wakes ↦ inr wakes.waited
]

pub next_gone : (plan : Plan) (worker other : ℕ) (s : State) → other ≢ worker → next_call plan other (with_stand worker Gone s) ≡ next_call plan other s
next_gone plan worker other s apart = ap (λ stand. slice_get (left_with plan other stand (get_or s.replies other [])) 0) (get_or-set_other s.stands worker other Gone Gone apart)

-- ---- what is left to do behind a turn

-- a sum over workers, where one has so many fewer now, or more, and no other has more
sum_less : (old new : ℕ → ℕ) (first count : ℕ) → ((k : ℕ) → first ≤ k → new k ≤ old k) → sum_by new (range_with_len first count) ≤ sum_by old (range_with_len first count)
sum_less old new first zero less = omega arith
sum_less old new first (suc count) less =
    omega (arith, less first (omega arith), sum_less old new (first + 1) count (λ k from. less k (omega (arith, from))), sum_by-cons new first (range_with_len (first + 1) count), sum_by-cons old first (range_with_len (first + 1) count))

sum_moved : (old new : ℕ → ℕ) (worker fewer more first count : ℕ) → ((k : ℕ) → k ≢ worker → new k ≤ old k) → new worker + fewer ≤ old worker + more → first ≤ worker → worker < first + count
    → sum_by new (range_with_len first count) + fewer ≤ sum_by old (range_with_len first count) + more
sum_moved old new worker fewer more first zero less own from below = absurd (omega (arith, from, below))
sum_moved old new worker fewer more first (suc count) less own from below =
    let rest = range_with_len (first + 1) count in
    elim (eqb first worker) as (λ b. eqb first worker ≡ b → sum_by new (first ∷ rest) + fewer ≤ sum_by old (first ∷ rest) + more) [
      | true ↦ λ e.
          let same : first ≡ worker = eqb-true first worker e in
          let here : new first + fewer ≤ old first + more = subst (λ (k : ℕ). new k + fewer ≤ old k + more) (sym same) own in
          omega (arith, here, sum_less old new (first + 1) count (λ k above. less k (λ (is : k ≡ worker). omega (arith, is, same, above))), sum_by-cons new first rest, sum_by-cons old first rest)
      | false ↦ λ e.
          let apart : first ≢ worker = eqb-false first worker e in
          omega (arith, less first apart, sum_moved old new worker fewer more (first + 1) count less own (omega (arith, apart, from)) (omega (arith, below)), sum_by-cons new first rest, sum_by-cons old first rest)
    ] refl

abbrev tries_in : List Call → ℕ
tries_in calls = sum_by (λ call. tries_of call.operation) calls

-- one call fewer is left for the worker, and so are the waits that it may make. For the others all is the same
record LeavesFewer (plan : Plan) (worker : ℕ) (call : Call) (s t : State) : Type 0 where
  others : (k : ℕ) → k ≢ worker → all_left plan k t ≡ all_left plan k s
  begun : (k : ℕ) → k ≢ worker → begun_by k t ≡ begun_by k s
  own : length (all_left plan worker t) + 1 ≤ length (all_left plan worker s)
  tries : tries_in (all_left plan worker t) + tries_of call.operation ≤ tries_in (all_left plan worker s)

module _ (plan : Plan) (worker : ℕ) (s : State) (call : Call) (next : next_call plan worker s ≡ Some call) (objects : List ObjectState) (waits : ℕ) where
  -- behind an answered call of the script
  answered_fewer : GoesFurther → worker < length s.replies → (reply : Reply (List ℕ)) → IsOfScript plan worker (get_or s.replies worker []) call → LeavesFewer plan worker call s (answered worker call reply (moved worker objects waits s))
  answered_fewer further here reply is =
      let given = get_or s.replies worker [] in
      let t = answered worker call reply (moved worker objects waits s) in
      let last = closing_calls plan worker in
      let passed = passed_over call reply in
      let before : all_left plan worker s ≡ (call ∷ is.rest) ++ last = next_all plan worker s call next ∙ ap (λ (l : List Call). l ++ last) is.left in
      let behind : all_left plan worker t ≡ drop passed is.rest ++ last =
      until_started (started_by call.operation) s.stands worker (left_of (get_or plan.scripts worker []) (get_or t.replies worker []) ++ last)
      ∙ ap (all_with plan worker (stand_of worker s)) (get_or-set_same s.replies worker (given ++ reply ∷ []) [] here)
      ∙ ap (λ stand. all_with plan worker stand (given ++ reply ∷ [])) (next_live plan worker s call next)
      ∙ ap (λ (l : List Call). l ++ last) (further.left (get_or plan.scripts worker []) given call is.rest reply is.left) in
      record {
        others = λ k apart.
            until_started (started_by call.operation) s.stands k (left_of (get_or plan.scripts k []) (get_or t.replies k []) ++ closing_calls plan k)
            ∙ ap (all_with plan k (stand_of k s)) (replied_other worker k reply (moved worker objects waits s) apart);
        begun = λ k apart. replied_begun_other worker k reply (moved worker objects waits s) apart ∙ begun_other worker k waits objects s apart;
        own = omega (arith, ap (length {A = Call}) before, ap (length {A = Call}) behind, length-append (drop passed is.rest) last, length-append is.rest last, length-drop passed is.rest);
        tries = omega (
          arith,
          ap tries_in before,
          ap tries_in behind,
          sum_by-append (λ (c : Call). tries_of c.operation) (drop passed is.rest) last,
          sum_by-append (λ (c : Call). tries_of c.operation) (call ∷ is.rest) last,
          sum_by-cons (λ (c : Call). tries_of c.operation) call is.rest,
          sum_by-take-drop (λ (c : Call). tries_of c.operation) is.rest passed,
        );
      }

  -- behind the `done`
  closed_fewer : IsClosing plan worker (get_or s.replies worker []) call → LeavesFewer plan worker call s (with_stand worker Gone (moved worker objects waits s))
  closed_fewer is =
      let t = with_stand worker Gone (moved worker objects waits s) in
      let before : all_left plan worker s ≡ call ∷ [] = next_all plan worker s call next ∙ (λ i. is.none i ++ is.last i) in
      let behind : all_left plan worker t ≡ [] = ap (λ stand. all_with plan worker stand (get_or s.replies worker [])) (gone_own s.stands worker) in
      record {
        others = λ k apart. ap (λ stand. all_with plan k stand (get_or s.replies k [])) (get_or-set_other s.stands worker k Gone Gone apart);
        begun = λ k apart. begun_other worker k waits objects s apart;
        own = omega (arith, ap (length {A = Call}) before, ap (length {A = Call}) behind);
        tries = omega (arith, ap tries_in before, ap tries_in behind, sum_by-cons (λ (c : Call). tries_of c.operation) call []);
      }

module _ (plan : Plan) (worker : ℕ) (s t : State) (call : Call) (below : worker < plan.workers) (fewer : LeavesFewer plan worker call s t) where
  fewer_calls : calls_left plan t + 1 ≤ calls_left plan s
  fewer_calls =
      let sums = sum_moved (λ k. length (all_left plan k s)) (λ k. length (all_left plan k t)) worker 1 0 0 plan.workers
      (λ k apart. omega (arith, ap (length {A = Call}) (fewer.others k apart))) (omega (arith, fewer.own)) (omega arith) (omega (arith, below)) in
      omega (arith, sums)

  fewer_waits : begun_by worker s ≤ tries_of call.operation → waits_left plan t ≤ waits_left plan s
  fewer_waits few =
      let sums = sum_moved (waits_left_for plan s) (waits_left_for plan t) worker 0 0 0 plan.workers
      (λ k apart. omega (arith, ap tries_in (fewer.others k apart), fewer.begun k apart)) (omega (arith, fewer.tries, few)) (omega arith) (omega (arith, below)) in
      omega (arith, sums)

-- behind an event that completes no call, as many waits fewer may be begun as were
waits_moved : (plan : Plan) (worker : ℕ) (s : State) (call : Call) (objects : List ObjectState) (waits : ℕ) → IsStateOf plan s → worker < plan.workers → next_call plan worker s ≡ Some call → waits ≤ tries_of call.operation
    → waits_left plan (moved worker objects waits s) + waits ≤ waits_left plan s + begun_by worker s
waits_moved plan worker s call objects waits of below next few =
    let left = split_first (all_left plan worker s) call (ap (λ (l : List Call). slice_get l 0) (next_all plan worker s call next) ∙ next_first plan worker s call next) in
    let tries : tries_in (all_left plan worker s) ≡ tries_of call.operation + tries_in left.0 = ap tries_in left.1 ∙ sum_by-cons (λ (c : Call). tries_of c.operation) call left.0 in
    sum_moved (waits_left_for plan s) (waits_left_for plan (moved worker objects waits s)) worker waits (begun_by worker s) 0 plan.workers
    (λ k apart. omega (arith, begun_other worker k waits objects s apart))
    (omega (arith, few, few_begun plan worker s call of next, tries, begun_own worker waits objects s (omega (arith, below, of.waits))))
    (omega arith) (omega (arith, below))

-- where a turn changes neither the objects nor how many waits were begun
pub still_same : (worker : ℕ) (s : State) (objects : List ObjectState) (waits : ℕ) → (objects ≡ s.objects) × (waits ≡ begun_by worker s) → moved worker objects waits s ≡ s
still_same worker s objects waits same =
    let begun : set s.begun worker waits ≡ s.begun = ap (set s.begun worker) same.1 ∙ set-get_or s.begun worker 0 in
    λ i. record s { objects = same.0 i; begun = begun i }

-- no event: the state stays; an event: less is left to do; a misuse: no call is completed
abbrev pub StepUses : Plan → State → State × Step → Type 0
StepUses plan s (t, steps.Still) = t ≡ s
StepUses plan s (t, steps.Made) = left_to_do plan t < left_to_do plan s
StepUses plan s (t, steps.Misused misuse) = t.replies ≡ s.replies

pub turn_used : GoesFurther → TurnsUse → (plan : Plan) (worker : ℕ) (s : State) → IsStateOf plan s → StepUses plan s (turn_of plan worker s)
turn_used further uses plan worker s of = turn_cases (StepUses plan s) plan worker s of (record {
  ended = λ is. refl;
  still = λ call objects waits takes. still_same worker s objects waits (takes_use uses plan worker s call objects waits answers.Still of takes);
  unfinished = λ call objects waits takes.
      let less : sum_by object_left objects + 4 * begun_by worker s < sum_by object_left s.objects + 4 * waits = takes_use uses plan worker s call objects waits answers.Unfinished of takes in
      omega (arith, less, waits_moved plan worker s call objects waits of takes.below takes.next (takes_few uses plan worker s call objects waits answers.Unfinished of takes));
  completed = λ call objects waits reply takes is.
      let fewer = answered_fewer plan worker s call takes.next objects waits further (omega (arith, of.workers, takes.below)) reply is in
      let t = answered worker call reply (moved worker objects waits s) in
      let few : sum_by object_left objects < sum_by object_left s.objects + 4 = takes_use uses plan worker s call objects waits (answers.Completed reply) of takes in
      omega (arith, few, fewer_calls plan worker s t call takes.below fewer, fewer_waits plan worker s t call takes.below fewer (few_begun plan worker s call of takes.next));
  closed = λ call objects waits reply takes is.
      let fewer = closed_fewer plan worker s call takes.next objects waits is in
      let t = with_stand worker Gone (moved worker objects waits s) in
      let few : sum_by object_left objects < sum_by object_left s.objects + 4 = takes_use uses plan worker s call objects waits (answers.Completed reply) of takes in
      omega (arith, few, fewer_calls plan worker s t call takes.below fewer, fewer_waits plan worker s t call takes.below fewer (few_begun plan worker s call of takes.next));
  misused = λ call objects waits misuse takes. refl;
})

-- ---- a turn, by what settling it comes to

pub turn_before : (plan : Plan) (worker : ℕ) (s : State) (call : Call) (objects : List ObjectState) (waits : ℕ) (answer : Answer) → next_call plan worker s ≡ Some call
    → turn_within call worker s.moment (begun_by worker s) s.objects ≡ ((objects, waits), answer) → turn_of plan worker s ≡ settled plan worker call answer (moved worker objects waits s)
turn_before plan worker s call objects waits answer next turn =
    ap (λ o. option_map_or (λ call. settled_with plan worker call (turn_within call worker s.moment (begun_by worker s) s.objects) s) o (s, steps.Still)) next
    ∙ ap (λ (step : Taken). settled_with plan worker call step s) turn
