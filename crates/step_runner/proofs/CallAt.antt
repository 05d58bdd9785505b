-- At all objects: what a turn takes of what is left of its worker's call and of others', and whom it tells to go on.
use Rattle.std.proofs.Common.{◌≡◌, ◌≢◌, ℕ, zero, suc, ◌+◌, ◌≤◌, Bool, true, false, List, [], ◌∷◌, map, set, Option, Some, None, refl, sym, ap, ◌∙◌, subst, arith}
use Rattle.std.specs.Prelude.{slice_get, unwrap_or, is_some, ◌||◌}
use Rattle.std.specs.Option.{option_map, option_map_or}
use Rattle.std.proofs.lemmas.Option.{slice_get-map}
use Rattle.script_calls.specs.declared.call.Call.{Call}
use Rattle.mutex_core.specs.MutexMachine as mutex
use Rattle.mutex_core.specs.declared.place.Place.{Place as MutexPlace}
use Rattle.mutex_core.specs.declared.place.Place.TheVariants as mutex_place
use Rattle.rw_core.specs.RwMachine as rw
use Rattle.rw_core.specs.declared.place.Place.{Place as RwPlace}
use Rattle.rw_core.specs.declared.place.Place.TheVariants as rw_place
use Rattle.wait_cores.specs.NotifyStanding.{has_ticket}
use Rattle.wait_cores.specs.OnceStanding as once
use Rattle.workload.specs.declared.object.ObjectKind.{ObjectKind}
use Rattle.workload.specs.Plan.{reference_of}
use Rattle.flight_core.specs.FlightStanding as flight
use Rattle.flight_core.specs.declared.calls.FlightStand.{FlightStand}
use Rattle.flight_core.specs.declared.calls.FlightStand.TheVariants.{Out, Leads, Waits}
use Rattle.step_runner.specs.declared.turns.answer.Answer.{Answer}
use Rattle.step_runner.specs.declared.turns.answer.Answer.TheVariants as answers
use Rattle.step_runner.specs.declared.turns.object_state.ObjectState.{ObjectState}
use Rattle.step_runner.specs.declared.turns.object_state.ObjectState.TheVariants as states
use Rattle.step_runner.specs.TurnsLeft.{refers_to, mutex_left, rw_left, left_at, left_in, turns_left, TakesBy, mutex_told, rw_told, told_at, is_told, TellsOwn, flight_left}
use Rattle.step_runner.specs.declared.turns.item.Item.{Item}
use Rattle.step_runner.specs.Items.{items_on, items_on_both, items_by, items_at, goes_back, unlocks}
use Rattle.step_runner.specs.Due.{group_behind, sema_behind}
use Rattle.step_runner.specs.Objects.{kind_of}
use Rattle.step_runner.specs.Ready.{IsReady}
use Rattle.step_runner.specs.Stands.{IsOutAt}
use Rattle.step_runner.specs.TurnAtObjects.{turn_on, turn_on_both, with_object, with_both, turn_at}
use Rattle.step_runner.proofs.AtObjects.{Alone, Referring, at_ready}
use Rattle.step_runner.specs.MachinesStand.{MachinesStand}
use Rattle.step_runner.proofs.CallOthers.{Eases, same_eases, turn_eases, both_ease}
use Rattle.step_runner.proofs.CallOwn.{turn_takes, both_take, few}
use Rattle.step_runner.proofs.Refuted.{no}
use Rattle.step_runner.proofs.Writes.{get_other}

-- ---- the objects of a call, and what is made there

refers_at : (objects : List ObjectState) (call : Call) (object : ObjectState) (o : Option ℕ) → slice_get objects call.object ≡ Some object → reference_of (kind_of object) ≡ o → refers_to (map kind_of objects) call ≡ o
refers_at objects call object o at is = ap (λ (k : Option ObjectKind). option_map_or reference_of k None) (slice_get-map kind_of objects call.object ∙ ap (option_map kind_of) at) ∙ is

pub items_alone : (call : Call) (worker moment : ℕ) (objects : List ObjectState) (object : ObjectState) → slice_get objects call.object ≡ Some object → reference_of (kind_of object) ≡ None
    → items_at call worker moment objects ≡ items_on call.operation worker moment call.object object
items_alone call worker moment objects object at none =
    ap (λ (o : Option ObjectState). option_map_or (λ object. items_by (reference_of (kind_of object)) call worker moment objects object) o []) at ∙ ap (λ (o : Option ℕ). items_by o call worker moment objects object) none

pub items_referring : (call : Call) (worker moment : ℕ) (objects : List ObjectState) (object : ObjectState) (other : ℕ) (target : ObjectState) → slice_get objects call.object ≡ Some object → reference_of (kind_of object) ≡ Some other
    → slice_get objects other ≡ Some target → items_at call worker moment objects ≡ items_on_both call.operation worker moment call.object other object target
items_referring call worker moment objects object other target at some there =
    ap (λ (o : Option ObjectState). option_map_or (λ object. items_by (reference_of (kind_of object)) call worker moment objects object) o []) at
    ∙ ap (λ (o : Option ℕ). items_by o call worker moment objects object) some
    ∙ ap (λ (o : Option ObjectState). option_map_or (λ target. items_on_both call.operation worker moment call.object other object target) o []) there

set_there : {X : Type 0} (xs : List X) (i : ℕ) (next found : X) → slice_get xs i ≡ Some found → slice_get (set xs i next) i ≡ Some next
set_there [] i next found at = absurd cc
set_there (x ∷ xs) zero next found at = refl
set_there (x ∷ xs) (suc i) next found at = set_there xs i next found at

-- ---- a worker's own turn

abbrev left_of : ℕ → Option ObjectState → ℕ
left_of x o = option_map_or (left_at x) o 0

abbrev told_of : ℕ → Option ObjectState → Bool
told_of x o = option_map_or (told_at x) o false

abbrev AtTakes : Call → ℕ → List ObjectState → Option ℕ → Bool → List ObjectState × Answer → Type 0
AtTakes call x objects other back y =
    TakesBy back (1 + (left_in x objects (Some call.object) + left_in x objects other)) (1 + (left_in x y.0 (Some call.object) + left_in x y.0 other)) y.1
    × TellsOwn back (told_of x (slice_get objects (unwrap_or other call.object))) (told_of x (slice_get y.0 (unwrap_or other call.object)))

takes_shift : (back : Bool) (a b old new : ℕ) (y : Answer) → old ≡ 1 + a → new ≡ 1 + b → TakesBy back a b y → TakesBy back old new y
takes_shift back a b old new answers.Still before after takes = tt
takes_shift true a b old new answers.Unfinished before after takes = omega (arith, before, after, takes)
takes_shift false a b old new answers.Unfinished before after takes = omega (arith, before, after, takes)
takes_shift back a b old new (answers.Completed reply) before after takes = tt
takes_shift back a b old new (answers.Misused misuse) before after takes = tt

tells_as : (back a b old new : Bool) → old ≡ a → new ≡ b → TellsOwn back a b → TellsOwn back old new
tells_as true a b old new before after tells = (before ∙ tells.0, after ∙ tells.1)
tells_as false a b old new before after tells = λ told. before ∙ tells (sym after ∙ told)

alone_takes : MachinesStand → (workers x : ℕ) (call : Call) (moment : ℕ) (objects : List ObjectState) (object : ObjectState) → Alone workers x call objects object
    → AtTakes call x objects None (goes_back (items_on call.operation x moment call.object object)) (with_object call.object objects (turn_on call.operation x moment object))
alone_takes laws workers x call moment objects object st =
    let step = turn_on call.operation x moment object in
    let back = goes_back (items_on call.operation x moment call.object object) in
    let takes = turn_takes laws workers x moment call.object call.operation object st.below st.machine in
    let after = set_there objects call.object step.0 object st.at in (
      takes_shift back (left_at x object) (left_at x step.0) _ _ step.1 (omega (arith, ap (left_of x) st.at)) (omega (arith, ap (left_of x) after)) takes.0,
      tells_as back (told_at x object) (told_at x step.0) _ _ (ap (told_of x) st.at) (ap (told_of x) after) takes.1,
    )

referring_takes : MachinesStand → (workers x : ℕ) (call : Call) (moment : ℕ) (objects : List ObjectState) (object : ObjectState) (other : ℕ) (target : ObjectState) → Referring workers x call objects object other target
    → AtTakes call x objects (Some other) (goes_back (items_on_both call.operation x moment call.object other object target)) (with_both call.object other objects (turn_on_both call.operation x moment object target))
referring_takes laws workers x call moment objects object other target st =
    let step = turn_on_both call.operation x moment object target in
    let back = goes_back (items_on_both call.operation x moment call.object other object target) in
    let takes = both_take laws workers x moment call.object other call.operation object target st.below st.machine st.machine_there in
    let here = get_other (set objects call.object step.0.0) other call.object step.0.1 step.0.0 (λ same. st.apart (sym same)) (set_there objects call.object step.0.0 object st.at) in
    let there = set_there (set objects call.object step.0.0) other step.0.1 target (get_other objects call.object other step.0.0 target st.apart st.there) in (
      takes_shift back (left_at x object + left_at x target) (left_at x step.0.0 + left_at x step.0.1) _ _ step.1 (omega (arith, ap (left_of x) st.at, ap (left_of x) st.there)) (omega (arith, ap (left_of x) here, ap (left_of x) there)) takes.0,
      tells_as back (told_at x target) (told_at x step.0.1) _ _ (ap (told_of x) st.there) (ap (told_of x) there) takes.1,
    )

pub at_takes : MachinesStand → (workers x : ℕ) (call : Call) (moment : ℕ) (objects : List ObjectState) → IsReady workers x call objects
    → AtTakes call x objects (refers_to (map kind_of objects) call) (goes_back (items_at call x moment objects)) (turn_at call x moment objects)
at_takes laws workers x call moment objects r = at_ready (AtTakes call x objects (refers_to (map kind_of objects) call) (goes_back (items_at call x moment objects))) workers x call moment objects r
    (λ st.
    let y = with_object call.object objects (turn_on call.operation x moment r.object) in
    subst (λ (o : Option ℕ). AtTakes call x objects o (goes_back (items_at call x moment objects)) y) (sym (refers_at objects call r.object None st.at st.none))
    (subst (λ (made : List Item). AtTakes call x objects None (goes_back made) y) (sym (items_alone call x moment objects r.object st.at st.none))
    (alone_takes laws workers x call moment objects r.object st)))
    (λ other target st.
    let y = with_both call.object other objects (turn_on_both call.operation x moment r.object target) in
    subst (λ (o : Option ℕ). AtTakes call x objects o (goes_back (items_at call x moment objects)) y) (sym (refers_at objects call r.object (Some other) st.at st.some))
    (subst (λ (made : List Item). AtTakes call x objects (Some other) (goes_back made) y) (sym (items_referring call x moment objects r.object other target st.at st.some st.there))
    (referring_takes laws workers x call moment objects r.object other target st)))

-- ---- another's turn

module _ (x : ℕ) (made : List Item) where
  abbrev EasesAt : Option ObjectState → Option ObjectState → Type 0
  EasesAt None None = Unit {0}
  EasesAt (Some old) (Some new) = Eases x old new made
  EasesAt None (Some new) = ⊥
  EasesAt (Some old) None = ⊥

  ease_same : (o : Option ObjectState) → EasesAt o o
  ease_same None = tt
  ease_same (Some o) = same_eases x o made

  ease_then : (a b c : Option ObjectState) → EasesAt a b → EasesAt b c → EasesAt a c
  ease_then None None None first later = tt
  ease_then None None (Some c) first later = later
  ease_then None (Some b) c first later = absurd first
  ease_then (Some a) None c first later = absurd first
  ease_then (Some a) (Some b) None first later = later
  ease_then (Some a) (Some b) (Some c) first later = (omega (arith, first.0, later.0), λ untold told. by_test (told_at x b) refl untold told)
    where
      by_test : (t : Bool) → told_at x b ≡ t → told_at x a ≡ false → told_at x c ≡ true → unlocks made ≡ true
      by_test true is untold told = first.1 untold is
      by_test false is untold told = later.1 is told

  ease_set : (objects : List ObjectState) (place : ℕ) (object next : ObjectState) → slice_get objects place ≡ Some object → Eases x object next made → (k : ℕ) → EasesAt (slice_get objects k) (slice_get (set objects place next) k)
  ease_set [] place object next at eases k = absurd cc
  ease_set (first ∷ objects) zero object next at eases zero = let same : object ≡ first = cc in subst (λ (o : ObjectState). Eases x o next made) same eases
  ease_set (first ∷ objects) zero object next at eases (suc k) = ease_same (slice_get objects k)
  ease_set (first ∷ objects) (suc place) object next at eases zero = same_eases x first made
  ease_set (first ∷ objects) (suc place) object next at eases (suc k) = ease_set objects place object next at eases k

  ease_left : (a b : Option ObjectState) → EasesAt a b → left_of x b ≤ left_of x a
  ease_left None None eases = omega arith
  ease_left None (Some b) eases = absurd eases
  ease_left (Some a) None eases = absurd eases
  ease_left (Some a) (Some b) eases = eases.0

  ease_told : (a b : Option ObjectState) → EasesAt a b → told_of x a ≡ false → told_of x b ≡ true → unlocks made ≡ true
  ease_told None None eases untold told = no told
  ease_told None (Some b) eases untold told = absurd eases
  ease_told (Some a) None eases untold told = absurd eases
  ease_told (Some a) (Some b) eases untold told = eases.1 untold told

pub at_eases : MachinesStand → (workers x by : ℕ) (call : Call) (moment : ℕ) (objects : List ObjectState) → IsReady workers by call objects → x ≢ by
    → (k : ℕ) → EasesAt x (items_at call by moment objects) (slice_get objects k) (slice_get (turn_at call by moment objects).0 k)
at_eases laws workers x by call moment objects r apart = at_ready (λ y. (k : ℕ) → EasesAt x (items_at call by moment objects) (slice_get objects k) (slice_get y.0 k)) workers by call moment objects r
    (λ st.
    let step = turn_on call.operation by moment r.object in
    subst (λ (made : List Item). (k : ℕ) → EasesAt x made (slice_get objects k) (slice_get (set objects call.object step.0) k)) (sym (items_alone call by moment objects r.object st.at st.none))
    (ease_set x (items_on call.operation by moment call.object r.object) objects call.object r.object step.0 st.at (turn_eases laws workers x by moment call.object call.operation r.object st.machine apart)))
    (λ other target st.
    let step = turn_on_both call.operation by moment r.object target in
    let made = items_on_both call.operation by moment call.object other r.object target in
    let eases = both_ease laws workers x by moment call.object other call.operation r.object target st.machine_there apart in
    let first = set objects call.object step.0.0 in
    subst (λ (made : List Item). (k : ℕ) → EasesAt x made (slice_get objects k) (slice_get (set first other step.0.1) k)) (sym (items_referring call by moment objects r.object other target st.at st.some st.there))
    (λ k. ease_then x made (slice_get objects k) (slice_get first k) (slice_get (set first other step.0.1) k)
    (ease_set x made objects call.object r.object step.0.0 st.at eases.0 k)
    (ease_set x made first other target step.0.1 (get_other objects call.object other step.0.0 target st.apart st.there) eases.1 k)))

left_eases : (x : ℕ) (made : List Item) (objects after : List ObjectState) → ((k : ℕ) → EasesAt x made (slice_get objects k) (slice_get after k)) → (o : Option ℕ) → left_in x after o ≤ left_in x objects o
left_eases x made objects after eases None = omega arith
left_eases x made objects after eases (Some k) = ease_left x made (slice_get objects k) (slice_get after k) (eases k)

-- of any call of the worker
pub others_take : MachinesStand → (workers x by moment : ℕ) (own call : Call) (objects : List ObjectState) → IsReady workers by call objects → x ≢ by
    → turns_left (map kind_of objects) own x (turn_at call by moment objects).0 ≤ turns_left (map kind_of objects) own x objects
others_take laws workers x by moment own call objects r apart =
    let after = (turn_at call by moment objects).0 in
    let left = left_eases x (items_at call by moment objects) objects after (at_eases laws workers x by call moment objects r apart) in
    omega (arith, left (Some own.object), left (refers_to (map kind_of objects) own))

pub others_tell : MachinesStand → (workers x by moment : ℕ) (own call : Call) (objects : List ObjectState) → IsReady workers by call objects → x ≢ by
    → is_told (map kind_of objects) own x objects ≡ false → is_told (map kind_of objects) own x (turn_at call by moment objects).0 ≡ true → unlocks (items_at call by moment objects) ≡ true
others_tell laws workers x by moment own call objects r apart =
    let k = unwrap_or (refers_to (map kind_of objects) own) own.object in
    ease_told x (items_at call by moment objects) (slice_get objects k) (slice_get (turn_at call by moment objects).0 k) (at_eases laws workers x by call moment objects r apart k)

-- ---- at most four

mutex_few : (p : MutexPlace) → mutex_left p ≤ 2
mutex_few mutex_place.Out = omega arith
mutex_few mutex_place.Waiting = omega arith
mutex_few mutex_place.Woken = omega arith
mutex_few mutex_place.Handed = omega arith

rw_few : (p : RwPlace) → rw_left p ≤ 2
rw_few rw_place.Out = omega arith
rw_few rw_place.Queued = omega arith
rw_few rw_place.Woken = omega arith
rw_few rw_place.Handed = omega arith
rw_few rw_place.Waiting = omega arith
rw_few rw_place.Granted = omega arith
rw_few rw_place.Admitted = omega arith

flight_few : (s : FlightStand) → flight_left s ≤ 1
flight_few Out = omega arith
flight_few Leads = omega arith
flight_few Waits = omega arith

left_few : (x : ℕ) (o : ObjectState) → left_at x o ≤ 2
left_few x (states.Map m) = omega arith
left_few x (states.Atomic number) = omega arith
left_few x (states.Mutex m) = mutex_few (mutex.place_of m x)
left_few x (states.RwMutex m) = rw_few (rw.place_of m x)
left_few x (states.Cond c place) = omega (arith, few (has_ticket c x))
left_few x (states.WaitGroup g first) = omega (arith, few (is_some (group_behind g x)))
left_few x (states.Once o place delta) = omega (arith, few (once.waits_at o x || once.runs_at o x))
left_few x (states.OnceFunc o code) = omega (arith, few (once.waits_at o x || once.runs_at o x))
left_few x (states.OnceValue o value) = omega (arith, few (once.waits_at o x || once.runs_at o x))
left_few x (states.Pool p) = omega arith
left_few x (states.Sema s size) = omega (arith, few (is_some (sema_behind s x)))
left_few x (states.Flight f keys place delta) = omega (arith, flight_few (flight.stands_at f x))
left_few x (states.Var held) = omega arith

any_few : (x : ℕ) (o : Option ObjectState) → left_of x o ≤ 2
any_few x None = omega arith
any_few x (Some o) = left_few x o

-- an object that refers to another one has one at most
with_reference : (x : ℕ) (objects : List ObjectState) (o : ObjectState) → left_at x o + left_in x objects (reference_of (kind_of o)) ≤ 3
with_reference x objects (states.Cond c place) = omega (arith, few (has_ticket c x), any_few x (slice_get objects place))
with_reference x objects (states.Once o place delta) = omega (arith, few (once.waits_at o x || once.runs_at o x), any_few x (slice_get objects place))
with_reference x objects (states.Flight f keys place delta) = omega (arith, flight_few (flight.stands_at f x), any_few x (slice_get objects place))
with_reference x objects (states.Map m) = omega (arith, left_few x (states.Map m))
with_reference x objects (states.Atomic number) = omega (arith, left_few x (states.Atomic number))
with_reference x objects (states.Mutex m) = omega (arith, left_few x (states.Mutex m))
with_reference x objects (states.RwMutex m) = omega (arith, left_few x (states.RwMutex m))
with_reference x objects (states.WaitGroup g first) = omega (arith, left_few x (states.WaitGroup g first))
with_reference x objects (states.OnceFunc o code) = omega (arith, left_few x (states.OnceFunc o code))
with_reference x objects (states.OnceValue o value) = omega (arith, left_few x (states.OnceValue o value))
with_reference x objects (states.Pool p) = omega (arith, left_few x (states.Pool p))
with_reference x objects (states.Sema s size) = omega (arith, left_few x (states.Sema s size))
with_reference x objects (states.Var held) = omega (arith, left_few x (states.Var held))

pub at_most_four : (x : ℕ) (call : Call) (objects : List ObjectState) → turns_left (map kind_of objects) call x objects ≤ 4
at_most_four x call objects = by_object (slice_get objects call.object) refl
  where
    by_object : (o : Option ObjectState) → slice_get objects call.object ≡ o → turns_left (map kind_of objects) call x objects ≤ 4
    by_object None at = omega (arith, ap (left_of x) at, any_few_in (refers_to (map kind_of objects) call))
      where
        any_few_in : (o : Option ℕ) → left_in x objects o ≤ 2
        any_few_in None = omega arith
        any_few_in (Some k) = any_few x (slice_get objects k)
    by_object (Some object) at = omega (arith, ap (left_of x) at, ap (left_in x objects) (refers_at objects call object (reference_of (kind_of object)) at refl), with_reference x objects object)

-- who is out isn't told
pub out_untold : (x : ℕ) (o : ObjectState) → IsOutAt x o → told_at x o ≡ false
out_untold x (states.Mutex m) out = ap mutex_told out
out_untold x (states.RwMutex m) out = ap rw_told out
out_untold x (states.Map m) out = refl
out_untold x (states.Atomic number) out = refl
out_untold x (states.Cond c place) out = refl
out_untold x (states.WaitGroup g first) out = refl
out_untold x (states.Once o place delta) out = refl
out_untold x (states.OnceFunc o code) out = refl
out_untold x (states.OnceValue o value) out = refl
out_untold x (states.Pool p) out = refl
out_untold x (states.Sema s size) out = refl
out_untold x (states.Flight f keys place delta) out = refl
out_untold x (states.Var held) out = refl
