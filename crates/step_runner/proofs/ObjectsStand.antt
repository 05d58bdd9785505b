-- At all objects a worker is out but at the mutex at which its call waits.
use Rattle.std.proofs.Common.{◌≡◌, ◌≢◌, ℕ, zero, suc, Bool, true, false, List, [], ◌∷◌, map, set, Option, Some, None, refl, sym, ap, ◌∙◌, subst}
use Rattle.std.specs.Prelude.{slice_get, if◌then◌else◌, unwrap_or}
use Rattle.std.specs.Option.{option_map, option_map_or}
use Rattle.std.proofs.lemmas.Option.{slice_get-map}
use Rattle.script_calls.specs.declared.call.Call.{Call}
use Rattle.script_calls.specs.declared.call.Operation.{Operation}
use Rattle.workload.specs.declared.object.ObjectKind.{ObjectKind}
use Rattle.workload.specs.declared.object.ObjectKind.TheVariants as kinds
use Rattle.workload.specs.Plan.{reference_of}
use Rattle.step_runner.specs.declared.turns.answer.Answer.{Answer}
use Rattle.step_runner.specs.declared.turns.answer.Answer.TheVariants as answers
use Rattle.step_runner.specs.declared.turns.object_state.ObjectState.{ObjectState}
use Rattle.step_runner.specs.Objects.{new_object, kind_of, EachAt}
use Rattle.step_runner.specs.Ready.{IsReady}
use Rattle.step_runner.specs.ReplyForm.{HasForm}
use Rattle.step_runner.specs.Stands.{may_wait, waits_at, IsOutAt, IsOutBut, waits_behind}
use Rattle.step_runner.specs.TurnAtObjects.{turn_on, turn_on_both, with_object, with_both, turn_at}
use Rattle.step_runner.proofs.AtObjects.{Alone, Referring, at_ready}
use Rattle.step_runner.proofs.OthersStand.{Stands, turn_other, both_other}
use Rattle.step_runner.proofs.OwnStands.{OutAfter, turn_own, both_own}

-- ---- at all objects

-- what is so of each object behind a write, where it was so of each other one
each_but : (P : ℕ → ObjectState → Type 0) (objects : List ObjectState) (place : ℕ) (next : ObjectState) → ((k : ℕ) (o : ObjectState) → k ≢ place → slice_get objects k ≡ Some o → P k o) → P place next → EachAt P (set objects place next)
each_but P [] place next each is other found at = absurd cc
each_but P (first ∷ objects) zero next each is zero found at = let same : next ≡ found = cc in subst (P zero) same is
each_but P (first ∷ objects) zero next each is (suc other) found at = each (suc other) found (λ e. cc) at
each_but P (first ∷ objects) (suc place) next each is zero found at = each zero found (λ e. cc) at
each_but P (first ∷ objects) (suc place) next each is (suc other) found at =
    each_but (λ k. P (suc k)) objects place next (λ k o ne there. each (suc k) o (λ e. ne cc) there) is other found at

-- where the call of a worker waits
abbrev waits_if : Bool → ℕ → Option ℕ
waits_if b place = if b then Some place else None

spared : (b : Bool) (place k : ℕ) → k ≢ place → waits_if b place ≡ Some k → ⊥
spared true place k ne is = ne cc
spared false place k ne is = cc

-- one that is out at the object at which its call waits, if it waits there no more
out_there : (operation : Operation) (x place : ℕ) (o : ObjectState) (a : Answer) → OutAfter operation x o a → (waits_behind a (waits_if (may_wait operation) place) ≡ Some place → ⊥) → IsOutAt x o
out_there operation x place o a after = by_answer a after
  where
    by_wait : (b : Bool) → may_wait operation ≡ b → (may_wait operation ≡ false → IsOutAt x o) → (waits_if b place ≡ Some place → ⊥) → IsOutAt x o
    by_wait true is out ne = absurd (ne refl)
    by_wait false is out ne = out is

    by_answer : (a : Answer) → OutAfter operation x o a → (waits_behind a (waits_if (may_wait operation) place) ≡ Some place → ⊥) → IsOutAt x o
    by_answer answers.Still out ne = by_wait (may_wait operation) refl out ne
    by_answer answers.Unfinished out ne = by_wait (may_wait operation) refl out ne
    by_answer (answers.Completed reply) out ne = out
    by_answer (answers.Misused misuse) out ne = by_wait (may_wait operation) refl out ne

-- where a call doesn't wait, its worker is out
out_waitless : (operation : Operation) (x place : ℕ) (o : ObjectState) → ((waits_if (may_wait operation) place ≡ Some place → ⊥) → IsOutAt x o) → may_wait operation ≡ false → IsOutAt x o
out_waitless operation x place o out is = out (λ e. let none : None ≡ Some place = sym (ap (λ (b : Bool). waits_if b place) is) ∙ e in cc)

abbrev waits_of : List ObjectState → Call → Option ℕ
waits_of objects call = waits_at (map kind_of objects) call

abbrev CallOwn : Call → ℕ → Option ℕ → List ObjectState × Answer → Type 0
CallOwn call x at y = HasForm call.operation y.1 × IsOutBut (waits_behind y.1 at) x y.0

reference_at : (objects : List ObjectState) (call : Call) (object : ObjectState) (o : Option ℕ) → slice_get objects call.object ≡ Some object → reference_of (kind_of object) ≡ o
    → waits_of objects call ≡ waits_if (may_wait call.operation) (unwrap_or o call.object)
reference_at objects call object o at is =
    ap (λ (k : Option ObjectKind). waits_if (may_wait call.operation) (unwrap_or (option_map_or reference_of k None) call.object)) (slice_get-map kind_of objects call.object ∙ ap (option_map kind_of) at)
    ∙ ap (λ (r : Option ℕ). waits_if (may_wait call.operation) (unwrap_or r call.object)) is

alone_own : Stands → (workers x : ℕ) (call : Call) (moment : ℕ) (objects : List ObjectState) (object : ObjectState) → Alone workers x call objects object
    → IsOutBut (waits_if (may_wait call.operation) call.object) x objects → CallOwn call x (waits_if (may_wait call.operation) call.object) (with_object call.object objects (turn_on call.operation x moment object))
alone_own laws workers x call moment objects object st out =
    let own = turn_own laws workers x call.operation moment object st.below st.machine (out_waitless call.operation x call.object object (out call.object object st.at)) in
    let step = turn_on call.operation x moment object in (
      own.0,
      each_but (λ place o. (waits_behind step.1 (waits_if (may_wait call.operation) call.object) ≡ Some place → ⊥) → IsOutAt x o) objects call.object step.0
          (λ k o ne at behind. out k o at (spared (may_wait call.operation) call.object k ne))
          (out_there call.operation x call.object step.0 step.1 own.1),
    )

referring_own : Stands → (workers x : ℕ) (call : Call) (moment : ℕ) (objects : List ObjectState) (object : ObjectState) (other : ℕ) (target : ObjectState) → Referring workers x call objects object other target
    → IsOutBut (waits_if (may_wait call.operation) other) x objects → CallOwn call x (waits_if (may_wait call.operation) other) (with_both call.object other objects (turn_on_both call.operation x moment object target))
referring_own laws workers x call moment objects object other target st out =
    let here = out call.object object st.at (spared (may_wait call.operation) other call.object (λ e. st.apart (sym e))) in
    let own = both_own laws workers x call.operation moment object target st.below st.machine_there here (out_waitless call.operation x other target (out other target st.there)) in
    let step = turn_on_both call.operation x moment object target in
    let P : ℕ → ObjectState → Type 0 = λ place o. (waits_behind step.1 (waits_if (may_wait call.operation) other) ≡ Some place → ⊥) → IsOutAt x o in (
      own.0,
      each_but P (set objects call.object step.0.0) other step.0.1
          (λ k o ne at. each_but (λ k o. k ≢ other → P k o) objects call.object step.0.0 (λ k o ne at apart behind. out k o at (spared (may_wait call.operation) other k apart)) (λ apart behind. own.1.0) k o at ne)
          (out_there call.operation x other step.0.1 step.1 own.1.1),
    )

pub at_own : Stands → (workers x : ℕ) (call : Call) (moment : ℕ) (objects : List ObjectState) → IsReady workers x call objects → IsOutBut (waits_of objects call) x objects → CallOwn call x (waits_of objects call) (turn_at call x moment objects)
at_own laws workers x call moment objects r out = at_ready (CallOwn call x (waits_of objects call)) workers x call moment objects r
    (λ st.
    let same = reference_at objects call r.object None st.at st.none in
    subst (λ (w : Option ℕ). CallOwn call x w (with_object call.object objects (turn_on call.operation x moment r.object))) (sym same)
    (alone_own laws workers x call moment objects r.object st (subst (λ (w : Option ℕ). IsOutBut w x objects) same out)))
    (λ other target st.
    let same = reference_at objects call r.object (Some other) st.at st.some in
    subst (λ (w : Option ℕ). CallOwn call x w (with_both call.object other objects (turn_on_both call.operation x moment r.object target))) (sym same)
    (referring_own laws workers x call moment objects r.object other target st (subst (λ (w : Option ℕ). IsOutBut w x objects) same out)))

-- another's turn leaves a worker out wherever it is
pub at_other : Stands → (workers x by : ℕ) (call : Call) (moment : ℕ) (but : Option ℕ) (objects : List ObjectState) → IsReady workers by call objects → x ≢ by → IsOutBut but x objects → IsOutBut but x (turn_at call by moment objects).0
at_other laws workers x by call moment but objects r apart out = at_ready (λ y. IsOutBut but x y.0) workers by call moment objects r
    (λ st. each_but P objects call.object (turn_on call.operation by moment r.object).0 (λ k o ne at. out k o at)
    (λ ne. turn_other laws workers x by call.operation moment r.object st.machine apart (out call.object r.object st.at ne)))
    (λ other target st.
    let step = turn_on_both call.operation by moment r.object target in
    let outs = both_other laws workers x by call.operation moment r.object target st.machine_there apart in
    each_but P (set objects call.object step.0.0) other step.0.1
    (λ k o ne at. each_but P objects call.object step.0.0 (λ k o ne at. out k o at) (λ ne. outs.0 (out call.object r.object st.at ne)) k o at)
    (λ ne. outs.1 (out other target st.there ne)))
  where
    P : ℕ → ObjectState → Type 0
    P place o = (but ≡ Some place → ⊥) → IsOutAt x o

pub new_out : (x workers room : ℕ) (keys : List (List ℕ)) (kind : ObjectKind) → IsOutAt x (new_object workers room keys kind)
new_out x workers room keys kinds.Mutex = refl
new_out x workers room keys kinds.RwMutex = refl
new_out x workers room keys kind = tt
