-- A turn at the objects, by whether the call's object refers to another one.
use Rattle.std.proofs.Common.{◌≡◌, ◌≢◌, ℕ, zero, suc, ◌<◌, true, List, [], ◌∷◌, get_or, set, Option, Some, None, refl, sym, ap, ◌∙◌, subst}
use Rattle.std.specs.Prelude.{slice_get}
use Rattle.std.specs.Option.{option_map_or}
use Rattle.std.proofs.lemmas.Option.{get_or_from_slice_get}
use Rattle.script_calls.specs.declared.call.Call.{Call}
use Rattle.script_calls.specs.declared.call.Operation.{Operation}
use Rattle.workload.specs.declared.object.ObjectKind.{ObjectKind}
use Rattle.workload.specs.declared.object.ObjectKind.TheVariants as kinds
use Rattle.workload.specs.Plan.{has_call, is_target, reference_of}
use Rattle.step_runner.specs.declared.turns.answer.Answer.{Answer}
use Rattle.step_runner.specs.declared.turns.answer.Answer.TheVariants as answers
use Rattle.step_runner.specs.declared.turns.object_state.ObjectState.{ObjectState}
use Rattle.step_runner.specs.Objects.{kind_of, IsMachineOf, EachAt}
use Rattle.step_runner.specs.Ready.{IsReady}
use Rattle.step_runner.specs.TurnAtObjects.{turn_on, turn_on_both, with_object, with_both, turn_by, turn_at}
use Rattle.step_runner.proofs.Writes.{get_other, set_past}

no_self : (kind : ObjectKind) → is_target kind kind ≡ true → ⊥
no_self kinds.Map is = cc
no_self kind is = cc

-- the object and the one to which it refers are two
pub apart : (objects : List ObjectState) (place other : ℕ) (object target : ObjectState) → slice_get objects place ≡ Some object → slice_get objects other ≡ Some target
    → is_target (kind_of object) (kind_of target) ≡ true → other ≢ place
apart objects place other object target at there is same =
    let equal : Some object ≡ Some target = sym at ∙ ap (slice_get objects) (sym same) ∙ there in
    let one : object ≡ target = cc in
    no_self (kind_of object) (subst (λ (o : ObjectState). is_target (kind_of object) (kind_of o) ≡ true) (sym one) is)

-- an object that refers to no other, which has the call
pub record Alone (workers worker : ℕ) (call : Call) (objects : List ObjectState) (object : ObjectState) : Type 0 where
  pub at : slice_get objects call.object ≡ Some object
  pub has : has_call (kind_of object) call.operation ≡ true
  pub below : worker < workers
  pub machine : IsMachineOf workers object
  pub none : reference_of (kind_of object) ≡ None

-- an object that has the call, and the one to which it refers
pub record Referring (workers worker : ℕ) (call : Call) (objects : List ObjectState) (object : ObjectState) (other : ℕ) (target : ObjectState) : Type 0 where
  pub at : slice_get objects call.object ≡ Some object
  pub has : has_call (kind_of object) call.operation ≡ true
  pub below : worker < workers
  pub machine : IsMachineOf workers object
  pub some : reference_of (kind_of object) ≡ Some other
  pub there : slice_get objects other ≡ Some target
  pub machine_there : IsMachineOf workers target
  pub apart : other ≢ call.object

abbrev turn_with : Call → ℕ → ℕ → List ObjectState → Option ObjectState → List ObjectState × Answer
turn_with call worker moment objects o = option_map_or (λ object. turn_by (reference_of (kind_of object)) call worker moment objects object) o (objects, answers.Still)

abbrev turn_to : Call → ℕ → ℕ → List ObjectState → ObjectState → ℕ → Option ObjectState → List ObjectState × Answer
turn_to call worker moment objects object other o =
    option_map_or (λ target. with_both call.object other objects (turn_on_both call.operation worker moment object target)) o (objects, answers.Still)

module _ (Q : List ObjectState × Answer → Type 0) (workers worker : ℕ) (call : Call) (moment : ℕ) (objects : List ObjectState) (r : IsReady workers worker call objects)
    (alone : Alone workers worker call objects r.object → Q (with_object call.object objects (turn_on call.operation worker moment r.object)))
    (both_there : (other : ℕ) (target : ObjectState) → Referring workers worker call objects r.object other target → Q (with_both call.object other objects (turn_on_both call.operation worker moment r.object target))) where
  by_reference : (o : Option ℕ) → reference_of (kind_of r.object) ≡ o → Q (turn_by o call worker moment objects r.object)
  by_reference None is = alone (record { at = r.there; has = r.has; below = r.below; machine = r.machine; none = is })
  by_reference (Some other) is =
      let t = r.refers other is in
      subst (λ o. Q (turn_to call worker moment objects r.object other o)) (sym t.there)
      (both_there other t.target (record {
        at = r.there;
        has = r.has;
        below = r.below;
        machine = r.machine;
        some = is;
        there = t.there;
        machine_there = t.machine;
        apart = apart objects call.object other r.object t.target r.there t.there t.is;
      }))

  pub at_ready : Q (turn_at call worker moment objects)
  at_ready = subst (λ o. Q (turn_with call worker moment objects o)) (sym r.there) (by_reference (reference_of (kind_of r.object)) refl)

-- the same of what needs no readiness
module _ (Q : List ObjectState × Answer → Type 0) (call : Call) (worker moment : ℕ) (objects : List ObjectState) (missing : Q (objects, answers.Still))
    (alone : (object : ObjectState) → slice_get objects call.object ≡ Some object → Q (with_object call.object objects (turn_on call.operation worker moment object)))
    (both_there : (object : ObjectState) (other : ℕ) (target : ObjectState) → slice_get objects call.object ≡ Some object → slice_get objects other ≡ Some target
    → Q (with_both call.object other objects (turn_on_both call.operation worker moment object target))) where
  any_target : (object : ObjectState) (other : ℕ) (o : Option ObjectState) → slice_get objects call.object ≡ Some object → slice_get objects other ≡ o → Q (turn_to call worker moment objects object other o)
  any_target object other None at there = missing
  any_target object other (Some target) at there = both_there object other target at there

  any_reference : (object : ObjectState) (o : Option ℕ) → slice_get objects call.object ≡ Some object → Q (turn_by o call worker moment objects object)
  any_reference object None at = alone object at
  any_reference object (Some other) at = any_target object other (slice_get objects other) at refl

  any_object : (o : Option ObjectState) → slice_get objects call.object ≡ o → Q (turn_with call worker moment objects o)
  any_object None at = missing
  any_object (Some object) at = any_reference object (reference_of (kind_of object)) at

  pub at_any : Q (turn_at call worker moment objects)
  at_any = any_object (slice_get objects call.object) refl

-- ---- what is so of each object

-- behind a write of which it is so
pub each_set : (P : ℕ → ObjectState → Type 0) (objects : List ObjectState) (place : ℕ) (next : ObjectState) → EachAt P objects → P place next → EachAt P (set objects place next)
each_set P [] place next each is other found at = absurd cc
each_set P (first ∷ objects) zero next each is zero found at = let same : next ≡ found = cc in subst (P zero) same is
each_set P (first ∷ objects) zero next each is (suc other) found at = each (suc other) found at
each_set P (first ∷ objects) (suc place) next each is zero found at = each zero found at
each_set P (first ∷ objects) (suc place) next each is (suc other) found at = each_set (λ k. P (suc k)) objects place next (λ k. each (suc k)) is other found at

-- ---- a turn, by what its parts come to

-- at an object that refers to no other
pub turn_alone : (call : Call) (worker moment : ℕ) (objects : List ObjectState) (object : ObjectState) → slice_get objects call.object ≡ Some object → reference_of (kind_of object) ≡ None
    → turn_at call worker moment objects ≡ with_object call.object objects (turn_on call.operation worker moment object)
turn_alone call worker moment objects object at none = ap (turn_with call worker moment objects) at ∙ ap (λ o. turn_by o call worker moment objects object) none

-- at an object that refers to another one
pub turn_referring : (call : Call) (worker moment : ℕ) (objects : List ObjectState) (object : ObjectState) (other : ℕ) (target : ObjectState) → slice_get objects call.object ≡ Some object
    → reference_of (kind_of object) ≡ Some other → slice_get objects other ≡ Some target
    → turn_at call worker moment objects ≡ with_both call.object other objects (turn_on_both call.operation worker moment object target)
turn_referring call worker moment objects object other target at some there =
    ap (turn_with call worker moment objects) at ∙ ap (λ o. turn_by o call worker moment objects object) some ∙ ap (turn_to call worker moment objects object other) there

-- the object at a place is the one that is found there
pub is_found : (objects : List ObjectState) (place : ℕ) (object found : ObjectState) → slice_get objects place ≡ Some object → found ≡ get_or objects place found → found ≡ object
is_found objects place object found at is = is ∙ get_or_from_slice_get objects place object found at

-- what is read of the object at the call's place is what that object refers to
pub refers_as_read : (objects : List ObjectState) (place : ℕ) (object found : ObjectState) (read o : Option ℕ) → slice_get objects place ≡ Some object
    → read ≡ reference_of (kind_of (get_or objects place found)) → read ≡ o → reference_of (kind_of object) ≡ o
refers_as_read objects place object found read o at reads is =
    ap (λ (o : ObjectState). reference_of (kind_of o)) (sym (get_or_from_slice_get objects place object found at)) ∙ sym reads ∙ is

-- at two objects, the first of which stands beside the others meanwhile
pub set_aside : (operation : Operation) (worker moment : ℕ) (objects : List ObjectState) (place other : ℕ) (beside object target found found_target new new_target : ObjectState) (answer : Answer) → other ≢ place
    → slice_get objects place ≡ Some object → slice_get objects other ≡ Some target → found ≡ get_or objects place found → found_target ≡ get_or (set objects place beside) other found_target
    → turn_on_both operation worker moment found found_target ≡ ((new, new_target), answer)
    → with_both place other objects (turn_on_both operation worker moment object target) ≡ (set (set (set objects place beside) other new_target) place new, answer)
set_aside operation worker moment objects place other beside object target found found_target new new_target answer two_places at there is is_there turn =
    let one : object ≡ found = sym (is_found objects place object found at is) in
    let two : target ≡ found_target = sym (is_found (set objects place beside) other target found_target (get_other objects place other beside target two_places there) is_there) in
    ap (λ (o : ObjectState). with_both place other objects (turn_on_both operation worker moment o target)) one
    ∙ ap (λ (o : ObjectState). with_both place other objects (turn_on_both operation worker moment found o)) two
    ∙ ap (with_both place other objects) turn
    ∙ ap (λ (l : List ObjectState). (l, answer)) (sym (set_past objects place other beside new_target new two_places))
