-- A `go`: the wait group on which its `add` is made, and the item with which it starts a worker behind that, which lies on none of the objects.
use Rattle.std.proofs.Common.{◌≡◌, ◌≢◌, ℕ, ◌≤◌, Bool, true, false, ◌||◌, cond, eqb, List, [], ◌∷◌, ◌++◌, length, filter, set, Option, Some, None, refl, sym, ap, ◌∙◌, subst, append-nil, arith}
use Rattle.std.specs.Prelude.{◌==◌, slice_get}
use Rattle.std.proofs.lemmas.Bool.{eq-eqb, eqb-true}
use Rattle.std.proofs.lemmas.List.{length-set}
use Rattle.std.proofs.lemmas.List.Elements.{filter-append}
use Rattle.std.proofs.lemmas.List.Folds.{list_any-append}
use Rattle.std.proofs.lemmas.Option.{slice_get_past}
use Rattle.script_calls.specs.declared.call.Call.{Call}
use Rattle.script_calls.specs.declared.call.Operation.TheVariants as operations
use Rattle.sync_types.specs.declared.wait_call.WaitGroupCall.{WaitGroupCall}
use Rattle.wait_cores.specs.GroupMachine.{GroupState}
use Rattle.workload.specs.Plan.{has_call}
use Rattle.step_runner.specs.declared.turns.answer.Answer.{Answer}
use Rattle.step_runner.specs.declared.turns.answer.Answer.TheVariants as answers
use Rattle.step_runner.specs.declared.turns.object_state.ObjectState.{ObjectState}
use Rattle.step_runner.specs.declared.turns.object_state.ObjectState.TheVariants as states
use Rattle.step_runner.specs.declared.turns.item.Item.{Item}
use Rattle.step_runner.specs.Items.{is_requeued, goes_back}
use Rattle.step_runner.specs.LeadsTo.{on_object}
use Rattle.step_runner.specs.Objects.{kind_of}
use Rattle.step_runner.specs.Ready.{IsReady}
use Rattle.step_runner.specs.TurnAtObjects.{turn_on, turn_on_both, turn_at}
use Rattle.step_runner.specs.TurnWithin.{on_group, start_item, start_items}
use Rattle.step_runner.proofs.AtObjects.{at_any}
use Rattle.step_runner.proofs.ItemLogs.{ComesAt, comes_nowhere}
use Rattle.step_runner.proofs.Refuted.{no}

-- ---- the wait group

-- the object at a place is a wait group
pub record GroupAt (place : ℕ) (objects : List ObjectState) : Type 0 where
  pub g : GroupState
  pub first : ℕ
  pub there : slice_get objects place ≡ Some (states.WaitGroup g first)

by_object : (place : ℕ) (objects : List ObjectState) (call : WaitGroupCall) (object : ObjectState) → slice_get objects place ≡ Some object → has_call (kind_of object) (operations.WaitGroup call) ≡ true → GroupAt place objects
by_object place objects call (states.WaitGroup g first) there has = record { g = g; first = first; there = there }
by_object place objects call object there has = no has

pub group_there : (workers worker place : ℕ) (call : WaitGroupCall) (objects : List ObjectState) → IsReady workers worker (on_group place call) objects → GroupAt place objects
group_there workers worker place call objects r = by_object place objects call r.object r.there r.has

-- ---- the start

-- a turn keeps how many objects there are
pub length_kept : (call : Call) (worker moment : ℕ) (objects : List ObjectState) → length (turn_at call worker moment objects).0 ≡ length objects
length_kept call worker moment objects = at_any (λ step. length step.0 ≡ length objects) call worker moment objects refl
    (λ object at. length-set objects call.object (turn_on call.operation worker moment object).0)
    (λ object other target at there.
    let new = (turn_on_both call.operation worker moment object target).0 in
    length-set (set objects call.object new.0) other new.1 ∙ length-set objects call.object new.0)

-- behind all objects stands none
pub start_comes : (worker started : ℕ) (objects : List ObjectState) (place : ℕ) → ComesAt (slice_get objects place) (on_object place (start_item worker (length objects) started ∷ [])) (slice_get objects place)
start_comes worker started objects place = by_place (length objects == place) refl
  where
    none : (made : List Item) → length objects ≡ place → ComesAt (slice_get objects place) made (slice_get objects place)
    none made same =
        let past : length objects ≤ place = omega (arith, same) in
        subst (λ (o : Option ObjectState). ComesAt o made o) (sym (slice_get_past objects place past)) tt

    same_at : (o : Option ObjectState) → ComesAt o [] o
    same_at None = tt
    same_at (Some o) = comes_nowhere o

    by_place : (b : Bool) → (length objects == place) ≡ b → ComesAt (slice_get objects place) (on_object place (start_item worker (length objects) started ∷ [])) (slice_get objects place)
    by_place true e = none (on_object place (start_item worker (length objects) started ∷ [])) (eqb-true (length objects) place e)
    by_place false e = subst (λ (b : Bool). ComesAt (slice_get objects place) (cond b (start_item worker (length objects) started ∷ []) []) (slice_get objects place)) (sym e) (same_at (slice_get objects place))

module _ (worker count started : ℕ) (made : List Item) where
  -- it is no return to the queue of a mutex
  pub start_back : (a : Answer) → goes_back (made ++ start_items a (start_item worker count started)) ≡ goes_back made
  start_back answers.Still = ap goes_back (append-nil made)
  start_back answers.Unfinished = ap goes_back (append-nil made)
  start_back (answers.Completed reply) = list_any-append (λ item. is_requeued item.deed) made (start_item worker count started ∷ []) ∙ or_false (goes_back made)
    where
      or_false : (b : Bool) → (b || false) ≡ b
      or_false true = refl
      or_false false = refl
  start_back (answers.Misused misuse) = ap goes_back (append-nil made)

  -- it is its worker's
  pub start_own : (a : Answer) → filter (λ (item : Item). item.caller == worker) made ≡ made
      → filter (λ (item : Item). item.caller == worker) (made ++ start_items a (start_item worker count started)) ≡ made ++ start_items a (start_item worker count started)
  start_own a are =
      filter-append (λ (item : Item). item.caller == worker) made (start_items a (start_item worker count started)) ∙ (λ i. are i ++ by_answer a i)
    where
      by_answer : (a : Answer) → filter (λ (item : Item). item.caller == worker) (start_items a (start_item worker count started)) ≡ start_items a (start_item worker count started)
      by_answer answers.Still = refl
      by_answer answers.Unfinished = refl
      by_answer (answers.Completed reply) = ap (λ (b : Bool). cond b (start_item worker count started ∷ []) []) (eq-eqb worker worker refl)
      by_answer (answers.Misused misuse) = refl

  pub start_no_others : (a : Answer) (other : ℕ) → worker ≢ other → filter (λ (item : Item). item.caller == other) made ≡ []
      → filter (λ (item : Item). item.caller == other) (made ++ start_items a (start_item worker count started)) ≡ []
  start_no_others a other apart are = filter-append (λ (item : Item). item.caller == other) made (start_items a (start_item worker count started)) ∙ (λ i. are i ++ by_answer a i)
    where
      differs : (b : Bool) → eqb worker other ≡ b → eqb worker other ≡ false
      differs true e = absurd (apart (eqb-true worker other e))
      differs false e = e

      by_answer : (a : Answer) → filter (λ (item : Item). item.caller == other) (start_items a (start_item worker count started)) ≡ []
      by_answer answers.Still = refl
      by_answer answers.Unfinished = refl
      by_answer (answers.Completed reply) = ap (λ (b : Bool). cond b (start_item worker count started ∷ []) []) (differs (eqb worker other) refl)
      by_answer (answers.Misused misuse) = refl
