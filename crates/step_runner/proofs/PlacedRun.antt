-- At every moment the next turn of a worker that stands before a call of a map or an atomic, or before a `waitfor` whose atomic holds the value, makes the call whole.
use Rattle.std.proofs.Common.{◌≡◌, ℕ, ◌<◌, ◌⊎◌, inl, inr, Bool, true, false, List, [], ◌∷◌, ◌++◌, get_or, length, Option, Some, None, refl, sym, ap, ◌∙◌, subst, arith}
use Rattle.std.specs.Prelude.{slice_get}
use Rattle.std.specs.Option.{option_map_or}
use Rattle.std.proofs.lemmas.List.{get_or-set_same}
use Rattle.sync_types.specs.SequentialAtomic.{is_same}
use Rattle.sync_types.specs.declared.atomic_object.AtomicReply.TheVariants.{Compared}
use Rattle.sync_types.specs.declared.atomic_object.Number.{Number}
use Rattle.sync_types.specs.declared.wait_call.WaitGroupCall.TheVariants.{Done}
use Rattle.script_calls.specs.declared.call.Call.{Call}
use Rattle.script_calls.specs.declared.call.ComposedCall.{ComposedCall}
use Rattle.script_calls.specs.declared.call.ComposedCall.TheVariants.{IfEqual, WaitFor}
use Rattle.script_calls.specs.declared.call.Operation.{Operation}
use Rattle.script_calls.specs.declared.call.Operation.TheVariants as operations
use Rattle.script_calls.specs.declared.call.Reply.{Reply}
use Rattle.script_calls.specs.declared.call.Reply.TheVariants as replies
use Rattle.workload.specs.Plan.{Plan, reference_of}
use Rattle.step_runner.specs.declared.turns.answer.Answer.{Answer}
use Rattle.step_runner.specs.declared.turns.answer.Answer.TheVariants.{Completed}
use Rattle.step_runner.specs.declared.turns.object_state.ObjectState.{ObjectState}
use Rattle.step_runner.specs.declared.turns.object_state.ObjectState.TheVariants as states
use Rattle.step_runner.specs.declared.turns.item.Item.{Item}
use Rattle.step_runner.specs.Items.{items_by, items_at}
use Rattle.step_runner.specs.Objects.{kind_of}
use Rattle.step_runner.specs.PlacedCalls as turns
use Rattle.step_runner.specs.Ready.{IsReady}
use Rattle.step_runner.specs.StandsWithin.{ReadyBy}
use Rattle.step_runner.specs.TurnAtObjects.{turn_at}
use Rattle.step_runner.specs.TurnWithin.{holds, is_met, items_by_operation, items_within, load_of, tells, turn_by_operation, turn_within, unless_met, unless_met_items, wait_for_items, wait_for_turn}
use Rattle.step_runner.specs.declared.step.Step.{Step}
use Rattle.step_runner.specs.RunItems.{IsAnswered, IsMet, IsTested}
use Rattle.step_runner.specs.State.{State, IsStateOf}
use Rattle.step_runner.specs.Turns.{begun_by, next_call, settled}
use Rattle.step_runner.proofs.NextCalls.{IsOfScript, IsClosing, next_is}
use Rattle.step_runner.proofs.TurnLemmas.{completed_script, is_there, moved, ready, turn_before}

-- ---- the turn of a call that isn't a `waitfor` is the one at its objects

module _ (workers worker moment begun : ℕ) (call : Call) (objects : List ObjectState) where
  record IsPlain (operation : Operation) : Type 0 where
    ready : ReadyBy workers worker call objects operation → IsReady workers worker call objects
    turn : turn_by_operation call worker moment begun objects operation ≡ (((turn_at call worker moment objects).0, begun), (turn_at call worker moment objects).1)
    items : items_by_operation call worker moment begun objects operation ≡ items_at call worker moment objects

  -- one that is made of no others
  plain_by : (operation : Operation) → turns.is_placed operation ≡ true → IsPlain operation
  plain_by (operations.Composed composed) one = absurd cc
  plain_by operation one = record { ready = λ r. r; turn = refl; items = refl }

  -- and an `ifeq`
  plain_test : (value : Number) (passes : ℕ) → IsPlain (operations.Composed (IfEqual value passes))
  plain_test value passes = record { ready = λ r. r; turn = refl; items = refl }

no_placed : false ≡ true → ⊥
no_placed e = cc

composed_done : (composed : ComposedCall) → operations.Composed composed ≡ operations.WaitGroup Done → ⊥
composed_done composed e = cc

-- neither is the one behind a script
never_closing : (plan : Plan) (worker : ℕ) (given : List (Reply (List ℕ))) (call : Call) → (call.operation ≡ operations.WaitGroup Done → ⊥) → IsOfScript plan worker given call ⊎ IsClosing plan worker given call → IsOfScript plan worker given call
never_closing plan worker given call other (inl script) = script
never_closing plan worker given call other (inr closing) = absurd (other (ap (λ (c : Call). c.operation) closing.is))

-- so its turn adds its reply
own_reply : (plan : Plan) (worker : ℕ) (s : State) (call : Call) (objects : List ObjectState) (waits : ℕ) (reply : Reply (List ℕ)) → worker < length s.replies → IsOfScript plan worker (get_or s.replies worker []) call
    → get_or (settled plan worker call (Completed reply) (moved worker objects waits s)).0.replies worker [] ≡ get_or s.replies worker [] ++ reply ∷ []
own_reply plan worker s call objects waits reply here script =
    ap (λ (t : State). get_or t.replies worker []) (completed_script plan worker (moved worker objects waits s) call reply script) ∙ get_or-set_same s.replies worker (get_or s.replies worker [] ++ reply ∷ []) [] here

-- ---- before a call of a map or an atomic

-- what the law of turns says
abbrev pub Placed : Type 0
Placed = (workers worker moment : ℕ) (call : Call) (objects : List ObjectState) → IsReady workers worker call objects → turns.is_placed call.operation ≡ true
    → turns.IsAnswered call worker (items_at call worker moment objects) (turn_at call worker moment objects).1

pub call_answered : Placed → (plan : Plan) (worker : ℕ) (call : Call) (s : State) → IsStateOf plan s → next_call plan worker s ≡ Some call → turns.is_placed call.operation ≡ true → IsAnswered plan worker call s
call_answered law plan worker call s of next one =
    let plain = plain_by plan.workers worker s.moment (begun_by worker s) call s.objects call.operation one in
    let r = plain.ready (ready plan worker s call of next) in
    let y = turn_at call worker s.moment s.objects in
    let answered = law plan.workers worker s.moment call s.objects r one in
    let reply = answered.0 in
    let turn = turn_before plan worker s call y.0 (begun_by worker s) y.1 next plain.turn ∙ ap (λ (a : Answer). settled plan worker call a (moved worker y.0 (begun_by worker s) s)) answered.2 in
    let script = never_closing plan worker (get_or s.replies worker []) call (λ (is : call.operation ≡ operations.WaitGroup Done). no_placed (sym (ap turns.is_placed is) ∙ one)) (next_is plan worker s call next) in
    let here : worker < length s.replies = omega (arith, r.below, of.workers) in (
      reply,
      ap (λ (o : Option Call). option_map_or (λ call. items_within call worker s.moment (begun_by worker s) s.objects) o []) next ∙ plain.items ∙ answered.1,
      ap (λ (x : State × Step). get_or x.0.replies worker []) turn ∙ own_reply plan worker s call y.0 (begun_by worker s) reply here script,
    )

-- ---- before an `ifeq`

abbrev pub Tested : Type 0
Tested = (workers worker moment : ℕ) (call : Call) (objects : List ObjectState) (value : Number) (passes : ℕ) → IsReady workers worker call objects → call.operation ≡ operations.Composed (IfEqual value passes)
    → turns.IsTested call value worker objects (items_at call worker moment objects) (turn_at call worker moment objects).1

pub call_tested : Tested → (plan : Plan) (worker : ℕ) (call : Call) (value : Number) (passes : ℕ) (s : State) → IsStateOf plan s → next_call plan worker s ≡ Some call
    → call.operation ≡ operations.Composed (IfEqual value passes) → IsTested plan worker call value s
call_tested law plan worker call value passes s of next is =
    let plain = subst (IsPlain plan.workers worker s.moment (begun_by worker s) call s.objects) (sym is) (plain_test plan.workers worker s.moment (begun_by worker s) call s.objects value passes) in
    let r = plain.ready (ready plan worker s call of next) in
    let y = turn_at call worker s.moment s.objects in
    let tested = law plan.workers worker s.moment call s.objects value passes r is in
    let reply : Reply (List ℕ) = replies.Atomic (Compared (is_same tested.0 value)) in
    let turn = turn_before plan worker s call y.0 (begun_by worker s) y.1 next plain.turn ∙ ap (λ (a : Answer). settled plan worker call a (moved worker y.0 (begun_by worker s) s)) tested.3 in
    let script = never_closing plan worker (get_or s.replies worker []) call (λ (other : call.operation ≡ operations.WaitGroup Done). composed_done (IfEqual value passes) (sym is ∙ other)) (next_is plan worker s call next) in
    let here : worker < length s.replies = omega (arith, r.below, of.workers) in (
      tested.0,
      tested.1,
      ap (λ (o : Option Call). option_map_or (λ call. items_within call worker s.moment (begun_by worker s) s.objects) o []) next ∙ plain.items ∙ tested.2,
      ap (λ (x : State × Step). get_or x.0.replies worker []) turn ∙ own_reply plan worker s call y.0 (begun_by worker s) reply here script,
    )

-- ---- before a `waitfor` whose atomic holds the value

pub call_met : (plan : Plan) (worker atomic tries : ℕ) (call : Call) (value found : Number) (s : State) → IsStateOf plan s → next_call plan worker s ≡ Some call → call.operation ≡ operations.Composed (WaitFor atomic value tries)
    → begun_by worker s ≡ 0 → slice_get s.objects atomic ≡ Some (states.Atomic found) → is_same found value ≡ true → IsMet plan worker atomic found s
call_met plan worker atomic tries call value found s of next is none at same =
    let met : is_met atomic value s.objects ≡ true = ap (λ (o : Option ObjectState). option_map_or (holds value) o false) at ∙ same in
    let load : items_at (load_of atomic) worker s.moment s.objects ≡ items_by None (load_of atomic) worker s.moment s.objects (states.Atomic found) =
    ap (λ (o : Option ObjectState). option_map_or (λ object. items_by (reference_of (kind_of object)) (load_of atomic) worker s.moment s.objects object) o []) at in
    let items =
    ap (items_by_operation call worker s.moment (begun_by worker s) s.objects) is ∙ ap (λ (n : ℕ). wait_for_items worker s.moment call.object atomic value tries n s.objects) none
    ∙ ap (λ (b : Bool). items_at (load_of atomic) worker s.moment s.objects ++ unless_met_items worker s.moment call.object atomic value tries b 0 s.objects) met
    ∙ ap (λ (l : List Item). l ++ []) load in
    let turn : turn_within call worker s.moment (begun_by worker s) s.objects ≡ ((s.objects, 0), tells true) =
    ap (turn_by_operation call worker s.moment (begun_by worker s) s.objects) is ∙ ap (λ (n : ℕ). wait_for_turn worker s.moment call.object atomic value tries n s.objects) none
    ∙ ap (λ (b : Bool). unless_met worker s.moment call.object atomic value tries b 0 s.objects) met in
    let behind = turn_before plan worker s call s.objects 0 (tells true) next turn in
    let reply : Reply (List ℕ) = replies.Atomic (Compared true) in
    let script = never_closing plan worker (get_or s.replies worker []) call (λ (other : call.operation ≡ operations.WaitGroup Done). composed_done (WaitFor atomic value tries) (sym is ∙ other)) (next_is plan worker s call next) in
    let here : worker < length s.replies = omega (arith, is_there plan worker s call of next, of.workers) in (
      ap (λ (o : Option Call). option_map_or (λ call. items_within call worker s.moment (begun_by worker s) s.objects) o []) next ∙ items,
      ap (λ (x : State × Step). get_or x.0.replies worker []) behind ∙ own_reply plan worker s call s.objects 0 reply here script,
      ap (λ (x : State × Step). x.0.objects) behind ∙ ap (λ (t : State). t.objects) (completed_script plan worker (moved worker s.objects 0 s) call reply script),
    )
