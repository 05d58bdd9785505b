-- The rows of atomics and of keys for completed calls of a run.
use Rattle.std.proofs.Common.{◌≡◌, ℕ, ◌<◌, true, List, [], ◌∷◌, ◌++◌, Option, Some, None, slice_get, refl, ap, ◌∙◌}
use Rattle.std.specs.Option.{option_map_or}
use Rattle.script_calls.specs.declared.call.Operation.{Operation}
use Rattle.script_calls.specs.declared.call.Operation.TheVariants as operations
use Rattle.script_calls.specs.declared.call.Reply.{Reply}
use Rattle.sync_types.specs.declared.atomic_object.AtomicCall.{AtomicCall}
use Rattle.sync_types.specs.declared.map_object.MapCall.{MapCall}
use Rattle.workload.specs.Plan.{Plan}
use Rattle.step_runner.specs.declared.trace.TraceItem.{TraceItem}
use Rattle.step_runner.specs.declared.turns.answer.Answer.TheVariants as answers
use Rattle.step_runner.specs.declared.turns.item.Deed.{Deed}
use Rattle.step_runner.specs.declared.turns.item.Deed.TheVariants as deeds
use Rattle.step_runner.specs.declared.turns.object_state.ObjectState.{ObjectState}
use Rattle.step_runner.specs.declared.turns.object_state.ObjectState.TheVariants as states
use Rattle.std.proofs.lemmas.List.{append-nil}
use Rattle.std.proofs.lemmas.Option.{same_Some}
use Rattle.step_runner.specs.Traces.{reply_of}
use Rattle.step_runner.specs.TurnAtObjects.{turn_on_both, with_both}
use Rattle.race_clocks.specs.Deeds.{enters_atomic, finds_atomic, finds_in_map}
use Rattle.race_clocks.specs.HappensBefore.{done_before, Before}
use Rattle.race_clocks.specs.Rows.{item, Makes, earlier_of, Completes}
use Rattle.race_clocks.specs.Seen.{map_behind, enters_key}
use Rattle.race_clocks.proofs.Accesses.{IsToldOf}
use Rattle.race_clocks.proofs.CompletedCalls.{MakesOne, DoesOne, other_of, never, made_by, step_by, at_found, whole, by_one, makes}
use Rattle.race_clocks.proofs.Ordered.{atomic_row, key_row}

said : {reply other : Reply (List ℕ)} → answers.Completed reply ≡ answers.Completed other → reply ≡ other
said e = same_Some _ _ (ap reply_of e)

module _ (place worker moment : ℕ) (objects : List ObjectState) (reply : Reply (List ℕ)) where
  -- the call itself is the one item, and its reply is the turn's
  abbrev IsPlaced : Operation → Deed → Type 0
  IsPlaced operation d = d ≡ deeds.Placed operation reply

  placed : (operation : Operation) (its : Reply (List ℕ)) → answers.Completed its ≡ answers.Completed reply → MakesOne place worker (IsPlaced operation) (item place worker (deeds.Placed operation its) ∷ [])
  placed operation its is = (deeds.Placed operation its, refl, ap (deeds.Placed operation) (said is))

  beside_atomic : (call : AtomicCall) (object : ObjectState) (target : Option ObjectState) → (option_map_or (λ t. with_both place (other_of object) objects (turn_on_both (operations.Atomic call) worker moment object t)) target (objects, answers.Still)).1 ≡ answers.Completed reply → ⊥
  beside_atomic call object None is = never reply is
  beside_atomic call object (Some target) is = never reply is

  pub atomic_each : (call : AtomicCall) (object : ObjectState) → (step_by place (operations.Atomic call) worker moment objects object).1 ≡ answers.Completed reply → MakesOne place worker (IsPlaced (operations.Atomic call)) (made_by place (operations.Atomic call) worker moment objects object)
  atomic_each call (states.Atomic number) is = placed (operations.Atomic call) _ is
  atomic_each call (states.Cond c other) is = absurd (beside_atomic call (states.Cond c other) (slice_get objects other) is)
  atomic_each call (states.Once o other delta) is = absurd (beside_atomic call (states.Once o other delta) (slice_get objects other) is)
  atomic_each call (states.Flight f keys other delta) is = absurd (beside_atomic call (states.Flight f keys other delta) (slice_get objects other) is)
  atomic_each call object is = never reply is

  beside_map : (call : MapCall (List ℕ)) (object : ObjectState) (target : Option ObjectState) → (option_map_or (λ t. with_both place (other_of object) objects (turn_on_both (operations.Map call) worker moment object t)) target (objects, answers.Still)).1 ≡ answers.Completed reply → ⊥
  beside_map call object None is = never reply is
  beside_map call object (Some target) is = never reply is

  pub map_each : (call : MapCall (List ℕ)) (object : ObjectState) → (step_by place (operations.Map call) worker moment objects object).1 ≡ answers.Completed reply → MakesOne place worker (IsPlaced (operations.Map call)) (made_by place (operations.Map call) worker moment objects object)
  map_each call (states.Map m) is = placed (operations.Map call) _ is
  map_each call (states.Cond c other) is = absurd (beside_map call (states.Cond c other) (slice_get objects other) is)
  map_each call (states.Once o other delta) is = absurd (beside_map call (states.Once o other delta) (slice_get objects other) is)
  map_each call (states.Flight f keys other delta) is = absurd (beside_map call (states.Flight f keys other delta) (slice_get objects other) is)
  map_each call object is = never reply is

module _ (plan : Plan) (trace : List TraceItem) (told : (n : ℕ) (one : TraceItem) → slice_get trace n ≡ Some one → IsToldOf plan one) where
  abbrev Placed : (i place : ℕ) (operation : Operation) (reply : Reply (List ℕ)) → Completes trace i place operation reply → Type 0
  Placed i place operation reply c = DoesOne plan trace told i place operation reply c (λ d. d ≡ deeds.Placed operation reply)

  pub atomic_made : (i place : ℕ) (call : AtomicCall) (reply : Reply (List ℕ)) (c : Completes trace i place (operations.Atomic call) reply) → Placed i place (operations.Atomic call) reply c
  atomic_made i place call reply c = let w = whole plan trace told i place (operations.Atomic call) reply c in
      by_one plan trace told i place (operations.Atomic call) reply c (λ d. d ≡ deeds.Placed (operations.Atomic call) reply) w
      (at_found place (operations.Atomic call) w.worker w.state.moment w.state.objects (λ made _. MakesOne place w.worker (λ d. d ≡ deeds.Placed (operations.Atomic call) reply) made) reply (atomic_each place w.worker w.state.moment w.state.objects reply call) (slice_get w.state.objects place) w.completes)

  pub map_made_by : (i place : ℕ) (call : MapCall (List ℕ)) (reply : Reply (List ℕ)) (c : Completes trace i place (operations.Map call) reply) → Placed i place (operations.Map call) reply c
  map_made_by i place call reply c = let w = whole plan trace told i place (operations.Map call) reply c in
      by_one plan trace told i place (operations.Map call) reply c (λ d. d ≡ deeds.Placed (operations.Map call) reply) w
      (at_found place (operations.Map call) w.worker w.state.moment w.state.objects (λ made _. MakesOne place w.worker (λ d. d ≡ deeds.Placed (operations.Map call) reply) made) reply (map_each place w.worker w.state.moment w.state.objects reply call) (slice_get w.state.objects place) w.completes)

  pub atomic_then : (i j place : ℕ) (call other : AtomicCall) (reply answer : Reply (List ℕ)) → i < j → (a : Completes trace i place (operations.Atomic call) reply) → (b : Completes trace j place (operations.Atomic other) answer)
      → enters_atomic (deeds.Placed (operations.Atomic call) reply) ≡ true → finds_atomic (deeds.Placed (operations.Atomic other) answer) ≡ true
      → ((k p u : ℕ) (f : Deed) → i < k → k < j → Makes trace k p u f → p ≡ place → enters_atomic f ≡ true → ⊥) → Before plan trace i j
  atomic_then i j place call other reply answer earlier a b enters finds none =
      let one = atomic_made i place call reply a in
      let two = atomic_made j place other answer b in
      atomic_row plan trace i j place one.worker two.worker one.deed two.deed earlier
      (makes plan trace told i place (operations.Atomic call) reply a (λ d. d ≡ deeds.Placed (operations.Atomic call) reply) one)
      (makes plan trace told j place (operations.Atomic other) answer b (λ d. d ≡ deeds.Placed (operations.Atomic other) answer) two)
      (ap enters_atomic one.does ∙ enters) (ap finds_atomic two.does ∙ finds) none

  -- the item of a turn that makes just one stands behind all that was done before the turn
  at_first : (place : ℕ) (i : ℕ) (key : List ℕ) (d : Deed) → enters_key key (map_behind place (done_before trace i)) d ≡ true → enters_key key (map_behind place (done_before trace i ++ [])) d ≡ true
  at_first place i key d enters = ap (λ seen. enters_key key (map_behind place seen) d) (append-nil (done_before trace i)) ∙ enters

  pub key_then : (i j place : ℕ) (call other : MapCall (List ℕ)) (reply answer : Reply (List ℕ)) (key : List ℕ) → i < j → (a : Completes trace i place (operations.Map call) reply) → (b : Completes trace j place (operations.Map other) answer)
      → enters_key key (map_behind place (done_before trace i)) (deeds.Placed (operations.Map call) reply) ≡ true → finds_in_map key (deeds.Placed (operations.Map other) answer) ≡ true
      → ((k p u : ℕ) (f : Deed) → i < k → k < j → (m : Makes trace k p u f) → p ≡ place → enters_key key (map_behind place (earlier_of trace k p u f m)) f ≡ true → ⊥) → Before plan trace i j
  key_then i j place call other reply answer key earlier a b enters finds none =
      let one = map_made_by i place call reply a in
      let two = map_made_by j place other answer b in
      key_row plan trace i j place one.worker two.worker one.deed two.deed earlier
      (makes plan trace told i place (operations.Map call) reply a (λ d. d ≡ deeds.Placed (operations.Map call) reply) one)
      (makes plan trace told j place (operations.Map other) answer b (λ d. d ≡ deeds.Placed (operations.Map other) answer) two)
      key (ap (enters_key key (map_behind place (done_before trace i ++ []))) one.does ∙ at_first place i key (deeds.Placed (operations.Map call) reply) enters) (ap (finds_in_map key) two.does ∙ finds) none
