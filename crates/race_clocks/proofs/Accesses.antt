-- What a turn of a `read` or a `write` made: one item, which is that call on its variable.
use Rattle.std.proofs.Common.{◌≡◌, ◌⊎◌, inl, inr, ℕ, zero, suc, Bool, true, false, List, [], ◌∷◌, ◌++◌, Option, Some, None, slice_get, refl, sym, ap, ◌∙◌, subst}
use Rattle.std.specs.Prelude.{cond}
use Rattle.std.specs.Option.{option_map_or}
use Rattle.std.proofs.lemmas.Bool.{false≢true}
use Rattle.std.proofs.lemmas.Option.{none-some, same_Some}
use Rattle.script_calls.specs.declared.call.Call.{Call}
use Rattle.script_calls.specs.declared.call.Operation.{Operation}
use Rattle.script_calls.specs.declared.call.Operation.TheVariants as operations
use Rattle.script_calls.specs.declared.call.Reply.{Reply}
use Rattle.script_calls.specs.declared.call.Reply.TheVariants as replies
use Rattle.script_calls.specs.declared.call.VarCall.{VarCall}
use Rattle.workload.specs.Plan.{Plan, reference_of}
use Rattle.workload.specs.declared.turn.Turn.{Turn}
use Rattle.workload.specs.declared.turn.Turn.TheVariants as turns
use Rattle.step_runner.specs.declared.step.Step.{Step}
use Rattle.step_runner.specs.declared.step.Step.TheVariants as steps
use Rattle.step_runner.specs.declared.trace.TraceItem.{TraceItem}
use Rattle.step_runner.specs.declared.turns.answer.Answer.{Answer}
use Rattle.step_runner.specs.declared.turns.answer.Answer.TheVariants as answers
use Rattle.step_runner.specs.declared.turns.item.Deed.TheVariants as deeds
use Rattle.step_runner.specs.declared.turns.item.Item.{Item}
use Rattle.step_runner.specs.declared.turns.object_state.ObjectState.{ObjectState}
use Rattle.step_runner.specs.declared.turns.object_state.ObjectState.TheVariants as states
use Rattle.step_runner.specs.Items.{items_by, items_on_both}
use Rattle.step_runner.specs.Objects.{kind_of}
use Rattle.step_runner.specs.State.{State}
use Rattle.step_runner.specs.Traces.{is_told, reply_of, turn_told, closing_turn, script_turn, place_in_script, traced_turn, traced_from, unless_over}
use Rattle.step_runner.specs.TurnAtObjects.{turn_by, turn_on_both, with_both}
use Rattle.step_runner.specs.TurnWithin.{items_within, turn_within}
use Rattle.step_runner.specs.Turns.{begun_by, is_behind, next_call, item_of}
use Rattle.step_runner.specs.Variables.{var_reply}
use Rattle.race_clocks.specs.Races.{Access, access_by, access_of, is_write}
use Rattle.race_clocks.specs.Rows.{item, IsAccessed}

-- ---- of which turn an item of a trace tells

module _ (plan : Plan) where
  module _ (s : State) (worker : ℕ) (call : Call) where
    abbrev pub items : List Item
    items = items_within call worker s.moment (begun_by worker s) s.objects

    abbrev pub answer : Answer
    answer = (turn_within call worker s.moment (begun_by worker s) s.objects).1

  pub record IsToldOf (one : TraceItem) : Type 0 where
    pub state : State
    pub worker : ℕ
    pub call : Call
    pub told : is_told (items state worker call) (answer state worker call) ≡ true
    pub is : turn_told plan worker state call (items state worker call) (reply_of (answer state worker call)) ≡ one

  if_told : (b : Bool) (x one : TraceItem) (n : ℕ) → slice_get (cond b (x ∷ []) []) n ≡ Some one → (b ≡ true) × (x ≡ one)
  if_told true x one zero at = (refl, same_Some x one at)
  if_told true x one (suc n) at = absurd (none-some one at)
  if_told false x one n at = absurd (none-some one at)

  of_call : (s : State) (worker : ℕ) (next : Option Call) (n : ℕ) (one : TraceItem)
      → slice_get (option_map_or (λ call. cond (is_told (items s worker call) (answer s worker call)) (turn_told plan worker s call (items s worker call) (reply_of (answer s worker call)) ∷ []) []) next []) n ≡ Some one → IsToldOf one
  of_call s worker None n one at = absurd (none-some one at)
  of_call s worker (Some call) n one at =
      let told = if_told (is_told (items s worker call) (answer s worker call)) (turn_told plan worker s call (items s worker call) (reply_of (answer s worker call))) one n at in
      record { state = s; worker = worker; call = call; told = told.0; is = told.1 }

  of_turn : (turn : Turn) (s : State) (n : ℕ) (one : TraceItem) → slice_get (traced_turn plan turn s) n ≡ Some one → IsToldOf one
  of_turn (turns.Worker worker) s n one at = of_call s worker (next_call plan worker s) n one at
  of_turn (turns.Moment moment) s n one at = absurd (none-some one at)

  in_either : (xs ys : List TraceItem) (n : ℕ) (one : TraceItem) → slice_get (xs ++ ys) n ≡ Some one → (slice_get xs n ≡ Some one) ⊎ ((m : ℕ) × (slice_get ys m ≡ Some one))
  in_either [] ys n one at = inr (n, at)
  in_either (x ∷ xs) ys zero one at = inl at
  in_either (x ∷ xs) ys (suc n) one at = in_either xs ys n one at

  goes_on : (p : State × Step) (rest : State → List TraceItem) (n : ℕ) (one : TraceItem) → slice_get (unless_over p rest) n ≡ Some one → slice_get (rest p.0) n ≡ Some one
  goes_on (s, steps.Still) rest n one at = at
  goes_on (s, steps.Made) rest n one at = at
  goes_on (s, steps.Misused misuse) rest n one at = absurd (none-some one at)

  pub told_of : (turns : List Turn) (s : State) (n : ℕ) (one : TraceItem) → slice_get (traced_from plan turns s) n ≡ Some one → IsToldOf one
  told_of [] s n one at = absurd (none-some one at)
  told_of (turn ∷ rest) s n one at = by (told_of rest (item_of plan turn s).0) (in_either (traced_turn plan turn s) (unless_over (item_of plan turn s) (traced_from plan rest)) n one at) where
    by : ((m : ℕ) (one : TraceItem) → slice_get (traced_from plan rest (item_of plan turn s).0) m ≡ Some one → IsToldOf one)
        → (slice_get (traced_turn plan turn s) n ≡ Some one) ⊎ ((m : ℕ) × (slice_get (unless_over (item_of plan turn s) (traced_from plan rest)) m ≡ Some one)) → IsToldOf one
    by later (inl here) = of_turn turn s n one here
    by later (inr (m, there)) = later m one (goes_on (item_of plan turn s) (traced_from plan rest) m one there)

-- ---- a turn of a call on a variable

module _ (place : ℕ) (call : VarCall) (worker moment : ℕ) (objects : List ObjectState) where
  abbrev on_var : Call
  on_var = record { object = place; operation = operations.Var call }

  abbrev Placed : List Item → Type 0
  Placed made = (reply : Reply (List ℕ)) × (made ≡ item place worker (deeds.Placed (operations.Var call) reply) ∷ [])

  -- no object that refers to another one has such a call
  beside_of : (other : ℕ) (object : ObjectState) (target : Option ObjectState)
      → is_told (option_map_or (λ t. items_on_both (operations.Var call) worker moment place other object t) target []) (option_map_or (λ t. with_both place other objects (turn_on_both (operations.Var call) worker moment object t)) target (objects, answers.Still)).1 ≡ true → ⊥
  beside_of other object None told = false≢true told
  beside_of other object (Some target) told = false≢true told

  beside : (other : ℕ) (object : ObjectState) → is_told (items_by (Some other) on_var worker moment objects object) (turn_by (Some other) on_var worker moment objects object).1 ≡ true → Placed (items_by (Some other) on_var worker moment objects object)
  beside other object told = absurd (beside_of other object (slice_get objects other) told)

  at_object : (object : ObjectState) → is_told (items_by (reference_of (kind_of object)) on_var worker moment objects object) (turn_by (reference_of (kind_of object)) on_var worker moment objects object).1 ≡ true
      → Placed (items_by (reference_of (kind_of object)) on_var worker moment objects object)
  at_object (states.Map m) told = absurd (false≢true told)
  at_object (states.Atomic number) told = absurd (false≢true told)
  at_object (states.Mutex m) told = absurd (false≢true told)
  at_object (states.RwMutex m) told = absurd (false≢true told)
  at_object (states.Cond c other) told = beside other (states.Cond c other) told
  at_object (states.WaitGroup g first) told = absurd (false≢true told)
  at_object (states.Once o other delta) told = beside other (states.Once o other delta) told
  at_object (states.Flight f keys other delta) told = beside other (states.Flight f keys other delta) told
  at_object (states.OnceFunc o code) told = absurd (false≢true told)
  at_object (states.OnceValue o value) told = absurd (false≢true told)
  at_object (states.Pool p) told = absurd (false≢true told)
  at_object (states.Sema s size) told = absurd (false≢true told)
  at_object (states.Var held) told = (replies.Var (var_reply call held), refl)

  at_found : (found : Option ObjectState) → is_told (option_map_or (λ object. items_by (reference_of (kind_of object)) on_var worker moment objects object) found []) (option_map_or (λ object. turn_by (reference_of (kind_of object)) on_var worker moment objects object) found (objects, answers.Still)).1 ≡ true
      → Placed (option_map_or (λ object. items_by (reference_of (kind_of object)) on_var worker moment objects object) found [])
  at_found None told = absurd (false≢true told)
  at_found (Some object) told = at_object object told

  at_place : (begun : ℕ) → is_told (items_within on_var worker moment begun objects) (turn_within on_var worker moment begun objects).1 ≡ true → Placed (items_within on_var worker moment begun objects)
  at_place begun told = at_found (slice_get objects place) told

-- ---- an access

module _ (plan : Plan) (s : State) (worker : ℕ) where
  -- by the call's operation
  by_operation : (place : ℕ) (operation : Operation) (a : Access) → access_by place operation ≡ Some a → is_told (items plan s worker (record { object = place; operation = operation })) (answer plan s worker (record { object = place; operation = operation })) ≡ true
      → (index : ℕ) (reply : Option (Reply (List ℕ))) → IsAccessed (script_turn worker (record { object = place; operation = operation }) index (items plan s worker (record { object = place; operation = operation })) reply) a
  by_operation place (operations.Var call) a is told index reply = by (at_place place call worker s.moment s.objects (begun_by worker s) told) where
    made : List Item
    made = items plan s worker (record { object = place; operation = operations.Var call })

    same : record { variable = place; writes = is_write call } ≡ a
    same = same_Some (record { variable = place; writes = is_write call }) a is

    by : (reply : Reply (List ℕ)) × (made ≡ item place worker (deeds.Placed (operations.Var call) reply) ∷ []) → IsAccessed (script_turn worker (record { object = place; operation = operations.Var call }) index made reply) a
    by (said, is_made) = record {
      call = call;
      reply = said;
      index = index;
      made = is_made ∙ ap (λ (b : Access). item b.variable worker (deeds.Placed (operations.Var call) said) ∷ []) same;
      writes = ap (λ (b : Access). b.writes) (sym same);
      placed = refl;
    }
  by_operation place operation a is told index reply = absurd (none-some a is)

  by_behind : (b : Bool) (call : Call) (a : Access) → is_told (items plan s worker call) (answer plan s worker call) ≡ true → (reply : Option (Reply (List ℕ))) → (one : TraceItem)
      → cond b (closing_turn worker (items plan s worker call)) (script_turn worker call (place_in_script plan worker s) (items plan s worker call) reply) ≡ one → access_of one ≡ Some a → IsAccessed one a
  by_behind true call a told reply one is accessed = absurd (none-some a (ap access_of is ∙ accessed))
  by_behind false call a told reply one is accessed = subst (λ t. IsAccessed t a) is (by_operation call.object call.operation a (ap access_of is ∙ accessed) told (place_in_script plan worker s) reply)

pub access_made : (plan : Plan) (turns : List Turn) (s : State) (n : ℕ) (one : TraceItem) (a : Access) → slice_get (traced_from plan turns s) n ≡ Some one → access_of one ≡ Some a → IsAccessed one a
access_made plan turns s n one a at accessed = by (told_of plan turns s n one at) where
  by : IsToldOf plan one → IsAccessed one a
  by t = by_behind plan t.state t.worker (is_behind plan t.worker t.state) t.call a t.told (reply_of (answer plan t.state t.worker t.call)) one t.is accessed
