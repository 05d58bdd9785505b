-- What is noted of a turn at the objects, by whether the call's object refers to another one.
use Rattle.std.proofs.Common.{◌≡◌, ◌≢◌, ℕ, List, [], get_or, set, Option, Some, None, ap, ◌∙◌}
use Rattle.std.specs.Prelude.{slice_get}
use Rattle.std.specs.Option.{option_map_or}
use Rattle.script_calls.specs.declared.call.Call.{Call}
use Rattle.script_calls.specs.declared.call.Operation.{Operation}
use Rattle.workload.specs.Plan.{reference_of}
use Rattle.step_runner.specs.declared.notes.Notes.{Notes}
use Rattle.step_runner.specs.declared.turns.item.Item.{Item}
use Rattle.step_runner.specs.declared.turns.object_state.ObjectState.{ObjectState}
use Rattle.step_runner.specs.Items.{items_on, items_on_both, items_by, items_at}
use Rattle.step_runner.specs.Noted.{noted}
use Rattle.step_runner.specs.Objects.{kind_of}
use Rattle.step_runner.proofs.AtObjects.{is_found}
use Rattle.step_runner.proofs.Writes.{get_other}

abbrev items_with : Call → ℕ → ℕ → List ObjectState → Option ObjectState → List Item
items_with call worker moment objects o = option_map_or (λ object. items_by (reference_of (kind_of object)) call worker moment objects object) o []

-- at an object that refers to no other
pub items_alone : (call : Call) (worker moment : ℕ) (objects : List ObjectState) (object : ObjectState) → slice_get objects call.object ≡ Some object → reference_of (kind_of object) ≡ None
    → items_at call worker moment objects ≡ items_on call.operation worker moment call.object object
items_alone call worker moment objects object at none = ap (items_with call worker moment objects) at ∙ ap (λ o. items_by o call worker moment objects object) none

-- at an object that refers to another one
pub items_referring : (call : Call) (worker moment : ℕ) (objects : List ObjectState) (object : ObjectState) (other : ℕ) (target : ObjectState) → slice_get objects call.object ≡ Some object
    → reference_of (kind_of object) ≡ Some other → slice_get objects other ≡ Some target
    → items_at call worker moment objects ≡ items_on_both call.operation worker moment call.object other object target
items_referring call worker moment objects object other target at some there =
    ap (items_with call worker moment objects) at ∙ ap (λ o. items_by o call worker moment objects object) some
    ∙ ap (λ o. option_map_or (λ target. items_on_both call.operation worker moment call.object other object target) o []) there

-- at two objects, the first of which stands beside the others meanwhile
pub noted_aside : (operation : Operation) (worker moment : ℕ) (objects : List ObjectState) (place other : ℕ) (beside object target found found_target : ObjectState) (notes next : Notes Item) → other ≢ place
    → slice_get objects place ≡ Some object → slice_get objects other ≡ Some target → found ≡ get_or objects place found → found_target ≡ get_or (set objects place beside) other found_target
    → next ≡ noted (items_on_both operation worker moment place other found found_target) notes → next ≡ noted (items_on_both operation worker moment place other object target) notes
noted_aside operation worker moment objects place other beside object target found found_target notes next two_places at there is is_there more =
    let one : found ≡ object = is_found objects place object found at is in
    let two : found_target ≡ target = is_found (set objects place beside) other target found_target (get_other objects place other beside target two_places there) is_there in
    more
    ∙ ap (λ (o : ObjectState). noted (items_on_both operation worker moment place other o found_target) notes) one
    ∙ ap (λ (o : ObjectState). noted (items_on_both operation worker moment place other object o) notes) two
