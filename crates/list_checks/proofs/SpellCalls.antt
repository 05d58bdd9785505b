-- Calls whose items tell their reply.
use Rattle.std.proofs.Common.{◌≡◌, ◌∙◌, ℕ, true, false, List, drop, Option, Some, None, Ok, Err, Result, slice_get, refl, sym, ap, subst}
use Rattle.std.specs.Prelude.{IfOk}
use Rattle.std.proofs.lemmas.Bool.{false≢true}
use Rattle.script_calls.specs.declared.call.Operation.{Operation}
use Rattle.script_calls.specs.declared.call.Operation.TheVariants as operations
use Rattle.script_calls.specs.declared.call.Reply.{Reply}
use Rattle.script_calls.specs.declared.call.Reply.TheVariants as replies
use Rattle.workload.specs.Keys.{keys_in}
use Rattle.workload.specs.Plan.{Plan}
use Rattle.workload.specs.declared.object.ObjectKind.{ObjectKind}
use Rattle.workload.specs.declared.object.ObjectKind.TheVariants as kinds
use Rattle.workload.specs.declared.object.ObjectLine.{ObjectLine}
use Rattle.run_record.specs.MapKind.{AreSorted}
use Rattle.run_record.specs.Objects.{map_number}
use Rattle.run_record.specs.declared.made.Made.{Made}
use Rattle.run_cuts.specs.CallCuts.{at_cut, on_cut}
use Rattle.run_cuts.specs.Cuts.{Beginning, read_beginning, wrong}
use Rattle.run_cuts.specs.OneLine.{settled_as}
use Rattle.run_cuts.specs.RangeCuts.{Pairs}
use Rattle.list_checks.specs.SpellFound.{IsFound, range_cut}
use Rattle.list_checks.specs.SpellLines.{IsCallFound, SettlesFound, is_range_of_map}
use Rattle.list_checks.specs.declared.spell.spelt.Spelt.{Spelt}
use Rattle.list_checks.specs.declared.spell.spelt.Stop.{Stop}
use Rattle.list_checks.specs.declared.spell.spelt.Stop.TheVariants as stop
use Rattle.list_checks.proofs.SpellParts.{read_found, read_stopped, spelt_at}

settles_itself : (keys : List (List ℕ)) (operation : Operation) (found : Result (Spelt (Reply ℕ)) Stop) → ((reply : Reply ℕ) → settled_as keys operation reply reply) → SettlesFound (settled_as keys operation) found found
settles_itself keys operation (Ok spelt) same = (refl, same spelt.outcome)
settles_itself keys operation (Err stopped) same = refl

-- a call that is found as it is cut
found_as_it_is : (keys : List (List ℕ)) (operation : Operation) (list : List Made) (from : ℕ) (beginning : Beginning (Reply ℕ)) (found : Result (Spelt (Reply ℕ)) Stop) → ((reply : Reply ℕ) → settled_as keys operation reply reply)
    → IsFound list from beginning found → IsCallFound (settled_as keys operation) list from beginning found
found_as_it_is keys operation list from beginning found same is = record { told = found; is = is; settled = settles_itself keys operation found same }

-- a range of something that isn't a map
no_range : (keys : List (List ℕ)) (list : List Made) (from : ℕ) (found : Result (Spelt (Reply ℕ)) Stop) → IsFound list from wrong found → IsCallFound (settled_as keys operations.Range) list from wrong found
no_range keys list from (Ok spelt) is = absurd (let e = is.is in cc)
no_range keys list from (Err stopped) is = record { told = Err stopped; is = is; settled = refl }

pub exact : (keys : List (List ℕ)) (kind : ObjectKind) (operation : Operation) (list : List Made) (from : ℕ) (beginning : Beginning (Reply ℕ)) (found : Result (Spelt (Reply ℕ)) Stop)
    → (operation ≡ operations.Range → beginning ≡ wrong) → IsFound list from beginning found → IsCallFound (settled_as keys operation) list from beginning found
exact keys kind operations.Range list from beginning found never is =
    subst (λ (b : Beginning (Reply ℕ)). IsCallFound (settled_as keys operations.Range) list from b found) (sym (never refl))
    (no_range keys list from found (subst (λ (b : Beginning (Reply ℕ)). IsFound list from b found) (never refl) is))
exact keys kind operation list from beginning found never is = found_as_it_is keys operation list from beginning found (λ reply. refl) is

-- a range, whose pairs were sorted
pub sorted_found : (keys : List (List ℕ)) (list : List Made) (from end : ℕ) (first : Beginning Pairs) (shown pairs : Pairs) → IsFound list from first (Ok (spelt_at end shown)) → AreSorted keys 0 shown pairs
    → IsCallFound (settled_as keys operations.Range) list from (read_beginning replies.Pairs first) (Ok (spelt_at end (replies.Pairs pairs)))
sorted_found keys list from end first shown pairs found sorted = record {
  told = Ok (spelt_at end (replies.Pairs shown));
  is = read_found list from first replies.Pairs (spelt_at end shown) found;
  settled = (refl, (0, shown, pairs, refl, refl, sorted));
}

pub range_stopped : (keys : List (List ℕ)) (list : List Made) (from : ℕ) (first : Beginning Pairs) (stopped : Stop) → IsFound list from first (Err stopped)
    → IsCallFound (settled_as keys operations.Range) list from (read_beginning replies.Pairs first) (Err stopped)
range_stopped keys list from first stopped found = record { told = Err stopped; is = read_stopped list from first replies.Pairs stopped found; settled = refl }

module _ (plan : Plan) (worker before place : ℕ) (list : List Made) (from : ℕ) where
  range_never : (kind : ObjectKind) (operation : Operation) → is_range_of_map kind operation ≡ false → operation ≡ operations.Range → on_cut plan worker before place kind operation (drop from list) ≡ wrong
  range_never kind operation told same = subst (λ (o : Operation). on_cut plan worker before place kind o (drop from list) ≡ wrong) (sym same) (by kind (ap (is_range_of_map kind) (sym same) ∙ told)) where
    by : (kind : ObjectKind) → is_range_of_map kind operations.Range ≡ false → on_cut plan worker before place kind operations.Range (drop from list) ≡ wrong
    by kinds.Map told = absurd (false≢true (sym told))
    by kind told = refl

  -- the call on an object that is there
  pub call_there : (object : ObjectLine) (operation : Operation) (found : Result (Spelt (Reply ℕ)) Stop) → slice_get plan.objects place ≡ Some object → is_range_of_map object.kind operation ≡ false
      → IsFound list from (on_cut plan worker before place object.kind operation (drop from list)) found
      → IsCallFound (settled_as (keys_in plan.scripts) operation) list from (at_cut plan worker before place (slice_get plan.objects place) operation (drop from list)) found
  call_there object operation found there told is =
      subst (λ (o : Option ObjectLine). IsCallFound (settled_as (keys_in plan.scripts) operation) list from (at_cut plan worker before place o operation (drop from list)) found) (sym there)
      (exact (keys_in plan.scripts) object.kind operation list from (on_cut plan worker before place object.kind operation (drop from list)) found (range_never object.kind operation told) is)

  range_on : (kind : ObjectKind) (operation : Operation) (found : Result (Spelt (Reply ℕ)) Stop) → is_range_of_map kind operation ≡ true
      → IsCallFound (settled_as (keys_in plan.scripts) operations.Range) list from (range_cut (map_number plan.objects place) before (drop from list)) found
      → IsCallFound (settled_as (keys_in plan.scripts) operation) list from (on_cut plan worker before place kind operation (drop from list)) found
  range_on kinds.Map operations.Range found ranged is = is
  range_on kind operation found ranged is = absurd (false≢true ranged)

  pub range_there : (object : ObjectLine) (operation : Operation) (found : Result (Spelt (Reply ℕ)) Stop) → slice_get plan.objects place ≡ Some object → is_range_of_map object.kind operation ≡ true
      → IsCallFound (settled_as (keys_in plan.scripts) operations.Range) list from (range_cut (map_number plan.objects place) before (drop from list)) found
      → IsCallFound (settled_as (keys_in plan.scripts) operation) list from (at_cut plan worker before place (slice_get plan.objects place) operation (drop from list)) found
  range_there object operation found there ranged is =
      subst (λ (o : Option ObjectLine). IsCallFound (settled_as (keys_in plan.scripts) operation) list from (at_cut plan worker before place o operation (drop from list)) found) (sym there)
      (range_on object.kind operation found ranged is)

  pub nothing_there : (operation : Operation) → slice_get plan.objects place ≡ None → IsCallFound (settled_as (keys_in plan.scripts) operation) list from (at_cut plan worker before place (slice_get plan.objects place) operation (drop from list)) (Err stop.Wrong)
  nothing_there operation none = record { told = Err stop.Wrong; is = record { is = ap (λ (o : Option ObjectLine). at_cut plan worker before place o operation (drop from list)) none; ends = tt }; settled = refl }

-- what holds of each answer holds of the answer that there is
pub on_ok : {T E : Type 0} {P Q : T → Type 0} (r : Result T E) → ((x : T) → P x → Q x) → IfOk r P → IfOk r Q
on_ok (Ok x) goes is = goes x is
on_ok (Err e) goes is = is
