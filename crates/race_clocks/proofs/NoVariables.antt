-- A workload without variables has no races.
use Rattle.std.proofs.Common.{◌≡◌, ℕ, zero, suc, Bool, true, false, List, [], ◌∷◌, get_or, Option, Some, None, slice_get, refl, sym, ap, ◌∙◌}
use Rattle.std.specs.Prelude.{map}
use Rattle.std.specs.List.{list_all, list_any}
use Rattle.std.specs.Option.{option_and_then}
use Rattle.std.proofs.lemmas.Bool.{false≢true, and_parts}
use Rattle.std.proofs.lemmas.List.Elements.{All-head}
use Rattle.std.proofs.lemmas.List.Folds.{list_any_at}
use Rattle.std.proofs.lemmas.Option.{none-some, same_Some, slice_get_within, get_or_from_slice_get}
use Rattle.script_calls.specs.declared.call.Call.{Call}
use Rattle.script_calls.specs.declared.call.Operation.{Operation}
use Rattle.script_calls.specs.declared.call.Operation.TheVariants as operations
use Rattle.script_calls.specs.declared.call.Reply.{Reply}
use Rattle.script_calls.specs.declared.call.VarCall.{VarCall}
use Rattle.workload.specs.Dialect.{is_variable, has_variables}
use Rattle.workload.specs.Plan.{Plan, is_on, is_valid, has_among}
use Rattle.workload.specs.declared.object.ObjectKind.{ObjectKind}
use Rattle.workload.specs.declared.object.ObjectKind.TheVariants as kinds
use Rattle.workload.specs.declared.object.ObjectLine.{ObjectLine}
use Rattle.step_runner.specs.Traces.{IsPlaced}
use Rattle.step_runner.specs.declared.trace.TraceItem.{TraceItem}
use Rattle.race_clocks.specs.declared.race.Race.{Race}
use Rattle.race_clocks.specs.Races.{access_by, IsRace, Pair, ArePairs, race_of, AreRaces}
use Rattle.race_clocks.proofs.RaceLaws.{same_somes}

pub all_at : {A : Type 0} (p : A → Bool) (xs : List A) (k : ℕ) (x : A) → list_all p xs ≡ true → slice_get xs k ≡ Some x → p x ≡ true
all_at p [] k x all at = absurd (none-some x at)
all_at p (y ∷ xs) zero x all at = ap p (sym (same_Some y x at)) ∙ (and_parts (p y) (list_all p xs) all).0
all_at p (y ∷ xs) (suc k) x all at = all_at p xs k x (and_parts (p y) (list_all p xs) all).1 at

pub all_or : {A : Type 0} (p : A → Bool) (xs : List A) (k : ℕ) (d : A) → list_all p xs ≡ true → p d ≡ true → p (get_or xs k d) ≡ true
all_or p [] k d all is = is
all_or p (y ∷ xs) zero d all is = (and_parts (p y) (list_all p xs) all).0
all_or p (y ∷ xs) (suc k) d all is = all_or p xs k d (and_parts (p y) (list_all p xs) all).1 is

-- only a variable has a read or a write
of_kind : (objects : List ObjectLine) (kind : ObjectKind) (call : VarCall) → has_among objects kind (operations.Var call) ≡ true → is_variable kind ≡ true
of_kind objects kinds.Var call has = refl
of_kind objects kind call has = has

none_accessed : (objects : List ObjectLine) → list_any (λ object. is_variable object.kind) objects ≡ false → (operation : Operation) (place : ℕ) → is_on objects (slice_get objects place) (record { object = place; operation = operation }) ≡ true → access_by place operation ≡ None
none_accessed objects none (operations.Var call) place is = by (slice_get objects place) refl is where
  by : (found : Option ObjectLine) → slice_get objects place ≡ found → is_on objects found (record { object = place; operation = operations.Var call }) ≡ true → access_by place (operations.Var call) ≡ None
  by None at is = absurd (false≢true is)
  by (Some object) at is = absurd (false≢true (sym none ∙ list_any_at (λ (o : ObjectLine). is_variable o.kind) objects place object (slice_get_within objects place object at)
      (ap (λ (o : ObjectLine). is_variable o.kind) (get_or_from_slice_get objects place object object at) ∙ of_kind objects object.kind call is)))
none_accessed objects none operation place is = refl

module _ (plan : Plan) (valid : is_valid plan ≡ true) (none : has_variables plan ≡ false) where
  abbrev are_on : List Call → Bool
  are_on script = list_all (λ (call : Call). is_on plan.objects (slice_get plan.objects call.object) call) script

  of_scripts : list_all are_on plan.scripts ≡ true
  of_scripts = (and_parts (list_all are_on plan.scripts) _ (and_parts _ _ valid).1).0

  no_access : (worker : ℕ) (call : Option Call) (index : Option ℕ) (reply : Option (Reply (List ℕ))) → IsPlaced (get_or plan.scripts worker []) call index reply → option_and_then (λ (c : Call). access_by c.object c.operation) call ≡ None
  no_access worker (Some call) (Some place) reply at =
      none_accessed plan.objects none call.operation call.object (all_at (λ (c : Call). is_on plan.objects (slice_get plan.objects c.object) c) (get_or plan.scripts worker []) place call (all_or are_on plan.scripts worker [] of_scripts refl) at)
  no_access worker None index reply at = refl
  no_access worker call index reply at = absurd at

  module _ (trace : List TraceItem) (placed : (n : ℕ) (one : TraceItem) → slice_get trace n ≡ Some one → IsPlaced (get_or plan.scripts one.worker []) one.call one.index one.reply) where
    no_race : (i j : ℕ) → IsRace plan trace i j → ⊥
    no_race i j race = none-some race.conflict.first (sym (no_access race.first.worker race.first.call race.first.index race.first.reply (placed i race.first race.at_first)) ∙ race.conflict.of_first)

    no_pairs : (pairs : List Pair) → ArePairs plan trace pairs → pairs ≡ []
    no_pairs [] are = refl
    no_pairs (p ∷ pairs) are = absurd (no_race p.earlier p.later (All-head (λ (q : Pair). IsRace plan trace q.earlier q.later) p pairs are.sound))

    pub no_races : (races : List Race) → AreRaces plan trace races → races ≡ []
    no_races races are = same_somes races [] (sym are.told ∙ ap (map (race_of trace)) (no_pairs are.pairs are.are))
