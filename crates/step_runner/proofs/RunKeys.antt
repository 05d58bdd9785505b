-- The keys of a run's maps are those of its calls, and a reply shows no more pairs than there are different keys.
use Rattle.std.proofs.Common.{◌≡◌, ℕ, zero, suc, ◌≤◌, inl, inr, Bool, true, false, cond, ◌||◌, List, [], ◌∷◌, ◌++◌, get_or, set, replicate, Option, Some, None, refl, sym, ap, ◌∙◌}
use Rattle.std.specs.Prelude.{slice_get}
use Rattle.std.specs.List.{list_all, list_any, flat_map}
use Rattle.std.specs.Str.{bytes_eq}
use Rattle.std.specs.Option.{option_map_or}
use Rattle.std.proofs.lemmas.List.Folds.{list_any-append}
use Rattle.script_calls.specs.declared.call.Call.{Call}
use Rattle.script_calls.specs.declared.call.Reply.{Reply}
use Rattle.workload.specs.declared.object.ObjectKind.{ObjectKind}
use Rattle.workload.specs.declared.turn.Turn.{Turn}
use Rattle.workload.specs.declared.limits.TheConstants.{MAX_KEYS}
use Rattle.workload.specs.Plan.{Plan}
use Rattle.workload.specs.Draft.{keys_of, all_keys, distinct_count}
use Rattle.workload.specs.Readable.{IsReadable}
use Rattle.step_runner.specs.declared.turns.answer.Answer.{Answer}
use Rattle.step_runner.specs.declared.turns.answer.Answer.TheVariants as answers
use Rattle.step_runner.specs.declared.turns.object_state.ObjectState.{ObjectState}
use Rattle.step_runner.specs.MapKeys.{AreAmong, HasObjectKeysIn}
use Rattle.step_runner.specs.Objects.{new_object, EachAt}
use Rattle.script_calls.specs.Outcome.{has_pairs_to, shows_to}
use Rattle.workload.specs.Keys.{keys_in, key_number, with_names}
use Rattle.step_runner.specs.Pairs.{ShowsTo}
use Rattle.step_runner.specs.TurnWithin.{turn_within}
use Rattle.step_runner.specs.declared.step.Step.TheVariants as steps
use Rattle.script_calls.specs.declared.outcome.Ending.{Ending}
use Rattle.script_calls.specs.declared.outcome.Ending.TheVariants as endings
use Rattle.workload.specs.Puts.{puts_at}
use Rattle.step_runner.specs.declared.state.Stand.TheVariants.{Gone}
use Rattle.step_runner.specs.State.{State, start, with_stand}
use Rattle.step_runner.specs.Ends.{numbered}
use Rattle.step_runner.specs.Turns.{answered, begun_by, is_behind, next_call, settled, settled_with, after_items}
use Rattle.step_runner.specs.Computed.{whole_run, outcome_of, turns}
use Rattle.step_runner.proofs.NextCalls.{next_is}
use Rattle.step_runner.proofs.ScriptRuns.{in_script}
use Rattle.step_runner.proofs.StartLemmas.{each_start}
use Rattle.step_runner.proofs.TurnLemmas.{both, both_true, moved}
use Rattle.step_runner.proofs.Numbered.{same_few}
use Rattle.step_runner.proofs.RunLemmas.{Kept, items_keep, run_keeps}

-- what the law of turns says
pub record Keys : Type 0 where
  pub begins : (names : List (List ℕ)) (workers room : ℕ) (kind : ObjectKind) → HasObjectKeysIn names (new_object workers room (with_names [] names) kind)
  pub goes_on : (names : List (List ℕ)) (most worker moment begun : ℕ) (call : Call) (objects : List ObjectState) → AreAmong names (keys_of call) → distinct_count names ≤ most
      → EachAt (λ place. HasObjectKeysIn names) objects → EachAt (λ place. HasObjectKeysIn names) (turn_within call worker moment begun objects).0.0 × ShowsTo most (turn_within call worker moment begun objects).1

-- ---- the keys of a call are among those of all calls

any_first : (p : List ℕ → Bool) (xs ys : List (List ℕ)) → list_any p xs ≡ true → list_any p (xs ++ ys) ≡ true
any_first p xs ys e = list_any-append p xs ys ∙ ap (λ (b : Bool). b || list_any p ys) e

or_true : (a : Bool) → (a || true) ≡ true
or_true true = refl
or_true false = refl

any_rest : (p : List ℕ → Bool) (xs ys : List (List ℕ)) → list_any p ys ≡ true → list_any p (xs ++ ys) ≡ true
any_rest p xs ys e = list_any-append p xs ys ∙ ap (λ (b : Bool). list_any p xs || b) e ∙ or_true (list_any p xs)

of_script : (p : List ℕ → Bool) (script : List Call) (i : ℕ) (call : Call) → slice_get script i ≡ Some call → list_any p (keys_of call) ≡ true → list_any p (flat_map keys_of script) ≡ true
of_script p [] i call is e = absurd cc
of_script p (first ∷ script) zero call is e =
    let same : first ≡ call = cc in
    any_first p (keys_of first) (flat_map keys_of script) (ap (λ (c : Call). list_any p (keys_of c)) same ∙ e)
of_script p (first ∷ script) (suc i) call is e = any_rest p (keys_of first) (flat_map keys_of script) (of_script p script i call is e)

of_scripts : (p : List ℕ → Bool) (scripts : List (List Call)) (worker : ℕ) → list_any p (flat_map keys_of (get_or scripts worker [])) ≡ true → list_any p (all_keys scripts) ≡ true
of_scripts p [] worker e = absurd cc
of_scripts p (script ∷ scripts) zero e = any_first p (flat_map keys_of script) (all_keys scripts) e
of_scripts p (script ∷ scripts) (suc worker) e = any_rest p (flat_map keys_of script) (all_keys scripts) (of_scripts p scripts worker e)

next_among : (plan : Plan) (worker : ℕ) (s : State) (call : Call) → next_call plan worker s ≡ Some call → AreAmong (all_keys plan.scripts) (keys_of call)
next_among plan worker s call is q e = elim (next_is plan worker s call is) [
  | inl script ↦
      (let at = in_script (get_or plan.scripts worker []) (get_or s.replies worker []) call script.first in
      of_scripts (bytes_eq q) plan.scripts worker (of_script (bytes_eq q) (get_or plan.scripts worker []) at.0 call at.1 e))
  | inr closing ↦ (let no : false ≡ true = sym (ap (λ (c : Call). list_any (bytes_eq q) (keys_of c)) closing.is) ∙ e in absurd cc)
]

-- ---- what every state keeps

-- the keys of all maps are, and no reply shows more pairs than these
pub record HasKeys (names : List (List ℕ)) (most : ℕ) (s : State) : Type 0 where
  pub maps : EachAt (λ place. HasObjectKeysIn names) s.objects
  pub few : list_all (list_all (has_pairs_to most)) s.replies ≡ true

all_push : (p : Reply (List ℕ) → Bool) (xs : List (Reply (List ℕ))) (x : Reply (List ℕ)) → list_all p xs ≡ true → p x ≡ true → list_all p (xs ++ x ∷ []) ≡ true
all_push p [] x e last = both_true (p x) true last refl
all_push p (y ∷ xs) x e last =
    let parts = both (p y) (list_all p xs) e in
    both_true (p y) (list_all p (xs ++ x ∷ [])) parts.0 (all_push p xs x parts.1 last)

replies_set : (p : Reply (List ℕ) → Bool) (lists : List (List (Reply (List ℕ)))) (worker : ℕ) (x : Reply (List ℕ)) → list_all (list_all p) lists ≡ true → p x ≡ true → list_all (list_all p) (set lists worker (get_or lists worker [] ++ x ∷ [])) ≡ true
replies_set p [] worker x e last = refl
replies_set p (xs ∷ lists) zero x e last =
    let parts = both (list_all p xs) (list_all (list_all p) lists) e in
    both_true (list_all p (xs ++ x ∷ [])) (list_all (list_all p) lists) (all_push p xs x parts.0 last) parts.1
replies_set p (xs ∷ lists) (suc worker) x e last =
    let parts = both (list_all p xs) (list_all (list_all p) lists) e in
    both_true (list_all p xs) (list_all (list_all p) (set lists worker (get_or lists worker [] ++ x ∷ []))) parts.0 (replies_set p lists worker x parts.1 last)

-- ---- any turn

completed_keys : (names : List (List ℕ)) (most worker : ℕ) (call : Call) (reply : Reply (List ℕ)) (s : State) (behind : Bool) → has_pairs_to most reply ≡ true → HasKeys names most s
    → HasKeys names most (cond behind (with_stand worker Gone s) (answered worker call reply s))
completed_keys names most worker call reply s true few has = record { maps = has.maps; few = has.few }
completed_keys names most worker call reply s false few has = record { maps = has.maps; few = replies_set (has_pairs_to most) s.replies worker reply has.few few }

settled_keys : (names : List (List ℕ)) (most : ℕ) (plan : Plan) (worker : ℕ) (call : Call) (answer : Answer) (s : State) → ShowsTo most answer → HasKeys names most s → HasKeys names most (settled plan worker call answer s).0
settled_keys names most plan worker call answers.Still s few has = has
settled_keys names most plan worker call answers.Unfinished s few has = has
settled_keys names most plan worker call (answers.Completed reply) s few has = completed_keys names most worker call reply s (is_behind plan worker s) few has
settled_keys names most plan worker call (answers.Misused misuse) s few has = has

turn_keys : Keys → (plan : Plan) (most worker : ℕ) (s : State) (o : Option Call) → next_call plan worker s ≡ o → distinct_count (all_keys plan.scripts) ≤ most
    → HasKeys (all_keys plan.scripts) most s → HasKeys (all_keys plan.scripts) most (option_map_or (λ call. settled_with plan worker call (turn_within call worker s.moment (begun_by worker s) s.objects) s) o (s, steps.Still)).0
turn_keys keys plan most worker s None is room has = has
turn_keys keys plan most worker s (Some call) is room has =
    let x = turn_within call worker s.moment (begun_by worker s) s.objects in
    let keep = keys.goes_on (all_keys plan.scripts) most worker s.moment (begun_by worker s) call s.objects (next_among plan worker s call is) room has.maps in
    settled_keys (all_keys plan.scripts) most plan worker call x.1 (moved worker x.0.0 x.0.1 s) keep.1 (record { maps = keep.0; few = has.few })

pub keys_kept : Keys → (plan : Plan) (most : ℕ) → distinct_count (all_keys plan.scripts) ≤ most → Kept plan (HasKeys (all_keys plan.scripts) most)
keys_kept keys plan most room = record {
  turn = λ worker s has. turn_keys keys plan most worker s (next_call plan worker s) refl room has;
  moment = λ moment s has. record { maps = has.maps; few = has.few };
}

none_yet : (p : Reply (List ℕ) → Bool) (n : ℕ) → list_all (list_all p) (replicate {A = List (Reply (List ℕ))} n []) ≡ true
none_yet p zero = refl
none_yet p (suc n) = none_yet p n

pub start_keys : Keys → (plan : Plan) (most : ℕ) → HasKeys (all_keys plan.scripts) most (start plan)
start_keys keys plan most = record {
  maps = each_start (λ place. HasObjectKeysIn (all_keys plan.scripts)) plan (λ place kind. keys.begins (all_keys plan.scripts) plan.workers (puts_at place plan.scripts) kind);
  few = none_yet (has_pairs_to most) plan.workers;
}

pub items_keys : Keys → (plan : Plan) (most : ℕ) (list : List Turn) → distinct_count (all_keys plan.scripts) ≤ most → HasKeys (all_keys plan.scripts) most (after_items plan list (start plan))
items_keys keys plan most list room = items_keep plan (HasKeys (all_keys plan.scripts) most) (keys_kept keys plan most room) list (start plan) (start_keys keys plan most)

numbered_few : (plan : Plan) (s : State) → list_all (list_all (has_pairs_to MAX_KEYS)) s.replies ≡ true → list_all (list_all (has_pairs_to MAX_KEYS)) (numbered plan s.replies) ≡ true
numbered_few plan s few = same_few (key_number (keys_in plan.scripts)) MAX_KEYS s.replies ∙ few

left_few : (plan : Plan) (x : State × Ending) → list_all (list_all (has_pairs_to MAX_KEYS)) x.0.replies ≡ true → shows_to MAX_KEYS (outcome_of plan x) ≡ true
left_few plan (s, endings.Done) few = numbered_few plan s few
left_few plan (s, endings.Misused misuse) few = numbered_few plan s few
left_few plan (s, endings.Deadlocked) few = numbered_few plan s few

-- the replies of a run
pub few_pairs : Keys → (plan : Plan) → IsReadable plan → shows_to MAX_KEYS (turns plan) ≡ true
few_pairs keys plan readable =
    left_few plan (whole_run plan) (run_keeps plan (HasKeys (all_keys plan.scripts) MAX_KEYS) (keys_kept keys plan MAX_KEYS readable.key_room) (start_keys keys plan MAX_KEYS)).few
