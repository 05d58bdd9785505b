-- All that a run makes is made by its workers, on objects that are there.
use Rattle.std.proofs.Common.{◌≡◌, ℕ, zero, suc, ◌<◌, ◌≤◌, ◌&&◌, ◌||◌, ◌==◌, Bool, true, false, cond, List, [], ◌∷◌, ◌++◌, flat_map, length, drop, get_or, Option, Some, None, option_map, slice_get, inl, inr, refl, sym, ap, ◌∙◌, subst, arith}
use Rattle.std.specs.List.{list_all, list_any}
use Rattle.std.specs.Option.{option_map_or, option_to_list}
use Rattle.std.specs.Str.{bytes_eq}
use Rattle.std.proofs.lemmas.List.Folds.{list_any-append}
use Rattle.std.proofs.lemmas.Slice.Eq.{bytes_eq-Decides}
use Rattle.sync_types.specs.SequentialMap.{map_key}
use Rattle.workload.specs.Draft.{operation_keys, keys_of, all_keys}
use Rattle.std.proofs.lemmas.Bool.{eqb-true}
use Rattle.std.proofs.lemmas.Bool.Decides.{leb_tells}
use Rattle.std.proofs.lemmas.List.{length-map, get_or_past}
use Rattle.std.proofs.lemmas.Option.{none-some, same_Some, slice_get-map}
use Rattle.pool_core.specs.PoolMachine as pool
use Rattle.script_calls.specs.Runs.{passed_over, left_of}
use Rattle.script_calls.specs.Starts.{group_of}
use Rattle.script_calls.specs.declared.call.Call.{Call}
use Rattle.script_calls.specs.declared.call.ComposedCall.TheVariants.{IfEqual, WaitFor, Go}
use Rattle.script_calls.specs.declared.call.Operation.{Operation}
use Rattle.script_calls.specs.declared.call.Operation.TheVariants as operations
use Rattle.script_calls.specs.declared.call.Reply.{Reply}
use Rattle.workload.specs.declared.object.ObjectKind.{ObjectKind}
use Rattle.workload.specs.declared.object.ObjectKind.TheVariants as kinds
use Rattle.workload.specs.declared.object.ObjectLine.{ObjectLine}
use Rattle.workload.specs.declared.turn.Turn.{Turn}
use Rattle.workload.specs.declared.turn.Turn.TheVariants as items
use Rattle.workload.specs.Plan.{Plan, is_dormant, is_on, is_turn, refers, starts_dormant, is_valid}
use Rattle.step_runner.specs.declared.step.Step.{Step}
use Rattle.step_runner.specs.declared.step.Step.TheVariants as steps
use Rattle.step_runner.specs.declared.state.Stand.{Stand}
use Rattle.step_runner.specs.declared.state.Stand.TheVariants.{Waits, Live, Gone}
use Rattle.step_runner.specs.declared.turns.object_state.ObjectState.{ObjectState}
use Rattle.step_runner.specs.declared.turns.object_state.ObjectState.TheVariants as states
use Rattle.step_runner.specs.Objects.{kind_of}
use Rattle.step_runner.specs.RunItems.{made_by, unless_ended, all_made}
use Rattle.step_runner.specs.State.{State, with_moment, stand_of, IsStateOf}
use Rattle.step_runner.specs.TurnWithin.{items_within}
use Rattle.step_runner.specs.Turns.{script_left, done_calls, closing_calls, left_once, next_call, begun_by, turn_of}
use Rattle.scheduled_record.specs.ItemsOf.{HasPool, has_key, AreItemsOf}
use Rattle.scheduled_record.proofs.InRange.{both, PoolFits, IsCallOf, within_in}

-- ---- scripts

second : (a b : Bool) → (a && b) ≡ true → b ≡ true
second true b is = is
second false b is = absurd cc

fifth : (a b c d e f : Bool) → (a && (b && (c && (d && (e && f))))) ≡ true → f ≡ true
fifth a b c d e f is = second e f (second d (e && f) (second c (d && (e && f)) (second b (c && (d && (e && f))) (second a (b && (c && (d && (e && f)))) is))))

first : (a b : Bool) → (a && b) ≡ true → a ≡ true
first true b is = refl
first false b is = is

pairs : (a b : Bool) → a ≡ true → b ≡ true → (a && b) ≡ true
pairs a b is also = subst (λ (x : Bool). (x && b) ≡ true) (sym is) also

module _ (P : Call → Bool) where
  dropped : (n : ℕ) (script : List Call) → list_all P script ≡ true → list_all P (drop n script) ≡ true
  dropped zero script all = all
  dropped (suc n) [] all = all
  dropped (suc n) (call ∷ script) all = dropped n script (second (P call) (list_all P script) all)

  pub left_all : (script : List Call) (given : List (Reply (List ℕ))) → list_all P script ≡ true → list_all P (left_of script given) ≡ true
  left_all script [] all = all
  left_all [] (reply ∷ given) all = refl
  left_all (call ∷ script) (reply ∷ given) all = left_all (drop (passed_over call reply) script) given (dropped (passed_over call reply) script (second (P call) (list_all P script) all))

  pub of_worker : (scripts : List (List Call)) (worker : ℕ) → list_all (list_all P) scripts ≡ true → list_all P (get_or scripts worker []) ≡ true
  of_worker [] worker all = refl
  of_worker (script ∷ scripts) zero all = first (list_all P script) (list_all (list_all P) scripts) all
  of_worker (script ∷ scripts) (suc worker) all = of_worker scripts worker (second (list_all P script) (list_all (list_all P) scripts) all)

-- ---- keys

either_left : (a b : Bool) → a ≡ true → (a || b) ≡ true
either_left a b is = ap (λ (x : Bool). x || b) is

either_right : (a b : Bool) → b ≡ true → (a || b) ≡ true
either_right true b is = refl
either_right false b is = is

module _ (plan : Plan) where
  -- a call whose key is one of the workload's
  keyed : (operation : Operation) → ((name : List ℕ) → list_any (bytes_eq name) (operation_keys operation) ≡ true → list_any (bytes_eq name) (all_keys plan.scripts) ≡ true) → has_key plan operation ≡ true
  keyed (operations.Map call) among = by_key (map_key call) among where
    by_key : (key : Option (List ℕ)) → ((name : List ℕ) → list_any (bytes_eq name) (option_to_list key) ≡ true → list_any (bytes_eq name) (all_keys plan.scripts) ≡ true) → option_map_or (λ (name : List ℕ). list_any (bytes_eq name) (all_keys plan.scripts)) key true ≡ true
    by_key None among = refl
    by_key (Some name) among = among name (either_left (bytes_eq name name) false ((bytes_eq-Decides name name).1 refl))
  keyed operation among = refl

  abbrev is_keyed : Call → Bool
  is_keyed call = has_key plan call.operation

  script_keyed : (calls : List Call) → ((name : List ℕ) → list_any (bytes_eq name) (flat_map keys_of calls) ≡ true → list_any (bytes_eq name) (all_keys plan.scripts) ≡ true) → list_all is_keyed calls ≡ true
  script_keyed [] among = refl
  script_keyed (call ∷ calls) among = pairs (is_keyed call) (list_all is_keyed calls)
      (keyed call.operation (λ name at. among name (list_any-append (bytes_eq name) (keys_of call) (flat_map keys_of calls) ∙ either_left (list_any (bytes_eq name) (keys_of call)) (list_any (bytes_eq name) (flat_map keys_of calls)) at)))
      (script_keyed calls (λ name at. among name (list_any-append (bytes_eq name) (keys_of call) (flat_map keys_of calls) ∙ either_right (list_any (bytes_eq name) (keys_of call)) (list_any (bytes_eq name) (flat_map keys_of calls)) at)))

  scripts_keyed : (scripts : List (List Call)) → ((name : List ℕ) → list_any (bytes_eq name) (all_keys scripts) ≡ true → list_any (bytes_eq name) (all_keys plan.scripts) ≡ true) → list_all (list_all is_keyed) scripts ≡ true
  scripts_keyed [] among = refl
  scripts_keyed (script ∷ scripts) among = pairs (list_all is_keyed script) (list_all (list_all is_keyed) scripts)
      (script_keyed script (λ name at. among name (list_any-append (bytes_eq name) (flat_map keys_of script) (all_keys scripts) ∙ either_left (list_any (bytes_eq name) (flat_map keys_of script)) (list_any (bytes_eq name) (all_keys scripts)) at)))
      (scripts_keyed scripts (λ name at. among name (list_any-append (bytes_eq name) (flat_map keys_of script) (all_keys scripts) ∙ either_right (list_any (bytes_eq name) (flat_map keys_of script)) (list_any (bytes_eq name) (all_keys scripts)) at)))

pub some_dormant : (dormant : List Bool) (worker : ℕ) → get_or dormant worker false ≡ true → list_any (λ waits. waits) dormant ≡ true
some_dormant [] worker is = is
some_dormant (true ∷ dormant) worker is = refl
some_dormant (false ∷ dormant) zero is = absurd cc
some_dormant (false ∷ dormant) (suc worker) is = some_dormant dormant worker is

module _ (plan : Plan) where
  all_start : is_valid plan ≡ true → list_all (list_all (λ call. starts_dormant plan.dormant call.operation)) plan.scripts ≡ true
  all_start valid = fifth (length plan.scripts == plan.workers) (list_all (list_all (λ call. is_on plan.objects (slice_get plan.objects call.object) call)) plan.scripts) (list_all (is_turn plan.workers) plan.schedule)
      (list_all (λ object. refers plan.objects object.kind) plan.objects) (length plan.dormant == plan.workers) (list_all (list_all (λ call. starts_dormant plan.dormant call.operation)) plan.scripts) valid

  goes_by : (operation : Operation) → starts_dormant plan.dormant operation ≡ true → has_key plan operation ≡ true → IsCallOf plan operation
  goes_by (operations.Composed (Go started)) is key = some_dormant plan.dormant started is
  goes_by (operations.Composed (IfEqual value passes)) is key = tt
  goes_by (operations.Composed (WaitFor atomic value tries)) is key = tt
  goes_by (operations.Map call) is key = key
  goes_by operation is key = tt

  -- ---- the call before which a worker stands

  module _ (s : State) (of : IsStateOf plan s) (worker : ℕ) where
    -- who stands before a call is a worker, and starts another one only where one waits
    pub record Stands (call : Call) : Type 0 where
      pub within : worker < plan.workers
      pub goes : IsCallOf plan call.operation

    head_of : (left closing : List Call) (call : Call) → list_all (λ call. starts_dormant plan.dormant call.operation) left ≡ true → list_all (is_keyed plan) left ≡ true → ((c : Call) → slice_get closing 0 ≡ Some c → IsCallOf plan c.operation) → slice_get (left ++ closing) 0 ≡ Some call → IsCallOf plan call.operation
    head_of [] closing call all keys closes at = closes call at
    head_of (c ∷ left) closing call all keys closes at = subst (λ (c : Call). IsCallOf plan c.operation) (same_Some c call at) (goes_by c.operation (first (starts_dormant plan.dormant c.operation) _ all) (first (is_keyed plan c) _ keys))

    closing_goes : (c : Call) → slice_get (closing_calls plan worker) 0 ≡ Some c → IsCallOf plan c.operation
    closing_goes c at = chosen (is_dormant plan worker) at where
      by_group : (group : Option ℕ) → slice_get (done_calls group) 0 ≡ Some c → IsCallOf plan c.operation
      by_group None at = absurd (none-some c at)
      by_group (Some group) at = subst (λ (c : Call). IsCallOf plan c.operation) (same_Some _ c at) tt

      chosen : (b : Bool) → slice_get (cond b (done_calls (group_of worker plan.scripts)) []) 0 ≡ Some c → IsCallOf plan c.operation
      chosen true at = by_group (group_of worker plan.scripts) at
      chosen false at = absurd (none-some c at)

    pub live : (stand : Stand) (left : List Call) (call : Call) → slice_get (left_once stand left) 0 ≡ Some call → (stand ≡ Live) × (slice_get left 0 ≡ Some call)
    live Waits left call at = absurd (none-some call at)
    live Live left call at = (refl, at)
    live Gone left call at = absurd (none-some call at)

    pub is_one : stand_of worker s ≡ Live → worker < plan.workers
    is_one stand = elim (leb_tells (suc worker) plan.workers) [
      | inl within ↦ within.1
      | inr past ↦ absurd (no (sym stand ∙ get_or_past s.stands worker Gone (subst (λ (n : ℕ). n ≤ worker) (sym of.count) (below past.1))))
    ] where
      no : Live ≡ Gone → ⊥
      no same = cc

      below : plan.workers < suc worker → plan.workers ≤ worker
      below less = omega arith

    pub stands : (call : Call) → next_call plan worker s ≡ Some call → Stands call
    stands call at =
        let here = live (stand_of worker s) (script_left plan worker s ++ closing_calls plan worker) call at in
        record {
          within = is_one here.0;
          goes = head_of (script_left plan worker s) (closing_calls plan worker) call
              (left_all (λ call. starts_dormant plan.dormant call.operation) (get_or plan.scripts worker []) (get_or s.replies worker []) (of_worker (λ call. starts_dormant plan.dormant call.operation) plan.scripts worker (all_start of.valid)))
              (left_all (is_keyed plan) (get_or plan.scripts worker []) (get_or s.replies worker []) (of_worker (is_keyed plan) plan.scripts worker (scripts_keyed plan plan.scripts (λ name at. at)))) closing_goes here.1;
        }

    -- ---- the objects

    pub long : length s.objects ≡ length plan.objects
    long = sym (length-map s.objects kind_of) ∙ (ap length of.objects ∙ length-map plan.objects (λ object. object.kind))

    pool_line : (place : ℕ) (p : pool.PoolState ℕ) → slice_get s.objects place ≡ Some (states.Pool p) → HasPool plan place
    pool_line place p at = chosen (slice_get plan.objects place) refl where
      kinds_at : option_map (λ (object : ObjectLine). object.kind) (slice_get plan.objects place) ≡ Some kinds.Pool
      kinds_at = sym (slice_get-map (λ (object : ObjectLine). object.kind) plan.objects place) ∙ (ap (λ (l : List ObjectKind). slice_get l place) (sym of.objects) ∙ (slice_get-map kind_of s.objects place ∙ ap (option_map kind_of) at))

      chosen : (line : Option ObjectLine) → slice_get plan.objects place ≡ line → HasPool plan place
      chosen None none = absurd (none-some kinds.Pool (ap (option_map (λ (object : ObjectLine). object.kind)) (sym none) ∙ kinds_at))
      chosen (Some line) there = (line, there, same_Some line.kind kinds.Pool (ap (option_map (λ (object : ObjectLine). object.kind)) (sym there) ∙ kinds_at))

    pub fits : (place : ℕ) (operation : Operation) (o : ObjectState) → slice_get s.objects place ≡ Some o → PoolFits plan operation place o
    fits place operation o at p same of_pool = let there = at ∙ ap (λ (o : ObjectState). Some o) same in (pool_line place p there, (of.machines place (states.Pool p) there).0)

    pub made_in : AreItemsOf plan (made_by plan worker s)
    made_in = chosen (next_call plan worker s) refl where
      chosen : (next : Option Call) → next_call plan worker s ≡ next → AreItemsOf plan (option_map_or (λ call. items_within call worker s.moment (begun_by worker s) s.objects) next [])
      chosen None at = tt
      chosen (Some call) at = let here = stands call at in within_in plan worker s.moment here.within call (begun_by worker s) s.objects long (λ operation o there. fits call.object operation o there) here.goes

  -- ---- a run

  pub moment_still : (moment : ℕ) (s : State) → IsStateOf plan s → IsStateOf plan (with_moment moment s)
  moment_still moment s of = record {
    valid = of.valid;
    objects = of.objects;
    machines = of.machines;
    workers = of.workers;
    within = of.within;
    waits = of.waits;
    few = of.few;
    made = of.made;
    count = of.count;
    each = of.each;
  }

  pub run_in : ((worker : ℕ) (s : State) → IsStateOf plan s → IsStateOf plan (turn_of plan worker s).0) → (list : List Turn) (s : State) → IsStateOf plan s → AreItemsOf plan (all_made plan list s)
  run_in goes_on [] s of = tt
  run_in goes_on (items.Worker worker ∷ rest) s of =
      both plan (made_by plan worker s) (unless_ended (turn_of plan worker s) (all_made plan rest)) (made_in s of worker) (later rest (turn_of plan worker s) (λ t of_t. run_in goes_on rest t of_t) (goes_on worker s of))
    where
      later : (rest : List Turn) (x : State × Step) → ((t : State) → IsStateOf plan t → AreItemsOf plan (all_made plan rest t)) → IsStateOf plan x.0 → AreItemsOf plan (unless_ended x (all_made plan rest))
      later rest (t, steps.Still) each of_t = each t of_t
      later rest (t, steps.Made) each of_t = each t of_t
      later rest (t, steps.Misused misuse) each of_t = tt
  run_in goes_on (items.Moment moment ∷ rest) s of = run_in goes_on rest (with_moment moment s) (moment_still moment s of)

  -- who stands before a call is a worker
  pub is_worker : (s : State) → IsStateOf plan s → (worker : ℕ) (call : Call) → next_call plan worker s ≡ Some call → worker < plan.workers
  is_worker s of worker call at = (stands s of worker call at).within

  pub scripts_count : is_valid plan ≡ true → length plan.scripts ≡ plan.workers
  scripts_count valid = eqb-true (length plan.scripts) plan.workers (first (length plan.scripts == plan.workers) (list_all (list_all (λ call. is_on plan.objects (slice_get plan.objects call.object) call)) plan.scripts
      && (list_all (is_turn plan.workers) plan.schedule && (list_all (λ object. refers plan.objects object.kind) plan.objects && ((length plan.dormant == plan.workers) && list_all (list_all (λ call. starts_dormant plan.dormant call.operation)) plan.scripts)))) valid)
