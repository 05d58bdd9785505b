-- The places that the code keeps lead to what is left of the scripts.
use Rattle.std.proofs.Common.{◌≡◌, ◌≢◌, ℕ, zero, suc, ◌+◌, ◌<◌, ◌≤◌, Bool, true, false, cond, eqb, ◌||◌, List, [], ◌∷◌, ◌++◌, map, drop, length, get_or, set, replicate, Option, Some, None, refl, sym, ap, ◌∙◌, subst, arith}
use Rattle.std.specs.Prelude.{◌^◌, slice_get, is_some, nat_lt}
use Rattle.std.specs.List.{range_with_len}
use Rattle.std.proofs.lemmas.Bool.{eqb-true, eqb-false, ltb-true, ltb-false}
use Rattle.std.proofs.lemmas.List.{length-set, length-replicate, get_or-set_same, get_or-set_other, drop-drop}
use Rattle.std.proofs.lemmas.List.FromFn.{get_or-map-range_with_len, length-map-range_with_len}
use Rattle.std.proofs.lemmas.List.Sums.{get_or-le-sum_by}
use Rattle.std.proofs.lemmas.Option.{slice_get_within}
use Rattle.script_calls.specs.Runs.{passed_over, left_of}
use Rattle.script_calls.specs.Starts.{group_of}
use Rattle.script_calls.specs.declared.call.Call.{Call}
use Rattle.script_calls.specs.declared.call.Reply.{Reply}
use Rattle.workload.specs.Plan.{Plan, is_dormant, is_valid}
use Rattle.workload.specs.Readable.{IsReadable}
use Rattle.step_runner.specs.declared.turns.answer.Answer.{Answer}
use Rattle.step_runner.specs.declared.turns.answer.Answer.TheVariants as answers
use Rattle.step_runner.specs.declared.turns.object_state.ObjectState.{ObjectState}
use Rattle.step_runner.specs.declared.step.Step.{Step}
use Rattle.step_runner.specs.TurnWithin.{done_on}
use Rattle.step_runner.specs.Places.{Kept, IsKeptFor, closing_group, places_behind}
use Rattle.step_runner.specs.declared.state.Stand.TheVariants.{Live, Gone}
use Rattle.step_runner.specs.State.{State, IsStateOf, start, stand_of, with_reply, with_stand}
use Rattle.step_runner.specs.Turns.{answered, closing_calls, done_calls, next_call, script_left, settled_by}
use Rattle.step_runner.proofs.NextCalls.{IsOfScript, live_left}
use Rattle.step_runner.proofs.ScriptRuns.{GoesFurther, get_at}
use Rattle.step_runner.proofs.StartLemmas.{none_begun, none_replied}
use Rattle.step_runner.proofs.TurnLemmas.{moved, replied_other, valid_dormant, valid_scripts}

-- the call at its place is the next one of the worker's script
pub script_at : (plan : Plan) (worker : ℕ) (kept : Kept) → IsKeptFor plan kept → slice_get (get_or plan.scripts worker []) (get_or kept.places worker 0) ≡ slice_get (script_left plan worker kept.state) 0
script_at plan worker kept is = sym (get_at (get_or kept.places worker 0) (get_or plan.scripts worker [])) ∙ ap (λ (l : List Call). slice_get l 0) (is.left worker)

-- whether a live worker stands before a call, by whether it does before one of its script, and by its group
pub some_next : (plan : Plan) (worker : ℕ) (kept : Kept) → IsKeptFor plan kept → stand_of worker kept.state ≡ Live
    → is_some (next_call plan worker kept.state) ≡ (is_some (slice_get (script_left plan worker kept.state) 0) || is_some (get_or kept.groups worker None))
some_next plan worker kept is live =
    ap (λ (l : List Call). is_some (slice_get l 0)) (live_left plan worker kept.state live ∙ ap (λ (last : List Call). script_left plan worker kept.state ++ last) (sym (is.last worker)))
    ∙ by_left (script_left plan worker kept.state) (get_or kept.groups worker None)
  where
    by_left : (left : List Call) (group : Option ℕ) → is_some (slice_get (left ++ done_calls group) 0) ≡ (is_some (slice_get left 0) || is_some group)
    by_left [] None = refl
    by_left [] (Some group) = refl
    by_left (call ∷ left) group = refl

-- where its script is at its end, it stands before the `done` on its group
pub closing_next : (plan : Plan) (worker group : ℕ) (kept : Kept) → IsKeptFor plan kept → stand_of worker kept.state ≡ Live → script_left plan worker kept.state ≡ [] → get_or kept.groups worker None ≡ Some group
    → next_call plan worker kept.state ≡ Some (done_on group)
closing_next plan worker group kept is live none at =
    ap (λ (l : List Call). slice_get l 0) (live_left plan worker kept.state live ∙ (λ i. none i ++ sym (is.last worker) i)) ∙ ap (λ (g : Option ℕ). slice_get (done_calls g) 0) at

-- or before none, where it has no group
pub closing_none : (plan : Plan) (worker : ℕ) (kept : Kept) → IsKeptFor plan kept → stand_of worker kept.state ≡ Live → script_left plan worker kept.state ≡ [] → get_or kept.groups worker None ≡ None → next_call plan worker kept.state ≡ None
closing_none plan worker kept is live none at =
    ap (λ (l : List Call). slice_get l 0) (live_left plan worker kept.state live ∙ (λ i. none i ++ sym (is.last worker) i)) ∙ ap (λ (g : Option ℕ). slice_get (done_calls g) 0) at

-- a place at which a call stands is a small number
pub place_small : (plan : Plan) (worker place : ℕ) (call : Call) → IsReadable plan → worker < plan.workers → slice_get (get_or plan.scripts worker []) place ≡ Some call → place < 2 ^ 63
place_small plan worker place call readable below at =
    let within : place < length (get_or plan.scripts worker []) = slice_get_within _ _ call at in
    let there : worker < length plan.scripts = omega (arith, below, valid_scripts plan readable.valid) in
    omega (arith, within, get_or-le-sum_by length plan.scripts worker [] there, readable.call_room)

-- a worker's group is that of its `done`
group_calls : (plan : Plan) (worker : ℕ) (waits : Bool) → done_calls (cond waits (group_of worker plan.scripts) None) ≡ cond waits (done_calls (group_of worker plan.scripts)) []
group_calls plan worker true = refl
group_calls plan worker false = refl

past_dormant : (dormant : List Bool) (k : ℕ) → length dormant ≤ k → get_or dormant k false ≡ false
past_dormant [] k past = refl
past_dormant (waits ∷ dormant) zero past = absurd (omega (arith, past))
past_dormant (waits ∷ dormant) (suc k) past = past_dormant dormant k (omega (arith, past))

none_closes : (plan : Plan) (worker : ℕ) → is_valid plan ≡ true → plan.workers ≤ worker → closing_calls plan worker ≡ []
none_closes plan worker valid past = ap (λ (b : Bool). cond b (done_calls (group_of worker plan.scripts)) []) (past_dormant plan.dormant worker (omega (arith, past, valid_dormant plan valid)))

past_groups : (groups : List (Option ℕ)) (k : ℕ) → length groups ≤ k → get_or groups k None ≡ None
past_groups [] k past = refl
past_groups (group ∷ groups) zero past = absurd (omega (arith, past))
past_groups (group ∷ groups) (suc k) past = past_groups groups k (omega (arith, past))

abbrev groups_in : Plan → List (Option ℕ)
groups_in plan = map (closing_group plan) (range_with_len 0 plan.workers)

groups_last : (plan : Plan) (worker : ℕ) → is_valid plan ≡ true → done_calls (get_or (groups_in plan) worker None) ≡ closing_calls plan worker
groups_last plan worker valid = elim (nat_lt worker plan.workers) as (λ b. nat_lt worker plan.workers ≡ b → done_calls (get_or (groups_in plan) worker None) ≡ closing_calls plan worker) [
  | true ↦ λ e. ap done_calls (get_or-map-range_with_len (closing_group plan) 0 plan.workers worker worker None (ltb-true worker plan.workers e) (omega arith)) ∙ group_calls plan worker (is_dormant plan worker)
  | false ↦ λ e.
      let past : length (groups_in plan) ≤ worker = omega (arith, length-map-range_with_len (closing_group plan) 0 plan.workers, ltb-false worker plan.workers e) in
      ap done_calls (past_groups (groups_in plan) worker past) ∙ sym (none_closes plan worker valid (omega (arith, ltb-false worker plan.workers e)))
] refl

pub start_kept : (plan : Plan) → IsStateOf plan (start plan) → IsKeptFor plan (record { state = start plan; places = replicate plan.workers 0; groups = map (closing_group plan) (range_with_len 0 plan.workers) })
start_kept plan of = record {
  of = of;
  count = length-replicate plan.workers 0;
  left = λ worker.
      let script = get_or plan.scripts worker [] in
      ap (λ (n : ℕ). drop n script) (none_begun plan.workers worker) ∙ ap (λ (given : List (Reply (List ℕ))). left_of script given) (sym (none_replied plan.workers worker));
  groups_count = length-map-range_with_len (closing_group plan) 0 plan.workers;
  last = λ worker. groups_last plan worker of.valid;
}

-- ---- behind a turn

module _ (further : GoesFurther) (plan : Plan) (worker : ℕ) (kept : Kept) (is : IsKeptFor plan kept) (below : worker < plan.workers) (call : Call) (of_script : IsOfScript plan worker (get_or kept.state.replies worker []) call) (objects : List ObjectState) (waits : ℕ) where
  abbrev own_script : List Call
  own_script = get_or plan.scripts worker []

  abbrev place : ℕ
  place = get_or kept.places worker 0

  abbrev given : List (Reply (List ℕ))
  given = get_or kept.state.replies worker []

  own_left : (reply : Reply (List ℕ)) → drop (place + 1 + passed_over call reply) own_script ≡ left_of own_script (given ++ reply ∷ [])
  own_left reply =
      let rest : drop (place + 1) own_script ≡ of_script.rest = sym (drop-drop 1 place own_script) ∙ ap (drop 1) (is.left worker ∙ of_script.left) in
      sym (drop-drop (passed_over call reply) (place + 1) own_script) ∙ ap (drop (passed_over call reply)) rest ∙ sym (further.left own_script given call of_script.rest reply of_script.left)

  left_at : (answer : Answer) (k : ℕ) → drop (get_or (places_behind worker call answer kept.places) k 0) (get_or plan.scripts k []) ≡ left_of (get_or plan.scripts k []) (get_or (settled_by (answered worker call) answer (moved worker objects waits kept.state)).0.replies k [])
  left_at answers.Still k = is.left k
  left_at answers.Unfinished k = is.left k
  left_at (answers.Misused misuse) k = is.left k
  left_at (answers.Completed reply) k = elim (eqb k worker) as (λ b. eqb k worker ≡ b → Left k) [
    | true ↦ λ e. subst Left (sym (eqb-true k worker e)) own
    | false ↦ λ e.
        let apart : k ≢ worker = eqb-false k worker e in
        ap (λ (n : ℕ). drop n (get_or plan.scripts k [])) (get_or-set_other kept.places worker k moved_to 0 apart)
        ∙ is.left k
        ∙ ap (λ (replies : List (Reply (List ℕ))). left_of (get_or plan.scripts k []) replies) (sym (replied_other worker k reply (moved worker objects waits kept.state) apart))
  ] refl
    where
      moved_to : ℕ
      moved_to = place + 1 + passed_over call reply

      Left : ℕ → Type 0
      Left k = drop (get_or (set kept.places worker (place + 1 + passed_over call reply)) k 0) (get_or plan.scripts k []) ≡ left_of (get_or plan.scripts k []) (get_or (with_reply worker reply (moved worker objects waits kept.state)).replies k [])

      own : Left worker
      own =
          ap (λ (n : ℕ). drop n own_script) (get_or-set_same kept.places worker moved_to 0 (omega (arith, below, is.count)))
          ∙ own_left reply
          ∙ ap (λ (replies : List (Reply (List ℕ))). left_of own_script replies) (sym (get_or-set_same kept.state.replies worker (given ++ reply ∷ []) [] (omega (arith, below, is.of.workers))))

  same_count : (answer : Answer) → length (places_behind worker call answer kept.places) ≡ plan.workers
  same_count answers.Still = is.count
  same_count answers.Unfinished = is.count
  same_count (answers.Completed reply) = length-set kept.places worker (place + 1 + passed_over call reply) ∙ is.count
  same_count (answers.Misused misuse) = is.count

  -- behind a turn of its script
  pub kept_behind : (answer : Answer) (s : State) (step : Step) (places : List ℕ) (groups : List (Option ℕ)) → settled_by (answered worker call) answer (moved worker objects waits kept.state) ≡ (s, step) → places ≡ places_behind worker call answer kept.places → groups ≡ kept.groups
      → IsStateOf plan s → IsKeptFor plan (record { state = s; places = places; groups = groups })
  kept_behind answer s step places groups settles moves same of = record {
    of = of;
    count = ap (length {A = ℕ}) moves ∙ same_count answer;
    left = λ k.
        ap (λ (l : List ℕ). drop (get_or l k 0) (get_or plan.scripts k [])) moves ∙ left_at answer k
        ∙ ap (λ (x : State × Step). left_of (get_or plan.scripts k []) (get_or x.0.replies k [])) settles;
    groups_count = ap (length {A = Option ℕ}) same ∙ is.groups_count;
    last = λ k. ap (λ (l : List (Option ℕ)). done_calls (get_or l k None)) same ∙ is.last k;
  }

-- and behind that of the `done`
same_replies : (worker : ℕ) (answer : Answer) (s : State) → (settled_by (λ reply. with_stand worker Gone) answer s).0.replies ≡ s.replies
same_replies worker answers.Still s = refl
same_replies worker answers.Unfinished s = refl
same_replies worker (answers.Completed reply) s = refl
same_replies worker (answers.Misused misuse) s = refl

pub kept_closed : (plan : Plan) (worker : ℕ) (kept : Kept) (objects : List ObjectState) (waits : ℕ) (answer : Answer) (s : State) (step : Step) (places : List ℕ) (groups : List (Option ℕ)) → IsKeptFor plan kept
    → settled_by (λ reply. with_stand worker Gone) answer (moved worker objects waits kept.state) ≡ (s, step) → places ≡ kept.places → groups ≡ kept.groups → IsStateOf plan s → IsKeptFor plan (record { state = s; places = places; groups = groups })
kept_closed plan worker kept objects waits answer s step places groups is settles moves same of = record {
  of = of;
  count = ap (length {A = ℕ}) moves ∙ is.count;
  left = λ k.
      ap (λ (l : List ℕ). drop (get_or l k 0) (get_or plan.scripts k [])) moves ∙ is.left k
      ∙ ap (λ (replies : List (List (Reply (List ℕ)))). left_of (get_or plan.scripts k []) (get_or replies k [])) (sym (same_replies worker answer (moved worker objects waits kept.state)) ∙ ap (λ (x : State × Step). x.0.replies) settles);
  groups_count = ap (length {A = Option ℕ}) same ∙ is.groups_count;
  last = λ k. ap (λ (l : List (Option ℕ)). done_calls (get_or l k None)) same ∙ is.last k;
}
