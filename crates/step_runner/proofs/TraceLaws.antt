-- What is told of turns: what they made, what was replied to whom, and the places of their calls.
use Rattle.std.proofs.Common.{◌≡◌, ◌≢◌, ℕ, zero, suc, ◌+◌, ◌-◌, inl, inr, Bool, true, false, cond, eqb, List, [], ◌∷◌, ◌++◌, drop, length, get_or, Option, Some, None, refl, sym, ap, ◌∙◌, subst, append-nil, append_assoc, length-drop, arith}
use Rattle.std.specs.Prelude.{◌==◌, slice_get}
use Rattle.std.specs.List.{flat_map, filter}
use Rattle.std.specs.Option.{option_map_or, option_to_list}
use Rattle.std.proofs.lemmas.Bool.{eqb-true, eqb-false}
use Rattle.std.proofs.lemmas.List.{drop-drop}
use Rattle.script_calls.specs.Runs.{passed_over, left_of}
use Rattle.script_calls.specs.declared.call.Call.{Call}
use Rattle.script_calls.specs.declared.call.Reply.{Reply}
use Rattle.workload.specs.declared.turn.Turn.{Turn}
use Rattle.workload.specs.declared.turn.Turn.TheVariants as items
use Rattle.workload.specs.Plan.{Plan}
use Rattle.step_runner.specs.declared.step.Step.{Step}
use Rattle.step_runner.specs.declared.step.Step.TheVariants as steps
use Rattle.step_runner.specs.declared.trace.TraceItem.{TraceItem}
use Rattle.step_runner.specs.declared.turns.answer.Answer.{Answer}
use Rattle.step_runner.specs.declared.turns.answer.Answer.TheVariants as answers
use Rattle.step_runner.specs.declared.turns.item.Item.{Item}
use Rattle.step_runner.specs.declared.turns.object_state.ObjectState.{ObjectState}
use Rattle.step_runner.specs.RunItems.{made_by, unless_ended, all_made}
use Rattle.step_runner.specs.State.{State, IsStateOf, start, with_moment}
use Rattle.step_runner.specs.Traces.{script_turn, closing_turn, reply_of, is_told, told_by, turn_told, traced_by, place_in_script, unless_over, traced_from, replies_told, items_told, IsPlaced}
use Rattle.step_runner.specs.TurnWithin.{Taken, turn_within, items_within}
use Rattle.step_runner.specs.Turns.{answered, begun_by, is_behind, next_call, script_left, turn_of, and_then, items_of, after_items}
use Rattle.step_runner.proofs.MadeLemmas.{Completes, completes_answered, event_state}
use Rattle.step_runner.proofs.NextCalls.{IsOfScript, IsClosing, next_is}
use Rattle.step_runner.proofs.RunLemmas.{GoesOn, moment_valid}
use Rattle.step_runner.proofs.StartLemmas.{none_replied}
use Rattle.step_runner.proofs.TurnLemmas.{moved, turn_cases}

flat_append : {X A : Type 0} (f : X → List A) (first rest : List X) → flat_map f (first ++ rest) ≡ flat_map f first ++ flat_map f rest
flat_append f [] rest = refl
flat_append f (x ∷ first) rest = ap (λ more. f x ++ more) (flat_append f first rest) ∙ sym (append_assoc (f x) (flat_map f first) (flat_map f rest))

-- ---- what was made

told_made : (b : Bool) (worker : ℕ) (call : Call) (place : ℕ) (made : List Item) (reply : Option (Reply (List ℕ))) → (cond b (closing_turn worker made) (script_turn worker call place made reply)).made ≡ made
told_made true worker call place made reply = refl
told_made false worker call place made reply = refl

module _ (plan : Plan) (worker : ℕ) (s : State) (call : Call) where
  one_made : (made : List Item) (reply : Option (Reply (List ℕ))) → items_told (turn_told plan worker s call made reply ∷ []) ≡ made
  one_made made reply = append-nil _ ∙ told_made (is_behind plan worker s) worker call (place_in_script plan worker s) made reply

  still_made : (made : List Item) → items_told (told_by (turn_told plan worker s call) made answers.Still) ≡ made
  still_made [] = refl
  still_made (item ∷ made) = one_made (item ∷ made) None

  turn_made : (made : List Item) (answer : Answer) → items_told (told_by (turn_told plan worker s call) made answer) ≡ made
  turn_made made answers.Still = still_made made
  turn_made made answers.Unfinished = one_made made None
  turn_made made (answers.Completed reply) = one_made made (Some reply)
  turn_made made (answers.Misused misuse) = one_made made None

made_by_turn : (plan : Plan) (worker : ℕ) (s : State) → items_told (traced_by plan worker s) ≡ made_by plan worker s
made_by_turn plan worker s = by_next (next_call plan worker s)
  where
    by_next : (next : Option Call)
        → items_told (option_map_or (λ call. told_by (turn_told plan worker s call) (items_within call worker s.moment (begun_by worker s) s.objects) (turn_within call worker s.moment (begun_by worker s) s.objects).1) next [])
        ≡ option_map_or (λ call. items_within call worker s.moment (begun_by worker s) s.objects) next []
    by_next None = refl
    by_next (Some call) = turn_made plan worker s call (items_within call worker s.moment (begun_by worker s) s.objects) (turn_within call worker s.moment (begun_by worker s) s.objects).1

later_items : (plan : Plan) (rest : List Turn) → ((t : State) → items_told (traced_from plan rest t) ≡ all_made plan rest t) → (x : State × Step)
    → items_told (unless_over x (traced_from plan rest)) ≡ unless_ended x (all_made plan rest)
later_items plan rest later (t, steps.Still) = later t
later_items plan rest later (t, steps.Made) = later t
later_items plan rest later (t, steps.Misused misuse) = refl

pub told_items : (plan : Plan) (list : List Turn) (s : State) → items_told (traced_from plan list s) ≡ all_made plan list s
told_items plan [] s = refl
told_items plan (items.Moment moment ∷ rest) s = told_items plan rest (with_moment moment s)
told_items plan (items.Worker worker ∷ rest) s =
    flat_append (λ (one : TraceItem). one.made) (traced_by plan worker s) (unless_over (turn_of plan worker s) (traced_from plan rest))
    ∙ (λ i. made_by_turn plan worker s i ++ later_items plan rest (told_items plan rest) (turn_of plan worker s) i)

-- ---- what was replied

same_either : {X : Type 0} (b : Bool) (x : X) → cond b x x ≡ x
same_either true x = refl
same_either false x = refl

-- by whether the script is at its end
not_replied : (b : Bool) (worker k : ℕ) (call : Call) (place : ℕ) (made : List Item) → replies_told k (cond b (closing_turn worker made) (script_turn worker call place made None) ∷ []) ≡ []
not_replied true worker k call place made = append-nil _ ∙ same_either (eqb worker k) []
not_replied false worker k call place made = append-nil _ ∙ same_either (eqb worker k) []

closing_told : (b : Bool) (worker k : ℕ) (call : Call) (place : ℕ) (made : List Item) (reply : Option (Reply (List ℕ))) → b ≡ true → replies_told k (cond b (closing_turn worker made) (script_turn worker call place made reply) ∷ []) ≡ []
closing_told true worker k call place made reply e = append-nil _ ∙ same_either (eqb worker k) []
closing_told false worker k call place made reply e = absurd cc

script_told : (b : Bool) (worker k : ℕ) (call : Call) (place : ℕ) (made : List Item) (reply : Reply (List ℕ)) → b ≡ false
    → replies_told k (cond b (closing_turn worker made) (script_turn worker call place made (Some reply)) ∷ []) ≡ cond (eqb worker k) (reply ∷ []) []
script_told true worker k call place made reply e = absurd cc
script_told false worker k call place made reply e = append-nil _

module _ (plan : Plan) (worker : ℕ) (s : State) where
  abbrev made : Call → List Item
  made call = items_within call worker s.moment (begun_by worker s) s.objects

  traced_none : next_call plan worker s ≡ None → traced_by plan worker s ≡ []
  traced_none is = ap (λ o. option_map_or (λ call. told_by (turn_told plan worker s call) (made call) (turn_within call worker s.moment (begun_by worker s) s.objects).1) o []) is

  pub traced_is : (call : Call) (objects : List ObjectState) (waits : ℕ) (answer : Answer) → next_call plan worker s ≡ Some call → turn_within call worker s.moment (begun_by worker s) s.objects ≡ ((objects, waits), answer)
      → traced_by plan worker s ≡ told_by (turn_told plan worker s call) (made call) answer
  traced_is call objects waits answer next turn =
      ap (λ o. option_map_or (λ call. told_by (turn_told plan worker s call) (made call) (turn_within call worker s.moment (begun_by worker s) s.objects).1) o []) next
      ∙ ap (λ (x : Taken). told_by (turn_told plan worker s call) (made call) x.1) turn

  -- a worker's replies so far, with what is told of a turn, are those behind it
  abbrev Replies : State × Step → Type 0
  Replies step = (k : ℕ) → get_or s.replies k [] ++ replies_told k (traced_by plan worker s) ≡ get_or step.0.replies k []

  still_none : (k : ℕ) (call : Call) (done : List Item) → replies_told k (told_by (turn_told plan worker s call) done answers.Still) ≡ []
  still_none k call [] = refl
  still_none k call (item ∷ done) = not_replied (is_behind plan worker s) worker k call (place_in_script plan worker s) (item ∷ done)

  none_more : (k : ℕ) → replies_told k (traced_by plan worker s) ≡ [] → get_or s.replies k [] ++ replies_told k (traced_by plan worker s) ≡ get_or s.replies k []
  none_more k none = ap (λ more. get_or s.replies k [] ++ more) none ∙ append-nil (get_or s.replies k [])

  completed_more : (k : ℕ) (call : Call) (reply : Reply (List ℕ)) (t : State) (b : Bool) → eqb worker k ≡ b → (c : Completes plan worker s t) → c.reply ≡ reply → get_or s.replies k [] ++ cond b (reply ∷ []) [] ≡ get_or t.replies k []
  completed_more k call reply t true e c same =
      let own : worker ≡ k = eqb-true worker k e in
      subst (λ (by : ℕ). get_or s.replies by [] ++ reply ∷ [] ≡ get_or t.replies by []) own (ap (λ (r : Reply (List ℕ)). get_or s.replies worker [] ++ r ∷ []) (sym same) ∙ sym c.own)
  completed_more k call reply t false e c same =
      let apart : k ≢ worker = λ (is : k ≡ worker). eqb-false worker k e (sym is) in
      append-nil (get_or s.replies k []) ∙ sym (c.others k apart)

  turn_replies : IsStateOf plan s → Replies (turn_of plan worker s)
  turn_replies of = turn_cases Replies plan worker s of (record {
    ended = λ is k. none_more k (ap (replies_told k) (traced_none is));
    still = λ call objects waits takes k. none_more k (ap (replies_told k) (traced_is call objects waits answers.Still takes.next takes.turn) ∙ still_none k call (made call));
    unfinished = λ call objects waits takes k.
        none_more k (ap (replies_told k) (traced_is call objects waits answers.Unfinished takes.next takes.turn) ∙ not_replied (is_behind plan worker s) worker k call (place_in_script plan worker s) (made call));
    completed = λ call objects waits reply takes is k.
        ap (λ more. get_or s.replies k [] ++ more)
        (ap (replies_told k) (traced_is call objects waits (answers.Completed reply) takes.next takes.turn)
        ∙ script_told (is_behind plan worker s) worker k call (place_in_script plan worker s) (made call) reply is.within)
        ∙ completed_more k call reply (answered worker call reply (moved worker objects waits s)) (eqb worker k) refl (completes_answered plan worker s call objects waits reply of takes is) refl;
    closed = λ call objects waits reply takes is k.
        none_more k
        (ap (replies_told k) (traced_is call objects waits (answers.Completed reply) takes.next takes.turn)
        ∙ closing_told (is_behind plan worker s) worker k call (place_in_script plan worker s) (made call) (Some reply) is.behind);
    misused = λ call objects waits misuse takes k.
        none_more k
        (ap (replies_told k) (traced_is call objects waits (answers.Misused misuse) takes.next takes.turn)
        ∙ not_replied (is_behind plan worker s) worker k call (place_in_script plan worker s) (made call));
  })

abbrev one_reply : ℕ → TraceItem → List (Reply (List ℕ))
one_reply k one = cond (one.worker == k) (option_to_list one.reply) []

later_replies : (plan : Plan) (k : ℕ) (rest : List Turn) (x : State × Step) → IsStateOf plan x.0
    → ((t : State) → IsStateOf plan t → get_or t.replies k [] ++ replies_told k (traced_from plan rest t) ≡ get_or (after_items plan rest t).replies k [])
    → get_or x.0.replies k [] ++ replies_told k (unless_over x (traced_from plan rest)) ≡ get_or (and_then x (items_of plan rest)).0.replies k []
later_replies plan k rest (t, steps.Still) of later = later t of
later_replies plan k rest (t, steps.Made) of later = later t of ∙ ap (λ (u : State). get_or u.replies k []) (sym (event_state (items_of plan rest t)))
later_replies plan k rest (t, steps.Misused misuse) of later = append-nil (get_or t.replies k [])

so_far_replied : (plan : Plan) → GoesOn plan → (k : ℕ) (list : List Turn) (s : State) → IsStateOf plan s → get_or s.replies k [] ++ replies_told k (traced_from plan list s) ≡ get_or (after_items plan list s).replies k []
so_far_replied plan goes_on k [] s of = append-nil (get_or s.replies k [])
so_far_replied plan goes_on k (items.Moment moment ∷ rest) s of = so_far_replied plan goes_on k rest (with_moment moment s) (moment_valid plan moment s of)
so_far_replied plan goes_on k (items.Worker worker ∷ rest) s of =
    let first = traced_by plan worker s in
    let more = unless_over (turn_of plan worker s) (traced_from plan rest) in
    ap (λ told. get_or s.replies k [] ++ told) (flat_append (one_reply k) first more)
    ∙ sym (append_assoc (get_or s.replies k []) (replies_told k first) (replies_told k more))
    ∙ ap (λ given. given ++ replies_told k more) (turn_replies plan worker s of k)
    ∙ later_replies plan k rest (turn_of plan worker s) (goes_on worker s of) (so_far_replied plan goes_on k rest)

pub told_replies : (plan : Plan) → GoesOn plan → (list : List Turn) (worker : ℕ) → IsStateOf plan (start plan) → replies_told worker (traced_from plan list (start plan)) ≡ get_or (after_items plan list (start plan)).replies worker []
told_replies plan goes_on list worker of =
    ap (λ given. given ++ replies_told worker (traced_from plan list (start plan))) (sym (none_replied plan.workers worker))
    ∙ so_far_replied plan goes_on worker list (start plan) of

-- ---- the places of calls

-- what is left of a script stands at its end
left_from : (script : List Call) (given : List (Reply (List ℕ))) → (n : ℕ) × (drop n script ≡ left_of script given)
left_from script [] = (0, refl)
left_from [] (reply ∷ given) = (0, refl)
left_from (call ∷ script) (reply ∷ given) =
    let later = left_from (drop (passed_over call reply) script) given in
    (suc (passed_over call reply + later.0), sym (drop-drop later.0 (passed_over call reply) script) ∙ later.1)

-- so where something is left, its length tells the place
pub place_by : (script left rest : List Call) (call : Call) (n : ℕ) → drop n script ≡ left → left ≡ call ∷ rest → length script - length left ≡ n
place_by script left rest call n at is =
    let some : length left ≡ suc (length rest) = ap (length {A = Call}) is in
    let count : length (drop n script) ≡ length left = ap (length {A = Call}) at in
    omega (arith, some, count, length-drop n script)

get_dropped : (n : ℕ) (script : List Call) → slice_get script n ≡ slice_get (drop n script) 0
get_dropped zero script = refl
get_dropped (suc n) [] = refl
get_dropped (suc n) (call ∷ script) = get_dropped n script

placed_first : (script : List Call) (given : List (Reply (List ℕ))) (call : Call) (rest : List Call) → left_of script given ≡ call ∷ rest → slice_get script (length script - length (left_of script given)) ≡ Some call
placed_first script given call rest is =
    let from = left_from script given in
    ap (slice_get script) (place_by script (left_of script given) rest call from.0 from.1 is) ∙ get_dropped from.0 script ∙ ap (λ (l : List Call). slice_get l 0) (from.1 ∙ is)

-- what is told of a turn of a call of the script, and of one behind it
module _ (plan : Plan) (worker : ℕ) (s : State) (call : Call) (objects : List ObjectState) (waits : ℕ) (answer : Answer)
    (next : next_call plan worker s ≡ Some call) (turn : turn_within call worker s.moment (begun_by worker s) s.objects ≡ ((objects, waits), answer)) where
  by_behind : (b : Bool) → is_behind plan worker s ≡ b
      → traced_by plan worker s ≡ told_by (λ made reply. cond b (closing_turn worker made) (script_turn worker call (place_in_script plan worker s) made reply)) (made plan worker s call) answer
  by_behind b is =
      traced_is plan worker s call objects waits answer next turn
      ∙ ap (λ b. told_by (λ made reply. cond b (closing_turn worker made) (script_turn worker call (place_in_script plan worker s) made reply)) (made plan worker s call) answer) is

  pub script_traced : (place : ℕ) → IsOfScript plan worker (get_or s.replies worker []) call → drop place (get_or plan.scripts worker []) ≡ script_left plan worker s
      → traced_by plan worker s ≡ told_by (script_turn worker call place) (made plan worker s call) answer
  script_traced place is at =
      by_behind false is.within
      ∙ ap (λ (n : ℕ). told_by (script_turn worker call n) (made plan worker s call) answer) (place_by (get_or plan.scripts worker []) (script_left plan worker s) is.rest call place at is.left)

  pub closing_traced : IsClosing plan worker (get_or s.replies worker []) call → traced_by plan worker s ≡ told_by (λ made reply. closing_turn worker made) (made plan worker s call) answer
  closing_traced is = by_behind true is.behind

-- what is so of each
abbrev pub Each : (TraceItem → Type 0) → List TraceItem → Type 0
Each P told = (n : ℕ) (one : TraceItem) → slice_get told n ≡ Some one → P one

each_append : (P : TraceItem → Type 0) (first rest : List TraceItem) → Each P first → Each P rest → Each P (first ++ rest)
each_append P [] rest each later n one at = later n one at
each_append P (x ∷ first) rest each later zero one at = each zero one at
each_append P (x ∷ first) rest each later (suc n) one at = each_append P first rest (λ m. each (suc m)) later n one at

each_one : (P : TraceItem → Type 0) (x : TraceItem) → P x → Each P (x ∷ [])
each_one P x is zero one at = let same : x ≡ one = cc in subst P same is
each_one P x is (suc n) one at = absurd cc

abbrev pub IsPlacedIn : Plan → TraceItem → Type 0
IsPlacedIn plan one = IsPlaced (get_or plan.scripts one.worker []) one.call one.index one.reply

-- what is so of what is told of each turn is so of what is told of turns in order
module _ (P : TraceItem → Type 0) (plan : Plan)
    (of_turn : (worker : ℕ) (s : State) (call : Call) (reply : Option (Reply (List ℕ))) → next_call plan worker s ≡ Some call → P (turn_told plan worker s call (made plan worker s call) reply)) where
  module _ (worker : ℕ) (s : State) (call : Call) (next : next_call plan worker s ≡ Some call) where
    one_told : (reply : Option (Reply (List ℕ))) → Each P (turn_told plan worker s call (made plan worker s call) reply ∷ [])
    one_told reply = each_one P (turn_told plan worker s call (made plan worker s call) reply) (of_turn worker s call reply next)

    by_told : (b : Bool) (reply : Option (Reply (List ℕ))) → Each P (cond b (turn_told plan worker s call (made plan worker s call) reply ∷ []) [])
    by_told true reply n one at = one_told reply n one at
    by_told false reply n one at = absurd cc

    turn_each : (answer : Answer) → Each P (told_by (turn_told plan worker s call) (made plan worker s call) answer)
    turn_each answer = by_told (is_told (made plan worker s call) answer) (reply_of answer)

  traced_each : (worker : ℕ) (s : State) (next : Option Call) → next_call plan worker s ≡ next
      → Each P (option_map_or (λ call. told_by (turn_told plan worker s call) (made plan worker s call) (turn_within call worker s.moment (begun_by worker s) s.objects).1) next [])
  traced_each worker s None is n one at = absurd cc
  traced_each worker s (Some call) is n one at = turn_each worker s call is (turn_within call worker s.moment (begun_by worker s) s.objects).1 n one at

  later_each : (rest : List Turn) → ((t : State) → Each P (traced_from plan rest t)) → (x : State × Step) → Each P (unless_over x (traced_from plan rest))
  later_each rest later (t, steps.Still) n one at = later t n one at
  later_each rest later (t, steps.Made) n one at = later t n one at
  later_each rest later (t, steps.Misused misuse) n one at = absurd cc

  told_each : (list : List Turn) (s : State) → Each P (traced_from plan list s)
  told_each [] s n one at = absurd cc
  told_each (items.Moment moment ∷ rest) s n one at = told_each rest (with_moment moment s) n one at
  told_each (items.Worker worker ∷ rest) s n one at =
      each_append P (traced_by plan worker s) (unless_over (turn_of plan worker s) (traced_from plan rest)) (traced_each worker s (next_call plan worker s) refl) (later_each rest (told_each rest) (turn_of plan worker s)) n one at

-- the place of a call
module _ (plan : Plan) (worker : ℕ) (s : State) (call : Call) (next : next_call plan worker s ≡ Some call) where
  by_end : (b : Bool) (reply : Option (Reply (List ℕ))) → (b ≡ false → slice_get (get_or plan.scripts worker []) (place_in_script plan worker s) ≡ Some call)
      → IsPlacedIn plan (cond b (closing_turn worker (made plan worker s call)) (script_turn worker call (place_in_script plan worker s) (made plan worker s call) reply))
  by_end true reply found = tt
  by_end false reply found = found refl

  there : is_behind plan worker s ≡ false → slice_get (get_or plan.scripts worker []) (place_in_script plan worker s) ≡ Some call
  there not_behind = elim (next_is plan worker s call next) [
    | inl is ↦ placed_first (get_or plan.scripts worker []) (get_or s.replies worker []) call is.rest is.left
    | inr is ↦ (let clash : true ≡ false = sym is.behind ∙ not_behind in absurd cc)
  ]

pub told_placed : (plan : Plan) (list : List Turn) (s : State) → Each (IsPlacedIn plan) (traced_from plan list s)
told_placed plan = told_each (IsPlacedIn plan) plan (λ worker s call reply next. by_end plan worker s call next (is_behind plan worker s) reply (there plan worker s call next))

-- what was made is its worker's
abbrev pub IsOwn : TraceItem → Type 0
IsOwn one = filter (λ item. item.caller == one.worker) one.made ≡ one.made

own_told : (b : Bool) (worker : ℕ) (call : Call) (place : ℕ) (done : List Item) (reply : Option (Reply (List ℕ))) → filter (λ item. item.caller == worker) done ≡ done
    → IsOwn (cond b (closing_turn worker done) (script_turn worker call place done reply))
own_told true worker call place done reply own = own
own_told false worker call place done reply own = own

-- what the law says of a turn
abbrev pub AreOwn : Type 0
AreOwn = (worker moment begun : ℕ) (call : Call) (objects : List ObjectState) → filter (λ item. item.caller == worker) (items_within call worker moment begun objects) ≡ items_within call worker moment begun objects

pub told_own : AreOwn → (plan : Plan) (list : List Turn) (s : State) → Each IsOwn (traced_from plan list s)
told_own own plan =
    told_each IsOwn plan
    (λ worker s call reply next. own_told (is_behind plan worker s) worker call (place_in_script plan worker s) (made plan worker s call) reply (own worker s.moment (begun_by worker s) call s.objects))
