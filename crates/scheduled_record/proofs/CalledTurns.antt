-- The items of a trace are, worker by worker, those of the calls of its script, each of the call at its place.
use Rattle.std.proofs.Common.{◌≡◌, ◌≢◌, ℕ, zero, suc, ◌+◌, ◌<◌, ◌==◌, Bool, true, false, cond, List, [], ◌∷◌, ◌++◌, filter, length, get_or, replicate, set, Option, Some, None, inl, inr, ◌⊎◌, refl, sym, ap, ◌∙◌, subst, append-nil, append_assoc, arith}
use Rattle.std.specs.Prelude.{if◌then◌else◌, ◌&&◌}
use Rattle.std.specs.Option.{option_map_or}
use Rattle.std.proofs.lemmas.Bool.{eq-eqb, eqb-true}
use Rattle.std.proofs.lemmas.Bool.Decides.{eqb_tells}
use Rattle.std.proofs.lemmas.List.{length-append, get_or-set_same, get_or-set_other}
use Rattle.script_calls.specs.declared.call.Call.{Call}
use Rattle.script_calls.specs.declared.call.Reply.{Reply}
use Rattle.workload.specs.declared.turn.Turn.{Turn}
use Rattle.workload.specs.declared.turn.Turn.TheVariants as items
use Rattle.workload.specs.Plan.{Plan}
use Rattle.step_runner.specs.declared.step.Step.{Step}
use Rattle.step_runner.specs.declared.step.Step.TheVariants as steps
use Rattle.step_runner.specs.declared.turns.answer.Answer.{Answer}
use Rattle.step_runner.specs.declared.turns.answer.Answer.TheVariants as answers
use Rattle.step_runner.specs.declared.turns.item.Item.{Item}
use Rattle.step_runner.specs.declared.turns.object_state.ObjectState.{ObjectState}
use Rattle.step_runner.specs.CallTurns.{stands_before}
use Rattle.step_runner.specs.RunItems.{made_by, unless_ended}
use Rattle.step_runner.specs.Spelt.{part_by, made_for}
use Rattle.step_runner.specs.State.{State, IsStateOf, start, with_stand, with_moment}
use Rattle.step_runner.specs.declared.state.Stand.TheVariants.{Gone}
use Rattle.step_runner.specs.Traces.{script_turn, closing_turn, told_by, turn_told, traced_by, place_in_script, unless_over, traced_from}
use Rattle.step_runner.specs.TurnWithin.{Taken, turn_within, items_within}
use Rattle.step_runner.specs.Turns.{begun_by, is_behind, next_call, script_left, answered, settled, settled_with, turn_of, with_event, and_then, items_of, after_items}
use Rattle.scheduled_record.proofs.CalledItems.{Called, called, called_in, called_by, in-append, called_of, called_along, place_behind, next_behind, dropped, index_is, along_more, along_next}
use Rattle.scheduled_record.proofs.RunInRange.{is_worker}

-- ---- what is told of a turn

one_called : (b : Bool) (worker : ℕ) (call : Call) (place : ℕ) (made : List Item) (reply : Option (Reply (List ℕ)))
    → called_in (cond b (closing_turn worker made) (script_turn worker call place made reply) ∷ []) ≡ called (cond b None (Some place)) made
one_called true worker call place made reply = append-nil (called None made)
one_called false worker call place made reply = append-nil (called (Some place) made)

module _ (plan : Plan) (worker : ℕ) (s : State) where
  abbrev index : Option ℕ
  index = cond (is_behind plan worker s) None (Some (place_in_script plan worker s))

  still_called : (call : Call) (made : List Item) → called_in (told_by (turn_told plan worker s call) made answers.Still) ≡ called index made
  still_called call [] = refl
  still_called call (item ∷ made) = one_called (is_behind plan worker s) worker call (place_in_script plan worker s) (item ∷ made) None

  answer_called : (call : Call) (made : List Item) (answer : Answer) → called_in (told_by (turn_told plan worker s call) made answer) ≡ called index made
  answer_called call made answers.Still = still_called call made
  answer_called call made answers.Unfinished = one_called (is_behind plan worker s) worker call (place_in_script plan worker s) made None
  answer_called call made (answers.Completed reply) = one_called (is_behind plan worker s) worker call (place_in_script plan worker s) made (Some reply)
  answer_called call made (answers.Misused misuse) = one_called (is_behind plan worker s) worker call (place_in_script plan worker s) made None

  by_next : (next : Option Call)
      → called_in (option_map_or (λ call. told_by (turn_told plan worker s call) (items_within call worker s.moment (begun_by worker s) s.objects) (turn_within call worker s.moment (begun_by worker s) s.objects).1) next [])
      ≡ called index (option_map_or (λ call. items_within call worker s.moment (begun_by worker s) s.objects) next [])
  by_next None = refl
  by_next (Some call) = answer_called call (items_within call worker s.moment (begun_by worker s) s.objects) (turn_within call worker s.moment (begun_by worker s) s.objects).1

  abbrev script : List Call
  script = get_or plan.scripts worker []

  -- the items of a turn are of the call that stands behind the worker's replies
  turn_called : called_in (traced_by plan worker s) ≡ called (next_behind 0 script (get_or s.replies worker [])) (made_by plan worker s)
  turn_called =
      by_next (next_call plan worker s)
      ∙ ap (λ (o : Option ℕ). called o (made_by plan worker s))
      (index_is (place_behind 0 script (get_or s.replies worker [])) script (script_left plan worker s) (dropped script 0 script (get_or s.replies worker []) refl))

-- ---- which replies a turn makes

-- one more of its worker, or none
abbrev Replied : ℕ → ℕ → List (List (Reply (List ℕ))) → List (List (Reply (List ℕ))) → Type 0
Replied by worker old new = (get_or new worker [] ≡ get_or old worker []) ⊎ ((by ≡ worker) × (reply : Reply (List ℕ)) × (get_or new worker [] ≡ get_or old worker [] ++ reply ∷ []))

module _ (plan : Plan) (by worker : ℕ) where
  one_reply : (call : Call) (reply : Reply (List ℕ)) (s : State) → by < length s.replies → (b : Bool) → Replied by worker s.replies (cond b (with_stand by Gone s) (answered by call reply s)).replies
  one_reply call reply s below true = inl refl
  one_reply call reply s below false = elim (eqb_tells by worker) [
    | inl same ↦ inr (same.1, reply, subst (λ (w : ℕ). get_or (set s.replies by (get_or s.replies by [] ++ reply ∷ [])) w [] ≡ get_or s.replies w [] ++ reply ∷ []) same.1 (get_or-set_same s.replies by (get_or s.replies by [] ++ reply ∷ []) [] below))
    | inr apart ↦ inl (get_or-set_other s.replies by worker (get_or s.replies by [] ++ reply ∷ []) [] (λ same. apart.1 (sym same)))
  ]

  answer_replies : (call : Call) (answer : Answer) (s : State) → by < length s.replies → Replied by worker s.replies (settled plan by call answer s).0.replies
  answer_replies call answers.Still s below = inl refl
  answer_replies call answers.Unfinished s below = inl refl
  answer_replies call (answers.Completed reply) s below = one_reply call reply s below (is_behind plan by s)
  answer_replies call (answers.Misused misuse) s below = inl refl

  turn_replies : (s : State) → IsStateOf plan s → Replied by worker s.replies (turn_of plan by s).0.replies
  turn_replies s of = by_call (next_call plan by s) refl where
    by_call : (o : Option Call) → next_call plan by s ≡ o → Replied by worker s.replies (option_map_or (λ call. settled_with plan by call (turn_within call by s.moment (begun_by by s) s.objects) s) o (s, steps.Still)).0.replies
    by_call None is = inl refl
    by_call (Some call) is =
        let taken : Taken = turn_within call by s.moment (begun_by by s) s.objects in
        answer_replies call taken.1 (record s { objects = taken.0.0; begun = set s.begun by taken.0.1 }) (omega (arith, of.workers, is_worker plan s of by call is))

-- ---- what is so of a worker's items so far

-- what the laws say of turns
pub record TurnsAre (plan : Plan) : Type 0 where
  pub goes_on : (worker : ℕ) (s : State) → IsStateOf plan s → IsStateOf plan (turn_of plan worker s).0
  pub own : (worker moment begun : ℕ) (call : Call) (objects : List ObjectState) → filter (λ item. item.caller == worker) (items_within call worker moment begun objects) ≡ items_within call worker moment begun objects
  pub others : (worker other moment begun : ℕ) (call : Call) (objects : List ObjectState) → worker ≢ other → filter (λ item. item.caller == other) (items_within call worker moment begun objects) ≡ []

module _ (plan : Plan) (worker : ℕ) where
  abbrev calls : List Call
  calls = get_or plan.scripts worker []

  -- they are along the script, and no turn made any for a call behind the next one
  record SoFar (so_far : List Called) (parts : ℕ → List Item) (given : List (Reply (List ℕ))) : Type 0 where
    along : so_far ≡ called_along parts 0 0 calls given
    later : (k : ℕ) → length given < k → parts k ≡ []

  -- behind a call that is completed
  replied : (so_far : List Called) (parts : ℕ → List Item) (given : List (Reply (List ℕ))) (reply : Reply (List ℕ)) → SoFar so_far parts given → SoFar so_far parts (given ++ reply ∷ [])
  replied so_far parts given reply h =
      let long = length-append given (reply ∷ []) in
      record {
        along = h.along ∙ sym (along_next parts 0 0 calls given reply (h.later (0 + length given + 1) (omega arith)));
        later = λ k far. h.later k (omega (arith, far, long));
      }

  module _ (laws : TurnsAre plan) (by : ℕ) (s : State) (so_far : List Called) (parts : ℕ → List Item) where
    abbrev more : List Called
    more = so_far ++ called_by worker (called_in (traced_by plan by s))

    abbrev now : ℕ → List Item
    now k = parts k ++ part_by plan worker k by s

    abbrev given : List (Reply (List ℕ))
    given = get_or s.replies worker []

    elsewhere : (k : ℕ) → k ≢ length given → now k ≡ parts k
    elsewhere k apart = by_test (by == worker) (length given == k) refl where
      by_test : (a b : Bool) → (length given == k) ≡ b → parts k ++ (if a && b then made_by plan by s else []) ≡ parts k
      by_test true true is = absurd (apart (sym (eqb-true (length given) k is)))
      by_test true false is = append-nil (parts k)
      by_test false b is = append-nil (parts k)

    same_later : SoFar so_far parts given → (k : ℕ) → length given < k → now k ≡ []
    same_later h k far = elsewhere k (λ same. omega (arith, same, far)) ∙ h.later k far

    -- another's turn
    by_other : by ≢ worker → SoFar so_far parts given → SoFar more now given
    by_other apart h = record {
      along = ap (λ (l : List Called). so_far ++ l) (ap (λ (l : List Called). called_by worker l) (turn_called plan by s) ∙ (called_of worker place (made_by plan by s) ∙ ap (called place) (none (next_call plan by s))))
          ∙ (append-nil so_far ∙ (h.along ∙ ap (λ (f : ℕ → List Item). called_along f 0 0 calls given) (λ i k. sym (nothing (by == worker) refl k) i)));
      later = same_later h;
    } where
      place : Option ℕ
      place = next_behind 0 (get_or plan.scripts by []) (get_or s.replies by [])

      none : (o : Option Call) → filter (λ item. item.caller == worker) (option_map_or (λ call. items_within call by s.moment (begun_by by s) s.objects) o []) ≡ []
      none None = refl
      none (Some call) = laws.others by worker s.moment (begun_by by s) call s.objects apart

      nothing : (b : Bool) → (by == worker) ≡ b → (k : ℕ) → parts k ++ (if b && stands_before worker k s then made_by plan by s else []) ≡ parts k
      nothing true is k = absurd (apart (eqb-true by worker is))
      nothing false is k = append-nil (parts k)

    -- its own
    by_own : by ≡ worker → SoFar so_far parts given → SoFar more now given
    by_own same h = record {
      along = ap (λ (l : List Called). so_far ++ l) turn_is ∙ (ap (λ (l : List Called). l ++ called place made) h.along ∙ sym (along_more parts now made 0 0 calls given (λ k apart. elsewhere k (λ at. apart (at ∙ none))) here));
      later = same_later h;
    } where
      made : List Item
      made = made_by plan by s

      place : Option ℕ
      place = next_behind 0 calls given

      none : length given ≡ 0 + length given
      none = omega arith

      own : (o : Option Call) → filter (λ item. item.caller == by) (option_map_or (λ call. items_within call by s.moment (begun_by by s) s.objects) o []) ≡ option_map_or (λ call. items_within call by s.moment (begun_by by s) s.objects) o []
      own None = refl
      own (Some call) = laws.own by s.moment (begun_by by s) call s.objects

      turn_is : called_by worker (called_in (traced_by plan by s)) ≡ called place made
      turn_is =
          ap (λ (l : List Called). called_by worker l) (turn_called plan by s)
          ∙ (ap (λ (w : ℕ). called_by worker (called (next_behind 0 (get_or plan.scripts w []) (get_or s.replies w [])) made)) same
          ∙ (called_of worker place made ∙ ap (called place) (ap (λ (w : ℕ). filter (λ item. item.caller == w) made) (sym same) ∙ own (next_call plan by s))))

      here : now (0 + length given) ≡ parts (0 + length given) ++ made
      here = ap (λ (b : Bool). parts (0 + length given) ++ (if b then made else [])) (λ i. eq-eqb by worker same i && eq-eqb (length given) (0 + length given) none i)

    turn_so_far : IsStateOf plan s → SoFar so_far parts given → SoFar more now (get_or (turn_of plan by s).0.replies worker [])
    turn_so_far of h = by_replies (turn_replies plan by worker s of) where
      by_worker : SoFar more now given
      by_worker = elim (eqb_tells by worker) [
        | inl same ↦ by_own same.1 h
        | inr apart ↦ by_other apart.1 h
      ]

      by_replies : Replied by worker s.replies (turn_of plan by s).0.replies → SoFar more now (get_or (turn_of plan by s).0.replies worker [])
      by_replies (inl same) = subst (SoFar more now) (sym same) by_worker
      by_replies (inr one) = subst (SoFar more now) (sym one.2) (replied more now given one.1 by_worker)

  -- ---- turns in order

  module _ (laws : TurnsAre plan) where
    abbrev Along : List Turn → List Called → (ℕ → List Item) → State → Type 0
    Along list so_far parts s = so_far ++ called_by worker (called_in (traced_from plan list s)) ≡ called_along (λ k. parts k ++ made_for plan worker k list s) 0 0 calls (get_or (after_items plan list s).replies worker [])

    nothing_more : (so_far : List Called) (parts : ℕ → List Item) (given : List (Reply (List ℕ))) → SoFar so_far parts given → so_far ++ [] ≡ called_along (λ k. parts k ++ []) 0 0 calls given
    nothing_more so_far parts given h = append-nil so_far ∙ (h.along ∙ ap (λ (f : ℕ → List Item). called_along f 0 0 calls given) (λ i k. sym (append-nil (parts k)) i))

    later_along : (rest : List Turn) (so_far : List Called) (parts : ℕ → List Item) (x : State × Step) → IsStateOf plan x.0 → SoFar so_far parts (get_or x.0.replies worker [])
        → ((t : State) → IsStateOf plan t → SoFar so_far parts (get_or t.replies worker []) → Along rest so_far parts t)
        → so_far ++ called_by worker (called_in (unless_over x (traced_from plan rest))) ≡ called_along (λ k. parts k ++ unless_ended x (made_for plan worker k rest)) 0 0 calls (get_or (and_then x (items_of plan rest)).0.replies worker [])
    later_along rest so_far parts (t, steps.Still) of h later = later t of h
    later_along rest so_far parts (t, steps.Made) of h later = later t of h ∙ ap (λ (u : State). called_along (λ k. parts k ++ made_for plan worker k rest t) 0 0 calls (get_or u.replies worker [])) (event_state (items_of plan rest t)) where
      event_state : (x : State × Step) → x.0 ≡ (with_event x).0
      event_state (u, steps.Still) = refl
      event_state (u, steps.Made) = refl
      event_state (u, steps.Misused misuse) = refl
    later_along rest so_far parts (t, steps.Misused misuse) of h later = nothing_more so_far parts (get_or t.replies worker []) h

    all_along : (list : List Turn) (so_far : List Called) (parts : ℕ → List Item) (s : State) → IsStateOf plan s → SoFar so_far parts (get_or s.replies worker []) → Along list so_far parts s
    all_along [] so_far parts s of h = nothing_more so_far parts (get_or s.replies worker []) h
    all_along (items.Moment moment ∷ rest) so_far parts s of h = all_along rest so_far parts (with_moment moment s) (moment_state of) h where
      moment_state : IsStateOf plan s → IsStateOf plan (with_moment moment s)
      moment_state of = record {
        valid = of.valid;
        objects = of.objects;
        machines = of.machines;
        workers = of.workers;
        within = of.within;
        waits = of.waits;
        few = of.few;
        made = of.made;
        count = of.count;
        each = of.each;
      }
    all_along (items.Worker by ∷ rest) so_far parts s of h =
        let first = traced_by plan by s in
        let behind = unless_over (turn_of plan by s) (traced_from plan rest) in
        ap (λ (l : List Called). so_far ++ l) (in-append worker first behind) ∙ (sym (append_assoc so_far (called_by worker (called_in first)) (called_by worker (called_in behind)))
        ∙ (later_along rest (more laws by s so_far parts) (now laws by s so_far parts) (turn_of plan by s) (laws.goes_on by s of) (turn_so_far laws by s so_far parts of h)
        (λ t of_t so. all_along rest (more laws by s so_far parts) (now laws by s so_far parts) t of_t so)
        ∙ ap (λ (f : ℕ → List Item). called_along f 0 0 calls (get_or (and_then (turn_of plan by s) (items_of plan rest)).0.replies worker []))
        (λ i k. append_assoc (parts k) (part_by plan worker k by s) (unless_ended (turn_of plan by s) (made_for plan worker k rest)) i)))

    -- so each item of a trace is of the call at its place
    pub trace_along : IsStateOf plan (start plan) → (list : List Turn)
        → called_by worker (called_in (traced_from plan list (start plan))) ≡ called_along (λ k. made_for plan worker k list (start plan)) 0 0 calls (get_or (after_items plan list (start plan)).replies worker [])
    trace_along of list = all_along list [] (λ k. []) (start plan) of (record {
      along = ap (called_along (λ k. []) 0 0 calls) (sym (none_replied plan.workers worker));
      later = λ k far. refl;
    }) where
      none_replied : (workers k : ℕ) → get_or (replicate workers []) k (let none : List (Reply (List ℕ)) = [] in none) ≡ []
      none_replied zero k = refl
      none_replied (suc workers) zero = refl
      none_replied (suc workers) (suc k) = none_replied workers k
