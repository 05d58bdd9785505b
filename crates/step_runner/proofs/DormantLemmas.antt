-- As long as a worker waits to be started it makes no call, and any other never waits again.
use Rattle.std.proofs.Common.{◌≡◌, ◌≢◌, ℕ, zero, suc, ◌<◌, ◌⊎◌, inl, inr, Bool, true, false, cond, eqb, ◌||◌, List, [], ◌∷◌, ◌++◌, map, length, get_or, Option, Some, None, refl, sym, ap, ◌∙◌, subst, arith}
use Rattle.std.specs.Prelude.{◌==◌}
use Rattle.std.specs.List.{filter, list_all, list_any}
use Rattle.std.specs.Option.{option_map_or}
use Rattle.std.proofs.lemmas.Bool.{eq-eqb, eqb-true, eqb-false, or_right}
use Rattle.std.proofs.lemmas.List.{get_or-set_other, map-append}
use Rattle.std.proofs.lemmas.List.Elements.{filter-append}
use Rattle.std.proofs.lemmas.List.Folds.{list_any-append}
use Rattle.script_calls.specs.Starts.{started_by, starts}
use Rattle.script_calls.specs.declared.call.Call.{Call}
use Rattle.workload.specs.declared.turn.Turn.{Turn}
use Rattle.workload.specs.declared.turn.Turn.TheVariants as items
use Rattle.workload.specs.Plan.{Plan, is_dormant, is_valid}
use Rattle.step_runner.specs.declared.turns.object_state.ObjectState.{ObjectState}
use Rattle.step_runner.specs.declared.turns.item.Item.{Item}
use Rattle.step_runner.specs.TurnWithin.{items_within}
use Rattle.step_runner.specs.declared.step.Step.{Step}
use Rattle.step_runner.specs.declared.step.Step.TheVariants as steps
use Rattle.step_runner.specs.MadeCalls.{completed_by, unless_misused, made_calls, calls_of}
use Rattle.step_runner.specs.RunItems.{made_by, unless_ended, all_made}
use Rattle.step_runner.specs.Spelt.{by_worker}
use Rattle.step_runner.specs.declared.state.Stand.{Stand}
use Rattle.step_runner.specs.declared.state.Stand.TheVariants.{Waits, Live, Gone}
use Rattle.step_runner.specs.State.{State, first_stand, start, stand_of, stands_behind, with_moment, with_stand, StandsSo, IsStateOf}
use Rattle.step_runner.specs.Turns.{begun_by, next_call, turn_of, and_then, items_of, after_items, has_ended}
use Rattle.step_runner.proofs.MadeLemmas.{Completes, completes_answered, event_state, one_completed}
use Rattle.step_runner.proofs.NextCalls.{gone_own, next_live, not_woken, started_stand, waiting_next}
use Rattle.step_runner.proofs.RoundLemmas.{ended_where}
use Rattle.step_runner.proofs.RunLemmas.{GoesOn, moment_valid}
use Rattle.step_runner.proofs.StartLemmas.{first_stands}
use Rattle.step_runner.proofs.TurnLemmas.{true_false, turn_cases, valid_dormant}

-- what the law of turns says: a turn makes no item of another worker
abbrev pub NoOthers : Type 0
NoOthers = (worker other moment begun : ℕ) (call : Call) (objects : List ObjectState) → worker ≢ other → filter (λ item. item.caller == other) (items_within call worker moment begun objects) ≡ []

waits_live : Live ≡ Waits → ⊥
waits_live e = cc

waits_gone : Gone ≡ Waits → ⊥
waits_gone e = cc

itself : (n : ℕ) → eqb n n ≡ true
itself n = eq-eqb n n refl

module _ (plan : Plan) (worker : ℕ) where
  -- ---- how it stands behind a turn

  abbrev DoesNotWait : State → Type 0
  DoesNotWait s = stand_of worker s ≢ Waits

  abbrev IsWaiting : State → Type 0
  IsWaiting s = stand_of worker s ≡ Waits

  -- whoever is gone is another, or doesn't wait
  gone_comes : (by : ℕ) (s : State) → DoesNotWait s → DoesNotWait (with_stand by Gone s)
  gone_comes by s comes = elim (eqb worker by) as (λ b. eqb worker by ≡ b → DoesNotWait (with_stand by Gone s)) [
    | true ↦ λ e. λ (behind : IsWaiting (with_stand by Gone s)).
        waits_gone (sym (ap (λ (w : ℕ). stand_of worker (with_stand w Gone s)) (sym (eqb-true worker by e)) ∙ gone_own s.stands worker) ∙ behind)
    | false ↦ λ e. λ (behind : IsWaiting (with_stand by Gone s)). comes (sym (get_or-set_other s.stands by worker Gone Gone (eqb-false worker by e)) ∙ behind)
  ] refl

  -- whoever doesn't wait doesn't wait behind a turn
  turn_comes : (by : ℕ) (s : State) → IsStateOf plan s → DoesNotWait s → DoesNotWait (turn_of plan by s).0
  turn_comes by s of comes = turn_cases (λ step. DoesNotWait step.0) plan by s of (record {
    ended = λ is. comes;
    still = λ call objects waits takes. comes;
    unfinished = λ call objects waits takes. comes;
    completed = λ call objects waits reply takes is. λ (behind : get_or (stands_behind (started_by call.operation) s.stands) worker Gone ≡ Waits).
        comes (sym (not_woken (started_by call.operation) s.stands worker (stand_of worker s) comes refl) ∙ behind);
    closed = λ call objects waits reply takes is. gone_comes by s comes;
    misused = λ call objects waits misuse takes. comes;
  })

  -- the `done` behind a script is that of a live worker
  others_wait : (by : ℕ) (s : State) (call : Call) → next_call plan by s ≡ Some call → IsWaiting s → IsWaiting (with_stand by Gone s)
  others_wait by s call next waits =
      let apart : worker ≢ by = λ (same : worker ≡ by). waits_live (sym (next_live plan by s call next) ∙ ap (λ (w : ℕ). stand_of w s) (sym same) ∙ waits) in
      get_or-set_other s.stands by worker Gone Gone apart ∙ waits

  -- so who waits behind it waited before
  waits_or : (stand : Stand) → (stand ≡ Waits) ⊎ (stand ≢ Waits)
  waits_or Waits = inl refl
  waits_or Live = inr waits_live
  waits_or Gone = inr waits_gone

  waited : (by : ℕ) (s : State) → IsStateOf plan s → IsWaiting (turn_of plan by s).0 → IsWaiting s
  waited by s of behind = elim (waits_or (stand_of worker s)) [
    | inl is ↦ is
    | inr comes ↦ absurd (turn_comes by s of comes behind)
  ]

  -- ---- behind some turns

  module _ (goes : GoesOn plan) where
    then_waited : (x : State × Step) (f : State → State × Step) → IsWaiting (and_then x f).0 → (IsWaiting (f x.0).0 → IsWaiting x.0) → IsWaiting x.0
    then_waited (s, steps.Still) f is later = later is
    then_waited (s, steps.Made) f is later = later (ap (stand_of worker) (sym (event_state (f s))) ∙ is)
    then_waited (s, steps.Misused misuse) f is later = is

    before_items : (list : List Turn) (s : State) → IsStateOf plan s → IsWaiting (after_items plan list s) → IsWaiting s
    before_items [] s of is = is
    before_items (items.Worker by ∷ rest) s of is =
        waited by s of (then_waited (turn_of plan by s) (items_of plan rest) is (before_items rest (turn_of plan by s).0 (goes by s of)))
    before_items (items.Moment moment ∷ rest) s of is = before_items rest (with_moment moment s) (moment_valid plan moment s of) is

    -- ---- its items

    module _ (law : NoOthers) where
      other_items : (by : ℕ) (s : State) (o : Option Call) → by ≢ worker → by_worker worker (option_map_or (λ call. items_within call by s.moment (begun_by by s) s.objects) o []) ≡ []
      other_items by s None apart = refl
      other_items by s (Some call) apart = law by worker s.moment (begun_by by s) call s.objects apart

      turn_items : (by : ℕ) (s : State) → IsWaiting s → by_worker worker (made_by plan by s) ≡ []
      turn_items by s is = elim (eqb by worker) as (λ b. eqb by worker ≡ b → by_worker worker (made_by plan by s) ≡ []) [
        | true ↦ λ e.
            let none : next_call plan by s ≡ None = ap (λ (w : ℕ). next_call plan w s) (eqb-true by worker e) ∙ waiting_next plan worker s is in
            ap (λ (o : Option Call). by_worker worker (option_map_or (λ call. items_within call by s.moment (begun_by by s) s.objects) o [])) none
        | false ↦ λ e. other_items by s (next_call plan by s) (eqb-false by worker e)
      ] refl

      later_items : (x : State × Step) (f : State → State × Step) (rest : State → List Item) → IsWaiting (and_then x f).0 → (IsWaiting (f x.0).0 → by_worker worker (rest x.0) ≡ []) → by_worker worker (unless_ended x rest) ≡ []
      later_items (s, steps.Still) f rest is none = none is
      later_items (s, steps.Made) f rest is none = none (ap (stand_of worker) (sym (event_state (f s))) ∙ is)
      later_items (s, steps.Misused misuse) f rest is none = refl

      -- it has made none as long as it waits
      pub waiting_items : (list : List Turn) (s : State) → IsStateOf plan s → IsWaiting (after_items plan list s) → by_worker worker (all_made plan list s) ≡ []
      waiting_items [] s of is = refl
      waiting_items (items.Worker by ∷ rest) s of is =
          let later = unless_ended (turn_of plan by s) (all_made plan rest) in
          let none = later_items (turn_of plan by s) (items_of plan rest) (all_made plan rest) is (waiting_items rest (turn_of plan by s).0 (goes by s of)) in
          filter-append (λ (item : Item). item.caller == worker) (made_by plan by s) later ∙ (λ i. turn_items by s (before_items (items.Worker by ∷ rest) s of is) i ++ none i)
      waiting_items (items.Moment moment ∷ rest) s of is = waiting_items rest (with_moment moment s) (moment_valid plan moment s of) is

    -- ---- who started it

    abbrev IsStartedIn : List (ℕ × Call) → Type 0
    IsStartedIn made = (by : ℕ) × (list_any (starts worker) (calls_of by made) ≡ true)

    starts_it : (call : Call) → started_by call.operation ≡ Some worker → starts worker call ≡ true
    starts_it call is = ap (λ o. option_map_or (λ started. started == worker) o false) is ∙ itself worker

    -- the call that a turn completes starts it
    record Starts (by : ℕ) (s t : State) : Type 0 where
      completes : Completes plan by s t
      is : starts worker completes.call ≡ true

    turn_starts : (by : ℕ) (s : State) → IsStateOf plan s → IsWaiting s → IsWaiting (turn_of plan by s).0 ⊎ Starts by s (turn_of plan by s).0
    turn_starts by s of waits = turn_cases (λ step. IsWaiting step.0 ⊎ Starts by s step.0) plan by s of (record {
      ended = λ is. inl waits;
      still = λ call objects waits_begun takes. inl waits;
      unfinished = λ call objects waits_begun takes. inl waits;
      completed = λ call objects waits_begun reply takes is. elim (started_stand (started_by call.operation) s.stands worker) [
        | inl stays ↦ inl (stays ∙ waits)
        | inr wakes ↦ inr (record { completes = completes_answered plan by s call objects waits_begun reply of takes is; is = starts_it call wakes.by })
      ];
      closed = λ call objects waits_begun reply takes is. inl (others_wait by s call takes.next waits);
      misused = λ call objects waits_begun misuse takes. inl waits;
    })

    -- behind it the call is among those of its worker
    first_is : (by : ℕ) (call : Call) (more : List (ℕ × Call)) → starts worker call ≡ true → list_any (starts worker) (calls_of by ((by, call) ∷ more)) ≡ true
    first_is by call more is =
        ap (λ b. list_any (starts worker) (map (λ (one : ℕ × Call). one.1) (cond b ((by, call) ∷ filter (λ one. one.0 == by) more) (filter (λ one. one.0 == by) more)))) (itself by)
        ∙ ap (λ b. b || list_any (starts worker) (calls_of by more)) is

    behind_others : (by : ℕ) (first more : List (ℕ × Call)) → list_any (starts worker) (calls_of by more) ≡ true → list_any (starts worker) (calls_of by (first ++ more)) ≡ true
    behind_others by first more is =
        ap (λ (l : List (ℕ × Call)). list_any (starts worker) (map (λ (one : ℕ × Call). one.1) l)) (filter-append (λ (one : ℕ × Call). one.0 == by) first more)
        ∙ ap (list_any (starts worker)) (map-append (λ (one : ℕ × Call). one.1) (filter (λ one. one.0 == by) first) (filter (λ one. one.0 == by) more))
        ∙ list_any-append (starts worker) (calls_of by first) (calls_of by more) ∙ or_right (list_any (starts worker) (calls_of by first)) (list_any (starts worker) (calls_of by more)) is

    later_starts : (x : State × Step) (f : State → State × Step) (rest : State → List (ℕ × Call)) → IsWaiting x.0 → DoesNotWait (and_then x f).0 → (DoesNotWait (f x.0).0 → IsStartedIn (rest x.0)) → IsStartedIn (unless_misused x rest)
    later_starts (s, steps.Still) f rest waits comes later = later comes
    later_starts (s, steps.Made) f rest waits comes later = later (λ (is : IsWaiting (f s).0). comes (ap (stand_of worker) (event_state (f s)) ∙ is))
    later_starts (s, steps.Misused misuse) f rest waits comes later = absurd (comes waits)

    -- whoever waited and doesn't any more was started
    pub was_started : (list : List Turn) (s : State) → IsStateOf plan s → IsWaiting s → DoesNotWait (after_items plan list s) → IsStartedIn (made_calls plan list s)
    was_started [] s of waits comes = absurd (comes waits)
    was_started (items.Worker by ∷ rest) s of waits comes =
        let more = unless_misused (turn_of plan by s) (made_calls plan rest) in
        let pair : Call → ℕ × Call = λ call. (by, call) in
        elim (turn_starts by s of waits) [
          | inl still ↦
              let later = later_starts (turn_of plan by s) (items_of plan rest) (made_calls plan rest) still comes (was_started rest (turn_of plan by s).0 (goes by s of) still) in
              (later.0, behind_others later.0 (map pair (completed_by plan by s)) more later.1)
          | inr starts_now ↦
              (by, ap (λ (l : List Call). list_any (starts worker) (calls_of by (map pair l ++ more))) (one_completed plan by s starts_now.completes) ∙ first_is by starts_now.completes.call more starts_now.is)
        ]
    was_started (items.Moment moment ∷ rest) s of waits comes = was_started rest (with_moment moment s) (moment_valid plan moment s of) waits comes

-- ---- by whether a worker waits to be started

module _ (plan : Plan) (worker : ℕ) (below : worker < plan.workers) where
  -- one that does waits before the first turn
  pub waits_first : is_valid plan ≡ true → is_dormant plan worker ≡ true → stand_of worker (start plan) ≡ Waits
  waits_first valid waits = first_stands plan worker valid below ∙ ap first_stand waits

  -- as long as it waits it has no reply
  pub waiting_replies : (s : State) → IsStateOf plan s → stand_of worker s ≡ Waits → get_or s.replies worker [] ≡ []
  waiting_replies s of waits = (subst (StandsSo plan worker (get_or s.replies worker [])) waits (of.each worker below)).1

  -- any other is live
  pub others_live : (s : State) → IsStateOf plan s → is_dormant plan worker ≡ false → stand_of worker s ≡ Live
  others_live s of live = by_stand (stand_of worker s) (of.each worker below)
    where
      by_stand : (stand : Stand) → StandsSo plan worker (get_or s.replies worker []) stand → stand ≡ Live
      by_stand Waits so = absurd (true_false (sym so.0 ∙ live))
      by_stand Live so = refl
      by_stand Gone so = absurd (true_false (sym so.0 ∙ live))

-- ---- where all wait

all_wait : (dormant : List Bool) (k : ℕ) → list_all (λ waits. waits) dormant ≡ true → k < length dormant → get_or dormant k false ≡ true
all_wait [] k all below = absurd (omega (arith, below))
all_wait (true ∷ dormant) zero all below = refl
all_wait (true ∷ dormant) (suc k) all below = all_wait dormant k all (omega (arith, below))
all_wait (false ∷ dormant) k all below = absurd (true_false (sym all))

pub none_started : (plan : Plan) → is_valid plan ≡ true → list_all (λ waits. waits) plan.dormant ≡ true → has_ended plan (start plan) ≡ true
none_started plan valid all =
    ended_where plan (start plan) (λ k below. waiting_next plan k (start plan) (waits_first plan k below valid (all_wait plan.dormant k all (omega (arith, below, valid_dormant plan valid)))))
