-- A call that a worker has met stays met, at its number.
use Rattle.std.proofs.Common.{◌≡◌, ℕ, zero, suc, ◌≤◌, true, false, eqb, List, [], ◌∷◌, ◌++◌, take, length, get_or, Option, Some, inl, inr, refl, sym, ap, ◌∙◌, subst, append-nil, arith}
use Rattle.std.specs.Prelude.{slice_get}
use Rattle.std.specs.Option.{option_map_or}
use Rattle.std.proofs.lemmas.Bool.{eqb-true, eqb-false}
use Rattle.std.proofs.lemmas.List.{get_or-set_same, get_or-set_other}
use Rattle.script_calls.specs.Runs.{made_of}
use Rattle.script_calls.specs.Starts.{started_by}
use Rattle.script_calls.specs.declared.call.Call.{Call}
use Rattle.script_calls.specs.declared.call.ComposedCall.TheVariants.{WaitFor}
use Rattle.script_calls.specs.declared.call.Operation.{Operation}
use Rattle.script_calls.specs.declared.call.Operation.TheVariants as operations
use Rattle.script_calls.specs.declared.call.Reply.{Reply}
use Rattle.workload.specs.Draft.{tries_of}
use Rattle.workload.specs.Plan.{Plan}
use Rattle.workload.specs.declared.turn.Turn.{Turn}
use Rattle.step_runner.specs.CallTurns.{calls_met, made_behind, most_turns_for}
use Rattle.step_runner.specs.StandsWithin.{most_turns}
use Rattle.step_runner.specs.declared.state.Stand.{Stand}
use Rattle.step_runner.specs.declared.state.Stand.TheVariants.{Waits, Live, Gone}
use Rattle.step_runner.specs.State.{State, stand_of, stands_behind, with_reply, with_stand, IsStateOf}
use Rattle.step_runner.specs.Turns.{answered, closing_calls, left_for, next_call, turn_of, after_items}
use Rattle.step_runner.proofs.NextCalls.{IsOfScript, IsClosing, gone_own, left_with, next_live, started_stand}
use Rattle.step_runner.proofs.RunLemmas.{GoesOn, Kept, items_keep, moment_valid}
use Rattle.step_runner.proofs.ScriptRuns.{GoesFurther, split_first}
use Rattle.step_runner.proofs.TurnLemmas.{moved, replied_other, turn_cases}

-- ---- places in a list behind another

still_at : {X : Type 0} (xs ys : List X) (k : ℕ) (x : X) → slice_get xs k ≡ Some x → slice_get (xs ++ ys) k ≡ Some x
still_at [] ys k x at = absurd cc
still_at (y ∷ xs) ys zero x at = at
still_at (y ∷ xs) ys (suc k) x at = still_at xs ys k x at

first_behind : {X : Type 0} (xs ys : List X) (x : X) → slice_get (xs ++ x ∷ ys) (length xs) ≡ Some x
first_behind [] ys x = refl
first_behind (y ∷ xs) ys x = first_behind xs ys x

-- ---- one call

-- the calls that a worker has met that stands so, with these replies
abbrev met_with : Plan → ℕ → Stand → List (Reply (List ℕ)) → List Call
met_with plan worker stand given = made_of (get_or plan.scripts worker []) given ++ (made_behind stand (closing_calls plan worker) ++ take 1 (left_with plan worker stand given))

-- where it stands before a call that is the last of them
met_next : (plan : Plan) (worker : ℕ) (s : State) (call : Call) → next_call plan worker s ≡ Some call → calls_met plan worker s ≡ made_of (get_or plan.scripts worker []) (get_or s.replies worker []) ++ call ∷ []
met_next plan worker s call next =
    let made = made_of (get_or plan.scripts worker []) (get_or s.replies worker []) in
    let left = split_first (left_for plan worker s) call next in
    ap (λ (l : List Call). made ++ (made_behind (stand_of worker s) (closing_calls plan worker) ++ take 1 l)) left.1
    ∙ ap (λ stand. made ++ (made_behind stand (closing_calls plan worker) ++ call ∷ [])) (next_live plan worker s call next)

module _ (further : GoesFurther) (plan : Plan) (worker number : ℕ) (call : Call) where
  abbrev pub HasMet : State → Type 0
  HasMet s = slice_get (calls_met plan worker s) number ≡ Some call

  abbrev MetWith : Stand → List (Reply (List ℕ)) → Type 0
  MetWith stand given = slice_get (met_with plan worker stand given) number ≡ Some call

  -- one call more was completed
  met_replied : (s : State) (next : Call) (reply : Reply (List ℕ)) (stand : Stand) → next_call plan worker s ≡ Some next → IsOfScript plan worker (get_or s.replies worker []) next → HasMet s → MetWith stand (get_or s.replies worker [] ++ reply ∷ [])
  met_replied s next reply stand at is met =
      let script = get_or plan.scripts worker [] in
      let given = get_or s.replies worker [] in
      let before : slice_get (made_of script given ++ next ∷ []) number ≡ Some call = ap (λ (l : List Call). slice_get l number) (sym (met_next plan worker s next at)) ∙ met in
      let rest = made_behind stand (closing_calls plan worker) ++ take 1 (left_with plan worker stand (given ++ reply ∷ [])) in
      ap (λ (l : List Call). slice_get (l ++ rest) number) (further.made script given next is.rest reply is.left) ∙ still_at (made_of script given ++ next ∷ []) rest number call before

  -- the worker was started
  met_woken : (s : State) (started : Option ℕ) → HasMet s → MetWith (get_or (stands_behind started s.stands) worker Gone) (get_or s.replies worker [])
  met_woken s started met = elim (started_stand started s.stands worker) [
    | inl stays ↦ subst (λ (stand : Stand). MetWith stand (get_or s.replies worker [])) (sym stays) met
    | inr wakes ↦
        (let given = get_or s.replies worker [] in
        let made = made_of (get_or plan.scripts worker []) given in
        let waiting : MetWith Waits given = subst (λ (stand : Stand). MetWith stand given) wakes.waited met in
        let before : slice_get made number ≡ Some call = ap (λ (l : List Call). slice_get l number) (sym (append-nil made)) ∙ waiting in
        subst (λ (stand : Stand). MetWith stand given) (sym wakes.live) (still_at made (take 1 (left_with plan worker Live given)) number call before))
  ]

  -- the call behind its script is made
  met_closed : (s : State) (next : Call) → next_call plan worker s ≡ Some next → IsClosing plan worker (get_or s.replies worker []) next → HasMet s → MetWith Gone (get_or s.replies worker [])
  met_closed s next at is met =
      let made = made_of (get_or plan.scripts worker []) (get_or s.replies worker []) in
      ap (λ (last : List Call). slice_get (made ++ (last ++ [])) number) is.last ∙ ap (λ (l : List Call). slice_get l number) (sym (met_next plan worker s next at)) ∙ met

  met_behind : (by : ℕ) (s : State) → IsStateOf plan s → HasMet s → HasMet (turn_of plan by s).0
  met_behind by s of met = turn_cases (λ x. HasMet x.0) plan by s of (record {
    ended = λ none. met;
    still = λ next objects waits takes. met;
    unfinished = λ next objects waits takes. met;
    completed = λ next objects waits reply takes is.
        let t = moved by objects waits s in
        let stand = get_or (stands_behind (started_by next.operation) s.stands) worker Gone in
        elim (eqb worker by) as (λ b. eqb worker by ≡ b → HasMet (answered by next reply (moved by objects waits s))) [
          | true ↦ λ e.
              let here : by ≡ worker = sym (eqb-true worker by e) in
              let next_at : next_call plan worker s ≡ Some next = ap (λ (w : ℕ). next_call plan w s) (sym here) ∙ takes.next in
              let script : IsOfScript plan worker (get_or s.replies worker []) next = subst (λ (w : ℕ). IsOfScript plan w (get_or s.replies w []) next) here is in
              let now : get_or (with_reply by reply t).replies worker [] ≡ get_or s.replies worker [] ++ reply ∷ [] =
              ap (λ (w : ℕ). get_or (with_reply w reply t).replies worker []) here ∙ get_or-set_same s.replies worker (get_or s.replies worker [] ++ reply ∷ []) [] (omega (arith, takes.below, of.workers, here)) in
              subst (MetWith stand) (sym now) (met_replied s next reply stand next_at script met)
          | false ↦ λ e. subst (MetWith stand) (sym (replied_other by worker reply t (eqb-false worker by e))) (met_woken s (started_by next.operation) met)
        ] refl;
    closed = λ next objects waits reply takes is. elim (eqb worker by) as (λ b. eqb worker by ≡ b → HasMet (with_stand by Gone (moved by objects waits s))) [
      | true ↦ λ e.
          let here : by ≡ worker = sym (eqb-true worker by e) in
          let next_at : next_call plan worker s ≡ Some next = ap (λ (w : ℕ). next_call plan w s) (sym here) ∙ takes.next in
          let closing : IsClosing plan worker (get_or s.replies worker []) next = subst (λ (w : ℕ). IsClosing plan w (get_or s.replies w []) next) here is in
          let gone : stand_of worker (with_stand by Gone s) ≡ Gone = ap (λ (w : ℕ). stand_of worker (with_stand w Gone s)) here ∙ gone_own s.stands worker in
          subst (λ (stand : Stand). MetWith stand (get_or s.replies worker [])) (sym gone) (met_closed s next next_at closing met)
      | false ↦ λ e. subst (λ (stand : Stand). MetWith stand (get_or s.replies worker [])) (sym (get_or-set_other s.stands by worker Gone Gone (eqb-false worker by e))) met
    ] refl;
    misused = λ next objects waits misuse takes. met;
  })

  -- in a state of the plan
  record Met (s : State) : Type 0 where
    of : IsStateOf plan s
    met : HasMet s

  pub met_later : GoesOn plan → (list : List Turn) (s : State) → IsStateOf plan s → HasMet s → most_turns_for plan worker number (after_items plan list s) ≡ most_turns call.operation
  met_later goes list s of met =
      let kept : Kept plan Met = record {
        turn = λ by s h. record { of = goes by s h.of; met = met_behind by s h.of h.met };
        moment = λ moment s h. record { of = moment_valid plan moment s h.of; met = h.met };
      } in
      ap (λ o. option_map_or (λ (call : Call). most_turns call.operation) o 0) (items_keep plan Met kept list s (record { of = of; met = met })).met

-- the call before which a worker stands is the one behind those that it has completed
pub meets_next : (plan : Plan) (worker number : ℕ) (s : State) (call : Call) → IsStateOf plan s → length (get_or s.replies worker []) ≡ number → next_call plan worker s ≡ Some call → slice_get (calls_met plan worker s) number ≡ Some call
meets_next plan worker number s call of at next =
    let made = made_of (get_or plan.scripts worker []) (get_or s.replies worker []) in
    ap (λ (l : List Call). slice_get l number) (met_next plan worker s call next)
    ∙ ap (slice_get (made ++ call ∷ [])) (sym (of.made worker ∙ at)) ∙ first_behind made [] call

-- any call but a `waitfor` takes four at most
pub four_at_most : (operation : Operation) → tries_of operation ≡ 0 → most_turns operation ≤ 4
four_at_most (operations.Composed (WaitFor atomic value tries)) none = omega (arith, none)
four_at_most operation none = omega arith
