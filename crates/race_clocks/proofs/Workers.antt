-- Each turn of a trace is taken by a worker of whom the schedule tells.
use Rattle.std.proofs.Common.{◌≡◌, ℕ, zero, suc, ◌+◌, ◌<◌, Bool, true, false, cond, List, [], ◌∷◌, ◌++◌, map, Option, Some, None, refl, sym, ap, ◌∙◌, subst, arith}
use Rattle.std.specs.Prelude.{◌&&◌, slice_get}
use Rattle.std.specs.List.{list_all, range_with_len}
use Rattle.std.specs.Option.{option_map_or}
use Rattle.std.proofs.lemmas.Bool.{false≢true, ltb-true, lt-ltb}
use Rattle.std.proofs.lemmas.List.Folds.{list_all-append}
use Rattle.script_calls.specs.declared.call.Call.{Call}
use Rattle.script_calls.specs.declared.call.Reply.{Reply}
use Rattle.workload.specs.declared.turn.Turn.{Turn}
use Rattle.workload.specs.declared.turn.Turn.TheVariants as items
use Rattle.workload.specs.Plan.{Plan, is_turn, is_valid}
use Rattle.step_runner.specs.Outcomes.{rounds}
use Rattle.step_runner.specs.State.{State}
use Rattle.step_runner.specs.Traces.{script_turn, closing_turn, told_by, turn_told, traced_turn, traced_from, unless_over}
use Rattle.step_runner.specs.Turns.{begun_by, next_call, item_of, round}
use Rattle.step_runner.specs.TurnWithin.{turn_within, items_within}
use Rattle.step_runner.specs.declared.step.Step.{Step}
use Rattle.step_runner.specs.declared.step.Step.TheVariants as steps
use Rattle.step_runner.specs.declared.trace.TraceItem.{TraceItem}
use Rattle.step_runner.specs.declared.turns.item.Item.{Item}

-- every turn that is told passes
abbrev Pass : ℕ → List TraceItem → Type 0
Pass workers trace = (n : ℕ) (turn : TraceItem) → slice_get trace n ≡ Some turn → turn.worker < workers

pass_none : (workers : ℕ) → Pass workers []
pass_none workers n turn at = absurd cc

pass_one : (workers : ℕ) (turn : TraceItem) → turn.worker < workers → Pass workers (turn ∷ [])
pass_one workers turn less zero other at = let same : turn ≡ other = cc in subst (λ (t : TraceItem). t.worker < workers) same less
pass_one workers turn less (suc n) other at = absurd cc

pass_both : (workers : ℕ) (first rest : List TraceItem) → Pass workers first → Pass workers rest → Pass workers (first ++ rest)
pass_both workers [] rest one other n x at = other n x at
pass_both workers (turn ∷ first) rest one other zero x at = one zero x at
pass_both workers (turn ∷ first) rest one other (suc n) x at = pass_both workers first rest (λ k y there. one (suc k) y there) other n x at

module _ (plan : Plan) where
  of_turn : (worker : ℕ) (b : Bool) (call : Call) (place : ℕ) (made : List Item) (reply : Option (Reply (List ℕ))) → (cond b (closing_turn worker made) (script_turn worker call place made reply)).worker ≡ worker
  of_turn worker true call place made reply = refl
  of_turn worker false call place made reply = refl

  by_told : (workers : ℕ) (told : TraceItem) (b : Bool) → told.worker < workers → Pass workers (cond b (told ∷ []) [])
  by_told workers told true less = pass_one workers told less
  by_told workers told false less = pass_none workers

  by_call : (worker : ℕ) (s : State) (next : Option Call) → worker < plan.workers
      → Pass plan.workers (option_map_or (λ call. told_by (turn_told plan worker s call) (items_within call worker s.moment (begun_by worker s) s.objects) (turn_within call worker s.moment (begun_by worker s) s.objects).1) next [])
  by_call worker s None less = pass_none plan.workers
  by_call worker s (Some call) less =
      by_told plan.workers _ _ (subst (λ w. w < plan.workers) (sym (of_turn worker _ call _ _ _)) less)

  by_item : (item : Turn) (s : State) → is_turn plan.workers item ≡ true → Pass plan.workers (traced_turn plan item s)
  by_item (items.Worker worker) s is = by_call worker s (next_call plan worker s) (ltb-true worker plan.workers is)
  by_item (items.Moment moment) s is = pass_none plan.workers

  unless : (x : State × Step) (rest : State → List TraceItem) → ((s : State) → Pass plan.workers (rest s)) → Pass plan.workers (unless_over x rest)
  unless (s, steps.Still) rest each = each s
  unless (s, steps.Made) rest each = each s
  unless (s, steps.Misused misuse) rest each = pass_none plan.workers

  both_true : (a b : Bool) → (a && b) ≡ true → (a ≡ true) × (b ≡ true)
  both_true true b is = (refl, is)
  both_true false b is = absurd (false≢true is)

  pub all_pass : (list : List Turn) (s : State) → list_all (is_turn plan.workers) list ≡ true → Pass plan.workers (traced_from plan list s)
  all_pass [] s is = pass_none plan.workers
  all_pass (item ∷ rest) s is =
      let parts = both_true (is_turn plan.workers item) (list_all (is_turn plan.workers) rest) is in
      pass_both plan.workers (traced_turn plan item s) _ (by_item item s parts.0) (unless (item_of plan item s) (traced_from plan rest) (λ t. all_pass rest t parts.1))

  by_range : (n a : ℕ) → ((k : ℕ) → a + k < a + n → a + k < plan.workers) → list_all (is_turn plan.workers) (map (λ worker. items.Worker worker) (range_with_len a n)) ≡ true
  by_range zero a within = refl
  by_range (suc n) a within =
      ap (λ b. b && list_all (is_turn plan.workers) (map (λ worker. items.Worker worker) (range_with_len (a + 1) n))) (lt-ltb a plan.workers (subst (λ x. x < plan.workers) (omega arith) (within 0 (omega arith))))
      ∙ by_range n (a + 1) (λ k less. subst (λ x. x < plan.workers) (omega arith) (within (k + 1) (omega (arith, less))))

  by_rounds : (count : ℕ) → list_all (is_turn plan.workers) (rounds count plan.workers) ≡ true
  by_rounds zero = refl
  by_rounds (suc count) =
      list_all-append (is_turn plan.workers) (round plan.workers) (rounds count plan.workers)
      ∙ ap (λ b. b && list_all (is_turn plan.workers) (rounds count plan.workers)) (by_range plan.workers 0 (λ k less. omega (arith, less))) ∙ by_rounds count

  pub turns_pass : (count : ℕ) → is_valid plan ≡ true → list_all (is_turn plan.workers) (plan.schedule ++ rounds count plan.workers) ≡ true
  turns_pass count valid =
      let first = both_true _ _ valid in
      let second = both_true _ _ first.1 in
      let third = both_true _ _ second.1 in
      list_all-append (is_turn plan.workers) plan.schedule (rounds count plan.workers) ∙ ap (λ b. b && list_all (is_turn plan.workers) (rounds count plan.workers)) third.0 ∙ by_rounds count
