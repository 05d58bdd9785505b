-- A run that is done: every worker has ended that was live, and no turn was a misuse.
use Rattle.std.proofs.Common.{◌≡◌, ℕ, zero, suc, ◌+◌, ◌<◌, ◌&&◌, not, Bool, true, false, if◌then◌else◌, List, [], ◌∷◌, set, is_some, Option, Some, None, refl, sym, ap, ◌∙◌, subst, arith}
use Rattle.std.specs.List.{list_all, range_with_len}
use Rattle.std.specs.Option.{option_map_or}
use Rattle.sync_types.specs.declared.misuse.Misuse.{Misuse}
use Rattle.script_calls.specs.declared.call.Call.{Call}
use Rattle.script_calls.specs.declared.call.Reply.{Reply}
use Rattle.script_calls.specs.declared.outcome.Ending.{Ending}
use Rattle.script_calls.specs.declared.outcome.Ending.TheVariants as endings
use Rattle.script_calls.specs.declared.outcome.Outcome.{Outcome}
use Rattle.script_calls.specs.declared.outcome.Outcome.TheVariants as outcomes
use Rattle.script_calls.specs.declared.outcome.Report.{Report}
use Rattle.workload.specs.declared.turn.Turn.{Turn}
use Rattle.workload.specs.declared.turn.Turn.TheVariants as items
use Rattle.workload.specs.Plan.{Plan}
use Rattle.step_runner.specs.declared.step.Step.{Step}
use Rattle.step_runner.specs.declared.step.Step.TheVariants as steps
use Rattle.step_runner.specs.declared.turns.answer.Answer.{Answer}
use Rattle.step_runner.specs.declared.turns.answer.Answer.TheVariants as answers
use Rattle.step_runner.specs.Computed.{behind_round, rounds_of, behind_schedule, whole_run, outcome_of, turns}
use Rattle.step_runner.specs.Ends.{scheduled_ends, left_in}
use Rattle.step_runner.specs.LeftToDo.{left_to_do}
use Rattle.step_runner.specs.Outcomes.{is_misused}
use Rattle.step_runner.specs.State.{State, start, with_moment}
use Rattle.step_runner.specs.TurnWithin.{turn_within}
use Rattle.step_runner.specs.Turns.{next_call, completed, settled_by, settled_with, begun_by, turn_of, with_event, and_then, items_of, round, has_ended}

-- ---- rounds

no_done : (s t : State) → (let x : State × Ending = (s, endings.Deadlocked) in x) ≡ (t, endings.Done) → ⊥
no_done s t same = absurd (no (ap (λ (x : State × Ending). x.1) same)) where
  no : endings.Deadlocked ≡ endings.Done → ⊥
  no e = cc

no_misuse : (s t : State) (misuse : Misuse) → (let x : State × Ending = (s, endings.Misused misuse) in x) ≡ (t, endings.Done) → ⊥
no_misuse s t misuse same = absurd (no (ap (λ (x : State × Ending). x.1) same)) where
  no : endings.Misused misuse ≡ endings.Done → ⊥
  no e = cc

module _ (plan : Plan) where
  ended : (n : ℕ) (s t : State) → rounds_of n plan s ≡ (t, endings.Done) → has_ended plan t ≡ true
  ended zero s t is = absurd (no_done s t is)
  ended (suc n) s t is = chosen (has_ended plan s) refl (λ u over. ended n u t over) is where
    behind : (x : State × Step) → ((u : State) → rounds_of n plan u ≡ (t, endings.Done) → has_ended plan t ≡ true) → behind_round x (rounds_of n plan) ≡ (t, endings.Done) → has_ended plan t ≡ true
    behind (u, steps.Still) each is = absurd (no_done u t is)
    behind (u, steps.Made) each is = each u is
    behind (u, steps.Misused misuse) each is = absurd (no_misuse u t misuse is)

    chosen : (b : Bool) → has_ended plan s ≡ b → ((u : State) → rounds_of n plan u ≡ (t, endings.Done) → has_ended plan t ≡ true)
        → (if b then (s, endings.Done) else behind_round (items_of plan (round plan.workers) s) (rounds_of n plan)) ≡ (t, endings.Done) → has_ended plan t ≡ true
    chosen true over each is = subst (λ (u : State). has_ended plan u ≡ true) (ap (λ (x : State × Ending). x.0) is) over
    chosen false over each is = behind (items_of plan (round plan.workers) s) each is

  run_ended : (x : State × Step) (t : State) → behind_schedule plan x ≡ (t, endings.Done) → has_ended plan t ≡ true
  run_ended (s, steps.Still) t is = ended (left_to_do plan s + 1) s t is
  run_ended (s, steps.Made) t is = ended (left_to_do plan s + 1) s t is
  run_ended (s, steps.Misused misuse) t is = absurd (no_misuse s t misuse is)

  -- what a run leaves that is done
  pub record EndsIn (report : Report) (s : State) : Type 0 where
    pub over : has_ended plan s ≡ true
    pub leaves : report ≡ left_in plan s (scheduled_ends plan s.objects)

  pub ends_in : (report : Report) → turns plan ≡ outcomes.Done report → EndsIn report (whole_run plan).0
  ends_in report is = chosen (whole_run plan) refl is where
    report_of : Report → Outcome → Report
    report_of none (outcomes.Done left) = left
    report_of none (outcomes.Misused left misuse) = none
    report_of none (outcomes.Deadlocked left) = none

    chosen : (x : State × Ending) → whole_run plan ≡ x → outcome_of plan x ≡ outcomes.Done report → EndsIn report x.0
    chosen (s, endings.Done) run same = record { over = run_ended (items_of plan plan.schedule (start plan)) s run; leaves = sym (ap (report_of report) same) }
    chosen (s, endings.Misused misuse) run same = absurd cc
    chosen (s, endings.Deadlocked) run same = absurd cc

  -- ---- a misuse

  -- whoever met a misuse stands before its call still
  pub record StandsStill (s : State) : Type 0 where
    pub worker : ℕ
    pub call : Call
    pub next : next_call plan worker s ≡ Some call

  met_by : (w : ℕ) (completes : Reply (List ℕ) → State → State) (answer : Answer) (s t : State) (misuse : Misuse) → settled_by completes answer s ≡ (t, steps.Misused misuse) → s ≡ t
  met_by w completes answers.Still s t misuse same = absurd (no (ap (λ (x : State × Step). x.1) same)) where
    no : steps.Still ≡ steps.Misused misuse → ⊥
    no e = cc
  met_by w completes answers.Unfinished s t misuse same = absurd (no (ap (λ (x : State × Step). x.1) same)) where
    no : steps.Made ≡ steps.Misused misuse → ⊥
    no e = cc
  met_by w completes (answers.Completed reply) s t misuse same = absurd (no (ap (λ (x : State × Step). x.1) same)) where
    no : steps.Made ≡ steps.Misused misuse → ⊥
    no e = cc
  met_by w completes (answers.Misused met) s t misuse same = ap (λ (x : State × Step). x.0) same

  turn_met : (w : ℕ) (s t : State) (misuse : Misuse) → turn_of plan w s ≡ (t, steps.Misused misuse) → StandsStill t
  turn_met w s t misuse same = chosen (next_call plan w s) refl same where
    chosen : (next : Option Call) → next_call plan w s ≡ next → option_map_or (λ call. settled_with plan w call (turn_within call w s.moment (begun_by w s) s.objects) s) next (s, steps.Still) ≡ (t, steps.Misused misuse) → StandsStill t
    chosen None at same = absurd (no (ap (λ (x : State × Step). x.1) same)) where
      no : steps.Still ≡ steps.Misused misuse → ⊥
      no e = cc
    chosen (Some call) at same =
        let step = turn_within call w s.moment (begun_by w s) s.objects in
        let behind : State = record s { objects = step.0.0; begun = set s.begun w step.0.1 } in
        let is : behind ≡ t = met_by w (completed plan w call) step.1 behind t misuse same in
        record { worker = w; call = call; next = ap (next_call plan w) (sym is) ∙ at }

  with_state : (x : State × Step) → (with_event x).0 ≡ x.0
  with_state (s, steps.Still) = refl
  with_state (s, steps.Made) = refl
  with_state (s, steps.Misused misuse) = refl

  with_misuse : (x : State × Step) (misuse : Misuse) → (with_event x).1 ≡ steps.Misused misuse → x.1 ≡ steps.Misused misuse
  with_misuse (s, steps.Still) misuse is = absurd cc
  with_misuse (s, steps.Made) misuse is = absurd cc
  with_misuse (s, steps.Misused met) misuse is = is

  behind_turn : (w : ℕ) (s : State) (rest : List Turn) (misuse : Misuse) (x : State × Step) → turn_of plan w s ≡ x → ((t : State) → (items_of plan rest t).1 ≡ steps.Misused misuse → StandsStill (items_of plan rest t).0)
      → (and_then x (items_of plan rest)).1 ≡ steps.Misused misuse → StandsStill (and_then x (items_of plan rest)).0
  behind_turn w s rest misuse (t, steps.Still) turn each is = each t is
  behind_turn w s rest misuse (t, steps.Made) turn each is = subst StandsStill (sym (with_state (items_of plan rest t))) (each t (with_misuse (items_of plan rest t) misuse is))
  behind_turn w s rest misuse (t, steps.Misused met) turn each is = turn_met w s t met turn

  met : (list : List Turn) (s : State) (misuse : Misuse) → (items_of plan list s).1 ≡ steps.Misused misuse → StandsStill (items_of plan list s).0
  met [] s misuse is = absurd cc
  met (items.Worker w ∷ rest) s misuse is = behind_turn w s rest misuse (turn_of plan w s) refl (λ t at. met rest t misuse at) is
  met (items.Moment moment ∷ rest) s misuse is = met rest (with_moment moment s) misuse is

  pub none_met : (list : List Turn) (s : State) → (StandsStill (items_of plan list s).0 → ⊥) → is_misused (items_of plan list s).1 ≡ false
  none_met list s nobody = chosen (items_of plan list s).1 refl where
    chosen : (step : Step) → (items_of plan list s).1 ≡ step → is_misused step ≡ false
    chosen steps.Still is = refl
    chosen steps.Made is = refl
    chosen (steps.Misused misuse) is = absurd (nobody (met list s misuse is))

  -- where every worker has ended that was live, none stands before a call
  pub nobody_stands : (s : State) (w : ℕ) → has_ended plan s ≡ true → w < plan.workers → next_call plan w s ≡ None
  nobody_stands s w over within = none (next_call plan w s) (let from : 0 + w ≡ w = omega arith in subst (λ (k : ℕ). not (is_some (next_call plan k s)) ≡ true) from (each (λ w. not (is_some (next_call plan w s))) plan.workers 0 w over within)) where
    none : (next : Option Call) → not (is_some next) ≡ true → next ≡ None
    none None is = refl
    none (Some call) is = absurd cc

    each : (P : ℕ → Bool) (n first i : ℕ) → list_all P (range_with_len first n) ≡ true → i < n → P (first + i) ≡ true
    each P zero first i all less = absurd (omega arith)
    each P (suc n) first zero all less = let here : first ≡ first + 0 = omega arith in subst (λ (k : ℕ). P k ≡ true) here (head (P first) (list_all P (range_with_len (first + 1) n)) all) where
      head : (a b : Bool) → (a && b) ≡ true → a ≡ true
      head true b is = refl
      head false b is = is
    each P (suc n) first (suc i) all less = let next : first + 1 + i ≡ first + suc i = omega arith in subst (λ (k : ℕ). P k ≡ true) next (each P n (first + 1) i (tail (P first) (list_all P (range_with_len (first + 1) n)) all) (omega arith)) where
      tail : (a b : Bool) → (a && b) ≡ true → b ≡ true
      tail true b is = is
      tail false b is = absurd cc
