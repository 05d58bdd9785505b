-- How a run ends.
use Rattle.std.proofs.Common.{◌≡◌, ◌≢◌, ℕ, zero, suc, ◌+◌, ◌<◌, Bool, true, false, [], ◌++◌, map, length, get_or, refl, sym, ap, ◌∙◌, subst, arith}
use Rattle.std.specs.Prelude.{if◌then◌else◌}
use Rattle.sync_types.specs.declared.misuse.Misuse.{Misuse}
use Rattle.script_calls.specs.declared.outcome.Outcome.{Outcome}
use Rattle.script_calls.specs.Outcome.{with_keys_renamed}
use Rattle.script_calls.specs.Runs.{have_tests, left_of}
use Rattle.workload.specs.Keys.{keys_in, key_number}
use Rattle.workload.specs.Plan.{Plan, is_dormant, has_dormant}
use Rattle.step_runner.specs.declared.step.Step.{Step}
use Rattle.step_runner.specs.declared.step.Step.TheVariants as steps
use Rattle.script_calls.specs.declared.outcome.Ending.{Ending}
use Rattle.script_calls.specs.declared.outcome.Ending.TheVariants as endings
use Rattle.script_calls.specs.declared.outcome.Report.{Report}
use Rattle.script_calls.specs.declared.outcome.Outcome.TheVariants as outcomes
use Rattle.step_runner.specs.LeftToDo.{left_to_do}
use Rattle.step_runner.specs.Outcomes.{rounds, is_misused, Reaches, IsDone, IsMisused, IsDeadlocked, StepsTo}
use Rattle.step_runner.specs.State.{State, start, IsStateOf}
use Rattle.step_runner.specs.Turns.{with_event, and_then, items_of, round, has_ended}
use Rattle.step_runner.specs.Computed.{behind_round, rounds_of, all_rounds, behind_schedule, whole_run, outcome_of, turns}
use Rattle.step_runner.proofs.Numbered.{NamesAside, get_mapped, same_numbers, left_numbered}
use Rattle.step_runner.proofs.TurnLemmas.{true_false}
use Rattle.step_runner.proofs.RunLemmas.{items_append, GoesOn, UsesUp, items_valid}
use Rattle.step_runner.proofs.RoundLemmas.{where_ended, where_going, round_same, round_less, round_of, going_before, LeavesRest, live_ended, begun_ended, all_replied}

-- ---- what comes behind the schedule and some rounds

event_behind : (plan : Plan) (x : State × Step) → behind_schedule plan (with_event x) ≡ behind_schedule plan x
event_behind plan (s, steps.Still) = refl
event_behind plan (s, steps.Made) = refl
event_behind plan (s, steps.Misused misuse) = refl

-- the run is the same from behind any number of rounds on
module _ (plan : Plan) (goes_on : GoesOn plan) (uses : UsesUp plan) where
  behind_first : (n : ℕ) (s : State) (x : State × Step) → IsStateOf plan s → items_of plan (round plan.workers) s ≡ x
      → ((t : State) → IsStateOf plan t → behind_schedule plan (items_of plan (rounds n plan.workers) t) ≡ all_rounds plan t)
      → behind_schedule plan (and_then x (items_of plan (rounds n plan.workers))) ≡ all_rounds plan s
  behind_first n s (t, steps.Still) of is later = later t (round_of plan goes_on s t steps.Still of is) ∙ ap (all_rounds plan) (round_same plan goes_on uses s t of is)
  behind_first n s (t, steps.Made) of is later =
      event_behind plan (items_of plan (rounds n plan.workers) t) ∙ later t (round_of plan goes_on s t steps.Made of is)
      ∙ sym (where_going plan goes_on uses s (t, steps.Made) of (going_before plan s t steps.Made of is (λ e. cc)) is)
  behind_first n s (t, steps.Misused misuse) of is later =
      sym (where_going plan goes_on uses s (t, steps.Misused misuse) of (going_before plan s t (steps.Misused misuse) of is (λ e. cc)) is)

  behind_rounds : (n : ℕ) (s : State) → IsStateOf plan s → behind_schedule plan (items_of plan (rounds n plan.workers) s) ≡ all_rounds plan s
  behind_rounds zero s of = refl
  behind_rounds (suc n) s of =
      ap (behind_schedule plan) (items_append plan (round plan.workers) (rounds n plan.workers) s)
      ∙ behind_first n s (items_of plan (round plan.workers) s) of refl (behind_rounds n)

  behind_more : (n : ℕ) (x : State × Step) → IsStateOf plan x.0 → behind_schedule plan (and_then x (items_of plan (rounds n plan.workers))) ≡ behind_schedule plan x
  behind_more n (s, steps.Still) of = behind_rounds n s of
  behind_more n (s, steps.Made) of = event_behind plan (items_of plan (rounds n plan.workers) s) ∙ behind_rounds n s of
  behind_more n (s, steps.Misused misuse) of = refl

  behind_all : (n : ℕ) → IsStateOf plan (start plan) → behind_schedule plan (items_of plan (plan.schedule ++ rounds n plan.workers) (start plan)) ≡ whole_run plan
  behind_all n of =
      ap (behind_schedule plan) (items_append plan plan.schedule (rounds n plan.workers) (start plan))
      ∙ behind_more n (items_of plan plan.schedule (start plan)) (items_valid plan goes_on plan.schedule (start plan) of)

  -- ---- from how the schedule and some rounds end to the outcome

  misused_false : {A : Type 0} → true ≡ false → A
  misused_false e = absurd (true_false e)

  comes_then : (s : State) (step : Step) → is_misused step ≡ false → behind_schedule plan (s, step) ≡ all_rounds plan s
  comes_then s steps.Still goes = refl
  comes_then s steps.Made goes = refl
  comes_then s (steps.Misused misuse) goes = misused_false goes

  comes_to : (s : State) → IsStateOf plan (start plan) → Reaches plan s → whole_run plan ≡ all_rounds plan s
  comes_to s of comes = sym (behind_all comes.count of) ∙ ap (behind_schedule plan) comes.is ∙ comes_then s comes.step comes.goes_on

  pub state_of : (s : State) → IsStateOf plan (start plan) → Reaches plan s → IsStateOf plan s
  state_of s of comes = subst (λ (x : State × Step). IsStateOf plan x.0) comes.is (items_valid plan goes_on (plan.schedule ++ rounds comes.count plan.workers) (start plan) of)

  pub done_is : IsStateOf plan (start plan) → (report : Report) → IsDone plan report → turns plan ≡ outcomes.Done report
  done_is of report done =
      ap (λ (x : State × Ending). outcome_of plan x) (comes_to done.state of done.reached ∙ where_ended plan goes_on uses done.state (state_of done.state of done.reached) done.ended)
      ∙ ap (λ r. outcomes.Done r) (sym done.leaves)

  pub misused_is : IsStateOf plan (start plan) → (report : Report) (misuse : Misuse) → IsMisused plan report misuse → turns plan ≡ outcomes.Misused report misuse
  misused_is of report misuse misused =
      ap (λ (x : State × Ending). outcome_of plan x) (sym (behind_all misused.count of) ∙ ap (behind_schedule plan) misused.is)
      ∙ ap (λ r. outcomes.Misused r misuse) (sym misused.leaves)

  pub deadlocked_is : IsStateOf plan (start plan) → (report : Report) → IsDeadlocked plan report → turns plan ≡ outcomes.Deadlocked report
  deadlocked_is of report dead =
      ap (λ (x : State × Ending). outcome_of plan x)
      (comes_to dead.state of dead.reached ∙ where_going plan goes_on uses dead.state (dead.state, steps.Still) (state_of dead.state of dead.reached) dead.going dead.still)
      ∙ ap (λ r. outcomes.Deadlocked r) (sym dead.leaves)

  pub done_replied : LeavesRest → IsStateOf plan (start plan) → have_tests plan.scripts ≡ false → has_dormant plan ≡ false → (report : Report) → IsDone plan report → map length report.replies ≡ map length plan.scripts
  done_replied rest of straight live report done =
      ap (λ (r : Report). map length r.replies) done.leaves ∙ same_numbers (with_keys_renamed (key_number (keys_in plan.scripts))) done.state.replies
      ∙ all_replied rest plan done.state (state_of done.state of done.reached) straight live done.ended

  pub done_made : NamesAside → IsStateOf plan (start plan) → (report : Report) → IsDone plan report → (worker : ℕ) → is_dormant plan worker ≡ false → left_of (get_or plan.scripts worker []) (get_or report.replies worker []) ≡ []
  done_made names of report done worker live =
      ap (λ (r : Report). left_of (get_or plan.scripts worker []) (get_or r.replies worker [])) done.leaves ∙ left_numbered names plan worker done.state.replies
      ∙ live_ended plan done.state (state_of done.state of done.reached) done.ended worker live

  pub done_begun : NamesAside → IsStateOf plan (start plan) → (report : Report) → IsDone plan report → (worker : ℕ) → get_or report.replies worker [] ≢ [] → left_of (get_or plan.scripts worker []) (get_or report.replies worker []) ≡ []
  done_begun names of report done worker some =
      let given = get_or done.state.replies worker [] in
      let rename = with_keys_renamed (key_number (keys_in plan.scripts)) in
      let numbers : get_or report.replies worker [] ≡ map rename given =
      ap (λ (r : Report). get_or r.replies worker []) done.leaves ∙ get_mapped (map rename) done.state.replies worker refl in
      let begun : given ≢ [] = λ (none : given ≡ []). some (numbers ∙ ap (map rename) none) in
      ap (λ (r : Report). left_of (get_or plan.scripts worker []) (get_or r.replies worker [])) done.leaves ∙ left_numbered names plan worker done.state.replies
      ∙ begun_ended plan done.state (state_of done.state of done.reached) done.ended worker begun

  -- ---- and back

  -- how rounds from a state on end as they do
  abbrev EndsAs : (ℕ → State × Step) → State × Ending → Type 0
  EndsAs behind (t, endings.Done) = (n : ℕ) × (step : Step) × (behind n ≡ (t, step)) × (is_misused step ≡ false) × (has_ended plan t ≡ true)
  EndsAs behind (t, endings.Misused misuse) = (n : ℕ) × (behind n ≡ (t, steps.Misused misuse))
  EndsAs behind (t, endings.Deadlocked) = (n : ℕ) × (step : Step) × (behind n ≡ (t, step)) × (is_misused step ≡ false) × (has_ended plan t ≡ false) × (items_of plan (round plan.workers) t ≡ (t, steps.Still))

  event_step : (t : State) (step : Step) → is_misused step ≡ false → with_event (t, step) ≡ (t, steps.Made)
  event_step t steps.Still goes = refl
  event_step t steps.Made goes = refl
  event_step t (steps.Misused misuse) goes = misused_false goes

  -- what comes before
  ends_before : (first second : ℕ → State × Step) → ((n : ℕ) (t : State) (step : Step) → first n ≡ (t, step) → is_misused step ≡ false → (m : ℕ) × (other : Step) × (second m ≡ (t, other)) × (is_misused other ≡ false))
      → ((n : ℕ) (t : State) (misuse : Misuse) → first n ≡ (t, steps.Misused misuse) → (m : ℕ) × (second m ≡ (t, steps.Misused misuse)))
      → (x : State × Ending) → EndsAs first x → EndsAs second x
  ends_before first second going misused (t, endings.Done) ends =
      let more = going ends.0 t ends.1 ends.2 ends.3 in
      (more.0, more.1, more.2, more.3, ends.4)
  ends_before first second going misused (t, endings.Misused misuse) ends = misused ends.0 t misuse ends.1
  ends_before first second going misused (t, endings.Deadlocked) ends =
      let more = going ends.0 t ends.1 ends.2 ends.3 in
      (more.0, more.1, more.2, more.3, ends.4, ends.5)

  abbrev from : State → ℕ → State × Step
  from s n = items_of plan (rounds n plan.workers) s

  one_more_round : (s t : State) (n : ℕ) (x : State × Step) → items_of plan (round plan.workers) s ≡ (t, steps.Made) → from t n ≡ x → from s (suc n) ≡ with_event x
  one_more_round s t n x is rest =
      items_append plan (round plan.workers) (rounds n plan.workers) s ∙ ap (λ y. and_then y (items_of plan (rounds n plan.workers))) is ∙ ap with_event rest

  after_event : (s t : State) → items_of plan (round plan.workers) s ≡ (t, steps.Made) → (x : State × Ending) → EndsAs (from t) x → EndsAs (from s) x
  after_event s t is x ends = ends_before (from t) (from s)
      (λ n u step rest goes. (suc n, steps.Made, one_more_round s t n (u, step) is rest ∙ event_step u step goes, refl))
      (λ n u misuse rest. (suc n, one_more_round s t n (u, steps.Misused misuse) is rest))
      x ends

  round_ends : (n : ℕ) (s : State) (x : State × Step) → IsStateOf plan s → left_to_do plan s < suc n → has_ended plan s ≡ false → items_of plan (round plan.workers) s ≡ x
      → ((t : State) → IsStateOf plan t → left_to_do plan t < n → EndsAs (from t) (rounds_of n plan t)) → EndsAs (from s) (behind_round x (rounds_of n plan))
  round_ends n s (t, steps.Still) of below going is later =
      let same : t ≡ s = round_same plan goes_on uses s t of is in
      (0, steps.Still, ap (λ u. (u, steps.Still)) (sym same), refl, ap (has_ended plan) same ∙ going, ap (items_of plan (round plan.workers)) same ∙ is)
  round_ends n s (t, steps.Made) of below going is later =
      after_event s t is (rounds_of n plan t) (later t (round_of plan goes_on s t steps.Made of is) (omega (arith, below, round_less plan goes_on uses s t of is)))
  round_ends n s (t, steps.Misused misuse) of below going is later =
      (1, items_append plan (round plan.workers) [] s ∙ ap (λ y. and_then y (items_of plan [])) is)

  either_ends : (b : Bool) (n : ℕ) (s : State) → has_ended plan s ≡ b → (has_ended plan s ≡ false → EndsAs (from s) (behind_round (items_of plan (round plan.workers) s) (rounds_of n plan)))
      → EndsAs (from s) (if b then (s, endings.Done) else behind_round (items_of plan (round plan.workers) s) (rounds_of n plan))
  either_ends true n s ended later = (0, steps.Still, refl, refl, ended)
  either_ends false n s going later = later going

  rounds_end : (n : ℕ) (s : State) → IsStateOf plan s → left_to_do plan s < n → EndsAs (from s) (rounds_of n plan s)
  rounds_end zero s of below = absurd (omega (arith, below))
  rounds_end (suc n) s of below =
      either_ends (has_ended plan s) n s refl (λ going. round_ends n s (items_of plan (round plan.workers) s) of below going refl (rounds_end n))

  abbrev whole : ℕ → State × Step
  whole n = items_of plan (plan.schedule ++ rounds n plan.workers) (start plan)

  whole_is : (n : ℕ) (x : State × Step) → items_of plan plan.schedule (start plan) ≡ x → whole n ≡ and_then x (items_of plan (rounds n plan.workers))
  whole_is n x is = items_append plan plan.schedule (rounds n plan.workers) (start plan) ∙ ap (λ y. and_then y (items_of plan (rounds n plan.workers))) is

  schedule_ends : (x : State × Step) → items_of plan plan.schedule (start plan) ≡ x → IsStateOf plan x.0 → EndsAs whole (behind_schedule plan x)
  schedule_ends (s, steps.Still) is of = ends_before (from s) whole
      (λ n t step rest goes. (n, step, whole_is n (s, steps.Still) is ∙ rest, goes))
      (λ n t misuse rest. (n, whole_is n (s, steps.Still) is ∙ rest))
      (all_rounds plan s) (rounds_end (left_to_do plan s + 1) s of (omega arith))
  schedule_ends (s, steps.Made) is of = ends_before (from s) whole
      (λ n t step rest goes. (n, steps.Made, whole_is n (s, steps.Made) is ∙ ap with_event rest ∙ event_step t step goes, refl))
      (λ n t misuse rest. (n, whole_is n (s, steps.Made) is ∙ ap with_event rest))
      (all_rounds plan s) (rounds_end (left_to_do plan s + 1) s of (omega arith))
  schedule_ends (s, steps.Misused misuse) is of = (0, whole_is 0 (s, steps.Misused misuse) is)

  pub run_ends : IsStateOf plan (start plan) → EndsAs whole (whole_run plan)
  run_ends of = schedule_ends (items_of plan plan.schedule (start plan)) refl (items_valid plan goes_on plan.schedule (start plan) of)

  done_by : (x : State × Ending) → EndsAs whole x → (report : Report) → outcome_of plan x ≡ outcomes.Done report → IsDone plan report
  done_by (s, endings.Done) ends report is = record {
    state = s;
    reached = record { count = ends.0; step = ends.1; is = ends.2; goes_on = ends.3 };
    ended = ends.4;
    leaves = cc;
  }
  done_by (s, endings.Misused misuse) ends report is = absurd cc
  done_by (s, endings.Deadlocked) ends report is = absurd cc

  pub is_done : IsStateOf plan (start plan) → (report : Report) → turns plan ≡ outcomes.Done report → IsDone plan report
  is_done of report is = done_by (whole_run plan) (run_ends of) report is

  misused_by : (x : State × Ending) → EndsAs whole x → (report : Report) (misuse : Misuse) → outcome_of plan x ≡ outcomes.Misused report misuse → IsMisused plan report misuse
  misused_by (s, endings.Done) ends report misuse is = absurd cc
  misused_by (s, endings.Misused other) ends report misuse is =
      let same : other ≡ misuse = cc in
      record { state = s; count = ends.0; is = ends.1 ∙ ap (λ m. (s, steps.Misused m)) same; leaves = cc }
  misused_by (s, endings.Deadlocked) ends report misuse is = absurd cc

  pub is_misused_by : IsStateOf plan (start plan) → (report : Report) (misuse : Misuse) → turns plan ≡ outcomes.Misused report misuse → IsMisused plan report misuse
  is_misused_by of report misuse is = misused_by (whole_run plan) (run_ends of) report misuse is

  deadlocked_by : (x : State × Ending) → EndsAs whole x → (report : Report) → outcome_of plan x ≡ outcomes.Deadlocked report → IsDeadlocked plan report
  deadlocked_by (s, endings.Done) ends report is = absurd cc
  deadlocked_by (s, endings.Misused misuse) ends report is = absurd cc
  deadlocked_by (s, endings.Deadlocked) ends report is = record {
    state = s;
    reached = record { count = ends.0; step = ends.1; is = ends.2; goes_on = ends.3 };
    going = ends.4;
    still = ends.5;
    leaves = cc;
  }

  pub is_deadlocked : IsStateOf plan (start plan) → (report : Report) → turns plan ≡ outcomes.Deadlocked report → IsDeadlocked plan report
  is_deadlocked of report is = deadlocked_by (whole_run plan) (run_ends of) report is

  -- ---- the same of any outcome

  pub steps_is : IsStateOf plan (start plan) → (outcome : Outcome) → StepsTo plan outcome → turns plan ≡ outcome
  steps_is of (outcomes.Done report) comes = done_is of report comes
  steps_is of (outcomes.Misused report misuse) comes = misused_is of report misuse comes
  steps_is of (outcomes.Deadlocked report) comes = deadlocked_is of report comes

  pub is_steps : IsStateOf plan (start plan) → (outcome : Outcome) → turns plan ≡ outcome → StepsTo plan outcome
  is_steps of (outcomes.Done report) is = is_done of report is
  is_steps of (outcomes.Misused report misuse) is = is_misused_by of report misuse is
  is_steps of (outcomes.Deadlocked report) is = is_deadlocked of report is
