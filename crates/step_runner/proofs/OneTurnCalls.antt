-- Scripts of calls on maps, atomics and pools alone.
use Rattle.std.proofs.Common.{◌≡◌, ℕ, inl, inr, Bool, true, false, List, [], ◌∷◌, ◌++◌, map, length, get_or, Option, Some, None, refl, sym, ap, ◌∙◌, subst}
use Rattle.std.specs.Prelude.{is_some, not}
use Rattle.std.specs.List.{list_all, range_with_len}
use Rattle.script_calls.specs.Runs.{have_tests}
use Rattle.script_calls.specs.declared.call.Call.{Call}
use Rattle.workload.specs.declared.turn.Turn.{Turn}
use Rattle.workload.specs.declared.turn.Turn.TheVariants as items
use Rattle.workload.specs.Plan.{Plan, has_dormant}
use Rattle.step_runner.specs.declared.turns.answer.Answer.{Answer}
use Rattle.step_runner.specs.declared.turns.answer.Answer.TheVariants as answers
use Rattle.step_runner.specs.Completes.{takes_one_turn, IsCompleted}
use Rattle.step_runner.specs.StandsWithin.{IsReadyWithin}
use Rattle.step_runner.specs.TurnWithin.{turn_within}
use Rattle.step_runner.specs.declared.step.Step.{Step}
use Rattle.step_runner.specs.declared.step.Step.TheVariants as steps
use Rattle.script_calls.specs.declared.outcome.Report.{Report}
use Rattle.script_calls.specs.declared.outcome.Outcome.{Outcome}
use Rattle.script_calls.specs.declared.outcome.Outcome.TheVariants as outcomes
use Rattle.step_runner.specs.declared.turns.object_state.ObjectState.{ObjectState}
use Rattle.step_runner.specs.Outcomes.{rounds, is_misused, StepsTo}
use Rattle.step_runner.specs.State.{State, start, IsStateOf}
use Rattle.step_runner.specs.Turns.{begun_by, next_call, turn_of, item_of, with_event, and_then, items_of}
use Rattle.step_runner.specs.Computed.{turns}
use Rattle.step_runner.proofs.NextCalls.{is_started, next_is}
use Rattle.step_runner.proofs.ScriptRuns.{in_script}
use Rattle.step_runner.proofs.TurnLemmas.{true_false, both_true, all_get, all_at, Takes, takes_by, turn_cases, StepUses}
use Rattle.step_runner.proofs.RoundLemmas.{LeavesRest}
use Rattle.step_runner.proofs.RunLemmas.{GoesOn, UsesUp, turns_of, item_valid}
use Rattle.step_runner.proofs.EndLemmas.{done_replied, is_done, is_misused_by, is_deadlocked, state_of}

-- ---- one turn

-- what the law of turns says
abbrev pub Completing : Type 0
Completing = (workers worker moment begun : ℕ) (call : Call) (objects : List ObjectState) → takes_one_turn call.operation ≡ true → IsReadyWithin workers worker call objects → IsCompleted (turn_within call worker moment begun objects).1

-- a turn is no misuse, and it makes an event unless the script has ended
abbrev Goes : Plan → ℕ → State → Step → Type 0
Goes plan worker s steps.Still = next_call plan worker s ≡ None
Goes plan worker s steps.Made = Unit {0}
Goes plan worker s (steps.Misused misuse) = ⊥

abbrev AllTakeOneTurn : Plan → Type 0
AllTakeOneTurn plan = list_all (list_all (λ call. takes_one_turn call.operation)) plan.scripts ≡ true

next_takes_one_turn : (plan : Plan) (worker : ℕ) (s : State) (call : Call) → AllTakeOneTurn plan → next_call plan worker s ≡ Some call → takes_one_turn call.operation ≡ true
next_takes_one_turn plan worker s call all is =
    let one : Call → Bool = λ call. takes_one_turn call.operation in
    elim (next_is plan worker s call is) [
      | inl script ↦
          (let at = in_script (get_or plan.scripts worker []) (get_or s.replies worker []) call script.first in
          all_get one (get_or plan.scripts worker []) at.0 call (all_at one plan.scripts worker all) at.1)
      | inr closing ↦
          (let started = is_started worker plan.scripts closing.group closing.under in
          absurd (true_false (sym (all_get one (get_or plan.scripts started.by []) started.place started.call (all_at one plan.scripts started.by all) started.there) ∙ ap takes_one_turn started.goes)))
    ]

turn_goes : Completing → (plan : Plan) (worker : ℕ) (s : State) → AllTakeOneTurn plan → IsStateOf plan s → Goes plan worker s (turn_of plan worker s).1
turn_goes completes plan worker s all of = turn_cases (λ step. Goes plan worker s step.1) plan worker s of (record {
  ended = λ is. is;
  still = λ call objects waits takes. absurd (completed call objects waits answers.Still takes);
  unfinished = λ call objects waits takes. tt;
  completed = λ call objects waits reply takes is. tt;
  closed = λ call objects waits reply takes is. tt;
  misused = λ call objects waits misuse takes. completed call objects waits (answers.Misused misuse) takes;
})
  where
    completed : (call : Call) (objects : List ObjectState) (waits : ℕ) (answer : Answer) → Takes plan worker s call objects waits answer → IsCompleted answer
    completed call objects waits answer takes =
        takes_by (λ x. IsCompleted x.1) plan worker s call objects waits answer of takes (completes plan.workers worker s.moment (begun_by worker s) call s.objects (next_takes_one_turn plan worker s call all takes.next))

-- ---- turns in order

event_goes : (x : State × Step) → is_misused x.1 ≡ false → is_misused (with_event x).1 ≡ false
event_goes (s, steps.Still) goes = refl
event_goes (s, steps.Made) goes = refl
event_goes (s, steps.Misused misuse) goes = goes

then_goes : (x : State × Step) (f : State → State × Step) → is_misused x.1 ≡ false → is_misused (f x.0).1 ≡ false → is_misused (and_then x f).1 ≡ false
then_goes (s, steps.Still) f goes later = later
then_goes (s, steps.Made) f goes later = event_goes (f s) later
then_goes (s, steps.Misused misuse) f goes later = goes

no_misuse : (plan : Plan) (worker : ℕ) (s : State) (step : Step) → Goes plan worker s step → is_misused step ≡ false
no_misuse plan worker s steps.Still goes = refl
no_misuse plan worker s steps.Made goes = refl
no_misuse plan worker s (steps.Misused misuse) goes = absurd goes

item_goes : Completing → (plan : Plan) (item : Turn) (s : State) → AllTakeOneTurn plan → IsStateOf plan s → is_misused (item_of plan item s).1 ≡ false
item_goes completes plan (items.Worker worker) s all of = no_misuse plan worker s (turn_of plan worker s).1 (turn_goes completes plan worker s all of)
item_goes completes plan (items.Moment moment) s all of = refl

items_go : Completing → (plan : Plan) → GoesOn plan → AllTakeOneTurn plan → (list : List Turn) (s : State) → IsStateOf plan s → is_misused (items_of plan list s).1 ≡ false
items_go completes plan goes_on all [] s of = refl
items_go completes plan goes_on all (item ∷ rest) s of =
    then_goes (item_of plan item s) (items_of plan rest) (item_goes completes plan item s all of) (items_go completes plan goes_on all rest (item_of plan item s).0 (item_valid plan goes_on item s of))

-- where a number of workers make no event, their scripts have ended
event_made : (x : State × Step) (t : State) → with_event x ≡ (t, steps.Still) → ⊥
event_made (s, steps.Still) t is = let e : steps.Made ≡ steps.Still = ap (λ (x : State × Step). x.1) is in cc
event_made (s, steps.Made) t is = let e : steps.Made ≡ steps.Still = ap (λ (x : State × Step). x.1) is in cc
event_made (s, steps.Misused misuse) t is = let e : steps.Misused misuse ≡ steps.Still = ap (λ (x : State × Step). x.1) is in cc

still_first : (plan : Plan) (worker : ℕ) (s t : State) (x : State × Step) (f : State → State × Step) → StepUses plan s x → Goes plan worker s x.1 → and_then x f ≡ (t, steps.Still) → (next_call plan worker s ≡ None) × (f s ≡ (t, steps.Still))
still_first plan worker s t (u, steps.Still) f same goes is = (goes, subst (λ v. f v ≡ (t, steps.Still)) same is)
still_first plan worker s t (u, steps.Made) f less goes is = absurd (event_made (f u) t is)
still_first plan worker s t (u, steps.Misused misuse) f same goes is = absurd goes

still_ended : Completing → (plan : Plan) → UsesUp plan → AllTakeOneTurn plan → (workers : List ℕ) (s t : State) → IsStateOf plan s → items_of plan (turns_of workers) s ≡ (t, steps.Still)
    → list_all (λ worker. not (is_some (next_call plan worker s))) workers ≡ true
still_ended completes plan uses all [] s t of is = refl
still_ended completes plan uses all (worker ∷ workers) s t of is =
    let parts = still_first plan worker s t (turn_of plan worker s) (items_of plan (turns_of workers)) (uses worker s of) (turn_goes completes plan worker s all of) is in
    both_true (not (is_some (next_call plan worker s))) (list_all (λ w. not (is_some (next_call plan w s))) workers)
    (ap (λ (o : Option Call). not (is_some o)) parts.0) (still_ended completes plan uses all workers s t of parts.1)

-- ---- the run

-- a run of such scripts is no misuse and no deadlock
done_by : Completing → LeavesRest → (plan : Plan) → GoesOn plan → UsesUp plan → AllTakeOneTurn plan → IsStateOf plan (start plan) → (x : Outcome) → turns plan ≡ x → (report : Report) × StepsTo plan (outcomes.Done report) × (have_tests plan.scripts ≡ false → has_dormant plan ≡ false → map length report.replies ≡ map length plan.scripts)
done_by completes rest plan goes_on uses all of (outcomes.Done report) is = (report, is_done plan goes_on uses of report is, λ straight live. done_replied plan goes_on uses rest of straight live report (is_done plan goes_on uses of report is))
done_by completes rest plan goes_on uses all of (outcomes.Misused report misuse) is =
    let misused = is_misused_by plan goes_on uses of report misuse is in
    absurd (true_false (ap (λ (y : State × Step). is_misused y.1) (sym misused.is) ∙ items_go completes plan goes_on all (plan.schedule ++ rounds misused.count plan.workers) (start plan) of))
done_by completes rest plan goes_on uses all of (outcomes.Deadlocked report) is =
    let dead = is_deadlocked plan goes_on uses of report is in
    let valid = state_of plan goes_on uses dead.state of dead.reached in
    absurd (true_false (sym (still_ended completes plan uses all (range_with_len 0 plan.workers) dead.state dead.state valid dead.still) ∙ dead.going))

pub one_turn_calls_end : Completing → LeavesRest → (plan : Plan) → GoesOn plan → UsesUp plan → AllTakeOneTurn plan → IsStateOf plan (start plan) → (report : Report) × StepsTo plan (outcomes.Done report) × (have_tests plan.scripts ≡ false → has_dormant plan ≡ false → map length report.replies ≡ map length plan.scripts)
one_turn_calls_end completes rest plan goes_on uses all of = done_by completes rest plan goes_on uses all of (turns plan) refl
