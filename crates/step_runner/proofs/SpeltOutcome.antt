-- The lists of a run fall into lines of its outcome.
use Rattle.std.proofs.Common.{◌≡◌, ℕ, ◌+◌, ◌≤◌, Bool, List, [], ◌∷◌, ◌++◌, map, length, get_or, refl, sym, ap, ◌∙◌, subst, arith, Option, Some, false}
use Rattle.std.specs.Prelude.{slice_get}
use Rattle.std.specs.List.{range_with_len}
use Rattle.std.proofs.lemmas.List.{length-map}
use Rattle.std.proofs.lemmas.List.FromFn.{length-range_with_len}
use Rattle.sync_types.specs.declared.misuse.Misuse.{Misuse}
use Rattle.script_calls.specs.declared.outcome.Outcome.{Outcome}
use Rattle.script_calls.specs.declared.outcome.Outcome.TheVariants as outcomes
use Rattle.script_calls.specs.declared.outcome.Report.{Report}
use Rattle.script_calls.specs.Outcome.{left_by}
use Rattle.script_calls.specs.Runs.{RunsAlong}
use Rattle.workload.specs.Dialect.{has_variables}
use Rattle.workload.specs.declared.turn.Turn.{Turn}
use Rattle.workload.specs.Draft.{all_keys, distinct_count}
use Rattle.workload.specs.Plan.{Plan}
use Rattle.run_record.specs.Explains.{AreLines}
use Rattle.run_record.specs.Lines.{Line, LineEnd, calls_made, items_of, replies_of, IsLineOf}
use Rattle.run_record.specs.Record.{Record}
use Rattle.step_runner.specs.declared.turns.item.Item.{Item}
use Rattle.step_runner.specs.Recorded.{recorded_reply}
use Rattle.step_runner.specs.declared.step.Step.{Step}
use Rattle.step_runner.specs.Ends.{numbered}
use Rattle.step_runner.specs.Outcomes.{rounds, StepsTo}
use Rattle.step_runner.specs.RunItems.{all_made}
use Rattle.step_runner.specs.Spelt.{list_of, lists_of, made_for, misuse_of, is_over, endings_of, outcome_endings, EndAs, Falls}
use Rattle.step_runner.specs.State.{State, start, IsStateOf}
use Rattle.step_runner.specs.Turns.{items_of as after_all, after_items, next_call}
use Rattle.step_runner.proofs.FormLemmas.{TurnStands, standing_kept, start_stands}
use Rattle.step_runner.proofs.RunKeys.{Keys, keys_kept, start_keys}
use Rattle.step_runner.proofs.RunLemmas.{GoesOn, Kept}
use Rattle.step_runner.proofs.Numbered.{get_mapped}
use Rattle.step_runner.proofs.SpeltLines.{list-range, range-get}
use Rattle.step_runner.proofs.SpeltRun.{Run, items_fall, nothing, begun}
use Rattle.step_runner.proofs.SpeltSoFar.{Spells}
use Rattle.step_runner.proofs.TurnLemmas.{TurnsUse, valid_scripts}

-- what all laws of turns say
pub record SpeltLaws : Type 0 where
  pub spells : Spells
  pub stands : TurnStands
  pub uses : TurnsUse
  pub keys : Keys

few : (n : ℕ) → n ≤ n
few n = omega arith

run_kept : SpeltLaws → (plan : Plan) → GoesOn plan → Kept plan (Run plan)
run_kept laws plan goes =
    let standing = standing_kept laws.stands plan goes in
    let keys = keys_kept laws.keys plan (distinct_count (all_keys plan.scripts)) (few (distinct_count (all_keys plan.scripts))) in
    record {
      turn = λ worker s run. record { standing = standing.turn worker s run.standing; keys = keys.turn worker s run.keys; plain = run.plain };
      moment = λ moment s run. record { standing = standing.moment moment s run.standing; keys = keys.moment moment s run.keys; plain = run.plain };
    }

-- at every moment
pub run_falls : SpeltLaws → (plan : Plan) (over : Bool) → has_variables plan ≡ false → GoesOn plan → IsStateOf plan (start plan) → (list : List Turn) (worker : ℕ)
    → Falls plan over worker (all_made plan list (start plan)) (λ number. made_for plan worker number list (start plan)) (get_or (after_items plan list (start plan)).replies worker [])
    (next_call plan worker (after_items plan list (start plan))) (misuse_of plan worker list (start plan))
run_falls laws plan over plain goes of list worker =
    let run : Run plan (start plan) = record { standing = start_stands laws.stands plan of; keys = start_keys laws.keys plan (distinct_count (all_keys plan.scripts)); plain = plain } in
    items_fall laws.spells laws.stands laws.uses plan over goes (run_kept laws plan goes) list nothing (start plan) run (begun laws.spells laws.stands plan of) worker

-- ---- all workers

two_maps : {X Y Z : Type 0} (f : X → Y) (g : Y → Z) (xs : List X) → map g (map f xs) ≡ map (λ x. g (f x)) xs
two_maps f g [] = refl
two_maps {Z = Z} f g (x ∷ xs) = ap (λ (l : List Z). g (f x) ∷ l) (two_maps f g xs)

same_map : {X Y : Type 0} (f g : X → Y) → ((x : X) → f x ≡ g x) → (xs : List X) → map f xs ≡ map g xs
same_map f g same [] = refl
same_map f g same (x ∷ xs) = λ i. same x i ∷ same_map f g same xs i

module _ (plan : Plan) (made : List Item) (s : State) (of : IsStateOf plan s) (parts : ℕ → ℕ → List Item) (met : ℕ → Option Misuse) (outcome : Outcome)
    (falls : (worker : ℕ) → Falls plan (is_over outcome) worker made (parts worker) (get_or s.replies worker []) (next_call plan worker s) (met worker)) (replies : (left_by outcome).replies ≡ numbered plan s.replies) where
  abbrev line_of : ℕ → Line
  line_of worker = (falls worker).line

  abbrev workers : List ℕ
  workers = range_with_len 0 plan.workers

  abbrev lines : List Line
  lines = map line_of workers

  from_zero : (i : ℕ) → 0 + i ≡ i
  from_zero i = omega arith

  of_lines : {X : Type 0} (f : Line → List X) (xs : List (List X)) → length xs ≡ plan.workers → ((worker : ℕ) → f (line_of worker) ≡ get_or xs worker []) → map f lines ≡ xs
  of_lines f xs count is =
      two_maps line_of f workers ∙ ap (λ (n : ℕ). map (λ worker. f (line_of worker)) (range_with_len 0 n)) (sym count)
      ∙ list-range (λ worker. f (line_of worker)) [] xs 0 (λ i. ap (λ worker. f (line_of worker)) (from_zero i) ∙ is i)

  -- what is so of each worker's line
  each_line : (P : ℕ → Line → Type 0) → ((worker : ℕ) → P worker (line_of worker)) → (worker : ℕ) (line : Line) → slice_get lines worker ≡ Some line → P worker line
  each_line P is worker line at = subst (P worker) (ap line_of (sym (from_zero worker)) ∙ range-get line_of 0 plan.workers worker line at) (is worker)

  abbrev endings : ℕ → LineEnd
  endings = endings_of plan outcome made s met

  pub are_lines : (r : Record) → r.lists ≡ lists_of plan made endings → (lines : List Line) × AreLines plan r outcome lines × EndAs endings lines
  are_lines r lists = (
    lines,
    record {
      count = length-map workers line_of ∙ length-range_with_len 0 plan.workers ∙ sym (valid_scripts plan of.valid);
      runs = each_line (λ worker line. RunsAlong (get_or plan.scripts worker []) (calls_made line) line.rest) (λ worker. (falls worker).runs);
      lists = two_maps line_of items_of workers
          ∙ same_map (λ worker. items_of (line_of worker)) (λ worker. list_of plan made worker (endings worker)) (λ worker. (falls worker).items ∙ ap (list_of plan made worker) (falls worker).ends) workers ∙ sym lists;
      replies = of_lines replies_of (numbered plan s.replies) (length-map s.replies (map (recorded_reply plan)) ∙ of.workers) (λ worker. (falls worker).replies ∙ sym (get_mapped (map (recorded_reply plan)) s.replies worker refl)) ∙ sym replies;
      each = each_line (IsLineOf plan) (λ worker. (falls worker).is);
    },
    each_line (λ worker line. (line.ending ≡ endings worker) × (line.halts ≡ [])) (λ worker. ((falls worker).ends, (falls worker).halts)),
  )

-- ---- at the end

abbrev Lined : Plan → Outcome → ℕ → Type 0
Lined plan outcome count = (r : Record)
    → r.lists ≡ lists_of plan (all_made plan (plan.schedule ++ rounds count plan.workers) (start plan)) (outcome_endings plan outcome (plan.schedule ++ rounds count plan.workers))
    → (lines : List Line) × AreLines plan r outcome lines × EndAs (outcome_endings plan outcome (plan.schedule ++ rounds count plan.workers)) lines

module _ (laws : SpeltLaws) (plan : Plan) (plain : has_variables plan ≡ false) (goes : GoesOn plan) (of : IsStateOf plan (start plan)) (kept : (list : List Turn) → IsStateOf plan (after_items plan list (start plan))) where
  lined : (outcome : Outcome) (count : ℕ) (s : State) (step : Step) → after_all plan (plan.schedule ++ rounds count plan.workers) (start plan) ≡ (s, step) → (left_by outcome).replies ≡ numbered plan s.replies → Lined plan outcome count
  lined outcome count s step is replies r lists =
      let turns = plan.schedule ++ rounds count plan.workers in
      are_lines plan (all_made plan turns (start plan)) (after_items plan turns (start plan)) (kept turns) (λ worker number. made_for plan worker number turns (start plan)) (λ worker. misuse_of plan worker turns (start plan)) outcome
      (run_falls laws plan (is_over outcome) plain goes of turns) (replies ∙ ap (λ (x : State × Step). numbered plan x.0.replies) (sym is)) r lists

  pub outcome_lined : (outcome : Outcome) → StepsTo plan outcome → (count : ℕ) × Lined plan outcome count
  outcome_lined (outcomes.Done report) done = (done.reached.count, lined (outcomes.Done report) done.reached.count done.state done.reached.step done.reached.is (ap (λ (r : Report). r.replies) done.leaves))
  outcome_lined (outcomes.Misused report misuse) is = (is.count, lined (outcomes.Misused report misuse) is.count is.state _ is.is (ap (λ (r : Report). r.replies) is.leaves))
  outcome_lined (outcomes.Deadlocked report) is = (is.reached.count, lined (outcomes.Deadlocked report) is.reached.count is.state is.reached.step is.reached.is (ap (λ (r : Report). r.replies) is.leaves))
