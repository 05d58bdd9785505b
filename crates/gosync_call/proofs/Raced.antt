-- What the status of a run says whose races are told.
use Rattle.std.proofs.Common.{◌≡◌, ◌∙◌, ℕ, List, [], ◌∷◌, ◌++◌, Option, refl, sym, ap, subst}
use Rattle.sync_outside.specs.Bytes.{Appends, AppendsFront}
use Rattle.script_calls.specs.declared.outcome.Outcome.{Outcome}
use Rattle.script_calls.specs.declared.outcome.Outcome.TheVariants as outcomes
use Rattle.script_calls.specs.declared.outcome.Report.{Report}
use Rattle.sync_types.specs.declared.misuse.Misuse.{Misuse}
use Rattle.workload.specs.Plan.{Plan}
use Rattle.record_clauses.specs.declared.clause.Verdict.TheVariants as verdicts
use Rattle.race_clocks.specs.declared.race.Race.{Race}
use Rattle.race_clocks.specs.RaceText.{races_text, report_with_races}
use Rattle.race_clocks.specs.Variables.{with_variables}
use Rattle.step_runner.specs.Computed.{variables_left}
use Rattle.step_runner.specs.declared.ends.VariableEnd.{VariableEnd}
use Rattle.run_report.specs.ReportText.{report_text}
use Rattle.gosync_call.specs.ComesTo.{ComesTo}
use Rattle.gosync_call.specs.Made.{MakesTo}
use Rattle.gosync_call.specs.Messages.{code_of, ending_of}
use Rattle.gosync_call.specs.Races.{ending_with, race_text, EndsWithRaces, FailsWithRaces, HasRaces}
use Rattle.gosync_call.specs.declared.status.Ending.{Ending}
use Rattle.gosync_call.specs.declared.status.Ending.TheVariants as endings
use Rattle.gosync_call.specs.declared.status.Fault.TheVariants as faults
use Rattle.gosync_call.specs.declared.status.Status.{Status}
use Rattle.gosync_call.specs.declared.status.Status.TheVariants as statuses
use Rattle.gosync_call.specs.declared.status.Unread.TheVariants as unreads

-- the status with number 6 is one, and so is the status with number 0
pub is_raced : (status : Status) → code_of status ≡ 6 → status ≡ statuses.Ended endings.Raced
is_raced (statuses.Ended endings.Done) is = absurd cc
is_raced (statuses.Ended (endings.Misused misuse)) is = absurd cc
is_raced (statuses.Ended endings.Deadlocked) is = absurd cc
is_raced (statuses.Ended endings.Raced) is = refl
is_raced (statuses.Judged verdicts.Yes) is = absurd cc
is_raced (statuses.Judged (verdicts.No clause)) is = absurd cc
is_raced (statuses.Unread (unreads.NotAccepted line reason)) is = absurd cc
is_raced (statuses.Unread (unreads.NoRecord line reason)) is = absurd cc
is_raced (statuses.Unread unreads.CannotRead) is = absurd cc
is_raced (statuses.Unread unreads.Memory) is = absurd cc
is_raced (statuses.Failed faults.CannotWrite) is = absurd cc
is_raced (statuses.Failed faults.CannotStart) is = absurd cc
is_raced (statuses.Failed faults.Memory) is = absurd cc
is_raced (statuses.Failed faults.TooLong) is = absurd cc
is_raced statuses.Usage is = absurd cc

-- where it is no verdict
pub is_done : (X : Status → Type 0) (status : Status) → X status → (X (statuses.Judged verdicts.Yes) → ⊥) → code_of status ≡ 0 → X (statuses.Ended endings.Done)
is_done X (statuses.Ended endings.Done) x judged is = x
is_done X (statuses.Ended (endings.Misused misuse)) x judged is = absurd cc
is_done X (statuses.Ended endings.Deadlocked) x judged is = absurd cc
is_done X (statuses.Ended endings.Raced) x judged is = absurd cc
is_done X (statuses.Judged verdicts.Yes) x judged is = absurd (judged x)
is_done X (statuses.Judged (verdicts.No clause)) x judged is = absurd cc
is_done X (statuses.Unread (unreads.NotAccepted line reason)) x judged is = absurd cc
is_done X (statuses.Unread (unreads.NoRecord line reason)) x judged is = absurd cc
is_done X (statuses.Unread unreads.CannotRead) x judged is = absurd cc
is_done X (statuses.Unread unreads.Memory) x judged is = absurd cc
is_done X (statuses.Failed faults.CannotWrite) x judged is = absurd cc
is_done X (statuses.Failed faults.CannotStart) x judged is = absurd cc
is_done X (statuses.Failed faults.Memory) x judged is = absurd cc
is_done X (statuses.Failed faults.TooLong) x judged is = absurd cc
is_done X statuses.Usage x judged is = absurd cc

-- no outcome ends so without its races
no_raced : (outcome : Outcome) → endings.Raced ≡ ending_of outcome → ⊥
no_raced (outcomes.Done left) is = cc
no_raced (outcomes.Misused left misuse) is = cc
no_raced (outcomes.Deadlocked left) is = cc

pub never_raced : (Comes : Plan → Outcome → Type 0) (told old new : Option (List ℕ)) (status : Status) → ComesTo Comes told old new status → code_of status ≡ 6 → ⊥
never_raced Comes told old new status comes is =
    let ended = subst (λ (s : Status). ComesTo Comes told old new s) (is_raced status is) comes in
    no_raced ended.2.0 ended.2.2

pub never_made_raced : (seed ran ran_now : ℕ) (old new : Option (List ℕ)) (status : Status) → MakesTo seed ran ran_now old new status → code_of status ≡ 6 → ⊥
never_made_raced seed ran ran_now old new status makes is = subst (λ (s : Status). MakesTo seed ran ran_now old new s) (is_raced status is) makes

module _ (plan : Plan) (old new : Option (List ℕ)) where
  by_raced : (outcome : Outcome) (races : List Race) → HasRaces plan outcome races → endings.Raced ≡ ending_with outcome races → Appends old new (race_text plan outcome races)
      → (left : Report) × (race : Race) × (others : List Race) × HasRaces plan (outcomes.Done left) (race ∷ others) × Appends old new (race_text plan (outcomes.Done left) (race ∷ others))
  by_raced (outcomes.Done left) [] has is wrote = absurd cc
  by_raced (outcomes.Done left) (race ∷ others) has is wrote = (left, race, others, has, wrote)
  by_raced (outcomes.Misused left misuse) races has is wrote = absurd cc
  by_raced (outcomes.Deadlocked left) races has is wrote = absurd cc

  -- a run that raced is done, and has a race
  pub raced_left : EndsWithRaces plan old new endings.Raced
      → (left : Report) × (race : Race) × (others : List Race) × HasRaces plan (outcomes.Done left) (race ∷ others) × Appends old new (race_text plan (outcomes.Done left) (race ∷ others))
  raced_left ends = by_raced ends.0 ends.1 ends.2 ends.3 ends.4

  by_none : (outcome : Outcome) (races : List Race) → HasRaces plan outcome races → endings.Done ≡ ending_with outcome races → Appends old new (race_text plan outcome races)
      → (left : Report) × HasRaces plan (outcomes.Done left) [] × Appends old new (race_text plan (outcomes.Done left) [])
  by_none (outcomes.Done left) [] has is wrote = (left, has, wrote)
  by_none (outcomes.Done left) (race ∷ others) has is wrote = absurd cc
  by_none (outcomes.Misused left misuse) races has is wrote = absurd cc
  by_none (outcomes.Deadlocked left) races has is wrote = absurd cc

  -- one that is done, and didn't race, has none
  pub done_left : EndsWithRaces plan old new endings.Done → (left : Report) × HasRaces plan (outcomes.Done left) [] × Appends old new (race_text plan (outcomes.Done left) [])
  done_left ends = by_none ends.0 ends.1 ends.2 ends.3 ends.4

  by_misused : (misuse : Misuse) (outcome : Outcome) (races : List Race) → HasRaces plan outcome races → endings.Misused misuse ≡ ending_with outcome races → Appends old new (race_text plan outcome races)
      → (left : Report) × (races : List Race) × HasRaces plan (outcomes.Misused left misuse) races × Appends old new (report_text plan (outcomes.Misused left misuse) ++ races_text plan races)
  by_misused misuse (outcomes.Done left) [] has is wrote = absurd cc
  by_misused misuse (outcomes.Done left) (race ∷ others) has is wrote = absurd cc
  by_misused misuse (outcomes.Misused left other) races has is wrote =
      let same : misuse ≡ other = cc in
      subst (λ (m : Misuse). (l : Report) × (rs : List Race) × HasRaces plan (outcomes.Misused l m) rs × Appends old new (report_text plan (outcomes.Misused l m) ++ races_text plan rs)) (sym same) (left, races, has, wrote)
  by_misused misuse (outcomes.Deadlocked left) races has is wrote = absurd cc

  -- and of the others the races are written too
  pub misused_left : (misuse : Misuse) → EndsWithRaces plan old new (endings.Misused misuse)
      → (left : Report) × (races : List Race) × HasRaces plan (outcomes.Misused left misuse) races × Appends old new (report_text plan (outcomes.Misused left misuse) ++ races_text plan races)
  misused_left misuse ends = by_misused misuse ends.0 ends.1 ends.2 ends.3 ends.4

  by_deadlocked : (outcome : Outcome) (races : List Race) → HasRaces plan outcome races → endings.Deadlocked ≡ ending_with outcome races → Appends old new (race_text plan outcome races)
      → (left : Report) × (races : List Race) × HasRaces plan (outcomes.Deadlocked left) races × Appends old new (report_text plan (outcomes.Deadlocked left) ++ races_text plan races)
  by_deadlocked (outcomes.Done left) [] has is wrote = absurd cc
  by_deadlocked (outcomes.Done left) (race ∷ others) has is wrote = absurd cc
  by_deadlocked (outcomes.Misused left misuse) races has is wrote = absurd cc
  by_deadlocked (outcomes.Deadlocked left) races has is wrote = (left, races, has, wrote)

  pub deadlocked_left : EndsWithRaces plan old new endings.Deadlocked
      → (left : Report) × (races : List Race) × HasRaces plan (outcomes.Deadlocked left) races × Appends old new (report_text plan (outcomes.Deadlocked left) ++ races_text plan races)
  deadlocked_left ends = by_deadlocked ends.0 ends.1 ends.2 ends.3 ends.4

-- without races it ended as its outcome
pub without_races : (outcome : Outcome) → ending_with outcome [] ≡ ending_of outcome
without_races (outcomes.Done left) = refl
without_races (outcomes.Misused left misuse) = refl
without_races (outcomes.Deadlocked left) = refl

-- it ends alike with the variables and without them
same_ending : (variables : List VariableEnd) (outcome : Outcome) (races : List Race) → ending_with (with_variables variables outcome) races ≡ ending_with outcome races
same_ending variables (outcomes.Done left) [] = refl
same_ending variables (outcomes.Done left) (race ∷ races) = refl
same_ending variables (outcomes.Misused left misuse) races = refl
same_ending variables (outcomes.Deadlocked left) races = refl

module _ (plan : Plan) (old new : Option (List ℕ)) (outcome more : Outcome) (races : List Race) (has : HasRaces plan outcome races) (with : more ≡ with_variables (variables_left plan) outcome) where
  written : report_with_races plan more races ≡ race_text plan outcome races
  written = ap (λ (o : Outcome). report_with_races plan o races) with

  -- what was written of an outcome with its variables
  pub ends_with_races : (ending : Ending) → ending ≡ ending_with more races → Appends old new (report_with_races plan more races) → EndsWithRaces plan old new ending
  ends_with_races ending is wrote =
      (outcome, races, has, is ∙ ap (λ (o : Outcome). ending_with o races) with ∙ same_ending (variables_left plan) outcome races, subst (Appends old new) written wrote)

  pub fails_with_races : AppendsFront old new (report_with_races plan more races) → FailsWithRaces plan old new faults.CannotWrite
  fails_with_races cut = (outcome, races, has, subst (AppendsFront old new) written cut)
