use Rattle.std.proofs.Common.{subst}
use Rattle.step_runner.specs.Outcomes.{StepsTo}
use Rattle.gosync_call.specs.Headline.{RunsTo}
use Rattle.gosync_call.specs.Races.{RacesTo}
use Rattle.gosync_call.specs.declared.status.Status.{Status}
use Rattle.gosync_call.proofs.Raced.{deadlocked_left, done_left, is_done, is_raced, misused_left, never_made_raced, never_raced, raced_left}
use Rattle.gosync_call.proofs.laws.races.a_status_tells_whether_there_are_races.Goals as goal

pub returns-clause-raced : goal.returns-clause-raced
returns-clause-raced c told old new status comes is =
    let ended = subst (λ (s : Status). RacesTo told old new s) (is_raced status is) comes in
    let raced = raced_left ended.0 old new ended.2 in
    (ended.0, raced.0, raced.1, raced.2, ended.1, raced.3, raced.4)

pub returns-clause-none : goal.returns-clause-none
returns-clause-none c told old new status comes is =
    let ended = is_done (λ (s : Status). RacesTo told old new s) status comes (λ judged. absurd judged) is in
    let done = done_left ended.0 old new ended.2 in
    (ended.0, done.0, ended.1, done.1, done.2)

pub returns-clause-misused : goal.returns-clause-misused
returns-clause-misused c told old new misuse comes =
    let left = misused_left comes.0 old new misuse comes.2 in
    (comes.0, left.0, left.1, comes.1, left.2, left.3)

pub returns-clause-deadlocked : goal.returns-clause-deadlocked
returns-clause-deadlocked c told old new comes =
    let left = deadlocked_left comes.0 old new comes.2 in
    (comes.0, left.0, left.1, comes.1, left.2, left.3)

pub returns-clause-step : goal.returns-clause-step
returns-clause-step c told old new status comes is = never_raced StepsTo told old new status comes is

pub returns-clause-run : goal.returns-clause-run
returns-clause-run c told old new status comes is = never_raced RunsTo told old new status comes is

pub returns-clause-make : goal.returns-clause-make
returns-clause-make c seed ran ran_now old new status makes is = never_made_raced seed ran ran_now old new status makes is
