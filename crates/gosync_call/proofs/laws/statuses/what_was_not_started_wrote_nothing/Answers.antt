use Rattle.step_runner.specs.Outcomes.{StepsTo}
use Rattle.workload.specs.declared.keyword.Dialect.TheVariants.{Plain, Races}
use Rattle.gosync_call.specs.Headline.{RunsTo}
use Rattle.gosync_call.specs.Races.{EndsWithRaces, FailsWithRaces}
use Rattle.gosync_call.specs.Traces.{EndsWithRecord, FailsWithRecord}
use Rattle.gosync_call.proofs.Statuses.{unmade, unwritten, unwritten_report}
use Rattle.gosync_call.proofs.laws.statuses.what_was_not_started_wrote_nothing.Goals as goal

pub returns-clause-with_threads : goal.returns-clause-with_threads
returns-clause-with_threads c told old new status comes unstarted = unwritten_report RunsTo told old new status comes unstarted

pub returns-clause-by_schedule : goal.returns-clause-by_schedule
returns-clause-by_schedule c told old new status comes unstarted = unwritten_report StepsTo told old new status comes unstarted

pub returns-clause-of_a_seed : goal.returns-clause-of_a_seed
returns-clause-of_a_seed c seed ran ran_now old new status makes unstarted = unmade seed ran ran_now old new status makes unstarted

pub returns-clause-with_races : goal.returns-clause-with_races
returns-clause-with_races c told old new status comes unstarted =
    unwritten Races (λ plan ending. EndsWithRaces plan old new ending) (λ plan fault. FailsWithRaces plan old new fault) told old new (λ plan same. same) (λ plan same. same) (λ plan never. absurd never) status comes unstarted

pub returns-clause-with_record : goal.returns-clause-with_record
returns-clause-with_record c told old new status comes unstarted =
    unwritten Plain (λ plan ending. EndsWithRecord plan old new ending) (λ plan fault. FailsWithRecord plan old new fault) told old new (λ plan same. same) (λ plan same. same) (λ plan long. long.1) status comes unstarted
