use Rattle.made_workload.specs.Generated.{generated_plan}
use Rattle.made_workload.proofs.RunRounds.{keeps, no_tests}
use Rattle.made_workload.proofs.laws.runs.no_run_of_a_seed_is_misused.Goals as goal

pub returns : goal.returns
returns c seed outcome r explains = c.an_orderly_workload_is_never_misused.ensures (generated_plan seed) outcome r (keeps seed) (no_tests seed) explains
