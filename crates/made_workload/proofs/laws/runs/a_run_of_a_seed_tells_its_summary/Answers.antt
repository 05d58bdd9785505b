use Rattle.std.proofs.Common.{subst}
use Rattle.script_calls.specs.declared.outcome.Outcome.{Outcome}
use Rattle.run_record.specs.Explains.{Explains}
use Rattle.made_workload.specs.Generated.{generated_plan}
use Rattle.made_workload.proofs.laws.runs.a_run_of_a_seed_tells_its_summary.Goals as goal

pub returns : goal.returns
returns c seed outcome r explains =
    let done = c.no_run_of_a_seed_is_misused.ensures seed outcome r explains in
    (done.0, done.1, c.every_run_of_a_seed_comes_to_its_summary.ensures.lines seed done.0 r (subst (λ (o : Outcome). Explains (generated_plan seed) o r) done.1 explains))
