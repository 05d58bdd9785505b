use Rattle.step_runner.specs.Outcomes.{StepsTo}
use Rattle.gosync_call.proofs.Runs.{written_so}
use Rattle.gosync_call.proofs.step.run_by_schedule.Goals as goal

pub returns-in-Ok-stepped-clause-ran : goal.returns-in-Ok-stepped-clause-ran
returns-in-Ok-stepped-clause-ran g c =
    written_so StepsTo (g.O.Sink.contents c.args.out.now) (g.O.Sink.contents c.report_run.new.out)
    c.args.workload.now c.in-Ok-stepped.outcome c.report_run.result c.in-Ok-stepped.ensures.outcome c.report_run.ensures.written
