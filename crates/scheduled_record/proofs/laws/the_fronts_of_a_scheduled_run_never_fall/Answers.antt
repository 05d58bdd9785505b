use Rattle.step_runner.specs.Traces.{trace_of}
use Rattle.scheduled_record.specs.RunActs.{run_acts}
use Rattle.scheduled_record.proofs.laws.the_fronts_of_a_scheduled_run_never_fall.Goals as goal

pub returns-clause-fall : goal.returns-clause-fall
returns-clause-fall c plan valid = c.no_front_falls.ensures plan (run_acts plan (trace_of plan)) (c.the_acts_of_a_run_are_the_workloads.ensures plan valid)

pub returns-clause-wide : goal.returns-clause-wide
returns-clause-wide c plan worker i x valid at = c.a_front_has_a_number_for_each_worker.ensures plan (run_acts plan (trace_of plan)) worker i x (c.the_acts_of_a_run_are_the_workloads.ensures plan valid) at
