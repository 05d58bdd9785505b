use Rattle.step_runner.specs.Traces.{trace_of}
use Rattle.scheduled_record.specs.RunActs.{run_acts}
use Rattle.scheduled_record.proofs.laws.the_fronts_of_a_scheduled_run_are_the_least.Goals as goal

pub returns : goal.returns
returns c plan other worker i x y valid same fronts edges at_x at_y =
    c.the_fronts_of_a_kept_record_are_the_least.ensures.least plan (run_acts plan (trace_of plan)) other worker i x y (c.the_acts_of_a_run_are_the_workloads.ensures plan valid) same fronts edges at_x at_y
