use Rattle.step_runner.specs.Traces.{trace_of}
use Rattle.scheduled_record.specs.RunActs.{run_acts}
use Rattle.scheduled_record.proofs.laws.the_journals_of_a_scheduled_run_keep_the_edge_law.Goals as goal

pub returns : goal.returns
returns c plan object valid = c.who_acquires_knows_what_was_released.ensures plan (run_acts plan (trace_of plan)) object (c.the_acts_of_a_run_are_the_workloads.ensures plan valid)
