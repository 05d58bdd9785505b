use Rattle.step_runner.specs.Traces.{trace_of}
use Rattle.scheduled_record.specs.RunActs.{run_acts}
use Rattle.scheduled_record.proofs.laws.each_entry_of_a_scheduled_run_stands_in_one_list.Goals as goal

pub returns-clause-once : goal.returns-clause-once
returns-clause-once c plan worker object valid = c.each_entry_stands_in_one_list.ensures plan (run_acts plan (trace_of plan)) worker object (c.the_acts_of_a_run_are_the_workloads.ensures plan valid)

pub returns-clause-ordered : goal.returns-clause-ordered
returns-clause-ordered c plan valid = c.all_that_was_made_stands_in_one_order.ensures plan (run_acts plan (trace_of plan)) (c.the_acts_of_a_run_are_the_workloads.ensures plan valid)
