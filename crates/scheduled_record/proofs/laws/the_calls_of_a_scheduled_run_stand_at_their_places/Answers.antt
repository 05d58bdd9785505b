use Rattle.step_runner.specs.Traces.{trace_of}
use Rattle.scheduled_record.specs.RunActs.{run_acts}
use Rattle.scheduled_record.proofs.laws.the_calls_of_a_scheduled_run_stand_at_their_places.Goals as goal

pub returns-clause-marked : goal.returns-clause-marked
returns-clause-marked c plan worker valid = c.each_entry_of_the_history_is_one_call.ensures plan (run_acts plan (trace_of plan)) worker (c.the_acts_of_a_run_are_the_workloads.ensures plan valid)

pub returns-clause-place : goal.returns-clause-place
returns-clause-place c plan worker j x valid at = c.a_call_lies_behind_what_its_worker_knew.ensures.place plan (run_acts plan (trace_of plan)) worker j x (c.the_acts_of_a_run_are_the_workloads.ensures plan valid) at

pub returns-clause-entry : goal.returns-clause-entry
returns-clause-entry c plan worker j x valid at = c.a_call_lies_behind_what_its_worker_knew.ensures.entry plan (run_acts plan (trace_of plan)) worker j x (c.the_acts_of_a_run_are_the_workloads.ensures plan valid) at

pub returns-clause-knows : goal.returns-clause-knows
returns-clause-knows c plan worker j x valid at = c.a_call_lies_behind_what_its_worker_knew.ensures.knows plan (run_acts plan (trace_of plan)) worker j x (c.the_acts_of_a_run_are_the_workloads.ensures plan valid) at

pub returns-clause-own : goal.returns-clause-own
returns-clause-own c plan worker j x valid at = c.a_call_lies_behind_what_its_worker_knew.ensures.own plan (run_acts plan (trace_of plan)) worker j x (c.the_acts_of_a_run_are_the_workloads.ensures plan valid) at

pub returns-clause-rises : goal.returns-clause-rises
returns-clause-rises c plan worker i j x y valid before at_x at_y = c.a_call_lies_behind_what_its_worker_knew.ensures.rises plan (run_acts plan (trace_of plan)) worker i j x y (c.the_acts_of_a_run_are_the_workloads.ensures plan valid) before at_x at_y
