use Rattle.run_record.specs.Record.{list_of}
use Rattle.kept_record.specs.Keeping.{made_by}
use Rattle.step_runner.specs.Traces.{items_told, trace_of}
use Rattle.scheduled_record.specs.RunActs.{run_acts, scheduled_record}
use Rattle.scheduled_record.proofs.Begun.{run_begun, begun_in}
use Rattle.scheduled_record.proofs.laws.a_step_of_a_scheduled_run_follows_its_begin.Goals as goal

pub returns : goal.returns
returns c plan worker j b x valid at is = begun_in (made_by worker (run_acts plan (trace_of plan))) (list_of (scheduled_record plan) worker)
    (c.a_record_has_what_was_made.ensures.alike plan (run_acts plan (trace_of plan)) worker (c.the_acts_of_a_run_are_the_workloads.ensures plan valid))
    (run_begun plan worker (items_told (trace_of plan))) j b x at is
