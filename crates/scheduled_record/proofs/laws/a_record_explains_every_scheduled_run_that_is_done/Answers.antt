use Rattle.script_calls.specs.declared.outcome.Outcome.TheVariants as outcomes
use Rattle.script_calls.specs.declared.outcome.Report.{Report}
use Rattle.workload.specs.Plan.{Plan}
use Rattle.workload.specs.Readable.{IsReadable}
use Rattle.run_record.specs.Explains.{IsRecordOf}
use Rattle.step_runner.specs.Outcomes.{StepsTo}
use Rattle.scheduled_record.specs.RunActs.{scheduled_record}
use Rattle.scheduled_record.proofs.laws.a_record_explains_every_scheduled_run_that_is_done.Goals as goal

lawful : (c : goal.After-the_starts_of_a_scheduled_run_follow_their_machine) (plan : Plan) → IsReadable plan → (report : Report) → StepsTo plan (outcomes.Done report) → IsRecordOf plan (scheduled_record plan)
lawful c plan readable report done = record {
  shared = record {
    legal = c.the_calls_of_a_scheduled_run_are_a_legal_history.ensures.legal plan readable.valid;
    marked = λ w. c.the_calls_of_a_scheduled_run_stand_at_their_places.ensures.marked plan w readable.valid;
    sound = λ w j x at. record {
      place = c.the_calls_of_a_scheduled_run_stand_at_their_places.ensures.place plan w j x readable.valid at;
      reply = c.the_calls_of_a_scheduled_run_are_a_legal_history.ensures.replies plan w j x readable.valid at;
      entry = c.the_calls_of_a_scheduled_run_stand_at_their_places.ensures.entry plan w j x readable.valid at;
      knows = c.the_calls_of_a_scheduled_run_stand_at_their_places.ensures.knows plan w j x readable.valid at;
      own = c.the_calls_of_a_scheduled_run_stand_at_their_places.ensures.own plan w j x readable.valid at;
      begun = λ b is. c.a_step_of_a_scheduled_run_follows_its_begin.ensures plan w j b x readable.valid at is;
    };
    rises = λ w i j x y before at_x at_y. c.the_calls_of_a_scheduled_run_stand_at_their_places.ensures.rises plan w i j x y readable.valid before at_x at_y;
    ranges = λ w b m x at is. c.the_cursors_of_a_scheduled_run_keep_the_range_law.ensures plan w b m x readable.valid at is;
  };
  objects = c.a_scheduled_run_halts_nothing.ensures.objects plan;
  stops = c.a_scheduled_run_halts_nothing.ensures.stops plan readable.valid;
  journals = λ place object at. c.the_journals_of_a_scheduled_run_follow_their_machines.ensures.objects plan place object readable at;
  parts = λ place part object at pool within. c.the_journals_of_a_scheduled_run_follow_their_machines.ensures.parts plan place part object readable.valid at pool within;
  starts = λ dormant. c.the_starts_of_a_scheduled_run_follow_their_machine.ensures plan report readable.valid dormant done;
  once = λ w object. c.each_entry_of_a_scheduled_run_stands_in_one_list.ensures.once plan w object readable.valid;
  fronts = c.the_fronts_of_a_scheduled_run_never_fall.ensures.fall plan readable.valid;
}

pub returns-clause-record : goal.returns-clause-record
returns-clause-record c plan readable report done = lawful c plan readable report done

pub returns-clause-explains : goal.returns-clause-explains
returns-clause-explains c plan readable plain report done =
    let lines = c.the_lists_of_a_scheduled_run_spell_its_calls.ensures plan report readable.valid plain done in
    record { lines = lines.0; are = lines.1; lawful = lawful c plan readable report done; agrees = (lines.2, c.the_calls_of_a_scheduled_run_are_a_legal_history.ensures.ends plan report readable.valid done) }
