use Rattle.std.proofs.Common.{◌≡◌, ℕ, true, List, ◌++◌, slice_get, sym, ap, ◌∙◌}
use Rattle.std.specs.Option.{option_to_list}
use Rattle.workload.specs.Plan.{Plan, is_valid}
use Rattle.workload.specs.declared.turn.Turn.{Turn}
use Rattle.step_runner.specs.declared.trace.TraceItem.{TraceItem}
use Rattle.step_runner.specs.Outcomes.{rounds}
use Rattle.run_record.specs.declared.made.Made.{Made}
use Rattle.run_record.specs.declared.made.Made.TheVariants.{Shared, Entered}
use Rattle.run_record.specs.Record.{ObjectEntry}
use Rattle.record_text.specs.LawfulItems.{IsNumbered}
use Rattle.record_text.specs.Written.{item_line}
use Rattle.kept_record.specs.Keeping.{Act, made_by, entries_on, account_of}
use Rattle.step_runner.specs.Traces.{trace_of}
use Rattle.scheduled_record.specs.RunActs.{run_acts, scheduled_record}
use Rattle.scheduled_record.specs.ToldItems.{acts_in, told_run, kept_told, number_of}
use Rattle.scheduled_record.proofs.Adding.{run_told}
use Rattle.scheduled_record.proofs.ToldLemmas.{kept_lists, worker_lines, own_worker}
use Rattle.scheduled_record.proofs.ToldPlaces.{told_there}
use Rattle.scheduled_record.proofs.ToldNumbers.{StandsIn, stands}
use Rattle.scheduled_record.proofs.laws.the_items_of_a_run_are_lines_of_its_record.Goals as goal

pub returns-clause-acts : goal.returns-clause-acts
returns-clause-acts c plan = run_told plan (trace_of plan)

pub returns-clause-lists : goal.returns-clause-lists
returns-clause-lists c plan worker valid =
    kept_lists plan worker (told_run plan (trace_of plan))
    ∙ (ap (λ (acts : List Act). made_by worker (account_of plan acts).acts) (run_told plan (trace_of plan))
    ∙ sym (c.a_record_has_what_was_made.ensures.lists plan (run_acts plan (trace_of plan)) worker (c.the_acts_of_a_run_are_the_workloads.ensures plan valid)))

pub returns-clause-lines : goal.returns-clause-lines
returns-clause-lines c plan worker = worker_lines worker (kept_told plan (told_run plan (trace_of plan)))

pub returns-clause-own : goal.returns-clause-own
returns-clause-own c plan worker place t at = ap (λ (w : ℕ). option_to_list (item_line w t.index (number_of t.act.made) t.act.made)) (own_worker worker (kept_told plan (told_run plan (trace_of plan))) place t at)

module _ (c : goal.After-a_record_has_what_was_made) (plan : Plan) (valid : is_valid plan ≡ true) where
  numbered : (made : Made) → StandsIn (account_of plan (acts_in (told_run plan (trace_of plan)))).acts made → IsNumbered (scheduled_record plan) (number_of made) made
  numbered (Shared x) here = tt
  numbered (Entered object entry) here =
      ap (λ (l : List ObjectEntry). slice_get l entry.knew) (c.a_record_has_what_was_made.ensures.journals plan (run_acts plan (trace_of plan)) object (c.the_acts_of_a_run_are_the_workloads.ensures plan valid))
      ∙ (ap (λ (acts : List Act). slice_get (entries_on object (account_of plan acts).acts) entry.knew) (sym (run_told plan (trace_of plan))) ∙ here)

pub returns-clause-numbers : goal.returns-clause-numbers
returns-clause-numbers c plan worker place t valid at = numbered c plan valid t.act.made (stands plan worker (told_run plan (trace_of plan)) place t at)

pub returns-clause-places : goal.returns-clause-places
returns-clause-places c plan worker place t valid at =
    let whole = c.a_trace_tells_what_turns_made.ensures.whole plan in
    let turns : List Turn = plan.schedule ++ rounds whole.0 plan.workers in
    told_there plan (trace_of plan)
    (λ number one at_one.
    let here = ap (λ (trace : List TraceItem). slice_get trace number) (sym whole.1) ∙ at_one in
    (c.a_trace_tells_what_turns_made.ensures.places plan turns number one here, c.a_trace_tells_what_turns_made.ensures.callers plan turns number one here))
    (c.a_record_has_what_was_made.ensures.acts plan (acts_in (told_run plan (trace_of plan)))) worker place t at
