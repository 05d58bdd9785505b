use Rattle.std.proofs.Common.{◌≡◌, ℕ, true, false, sym, subst}
use Rattle.workload.specs.Plan.{Plan, is_valid}
use Rattle.run_record.specs.declared.made.Made.{Made}
use Rattle.run_record.specs.Record.{list_of}
use Rattle.record_clauses.specs.Lists.{is_halt}
use Rattle.step_runner.specs.Traces.{items_told, trace_of}
use Rattle.scheduled_record.specs.RunActs.{run_acts, scheduled_record}
use Rattle.scheduled_record.specs.ToldItems.{told_of}
use Rattle.scheduled_record.proofs.Adding.{all_at}
use Rattle.scheduled_record.proofs.NoHalts.{NoHalts, no_halts, none_aside, calls_kept}
use Rattle.scheduled_record.proofs.told_laws.no_item_of_a_run_is_a_halt.Goals as goal

none : (c : goal.After-a_record_has_what_was_made) (plan : Plan) (worker : ℕ) → is_valid plan ≡ true → NoHalts (list_of (scheduled_record plan) worker)
none c plan worker valid =
    no_halts plan worker (items_told (trace_of plan)) (list_of (scheduled_record plan) worker)
    (c.a_record_has_what_was_made.ensures.alike plan (run_acts plan (trace_of plan)) worker (c.the_acts_of_a_run_are_the_workloads.ensures plan valid))

pub returns-clause-each : goal.returns-clause-each
returns-clause-each c plan worker place x valid at = all_at (λ (y : Made). is_halt y ≡ false) (list_of (scheduled_record plan) worker) place x (none c plan worker valid) at

pub returns-clause-whole : goal.returns-clause-whole
returns-clause-whole c plan worker valid = none_aside (list_of (scheduled_record plan) worker) (none c plan worker valid)

pub returns-clause-told : goal.returns-clause-told
returns-clause-told c plan worker valid = calls_kept (told_of plan worker) (subst NoHalts (sym (c.the_items_of_a_run_are_lines_of_its_record.ensures.lists plan worker valid)) (none c plan worker valid))
