use Rattle.std.proofs.Common.{List, sym, ◌∙◌, subst}
use Rattle.std.specs.List.{range_with_len}
use Rattle.std.proofs.lemmas.List.{length-map}
use Rattle.std.proofs.lemmas.List.Elements.{All-nil}
use Rattle.std.proofs.lemmas.List.FromFn.{length-range_with_len}
use Rattle.run_record.specs.Journals.{IsStops}
use Rattle.run_record.specs.Objects.{object_count}
use Rattle.run_record.specs.Record.{ObjectEntry, stop, journal_of}
use Rattle.kept_record.specs.Keeping.{entries_on, account_of}
use Rattle.step_runner.specs.Traces.{items_told, trace_of}
use Rattle.scheduled_record.specs.RunActs.{run_acts, scheduled_record}
use Rattle.scheduled_record.proofs.Journals.{nothing}
use Rattle.scheduled_record.proofs.NoHalts.{nothing_on_stop}
use Rattle.scheduled_record.proofs.laws.a_scheduled_run_halts_nothing.Goals as goal

pub returns-clause-stop : goal.returns-clause-stop
returns-clause-stop c plan valid =
    nothing (journal_of (scheduled_record plan) stop)
    (c.a_record_has_what_was_made.ensures.deeds plan (run_acts plan (trace_of plan)) stop (c.the_acts_of_a_run_are_the_workloads.ensures plan valid) ∙ nothing_on_stop plan (items_told (trace_of plan)))

pub returns-clause-stops : goal.returns-clause-stops
returns-clause-stops c plan valid = subst (λ (l : List ObjectEntry). IsStops l) (sym (returns-clause-stop c plan valid)) (All-nil _)

pub returns-clause-objects : goal.returns-clause-objects
returns-clause-objects c plan = length-map (range_with_len 0 (object_count plan)) (λ object. entries_on object (account_of plan (run_acts plan (trace_of plan))).acts) ∙ length-range_with_len 0 (object_count plan)
