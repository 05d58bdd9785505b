use Rattle.std.proofs.Common.{◌≡◌, List, map, slice_get, sym, ap, ◌∙◌, subst, arith}
use Rattle.sync_model.specs.Journal.{TimesRise}
use Rattle.run_record.specs.declared.made.Made.{Made}
use Rattle.run_record.specs.Record.{ObjectEntry, journal_of, entries_in}
use Rattle.kept_record.specs.Keeping.{Act, entries_on, opened, account_of}
use Rattle.step_runner.specs.Traces.{trace_of}
use Rattle.scheduled_record.specs.RunActs.{run_acts, scheduled_record}
use Rattle.scheduled_record.specs.ToldItems.{told_of}
use Rattle.scheduled_record.proofs.EntryNumbers.{with_number, numbers_are, numbers_told, numbers_counted}
use Rattle.scheduled_record.proofs.ToldNumbers.{all_more}
use Rattle.scheduled_record.proofs.told_laws.entries_of_a_run_are_told_their_numbers.Goals as goal

pub returns : goal.returns
returns c plan worker object valid =
    let acts : List Act = run_acts plan (trace_of plan) in
    let journal : List ObjectEntry = journal_of (scheduled_record plan) object in
    let entries : List ObjectEntry = entries_on object (account_of plan acts).acts in
    let same : journal ≡ entries = c.a_record_has_what_was_made.ensures.journals plan acts object (c.the_acts_of_a_run_are_the_workloads.ensures plan valid) in
    let rise : TimesRise entries = subst TimesRise same ((c.each_entry_of_a_scheduled_run_stands_in_one_list.ensures.ordered plan valid).journals object) in
    numbers_told object (told_of plan worker)
    ∙ (ap (λ (l : List Made). map with_number (entries_in object l)) (c.the_items_of_a_run_are_lines_of_its_record.ensures.lists plan worker valid)
    ∙ (ap (map with_number) (c.each_entry_of_a_scheduled_run_stands_in_one_list.ensures.once plan worker object valid)
    ∙ numbers_counted worker 0 journal (λ k x at.
    let number = numbers_are object (account_of plan acts).acts (all_more (opened plan) acts tt) rise k x (ap (λ (l : List ObjectEntry). slice_get l k) (sym same) ∙ at) in
    omega (arith, number))))
