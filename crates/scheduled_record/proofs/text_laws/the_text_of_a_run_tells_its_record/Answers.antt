use Rattle.std.proofs.Common.{true, nat_le, map, length, None, leb-true}
use Rattle.std.specs.List.{list_all}
use Rattle.workload.specs.Lines.{lines_of}
use Rattle.record_text.specs.declared.limits.TheConstants.{MAX_ITEMS, MAX_RECORD}
use Rattle.record_text.specs.ItemLines.{item_text}
use Rattle.record_text.specs.Told.{is_short_line}
use Rattle.scheduled_record.specs.Recorded.{done_report, done_text, has_short_lines}
use Rattle.scheduled_record.specs.ToldItems.{told_items}
use Rattle.scheduled_record.proofs.Gaining.{and_true}
use Rattle.scheduled_record.proofs.text_laws.the_text_of_a_run_tells_its_record.Goals as goal

pub returns : goal.returns
returns c plan left readable plain is =
    let variables = ((c.records_tell_of_all_but_variables_semaphores_and_flights.ensures plan).0 plain).0 in
    let in_range = c.the_items_of_a_run_are_in_range.ensures plan true left readable variables is in
    let items = told_items plan in
    let report = done_report plan left in
    let few = and_true (nat_le (length items) MAX_ITEMS) _ is.limits in
    let all = and_true (nat_le (length (done_text plan left)) MAX_RECORD) (has_short_lines plan items report) few.1 in
    let short = and_true (list_all is_short_line (map (item_text plan) items)) (list_all is_short_line (lines_of report)) all.1 in
    c.a_written_text_tells_what_was_written.ensures plan items None report readable plain in_range short.0 (leb-true (length items) MAX_ITEMS few.0) short.1 (leb-true (length (done_text plan left)) MAX_RECORD all.0)
