use Rattle.run_check.proofs.ReportStage.{Laws, entries_there, few_shown, keys_there, report_stage}
use Rattle.run_check.proofs.outcome.what_a_run_came_to_is_known.Goals as goal

laws : (c : goal.After-keys_are_numbered_by_first_appearance) → Laws
laws c = record {
  blind = c.a_spelling_is_blind.ensures.lines;
  order = c.a_range_replies_in_one_order.ensures.replies;
  apart = c.a_range_replies_in_one_order.ensures.apart;
  shows = c.a_cursor_shows_the_workloads_keys.ensures;
  lawful = c.the_clauses_are_put_together_part_by_part.ensures.lawful;
  lines = c.the_clauses_are_put_together_part_by_part.ensures.lines;
  agrees = c.the_clauses_are_put_together_part_by_part.ensures.agrees;
  one_history = c.calls_have_one_history.ensures;
  few_pairs = c.a_range_shows_no_key_twice.ensures;
  own_keys = c.maps_end_with_the_workloads_keys.ensures;
  count = c.keys_are_numbered_by_first_appearance.ensures.count;
}

pub returns-clause-on : goal.returns-clause-on
returns-clause-on c told found marked history claim n entry is at = entries_there (laws c) told found marked history claim is n entry at

pub returns-clause-keys : goal.returns-clause-keys
returns-clause-keys c told found marked history claim is = keys_there (laws c) told found marked history claim is

pub returns-clause-pairs : goal.returns-clause-pairs
returns-clause-pairs c told found marked history claim is = few_shown (laws c) told found marked history claim is

pub returns-clause-workers : goal.returns-clause-workers
returns-clause-workers c told found marked history claim is = is.is.spelt.lines

pub returns-clause-report : goal.returns-clause-report
returns-clause-report c told found marked history claim is = report_stage (laws c) told found marked history claim is
