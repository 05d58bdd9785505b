-- What a run of a made workload comes to.
use Rattle.std.specs.Prelude.{sum_by, count_by, length}
use Rattle.script_calls.specs.declared.outcome.Report.{Report}
use Rattle.made_workload.specs.Runs.{number_in, is_key, value_in}
use Rattle.made_workload.specs.declared.totals.Totals.{Totals}

-- what a run that left this behind comes to
abbrev pub totals_of : Report → Totals
totals_of left = record {
  workers = length left.replies;
  calls = sum_by length left.replies;
  total = sum_by number_in left.ends;
  keys = count_by is_key left.ends;
  sum = sum_by value_in left.ends;
}
