use Rattle.run_report.proofs.Straight.{lines_count, replies_few}
use Rattle.run_report.proofs.laws.without_tests_a_place_counts_completed_calls.Goals as goal

pub returns-clause-replies : goal.returns-clause-replies
returns-clause-replies c = replies_few c.a_script_without_tests_is_its_own_run.ensures.made

pub returns-clause-lines : goal.returns-clause-lines
returns-clause-lines c = lines_count c.a_script_without_tests_is_its_own_run.ensures.left
