use Rattle.std.proofs.Common.{◌+◌, ℕ, length, ap}
use Rattle.script_calls.specs.Outcome.{left_by}
use Rattle.run_report.specs.ReportText.{outcome_ends}
use Rattle.run_report.proofs.Shown.{completed, shows, shows_calls}
use Rattle.run_report.proofs.laws.a_report_has_a_line_for_each_call_and_end.Goals as goal

pub returns-clause-done : goal.returns-clause-done
returns-clause-done c plan left made = shows plan c.calls_keep_their_places.ensures.place left.replies left.ends made

pub returns-clause-misused : goal.returns-clause-misused
returns-clause-misused c plan left misuse made = shows_calls plan c.calls_keep_their_places.ensures.place left.replies made

pub returns-clause-deadlocked : goal.returns-clause-deadlocked
returns-clause-deadlocked c plan left made = shows_calls plan c.calls_keep_their_places.ensures.place left.replies made

pub returns-clause-count : goal.returns-clause-count
returns-clause-count c plan outcome made = ap (λ (n : ℕ). n + length (outcome_ends outcome)) (completed plan.scripts (left_by outcome).replies made)
