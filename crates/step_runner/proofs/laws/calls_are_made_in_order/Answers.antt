use Rattle.std.proofs.Common.{get_or, [], ◌∙◌}
use Rattle.step_runner.specs.State.{start}
use Rattle.step_runner.specs.Turns.{after_items}
use Rattle.step_runner.proofs.MadeLemmas.{made_in_order}
use Rattle.step_runner.proofs.ScriptRuns.{GoesFurther, no_test}
use Rattle.step_runner.proofs.laws.calls_are_made_in_order.Goals as goal

abbrev further : goal.After-a_script_without_tests_is_its_own_run → GoesFurther
further c = record { left = c.runs_go_on.ensures.left; made = c.runs_go_on.ensures.made; few = c.runs_go_on.ensures.few }

pub returns-clause-made : goal.returns-clause-made
returns-clause-made c plan items worker valid = made_in_order (further c) plan (c.validity.ensures.goes_on plan) items worker (c.validity.ensures.begins plan valid)

pub returns-clause-straight : goal.returns-clause-straight
returns-clause-straight c plan items worker valid straight =
    made_in_order (further c) plan (c.validity.ensures.goes_on plan) items worker (c.validity.ensures.begins plan valid)
    ∙ c.a_script_without_tests_is_its_own_run.ensures.made (get_or plan.scripts worker []) (get_or (after_items plan items (start plan)).replies worker []) (no_test plan.scripts worker straight)
