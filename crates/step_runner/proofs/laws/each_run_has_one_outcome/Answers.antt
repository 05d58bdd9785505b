use Rattle.std.proofs.Common.{refl, sym, ◌∙◌}
use Rattle.workload.specs.Plan.{Plan}
use Rattle.step_runner.specs.Computed.{turns}
use Rattle.step_runner.proofs.EndLemmas.{steps_is, is_steps, done_begun, done_made, done_replied}
use Rattle.step_runner.proofs.RunLemmas.{UsesUp, uses_up}
use Rattle.step_runner.proofs.laws.each_run_has_one_outcome.Goals as goal

uses : (c : goal.After-runs_do_not_hang_on_names) → (plan : Plan) → UsesUp plan
uses c plan = uses_up plan (c.events_use_something_up.ensures.still plan) (c.events_use_something_up.ensures.made plan) (c.events_use_something_up.ensures.misused plan)

pub returns-clause-exact : goal.returns-clause-exact
returns-clause-exact c plan outcome valid =
    (is_steps plan (c.validity.ensures.goes_on plan) (uses c plan) (c.validity.ensures.begins plan valid) outcome, steps_is plan (c.validity.ensures.goes_on plan) (uses c plan) (c.validity.ensures.begins plan valid) outcome)

pub returns-clause-one : goal.returns-clause-one
returns-clause-one c plan outcome other valid comes comes_too =
    sym (steps_is plan (c.validity.ensures.goes_on plan) (uses c plan) (c.validity.ensures.begins plan valid) outcome comes) ∙ steps_is plan (c.validity.ensures.goes_on plan) (uses c plan) (c.validity.ensures.begins plan valid) other comes_too

pub returns-clause-some : goal.returns-clause-some
returns-clause-some c plan valid = is_steps plan (c.validity.ensures.goes_on plan) (uses c plan) (c.validity.ensures.begins plan valid) (turns plan) refl

pub returns-clause-complete : goal.returns-clause-complete
returns-clause-complete c plan report worker valid live comes =
    done_made plan (c.validity.ensures.goes_on plan) (uses c plan) (record { left = c.runs_do_not_hang_on_names.ensures.left; made = c.runs_do_not_hang_on_names.ensures.made })
    (c.validity.ensures.begins plan valid) report comes worker live

pub returns-clause-begun : goal.returns-clause-begun
returns-clause-begun c plan report worker valid comes =
    done_begun plan (c.validity.ensures.goes_on plan) (uses c plan) (record { left = c.runs_do_not_hang_on_names.ensures.left; made = c.runs_do_not_hang_on_names.ensures.made })
    (c.validity.ensures.begins plan valid) report comes worker

pub returns-clause-straight : goal.returns-clause-straight
returns-clause-straight c plan report valid straight live comes =
    done_replied plan (c.validity.ensures.goes_on plan) (uses c plan) c.a_script_without_tests_is_its_own_run.ensures.left (c.validity.ensures.begins plan valid) straight live report comes
