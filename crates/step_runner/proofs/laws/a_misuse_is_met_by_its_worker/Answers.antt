use Rattle.step_runner.specs.State.{start}
use Rattle.step_runner.proofs.SpeltMisuse.{unmet, met}
use Rattle.step_runner.proofs.laws.a_misuse_is_met_by_its_worker.Goals as goal

pub returns-clause-none : goal.returns-clause-none
returns-clause-none c plan items worker is = unmet plan worker items (start plan) is

pub returns-clause-one : goal.returns-clause-one
returns-clause-one c plan items misuse is = met plan items (start plan) misuse is
