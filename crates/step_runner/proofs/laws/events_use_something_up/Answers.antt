use Rattle.std.proofs.Common.{ℕ, subst}
use Rattle.workload.specs.Plan.{Plan}
use Rattle.step_runner.specs.State.{State, IsStateOf}
use Rattle.step_runner.specs.Turns.{turn_of}
use Rattle.step_runner.proofs.TurnLemmas.{StepUses, turn_used}
use Rattle.step_runner.proofs.laws.events_use_something_up.Goals as goal

used : goal.After-runs_go_on → (plan : Plan) (worker : ℕ) (s : State) → IsStateOf plan s → StepUses plan s (turn_of plan worker s)
used c = turn_used (record { left = c.runs_go_on.ensures.left; made = c.runs_go_on.ensures.made; few = c.runs_go_on.ensures.few }) (record { uses = c.something_is_used_up.ensures.uses; few = c.something_is_used_up.ensures.few })

pub returns-clause-still : goal.returns-clause-still
returns-clause-still c plan worker old new of is = subst (StepUses plan old) is (used c plan worker old of)

pub returns-clause-made : goal.returns-clause-made
returns-clause-made c plan worker old new of is = subst (StepUses plan old) is (used c plan worker old of)

pub returns-clause-misused : goal.returns-clause-misused
returns-clause-misused c plan worker old new misuse of is = subst (StepUses plan old) is (used c plan worker old of)
