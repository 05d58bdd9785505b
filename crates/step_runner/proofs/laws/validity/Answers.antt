use Rattle.step_runner.specs.State.{start}
use Rattle.step_runner.proofs.ScriptRuns.{GoesFurther}
use Rattle.step_runner.proofs.StartLemmas.{start_is}
use Rattle.step_runner.proofs.TurnLemmas.{TurnsKeep, TurnsUse, turn_valid}
use Rattle.step_runner.proofs.RunLemmas.{items_valid}
use Rattle.step_runner.proofs.laws.validity.Goals as goal

abbrev keep : goal.After-runs_go_on → TurnsKeep
keep c = record { kinds = c.kinds_and_machines_are_kept.ensures.kinds; machines = c.kinds_and_machines_are_kept.ensures.machines }

abbrev uses : goal.After-runs_go_on → TurnsUse
uses c = record { uses = c.something_is_used_up.ensures.uses; few = c.something_is_used_up.ensures.few }

abbrev further : goal.After-runs_go_on → GoesFurther
further c = record { left = c.runs_go_on.ensures.left; made = c.runs_go_on.ensures.made; few = c.runs_go_on.ensures.few }

pub returns-clause-begins : goal.returns-clause-begins
returns-clause-begins c = start_is c.turns_keep_kinds_and_machines.ensures.begins

pub returns-clause-goes_on : goal.returns-clause-goes_on
returns-clause-goes_on c = turn_valid (keep c) (uses c) (further c)

pub returns-clause-always : goal.returns-clause-always
returns-clause-always c plan items valid = items_valid plan (turn_valid (keep c) (uses c) (further c) plan) items (start plan) (start_is c.turns_keep_kinds_and_machines.ensures.begins plan valid)
