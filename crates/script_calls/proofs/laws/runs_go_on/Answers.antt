use Rattle.script_calls.proofs.RunLemmas.{left_more, made_more, along_more, few}
use Rattle.script_calls.proofs.laws.runs_go_on.Goals as goal

pub returns-clause-left : goal.returns-clause-left
returns-clause-left g c = left_more

pub returns-clause-made : goal.returns-clause-made
returns-clause-made g c = made_more

pub returns-clause-along : goal.returns-clause-along
returns-clause-along g c = along_more

pub returns-clause-few : goal.returns-clause-few
returns-clause-few g c = few
