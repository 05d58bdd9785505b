use Rattle.script_calls.proofs.RunLemmas.{passed_renamed, left_renamed, made_renamed}
use Rattle.script_calls.proofs.laws.runs_do_not_hang_on_names.Goals as goal

pub returns-clause-passed : goal.returns-clause-passed
returns-clause-passed g c = passed_renamed

pub returns-clause-left : goal.returns-clause-left
returns-clause-left g c = left_renamed

pub returns-clause-made : goal.returns-clause-made
returns-clause-made g c = made_renamed
