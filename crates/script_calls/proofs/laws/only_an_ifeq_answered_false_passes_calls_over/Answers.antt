use Rattle.script_calls.proofs.RunLemmas.{passes_so, passes_only}
use Rattle.script_calls.proofs.laws.only_an_ifeq_answered_false_passes_calls_over.Goals as goal

pub returns-clause-passes : goal.returns-clause-passes
returns-clause-passes g c = passes_so

pub returns-clause-only : goal.returns-clause-only
returns-clause-only g c = passes_only
