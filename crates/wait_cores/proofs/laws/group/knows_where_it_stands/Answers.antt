use Rattle.wait_cores.proofs.GroupStandingLemmas.{knows-own, knows-others, knows-answers, same-callers, waits-first}
use Rattle.wait_cores.proofs.laws.group.knows_where_it_stands.Goals as goal

pub returns-clause-own : goal.returns-clause-own
returns-clause-own c = knows-own

pub returns-clause-others : goal.returns-clause-others
returns-clause-others c = knows-others

pub returns-clause-answers : goal.returns-clause-answers
returns-clause-answers c = knows-answers

pub returns-clause-callers : goal.returns-clause-callers
returns-clause-callers c = same-callers

pub returns-clause-first : goal.returns-clause-first
returns-clause-first c = waits-first
