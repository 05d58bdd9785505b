use Rattle.wait_cores.proofs.NotifyStandingLemmas.{knows-own, knows-others, stays-without, has-first}
use Rattle.wait_cores.proofs.laws.notify.knows_where_it_stands.Goals as goal

pub returns-clause-own : goal.returns-clause-own
returns-clause-own c = knows-own

pub returns-clause-others : goal.returns-clause-others
returns-clause-others c = knows-others

pub returns-clause-leaving : goal.returns-clause-leaving
returns-clause-leaving c = stays-without

pub returns-clause-first : goal.returns-clause-first
returns-clause-first c = has-first
