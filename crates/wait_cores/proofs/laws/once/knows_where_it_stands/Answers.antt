use Rattle.std.proofs.Common.{refl}
use Rattle.wait_cores.proofs.OnceStandingLemmas.{knows-own_wait, knows-own_run, knows-others_wait, knows-others_run, knows-answers, same-callers, waits-first}
use Rattle.wait_cores.proofs.laws.once.knows_where_it_stands.Goals as goal

pub returns-clause-own_wait : goal.returns-clause-own_wait
returns-clause-own_wait g c = knows-own_wait

pub returns-clause-own_run : goal.returns-clause-own_run
returns-clause-own_run g c = knows-own_run

pub returns-clause-others_wait : goal.returns-clause-others_wait
returns-clause-others_wait g c = knows-others_wait

pub returns-clause-others_run : goal.returns-clause-others_run
returns-clause-others_run g c = knows-others_run

pub returns-clause-answers : goal.returns-clause-answers
returns-clause-answers g c = knows-answers

pub returns-clause-callers : goal.returns-clause-callers
returns-clause-callers g c = same-callers

pub returns-clause-first : goal.returns-clause-first
returns-clause-first g c callers caller = (waits-first callers caller, refl)
