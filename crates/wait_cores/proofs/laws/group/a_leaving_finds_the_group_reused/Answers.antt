use Rattle.wait_cores.proofs.GroupReuse.{reused_above_zero, returns_at_zero}
use Rattle.wait_cores.proofs.laws.group.a_leaving_finds_the_group_reused.Goals as goal

pub returns-clause-reused : goal.returns-clause-reused
returns-clause-reused c callers caller log below released = reused_above_zero callers caller log below released

pub returns-clause-returned : goal.returns-clause-returned
returns-clause-returned c callers caller log below released = returns_at_zero callers caller log below released
