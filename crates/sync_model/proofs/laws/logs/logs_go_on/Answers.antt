use Rattle.sync_model.proofs.Logs.{after_both, follows_apart, follows_joined}
use Rattle.sync_model.proofs.laws.logs.logs_go_on.Goals as goal

pub returns-clause-after : goal.returns-clause-after
returns-clause-after g c = after_both g.M.Machine.next

pub returns-clause-apart : goal.returns-clause-apart
returns-clause-apart g c = follows_apart g.M.Machine.next

pub returns-clause-joined : goal.returns-clause-joined
returns-clause-joined g c = follows_joined g.M.Machine.next
