use Rattle.flight_core.proofs.Sharing.{tells-joined}
use Rattle.flight_core.proofs.laws.tells_whether_it_was_shared.Goals as goal

pub returns-clause-joined : goal.returns-clause-joined
returns-clause-joined c = tells-joined c.logs_go_on.ensures.apart
