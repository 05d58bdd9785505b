use Rattle.gosync_call.proofs.Statuses.{of_calls}
use Rattle.gosync_call.proofs.laws.statuses.a_status_tells_whether_workers_made_calls.Goals as goal

pub returns : goal.returns
returns c status = of_calls status
