use Rattle.std.proofs.Common.{◌∷◌}
use Rattle.wait_cores.specs.NotifyLaws.{ticket_by}
use Rattle.wait_cores.specs.NotifyMachine.{start}
use Rattle.wait_cores.proofs.NotifyLemmas.{notifies_in_order}
use Rattle.wait_cores.proofs.laws.notify.notifies_in_order.Goals as goal

pub returns : goal.returns
returns c callers before between caller is few others enough =
    let later = ticket_by caller ∷ between in
    let parts = c.logs_go_on.ensures.apart (start callers) before later is in
    rw (c.logs_go_on.ensures.after (start callers) before later) (notifies_in_order callers before between caller parts.0 parts.1 few others enough)
