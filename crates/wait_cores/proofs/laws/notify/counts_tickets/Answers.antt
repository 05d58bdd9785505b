use Rattle.wait_cores.proofs.NotifyLemmas.{counts_tickets, notifies_taken}
use Rattle.wait_cores.proofs.laws.notify.counts_tickets.Goals as goal

pub returns-clause-taken : goal.returns-clause-taken
returns-clause-taken c = counts_tickets

pub returns-clause-notified : goal.returns-clause-notified
returns-clause-notified c = notifies_taken
