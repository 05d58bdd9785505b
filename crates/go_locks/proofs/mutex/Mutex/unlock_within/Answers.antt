use Rattle.go_locks.proofs.CallSpelling.{unlock_gains}
use Rattle.go_locks.proofs.MutexSpelling.{unlock_did}
use Rattle.go_locks.proofs.mutex.Mutex.unlock_within.Goals as goal

pub returns-clause-events : goal.returns-clause-events
returns-clause-events g c = unlock_did (g.C.Clock.shows c.args.at.now.clock.now) c.unlocked.ensures c.call_within.ensures.events

pub returns-clause-no_edge : goal.returns-clause-no_edge
returns-clause-no_edge g c = c.call_within.ensures.no_edge (unlock_gains c.call_within.result)
