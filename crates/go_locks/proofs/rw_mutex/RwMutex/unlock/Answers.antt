use Rattle.std.proofs.Common.{refl}
use Rattle.rw_core.specs.declared.event.RwEvent.TheVariants as event
use Rattle.protocols.specs.declared.rw_mutex.RwMutexStage.TheVariants as stage
use Rattle.go_locks.proofs.CallSpelling.{unlock_gains}
use Rattle.go_locks.proofs.RwSpelling.{unlock_did}
use Rattle.go_locks.proofs.rw_mutex.RwMutex.unlock.Goals as goal

pub returns-clause-events : goal.returns-clause-events
returns-clause-events g c = unlock_did (g.C.Clock.shows c.args.at.now.clock.now) stage.Unlock event.WriteUnlock (λ now. refl) (λ reply. refl) c.unlocked.ensures c.call.ensures.events

pub returns-clause-no_edge : goal.returns-clause-no_edge
returns-clause-no_edge g c = c.call.ensures.no_edge (unlock_gains c.call.result)
