use Rattle.std.proofs.Common.{refl, ◌∙◌}
use Rattle.rw_core.specs.declared.event.RwEvent.TheVariants as event
use Rattle.protocols.specs.declared.rw_mutex.RwMutexStage.TheVariants as stage
use Rattle.protocols.specs.RwMutexStages.{rw_gains}
use Rattle.go_locks.proofs.CallSpelling.{try_fails}
use Rattle.go_locks.proofs.RwSpelling.{try_did}
use Rattle.go_locks.proofs.rw_mutex.RwMutex.try_r_lock.Goals as goal

pub returns-clause-events : goal.returns-clause-events
returns-clause-events g c = try_did (g.C.Clock.shows c.args.at.now.clock.now) stage.TryRLock event.ReadTry (λ now. refl) (λ reply. refl) c.tried.ensures c.call.ensures.events

pub returns-clause-no_edge : goal.returns-clause-no_edge
returns-clause-no_edge g c fails = c.call.ensures.no_edge (try_fails (rw_gains stage.TryRLock) refl refl c.call.result (λ is. fails (c.tried.ensures ∙ is)))
