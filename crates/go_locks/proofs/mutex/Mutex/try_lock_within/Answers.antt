use Rattle.std.proofs.Common.{refl, ◌∙◌}
use Rattle.protocols.specs.declared.mutex.MutexStage.TheVariants as stage
use Rattle.protocols.specs.MutexStages.{mutex_gains}
use Rattle.go_locks.proofs.CallSpelling.{try_fails}
use Rattle.go_locks.proofs.MutexSpelling.{try_did}
use Rattle.go_locks.proofs.mutex.Mutex.try_lock_within.Goals as goal

pub returns-clause-events : goal.returns-clause-events
returns-clause-events g c = try_did (g.C.Clock.shows c.args.at.now.clock.now) c.tried.ensures c.call_within.ensures.events

pub returns-clause-no_edge : goal.returns-clause-no_edge
returns-clause-no_edge g c fails = c.call_within.ensures.no_edge (try_fails (mutex_gains stage.TryLock) refl refl c.call_within.result (λ is. fails (c.tried.ensures ∙ is)))
