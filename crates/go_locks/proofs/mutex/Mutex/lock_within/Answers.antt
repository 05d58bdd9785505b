use Rattle.std.proofs.Common.{sym, ◌∙◌}
use Rattle.protocols.specs.declared.mutex.MutexStage.TheVariants as stage
use Rattle.protocols.specs.MutexStages.{mutex_gains}
use Rattle.go_locks.proofs.CallSpelling.{lock_halted}
use Rattle.go_locks.proofs.MutexSpelling.{lock_did}
use Rattle.go_locks.proofs.mutex.Mutex.lock_within.Goals as goal

pub returns-clause-events : goal.returns-clause-events
returns-clause-events g c = lock_did (g.C.Clock.shows c.args.at.now.clock.now) c.locked.ensures c.call_within_timed.ensures.events

pub returns-clause-halted : goal.returns-clause-halted
returns-clause-halted g c misuse is = c.call_within_timed.ensures.no_edge (lock_halted (mutex_gains stage.Lock) c.call_within_timed.result misuse (sym c.locked.ensures ∙ is))
