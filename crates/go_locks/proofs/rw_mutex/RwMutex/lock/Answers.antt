use Rattle.std.proofs.Common.{sym, ◌∙◌}
use Rattle.protocols.specs.declared.rw_mutex.RwMutexStage.TheVariants as stage
use Rattle.protocols.specs.RwMutexStages.{rw_gains}
use Rattle.go_locks.proofs.CallSpelling.{lock_halted}
use Rattle.go_locks.proofs.RwSpelling.{write_lock_did}
use Rattle.go_locks.proofs.rw_mutex.RwMutex.lock.Goals as goal

pub returns-clause-events : goal.returns-clause-events
returns-clause-events g c = write_lock_did (g.C.Clock.shows c.args.at.now.clock.now) c.locked.ensures c.call_timed.ensures.events

pub returns-clause-halted : goal.returns-clause-halted
returns-clause-halted g c misuse is = c.call_timed.ensures.no_edge (lock_halted (rw_gains stage.Lock) c.call_timed.result misuse (sym c.locked.ensures ∙ is))
