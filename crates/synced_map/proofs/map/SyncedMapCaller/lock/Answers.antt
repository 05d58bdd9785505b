use Rattle.go_locks.specs.Mutexes.{mutex_start}
use Rattle.synced_map.proofs.Keeping.{still_caller}
use Rattle.synced_map.proofs.LockTelling.{lock_knows}
use Rattle.synced_map.proofs.map.SyncedMapCaller.lock.Goals as goal

pub returns-clause-told : goal.returns-clause-told
returns-clause-told g c = lock_knows (mutex_start c.args.self.now.map.now.mutex) (g.C.Clock.shows c.args.self.now.clock.now) c.ready.new.pass c.lock.new.pass _ _ c.lock.result c.lock.ensures.events c.lock.ensures.journal

pub invariant_of-self : goal.invariant_of-self
invariant_of-self g c = record { is = still_caller _ _ _ c.lock.ensures.note c.args.self.now.is; locks = c.lock.ensures.pass.0; waits = c.args.self.now.waits }
