use Rattle.go_locks.specs.Mutexes.{mutex_start}
use Rattle.synced_map.proofs.Keeping.{still_caller}
use Rattle.synced_map.proofs.LockTelling.{try_knows}
use Rattle.synced_map.proofs.map.SyncedMapCaller.try_lock.Goals as goal

pub returns-clause-told : goal.returns-clause-told
returns-clause-told g c = try_knows (mutex_start c.args.self.now.map.now.mutex) (g.C.Clock.shows c.args.self.now.clock.now) c.ready.new.pass c.try_lock.new.pass _ _ c.try_lock.result c.try_lock.ensures.events c.try_lock.ensures.journal

pub invariant_of-self : goal.invariant_of-self
invariant_of-self g c = record { is = still_caller _ _ _ c.try_lock.ensures.note c.args.self.now.is; locks = c.try_lock.ensures.pass.0; waits = c.args.self.now.waits }
