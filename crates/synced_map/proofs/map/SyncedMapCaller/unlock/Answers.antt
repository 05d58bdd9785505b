use Rattle.mutex_core.specs.MutexMachine.{next}
use Rattle.go_locks.specs.MutexCalls.{AreClocked, Unlocks}
use Rattle.go_locks.specs.Mutexes.{mutex_start}
use Rattle.synced_map.proofs.Keeping.{still_caller}
use Rattle.synced_map.proofs.LockTelling.{unlock_tells}
use Rattle.synced_map.proofs.Renewed.{did_with}
use Rattle.synced_map.proofs.map.SyncedMapCaller.unlock.Goals as goal

pub returns-clause-tells : goal.returns-clause-tells
returns-clause-tells g c =
    let start = mutex_start c.args.self.now.map.now.mutex in
    let shows = g.C.Clock.shows c.args.self.now.clock.now in
    let did = did_with next start Unlocks (AreClocked shows) c.args.self.now.lock_pass c.ready.new.pass c.unlock.new.pass _ _ c.unlock.result c.ready.ensures.same c.unlock.ensures.events in
    unlock_tells start shows c.args.self.now.lock_pass c.unlock.new.pass _ _ c.unlock.result did

pub invariant_of-self : goal.invariant_of-self
invariant_of-self g c = record { is = still_caller _ _ _ c.unlock.ensures.note c.args.self.now.is; locks = c.unlock.ensures.pass.0; waits = c.args.self.now.waits }
