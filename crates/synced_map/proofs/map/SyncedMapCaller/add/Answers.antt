use Rattle.synced_map.proofs.Keeping.{still_caller}
use Rattle.synced_map.proofs.map.SyncedMapCaller.add.Goals as goal

pub invariant_of-self : goal.invariant_of-self
invariant_of-self g c = record { is = still_caller _ _ _ c.add.ensures.note c.args.self.now.is; locks = c.args.self.now.locks; waits = c.add.ensures.pass.0 }
