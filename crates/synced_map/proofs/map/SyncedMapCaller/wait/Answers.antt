use Rattle.go_waits.specs.Groups.{start_of}
use Rattle.synced_map.proofs.Keeping.{still_caller}
use Rattle.synced_map.proofs.GroupTelling.{wait_knows}
use Rattle.synced_map.proofs.map.SyncedMapCaller.wait.Goals as goal

pub returns-clause-told : goal.returns-clause-told
returns-clause-told g c = wait_knows (start_of c.args.self.now.map.now.group) c.ready.new.pass c.wait.new.pass _ _ c.wait.result c.wait.ensures.events c.wait.ensures.journal

pub invariant_of-self : goal.invariant_of-self
invariant_of-self g c = record { is = still_caller _ _ _ c.wait.ensures.note c.args.self.now.is; locks = c.args.self.now.locks; waits = c.wait.ensures.pass.0 }
