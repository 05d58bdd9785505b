use Rattle.std.specs.Prelude.{negsuc}
use Rattle.wait_cores.specs.GroupMachine.{next}
use Rattle.go_waits.specs.GroupCalls.{Adds}
use Rattle.go_waits.specs.Groups.{start_of}
use Rattle.synced_map.proofs.Keeping.{still_caller}
use Rattle.synced_map.proofs.GroupTelling.{done_tells}
use Rattle.synced_map.proofs.Renewed.{grew_with}
use Rattle.synced_map.proofs.map.SyncedMapCaller.done.Goals as goal

pub returns-clause-tells : goal.returns-clause-tells
returns-clause-tells g c =
    let start = start_of c.args.self.now.map.now.group in
    let did = grew_with next start (Adds (negsuc 0)) c.args.self.now.group_pass c.ready.new.pass c.done.new.pass _ _ c.done.result c.ready.ensures.same c.done.ensures.events in
    done_tells start c.args.self.now.group_pass c.done.new.pass _ _ c.done.result did

pub invariant_of-self : goal.invariant_of-self
invariant_of-self g c = record { is = still_caller _ _ _ c.done.ensures.note c.args.self.now.is; locks = c.args.self.now.locks; waits = c.done.ensures.pass.0 }
