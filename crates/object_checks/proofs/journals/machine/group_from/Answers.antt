use Rattle.object_checks.proofs.GroupStart.{begins}
use Rattle.std.proofs.Common.{arith, ◌<◌, w32}
use Rattle.std.proofs.lemmas.Int.{to_z_pos}
use Rattle.wait_cores.specs.GroupMachine.{callers_of}
use Rattle.object_checks.proofs.journals.machine.group_from.Goals as goal

pub returns : goal.returns
returns c =
    let below : 0 < callers_of c.in_ok-core.core = omega (arith, c.in_ok-core.ensures.callers, c.requires.workers.0) in
    begins c.args.workers c.args.start c.in_ok-core.core c.add-added.new.self _ _ c.requires.start c.requires.workers.0 c.in_ok-core.ensures.start (to_z_pos w32 c.args.start (omega (arith, c.requires.start))) (c.add-added.ensures.step 0 below)
