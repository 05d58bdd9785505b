use Rattle.std.proofs.Common.{◌≡◌, Some}
use Rattle.script_calls.specs.Starts.{group_of}
use Rattle.list_checks.proofs.SpellObjects.{group_there}
use Rattle.list_checks.proofs.spell.starts.spell_done.Goals as goal

pub object_number-number-requires : goal.object_number-number-requires
object_number-number-requires c =
    let is : group_of c.args.worker c.args.workload.now.scripts ≡ Some c.in-Some.group = cc in
    group_there c.args.workload.now c.is_dormant.ensures.valid c.args.worker c.in-Some.group is
