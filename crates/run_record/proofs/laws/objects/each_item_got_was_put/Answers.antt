use Rattle.std.proofs.Common.{refl}
use Rattle.sync_model.specs.Journal.{log_of}
use Rattle.pool_core.specs.PartMachine.{part_start}
use Rattle.workload.specs.Puts.{puts_at}
use Rattle.run_record.proofs.laws.objects.each_item_got_was_put.Goals as goal

pub returns : goal.returns
returns c plan r place part object lawful some is below =
    let j = lawful.parts place part object some is below in
    let follows = (c.journal_is_log.ensures (part_start (puts_at place plan.scripts)) j.0 j.2).0 in
    let come = c.a_part_gives_each_once.ensures (puts_at place plan.scripts) (log_of j.0) follows in
    (log_of j.0, (j.0, j.1, refl), come.0, come.1)
