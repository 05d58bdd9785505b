use Rattle.pool_core.specs.PartMachine.{part_next, part_start}
use Rattle.starts_core.specs.StartsMachine.{begun, next}
use Rattle.run_record.specs.declared.entered.ObjectEvent.TheVariants as event
use Rattle.run_record.specs.declared.entered.ObjectReply.TheVariants as reply
use Rattle.object_checks.proofs.Halves.{halves}
use Rattle.object_checks.proofs.Lifting.{is_two, stops_keep}
use Rattle.object_checks.proofs.journals.laws.the_law_of_a_journal_is_two.Goals as goal

pub returns : goal.returns
returns c = record {
  declared = halves;
  part = λ room journal. is_two event.Pool reply.Pool part_next (part_start room) journal;
  starts = λ dormant journal. is_two event.Starts reply.Starts next (begun dormant) journal;
  stop = stops_keep;
}
