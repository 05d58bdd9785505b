use Rattle.std.proofs.Common.{Ok}
use Rattle.std.specs.List.{range_with_len}
use Rattle.sync_model.specs.declared.answer.Answer.TheVariants.{Done}
use Rattle.ruled_object.specs.Growth.{KeepsNote}
use Rattle.thread_objects.specs.Working.{Works, desk_with}
use Rattle.thread_objects.specs.Desks.{AreSeats}
use Rattle.thread_objects.specs.Passes.{owns_of}
use Rattle.thread_runner.specs.Halting.{halting}
use Rattle.thread_runner.proofs.halting.halt_parts.Given as goal

abbrev pub invariant-loop-part : goal.invariant-loop-part
invariant-loop-part g l = record {
  seats : AreSeats g.N.Note.at l.worker.at.home.now l.worker.workers l.worker.number l.objects l.passes;
  note : KeepsNote g.N.Note.at g.N.Note.own g.N.Note.front l.fn.note l.note;
  halted : Works (halting l.misuse (range_with_len l.first l.part)) (desk_with g.N.Note.own g.N.Note.front (owns_of l.fn.passes) l.fn.note) (Done (Ok tt)) (desk_with g.N.Note.own g.N.Note.front (owns_of l.passes) l.note);
}
