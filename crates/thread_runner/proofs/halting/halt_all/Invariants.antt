use Rattle.std.proofs.Common.{◌≡◌, take, Ok}
use Rattle.sync_model.specs.declared.answer.Answer.TheVariants.{Done}
use Rattle.run_record.specs.Halts.{halted_with_stop}
use Rattle.run_record.specs.Objects.{first_part}
use Rattle.ruled_object.specs.Growth.{KeepsNote}
use Rattle.thread_objects.specs.Working.{Works, desk_with}
use Rattle.thread_objects.specs.Desks.{AreSeats}
use Rattle.thread_objects.specs.Passes.{owns_of}
use Rattle.thread_runner.specs.Halting.{halting}
use Rattle.thread_runner.proofs.halting.halt_all.Given as goal

abbrev pub invariant-loop-place : goal.invariant-loop-place
invariant-loop-place g l = record {
  seats : AreSeats g.N.Note.at l.worker.at.home.now l.worker.workers l.worker.number l.objects l.passes;
  next : l.first ≡ first_part l.workload l.place;
  note : KeepsNote g.N.Note.at g.N.Note.own g.N.Note.front l.fn.note l.note;
  halted : Works (halting l.misuse (halted_with_stop l.workload (take l.place l.workload.objects))) (desk_with g.N.Note.own g.N.Note.front (owns_of l.fn.passes) l.fn.note) (Done (Ok tt)) (desk_with g.N.Note.own g.N.Note.front (owns_of l.passes) l.note);
}
