use Rattle.ruled_object.specs.Growth.{KeepsNote}
use Rattle.thread_objects.specs.Desks.{AreSeats}
use Rattle.thread_objects.specs.Passes.{owns_of}
use Rattle.thread_objects.specs.Working.{desk_with}
use Rattle.thread_runner.proofs.PoolLooks.{AnswersAll}
use Rattle.thread_runner.proofs.pool.get.Given as goal

abbrev pub invariant-loop-nth : goal.invariant-loop-nth
invariant-loop-nth g l = record {
  seats : AreSeats g.N.Note.at l.worker.at.home.now l.worker.workers l.worker.number l.objects l.passes;
  note : KeepsNote g.N.Note.at g.N.Note.own g.N.Note.front l.fn.note l.note;
  all : AnswersAll l.worker.workers l.worker.number l.first l.nth (desk_with g.N.Note.own g.N.Note.front (owns_of l.fn.passes) l.fn.note) (desk_with g.N.Note.own g.N.Note.front (owns_of l.passes) l.note);
}
