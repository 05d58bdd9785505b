-- The worker is between two calls; what is left to wait works the whole.
use Rattle.sync_model.specs.Shared.{IsCallerAt}
use Rattle.run_record.specs.Objects.{atomic_number}
use Rattle.run_record.specs.Record.{object_number}
use Rattle.thread_objects.specs.Calling.{HasCalled}
use Rattle.thread_objects.specs.Working.{desk_with}
use Rattle.thread_objects.specs.Desks.{AreSeats}
use Rattle.thread_objects.specs.Passes.{owns_of}
use Rattle.thread_runner.proofs.Tries.{WaitsOn}
use Rattle.thread_runner.proofs.composed.waiting.wait_until.Given as goal

abbrev pub invariant-loop-made : goal.invariant-loop-made
invariant-loop-made g l = record {
  seats : AreSeats g.S.Mark.Note.at l.worker.at.home.now l.worker.workers l.worker.number l.objects l.passes;
  caller : IsCallerAt g.S.Mark.Note.at g.S.Mark.Note.own (g.S.Shared.home_of l.catalog.shared.now) l.caller;
  called : HasCalled g.S.Mark.Note.at g.S.Mark.Note.own l.catalog.workload.now 0 l.fn.caller.note l.caller.note;
  all : WaitsOn (object_number l.place) (object_number l.mutex) (atomic_number l.catalog.workload.now.objects l.atomic) l.value l.tries (desk_with g.S.Mark.Note.own g.S.Mark.Note.front (owns_of l.fn.passes) l.fn.caller.note) l._made (desk_with g.S.Mark.Note.own g.S.Mark.Note.front (owns_of l.passes) l.caller.note);
}
