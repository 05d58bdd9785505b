-- Stop and the first objects are made.
use Rattle.std.proofs.Common.{◌≡◌, ◌+◌, ◌≤◌, length}
use Rattle.std.specs.Prelude.{vec_capacity}
use Rattle.sync_model.specs.Note.{SameHome}
use Rattle.thread_runner.specs.Dealing.{AreMade}
use Rattle.thread_runner.proofs.deal.make_objects.Given as goal

abbrev pub invariant-loop-place : goal.invariant-loop-place
invariant-loop-place g l = record {
  home : SameHome g.N.Note.at l.fn.note l.note;
  own : g.N.Note.own l.note ≡ g.N.Note.own l.fn.note;
  front : g.N.Note.front l.note ≡ g.N.Note.front l.fn.note;
  made : AreMade g.N.Note.at l.fn.crew.home.now l.fn.crew.workers l.fn.workload (l.place + 1) l.objects.items l.columns.items;
  objects_room : length l.fn.workload.objects + 1 ≤ vec_capacity l.objects;
  columns_room : length l.fn.workload.objects + 1 ≤ vec_capacity l.columns;
}
