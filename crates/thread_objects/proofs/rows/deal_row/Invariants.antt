use Rattle.std.proofs.Common.{◌≡◌, ◌≤◌, length}
use Rattle.std.specs.Prelude.{vec_capacity}
use Rattle.thread_objects.proofs.RowSteps.{WentTo, AreSo}
use Rattle.thread_objects.proofs.rows.deal_row.Given as goal

abbrev pub invariant-loop-number : goal.invariant-loop-number
invariant-loop-number g l = record {
  went : WentTo g.N.Note.at l.crew.home.now l.crew.workers l.objects l.fn.columns l.worker l.fn.columns l.columns l.columns l.row.items l.number;
  row : length l.row.items ≡ l.number;
  room : length l.objects ≤ vec_capacity l.row;
  seats : AreSo g.N.Note.at l.crew.home.now l.crew.workers l.worker l.objects l.row.items;
}
