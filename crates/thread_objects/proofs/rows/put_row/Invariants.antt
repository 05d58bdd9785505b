use Rattle.std.proofs.Common.{◌≡◌, ℕ, ◌+◌, ◌≤◌, length, slice_get}
use Rattle.thread_objects.proofs.RowSteps.{WentTo}
use Rattle.thread_objects.proofs.rows.put_row.Given as goal

abbrev pub invariant-loop-number : goal.invariant-loop-number
invariant-loop-number g l = record {
  went : WentTo g.N.Note.at l.crew.home.now l.crew.workers l.objects l.fn.columns (l.worker + 1) l.columns l.fn.columns l.columns l.fn.row l.number;
  sized : length l.row ≡ length l.fn.row;
  same : (n : ℕ) → l.number ≤ n → slice_get l.row n ≡ slice_get l.fn.row n;
}
