use Rattle.std.proofs.Common.{◌≡◌, ℕ, ◌<◌, ◌≤◌, length, slice_get}
use Rattle.thread_objects.proofs.Telling.{ToldTo}
use Rattle.thread_objects.proofs.gathering.journals.Given as goal

abbrev pub invariant-loop-number : goal.invariant-loop-number
invariant-loop-number g l = record {
  told : ToldTo l.objects l.fn.columns l.stopped l.number;
  some : 0 < l.number;
  sized : length l.columns ≡ length l.fn.columns;
  rest : (n : ℕ) → l.number ≤ n → slice_get l.columns n ≡ slice_get l.fn.columns n;
}
