-- The rows of the first workers are back.
use Rattle.std.proofs.Common.{◌≡◌, ℕ, ◌<◌, ◌≤◌, [], length, map, get_or}
use Rattle.thread_objects.specs.Passes.{owns_of}
use Rattle.thread_objects.specs.Rows.{AreColumns, made_on}
use Rattle.thread_runner.proofs.deal.collect.Given as goal

abbrev pub invariant-loop-row : goal.invariant-loop-row
invariant-loop-row g l = record {
  worker : l.worker ≡ length l.yielded;
  columns : AreColumns g.N.Note.at l.fn.crew.home.now l.fn.crew.workers l.worker l.fn.objects l.columns;
  made : (object worker : ℕ) → worker < length l.yielded → made_on l.columns object worker ≡ owns_of (get_or (map (λ row. row.items) l.yielded) worker []) object;
  others : (object worker : ℕ) → length l.yielded ≤ worker → made_on l.columns object worker ≡ made_on l.fn.columns object worker;
}
