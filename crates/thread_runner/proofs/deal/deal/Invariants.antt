-- The rows of the last workers are dealt.
use Rattle.std.proofs.Common.{◌≡◌, ℕ, ◌<◌, ◌≤◌, [], map}
use Rattle.std.specs.Prelude.{vec_capacity}
use Rattle.thread_objects.specs.Rows.{AreColumns, made_on}
use Rattle.thread_runner.proofs.Dealt.{AreLast}
use Rattle.thread_runner.proofs.deal.deal.Given as goal

abbrev pub invariant-loop-worker : goal.invariant-loop-worker
invariant-loop-worker g l = record {
  within : l.worker ≤ l.fn.crew.workers;
  columns : AreColumns g.N.Note.at l.fn.crew.home.now l.fn.crew.workers l.worker l.fn.objects l.columns;
  rows : AreLast g.N.Note.at l.fn.crew.home.now l.fn.crew.workers l.fn.objects l.worker (map (λ row. row.items) l.rows.items);
  nothing : (object worker : ℕ) → (worker < l.worker → made_on l.columns object worker ≡ []) × (l.fn.crew.workers ≤ worker → made_on l.columns object worker ≡ []);
  room : l.fn.crew.workers ≤ vec_capacity l.rows;
}

abbrev pub decreases-loop-worker : goal.decreases-loop-worker
decreases-loop-worker g l = l.worker
