-- What the first workers left is taken in.
use Rattle.std.proofs.Common.{◌≡◌, ◌≤◌, length, map}
use Rattle.std.specs.Prelude.{vec_capacity}
use Rattle.thread_runner.proofs.gather.Left.gather.Given as goal

abbrev pub invariant-loop-worker : goal.invariant-loop-worker
invariant-loop-worker g l = record {
  callers : l.self.callers.items ≡ map (λ gone. gone.caller) l.yielded;
  passes : map (λ p. p.items) l.self.passes.items ≡ map (λ gone. gone.passes.items) l.yielded;
  replies : l.self.replies.items ≡ map (λ gone. gone.replies) l.yielded;
  callers_room : length l.fn.gone.items ≤ vec_capacity l.self.callers;
  passes_room : length l.fn.gone.items ≤ vec_capacity l.self.passes;
  replies_room : length l.fn.gone.items ≤ l.self.replies.room;
}
