use Rattle.std.proofs.Common.{◌≡◌, ℕ, ◌<◌, ◌≤◌, get_or}
use Rattle.sync_model.proofs.front_note.chunks_of.Given as goal

abbrev pub invariant-loop-caller : goal.invariant-loop-caller
invariant-loop-caller l = record {
  used : l.used ≤ l.caller;
  rest : (k : ℕ) → l.used ≤ k → k < l.caller → get_or l.counts k 0 ≡ 0;
}
