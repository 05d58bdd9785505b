use Rattle.std.proofs.Common.{ℕ, ◌<◌, ◌≤◌, ◌≡◌, length, get_or, max}
use Rattle.sync_model.proofs.front_note.raise.Given as goal

abbrev pub invariant-loop-caller : goal.invariant-loop-caller
invariant-loop-caller l = record {
  sized : length l.counts ≡ 64;
  kept : (k : ℕ) → l.caller ≤ k → get_or l.counts k 0 ≡ get_or l.initial.counts k 0;
  raised : (k : ℕ) → k < l.caller → get_or l.counts k 0 ≡ max (get_or l.initial.counts k 0) (get_or l.others k 0);
}
