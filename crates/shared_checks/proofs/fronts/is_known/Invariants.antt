use Rattle.std.proofs.Common.{◌↔◌, ℕ, ◌+◌, ◌^◌, ◌<◌, slice_index}
use Rattle.shared_checks.specs.Calls.{calls_in}
use Rattle.shared_checks.specs.Fronts.{KnowsLast, KnowsEach}
use Rattle.shared_checks.proofs.fronts.is_known.Given as goal

-- the counts that are left decide
abbrev pub invariant-loop-caller : goal.invariant-loop-caller
invariant-loop-caller l = record {
  can : (goal.iterator-loop-caller).can_next l.count-iterator;
  ends : (goal.iterator-loop-caller).is_finite l.count-iterator;
  small : l.caller + (goal.iterator-loop-caller).remaining l.count-iterator < 2 ^ 64;
  left : ((c : ℕ) → KnowsLast (calls_in l.lists (l.caller + c)) (slice_index l.count-iterator c) l.place) ↔ KnowsEach l.lists l.front l.place;
}
