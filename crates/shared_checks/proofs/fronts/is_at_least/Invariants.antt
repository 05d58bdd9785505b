use Rattle.std.proofs.Common.{◌↔◌}
use Rattle.sync_model.specs.Front.{AtLeast}
use Rattle.shared_checks.proofs.fronts.is_at_least.Given as goal

-- what is left of both decides
abbrev pub invariant-loop-count : goal.invariant-loop-count
invariant-loop-count l = record {
  can : (goal.iterator-loop-count).can_next l.count-iterator;
  ends : (goal.iterator-loop-count).is_finite l.count-iterator;
  left : AtLeast l.counts l.count-iterator ↔ AtLeast l.front l.other;
}
