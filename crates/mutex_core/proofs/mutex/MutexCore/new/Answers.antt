use Rattle.std.proofs.Common.{rules}
use Rattle.mutex_core.proofs.Validity.{start-valid}
use Rattle.mutex_core.proofs.mutex.MutexCore.new.Goals as goal

pub invariant_of-result : goal.invariant_of-result
invariant_of-result c = record {
  valid = rw c.in_ok-with_capacity.ensures.items (start-valid c.args.callers);
  room = search rules;
}
