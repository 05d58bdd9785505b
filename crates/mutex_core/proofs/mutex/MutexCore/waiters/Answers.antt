use Rattle.std.proofs.Common.{rules, ap, arith}
use Rattle.mutex_core.proofs.Room.{length-queue}
use Rattle.mutex_core.proofs.mutex.MutexCore.waiters.Goals as goal

pub returns : goal.returns
returns c =
    let few = length-queue _ c.self.invariant.valid in
    let range = c.callers-most.type_inv in
    let callers = c.callers-most.ensures in
    let same = ap (λ s. s.callers) c.self.view_is in
    (search rules, omega (arith, few, range, callers, same, c.len.ensures))
