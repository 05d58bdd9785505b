use Rattle.std.proofs.Common.{arith}
use Rattle.rw_core.specs.RwMachine.{without}
use Rattle.rw_core.proofs.Callers.{times_in-without}
use Rattle.rw_core.proofs.Validity.{fewer-valid}
use Rattle.rw_core.proofs.rw.RwCore.leave.Goals as goal

pub invariant_of-self : goal.invariant_of-self
invariant_of-self c = record {
  valid =
      let admitted = c.self.inside.admitted.items in
      rw c.remove.ensures.items (fewer-valid _ (without c.args.caller admitted) _ (λ x. omega (arith, times_in-without x c.args.caller admitted)) c.self.invariant.valid);
  queue_room = c.self.invariant.queue_room;
  admitted_room = rw c.remove.ensures.capacity c.self.invariant.admitted_room;
  granted_room = c.self.invariant.granted_room;
}

pub invariant_of-self-else-is_among : goal.invariant_of-self-else-is_among
invariant_of-self-else-is_among c = record {
  valid =
      let granted = c.self.inside.granted.items in
      rw c.remove-else-is_among.ensures.items (fewer-valid _ _ (without c.args.caller granted) (λ x. omega (arith, times_in-without x c.args.caller granted)) c.self.invariant.valid);
  queue_room = c.self.invariant.queue_room;
  admitted_room = c.self.invariant.admitted_room;
  granted_room = rw c.remove-else-is_among.ensures.capacity c.self.invariant.granted_room;
}
