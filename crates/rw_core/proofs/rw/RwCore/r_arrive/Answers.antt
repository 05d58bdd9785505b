use Rattle.std.proofs.Common.{arith}
use Rattle.std.proofs.lemmas.Grind.{common_steps}
use Rattle.rw_core.specs.declared.event.RwEvent.TheVariants as event
use Rattle.rw_core.specs.declared.reply.RwReply.TheVariants.{Arrived}
use Rattle.rw_core.specs.declared.reply.Arrival.TheVariants.{Queued}
use Rattle.rw_core.proofs.Validity.{valid-by}
use Rattle.rw_core.proofs.Room.{queue_room}
use Rattle.rw_core.proofs.rw.RwCore.r_arrive.Goals as goal

pub push_reserved-requires : goal.push_reserved-requires
push_reserved-requires c =
    let below = rw (← c.self.view_is) at c.requires.is_caller in
    let out = rw (← c.self.view_is) at c.requires.is_out in
    omega (arith, queue_room _ c.args.caller below out c.self.invariant.valid, c.self.invariant.queue_room)

pub invariant_of-self-2 : goal.invariant_of-self-2
invariant_of-self-2 c = record {
  valid = valid-by _ _ c.args.caller event.ReadArrive (Arrived Queued) tt c.self.invariant.valid (grind (arith, common_steps));
  queue_room = rw c.push_reserved.ensures.capacity c.self.invariant.queue_room;
  admitted_room = c.self.invariant.admitted_room;
  granted_room = c.self.invariant.granted_room;
}
