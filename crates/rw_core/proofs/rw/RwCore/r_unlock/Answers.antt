use Rattle.std.proofs.Common.{arith}
use Rattle.std.proofs.lemmas.Grind.{common_steps}
use Rattle.rw_core.specs.declared.event.RwEvent.TheVariants as event
use Rattle.rw_core.specs.declared.reply.RwReply.TheVariants.{Unlocked}
use Rattle.rw_core.specs.declared.reply.Unlocking.TheVariants.{Done}
use Rattle.rw_core.proofs.Validity.{valid-by}
use Rattle.rw_core.proofs.Room.{granted_room}
use Rattle.rw_core.proofs.rw.RwCore.r_unlock.Goals as goal

pub push_reserved-requires : goal.push_reserved-requires
push_reserved-requires c = omega (arith, granted_room _ _ c.in-Waiting.is c.self.invariant.valid, c.self.invariant.granted_room)

pub invariant_of-self-in-Waiting : goal.invariant_of-self-in-Waiting
invariant_of-self-in-Waiting c = record {
  valid = valid-by _ _ c.args.caller event.ReadUnlock (Unlocked Done) tt c.self.invariant.valid (grind (arith, common_steps));
  queue_room = c.self.invariant.queue_room;
  admitted_room = c.self.invariant.admitted_room;
  granted_room = rw c.push_reserved.ensures.capacity c.self.invariant.granted_room;
}
